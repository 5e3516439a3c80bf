use Rattle.std.proofs.Common.{◌≡◌, length}
use denote.Text.{Utf8}
use denote.Shadow.{shadow}
use Rattle.yl_text.specs.Lines.{lines_of}
use Rattle.yl_project.specs.Texts.{with_lines}
use Rattle.yl_project.proofs.texts.add_lines.Given as goal

abbrev pub invariant-loop-rest : goal.invariant-loop-rest
invariant-loop-rest g l = record {
  utf8 : shadow (Utf8 l.rest);
  same : with_lines l.patterns (lines_of l.rest) ≡ with_lines l.fn.patterns (lines_of l.text);
}

abbrev pub decreases-loop-rest : goal.decreases-loop-rest
decreases-loop-rest g l = length l.rest
