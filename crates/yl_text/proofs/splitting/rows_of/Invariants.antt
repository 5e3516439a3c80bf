use Rattle.std.proofs.Common.{◌≡◌, length, ◌++◌}
use denote.Text.{Utf8}
use denote.Shadow.{shadow}
use Rattle.yl_text.specs.Lines.{lines_of}
use Rattle.yl_text.proofs.splitting.rows_of.Given as goal

abbrev pub invariant-loop-rows : goal.invariant-loop-rows
invariant-loop-rows g l = record {
  utf8 : shadow (Utf8 l.rest);
  same : l.rows.items ++ lines_of l.rest ≡ lines_of l.text;
}

abbrev pub decreases-loop-rows : goal.decreases-loop-rows
decreases-loop-rows g l = length l.rest
