use Rattle.std.proofs.Common.{◌≡◌, ◌≤◌, ◌+◌, false, length}
use denote.Text.{Utf8}
use denote.Shadow.{shadow}
use Rattle.yl_text.specs.Lines.{lines_of}
use Rattle.yl_text.specs.Store.{end_of_lines}
use Rattle.yl_config.specs.Config.{options_of}
use Rattle.yl_record.specs.Records.{characters_in}
use Rattle.yl_lint.specs.Left.{KeepsLeft, lines_left}
use Rattle.yl_lint.specs.TextReport.{findings_in_lines}
use Rattle.yl_lint.specs.Computed.{kept_of_text}
use Rattle.yl_lint.proofs.Passed.{end_left}
use Rattle.yl_lint.proofs.lint.report_of_text.Given as goal

abbrev pub invariant-loop-sections : goal.invariant-loop-sections
invariant-loop-sections g l = record {
  utf8 : shadow (Utf8 l.rest);
  found : lines_left l.lines (lines_of l.rest) ≡ findings_in_lines (options_of l.config) (lines_of l.text);
  kept : KeepsLeft l.config l.sections (characters_in (lines_of l.rest)) (kept_of_text l.config (lines_of l.text));
  end : end_left l.lines.runs.count l.lines.runs.last (lines_of l.rest) ≡ end_of_lines (lines_of l.text);
  whole : l.sections.recorder.refused ≡ false;
  fed : l.sections.recorder.taken + length l.sections.recorder.records ≡ l.lines.runs.count;
  counted : l.meter.lines ≡ l.lines.runs.count;
  within : l.lines.runs.count + length l.rest ≤ length l.text;
}

abbrev pub decreases-loop-sections : goal.decreases-loop-sections
decreases-loop-sections g l = length l.rest
