use Rattle.std.proofs.Common.{◌≡◌, ◌++◌, List, take}
use Rattle.yl_record.specs.Records.{RecordValue}
use Rattle.yl_sections.specs.Judging.{JudgesAll}
use Rattle.yl_lint.proofs.kept.judge_rows.Given as goal

abbrev pub invariant-loop-row : goal.invariant-loop-row
invariant-loop-row g l = record {
  judged : (rs : List RecordValue) → JudgesAll l.config rs l.fn.judge → JudgesAll l.config (rs ++ take l.row-index l.rows) l.judge;
  lines : l.meter.lines ≡ l.fn.meter.lines;
}
