use Rattle.std.proofs.Common.{take}
use Rattle.yl_sections.specs.Judging.{JudgesAll}
use Rattle.yl_session.proofs.reading.kept_of_records.Given as goal

abbrev pub invariant-loop-i : goal.invariant-loop-i
invariant-loop-i g l = JudgesAll l.config (take l.i l.records.items) l.judge
