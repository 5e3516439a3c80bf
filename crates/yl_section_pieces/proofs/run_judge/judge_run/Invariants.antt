use Rattle.std.proofs.Common.{take}
use Rattle.yl_sections.proofs.Rows.{seen}
use Rattle.yl_section_pieces.specs.RunJudging.{JudgesRun}
use Rattle.yl_section_pieces.proofs.run_judge.judge_run.Given as goal

abbrev pub invariant-loop-row : goal.invariant-loop-row
invariant-loop-row g l = JudgesRun l.config l.options l.before l.openings (seen (take l.row-index l.rows)) l.judge
