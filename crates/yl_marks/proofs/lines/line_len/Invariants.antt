use Rattle.std.proofs.Common.{◌≡◌, ◌+◌, drop}
use Rattle.yl_marks.proofs.Runs.{run_len}
use Rattle.yl_marks.proofs.lines.line_len.Given as goal

abbrev pub invariant-loop-len : goal.invariant-loop-len
invariant-loop-len l = l.len + run_len l.line (drop l.len l.tokens) ≡ run_len l.line l.tokens
