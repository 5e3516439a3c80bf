use Rattle.std.proofs.Common.{◌≡◌, arith, drop, length}
use Rattle.yl_marks.proofs.Runs.{run_len, run_ends, run_whole, first_run}
use Rattle.yl_marks.proofs.lines.line_len.Goals as goal

pub returns-then-token-line-clause-line : goal.returns-then-token-line-clause-line
returns-then-token-line-clause-line c =
    let ts = c.args.tokens.now in
    let line = c.in-Some.first.now.start.line in
    let ends : run_len line (drop c.loop-len.len ts) ≡ 0 = run_ends line c.loop-len.len ts _ c.loop-len-test.true c.if-token-line.true in
    let len : c.loop-len.len ≡ run_len line ts = omega (arith, ends, c.loop-len.invariant) in
    λ _. first_run ts c.in-Some.first.now c.loop-len.len c.in-Some.ensures.value len

pub returns-clause-line : goal.returns-clause-line
returns-clause-line c =
    let ts = c.args.tokens.now in
    let line = c.in-Some.first.now.start.line in
    let ends : run_len line (drop c.loop-len.len ts) ≡ 0 = run_whole line c.loop-len.len ts c.loop-len-test.false in
    let len : length ts ≡ run_len line ts = omega (arith, ends, c.loop-len.invariant, c.loop-len.auto.len-end, c.loop-len-test.false) in
    λ _. first_run ts c.in-Some.first.now (length ts) c.in-Some.ensures.value len
