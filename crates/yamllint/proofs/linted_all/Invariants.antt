use Rattle.std.proofs.Common.{◌≡◌}
use Rattle.yl_text.specs.Watched.{failures_of}
use Rattle.yamllint.proofs.linted_all.Given as goal

abbrev pub invariant-loop-file : goal.invariant-loop-file
invariant-loop-file l = failures_of l.out ≡ 0
