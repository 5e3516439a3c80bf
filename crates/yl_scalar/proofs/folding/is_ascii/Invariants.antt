use Rattle.std.proofs.Common.{ℕ, ◌<◌, ◌≤◌, get_or}
use Rattle.std.specs.Str.{IsAscii}
use Rattle.yl_scalar.proofs.folding.is_ascii.Given as goal

abbrev pub invariant-loop-c : goal.invariant-loop-c
invariant-loop-c l = record {
  above : (k : ℕ) → k < l.c-index → get_or l.characters k 0 ≤ l.greatest;
  small : IsAscii l.characters → l.greatest < 128;
}
