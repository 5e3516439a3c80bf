use Rattle.std.proofs.Common.{◌≡◌, ℕ, List, ◌++◌, take, drop, length}
use Rattle.yl_scalar.specs.Quoted.{stretch}
use Rattle.yl_scalar.proofs.quoted.simple_part.Given as goal

-- what was read stands for itself, and with what is left makes the whole, wherever the white space at its end begins
abbrev pub invariant-loop-i : goal.invariant-loop-i
invariant-loop-i l =
    (value : List ℕ) → (kept : ℕ) × (stretch l.double 0 value (length value) 0 l.text ≡ stretch l.double 0 (value ++ take l.i l.text) kept l.i (drop l.i l.text))
