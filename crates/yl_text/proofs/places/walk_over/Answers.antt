use Rattle.std.proofs.Common.{◌≡◌, ◌≤◌, ◌⊎◌, inl, inr, ℕ, length, min, take, arith, rules}
use Rattle.std.proofs.lemmas.Bool.{cases_lt}
use Rattle.std.specs.Str.{IsAscii}
use Rattle.yl_text.proofs.Columns.{ascii_front}
use Rattle.yl_text.proofs.places.walk_over.Goals as goal

which : (n len front : ℕ) → front ≡ min n len → (front ≡ n) ⊎ ((len ≤ n) × (front ≡ len))
which n len front e = elim (cases_lt len n) [ inl m ↦ inr (omega arith, omega arith) | inr m ↦ inl (omega arith) ]

pub returns-then-are_ascii-clause-byte : goal.returns-then-are_ascii-clause-byte
returns-then-are_ascii-clause-byte c =
    let plain : IsAscii (take c.min-front.result c.args.text.now) = search rules in
    (ascii_front c.args.text.now c.args.characters c.min-front.result (which c.args.characters (length c.args.text.now) c.min-front.result c.min-front.ensures) (omega (arith, c.min-front.ensures)) plain).0

pub returns-then-are_ascii-clause-left : goal.returns-then-are_ascii-clause-left
returns-then-are_ascii-clause-left c =
    let plain : IsAscii (take c.min-front.result c.args.text.now) = search rules in
    (ascii_front c.args.text.now c.args.characters c.min-front.result (which c.args.characters (length c.args.text.now) c.min-front.result c.min-front.ensures) (omega (arith, c.min-front.ensures)) plain).1
