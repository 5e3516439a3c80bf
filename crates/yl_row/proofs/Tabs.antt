-- A row without tabs.
use Rattle.std.proofs.Common.{◌≡◌, ℕ, Bool, List, [], ◌∷◌, length, None, false, eqb, arith, refl}
use Rattle.std.proofs.lemmas.Grind.{common_steps}
use Rattle.std.specs.List.{list_any, position, position_or_len}

abbrev pub is_tab : ℕ → Bool
is_tab c = eqb c 9

to_the_end : (cs : List ℕ) → list_any is_tab cs ≡ false → position_or_len is_tab cs ≡ length cs
to_the_end [] h = refl
to_the_end (c ∷ cs) h = grind (arith, common_steps, to_the_end cs)

pub no_tab : (cs : List ℕ) → list_any is_tab cs ≡ false → position is_tab cs ≡ None
no_tab cs h = let e : position_or_len is_tab cs ≡ length cs = to_the_end cs h in grind (arith, common_steps, e)
