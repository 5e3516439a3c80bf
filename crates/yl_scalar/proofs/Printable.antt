-- Printable ASCII is allowed, and so are the characters that most texts have.
use Rattle.std.proofs.Common.{◌≡◌, ℕ, List, [], ◌∷◌, None, true, arith, refl}
use Rattle.std.proofs.lemmas.Grind.{common_steps}
use Rattle.std.proofs.lemmas.Bool.Decides.{nat_tests}
use Rattle.std.specs.List.{list_all}
use Rattle.yl_text.specs.Special.{is_printable_ascii}
use Rattle.yl_scalar.specs.Allowed.{is_allowed, is_common, first_bad}

printable_allowed : (c : ℕ) → is_printable_ascii c ≡ true → is_allowed c ≡ true
printable_allowed c h = grind (arith, nat_tests)

pub printable_none_bad : (cs : List ℕ) → list_all is_printable_ascii cs ≡ true → first_bad cs ≡ None
printable_none_bad [] h = refl
printable_none_bad (c ∷ cs) h = grind (arith, common_steps, printable_allowed, printable_none_bad cs)

common_allowed : (c : ℕ) → is_common c ≡ true → is_allowed c ≡ true
common_allowed c h = grind (arith, nat_tests)

pub common_none_bad : (cs : List ℕ) → list_all is_common cs ≡ true → first_bad cs ≡ None
common_none_bad [] h = refl
common_none_bad (c ∷ cs) h = grind (arith, common_steps, common_allowed, common_none_bad cs)
