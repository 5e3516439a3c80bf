-- Text that stands for itself between quotes.
use Rattle.std.proofs.Common.{◌≡◌, ℕ, ◌<◌, true, List, [], ◌∷◌, ap, ◌∙◌, refl, arith}
use Rattle.std.proofs.lemmas.Grind.{common_steps}
use Rattle.std.proofs.lemmas.Bool.{cond-true}
use Rattle.std.specs.List.{flat_map, list_all}
use Rattle.std.specs.Str.{IsAscii}
use Rattle.std.proofs.lemmas.Str.{chars-IsAscii}
use Rattle.std.proofs.lemmas.Str.Ascii.{IsAscii-nil, IsAscii-cons}
use Rattle.yl_dump.specs.Quoting.{stands_for_itself, escaped_character, escaped_text}

plain_below : (c : ℕ) → stands_for_itself c ≡ true → c < 128
plain_below c h = grind (arith, common_steps)

head_plain : (b : ℕ) (bs : List ℕ) → list_all stands_for_itself (b ∷ bs) ≡ true → stands_for_itself b ≡ true
head_plain b bs h = grind (arith, common_steps)

tail_plain : (b : ℕ) (bs : List ℕ) → list_all stands_for_itself (b ∷ bs) ≡ true → list_all stands_for_itself bs ≡ true
tail_plain b bs h = grind (arith, common_steps)

plain_ascii : (bs : List ℕ) → list_all stands_for_itself bs ≡ true → IsAscii bs
plain_ascii [] h = IsAscii-nil
plain_ascii (b ∷ bs) h = IsAscii-cons b bs (plain_below b (head_plain b bs h)) (plain_ascii bs (tail_plain b bs h))

-- a plain character is printed as it is
plain_one : (c : ℕ) → stands_for_itself c ≡ true → escaped_character c ≡ c ∷ []
plain_one c h = cond-true _ _ _ h

plain_each : (bs : List ℕ) → list_all stands_for_itself bs ≡ true → flat_map escaped_character bs ≡ bs
plain_each [] h = refl
plain_each (b ∷ bs) h = rw (plain_one b (head_plain b bs h), plain_each bs (tail_plain b bs h))

-- a text whose bytes are all plain
pub plain_text : (bs : List ℕ) → list_all stands_for_itself bs ≡ true → escaped_text bs ≡ bs
plain_text bs h = ap (λ (cs : List ℕ). flat_map escaped_character cs) (chars-IsAscii bs (plain_ascii bs h)) ∙ plain_each bs h
