-- Texts that JSON writes as they are.
use Rattle.std.proofs.Common.{◌≡◌, ℕ, ◌<◌, ◌^◌, false, List, [], ◌∷◌, ◌++◌, codes, decimal, refl, ap, ◌∙◌, arith}
use Rattle.std.proofs.lemmas.Bool.Decides.{nat_tests}
use Rattle.std.proofs.lemmas.Fmt.{decimal_is_IsNumeral}
use Rattle.std.proofs.lemmas.List.Concat.{flat_map-append}
use Rattle.std.proofs.lemmas.Str.Parse.{digit_from_value}
use Rattle.std.specs.Char.{digit_value}
use Rattle.std.specs.Str.Parse.{AllDigits}
use Rattle.json.specs.Print.{escape, escape_byte}
use Rattle.yl_text.specs.declared.finding.RuleId.{RuleId}
use Rattle.yl_text.specs.declared.finding.RuleId.TheVariants.{Anchors, Braces, Brackets, Colons, Commas, Comments, DocumentStart, EmptyLines, Hyphens, Indentation, KeyDuplicates, KeyOrdering, LineLength, NewLineAtEndOfFile, NewLines, QuotedStrings, Syntax, TrailingSpaces, Truthy}
use Rattle.yl_text.specs.Finding.{rule_name}
use Rattle.yl_frames.specs.Escapes.{is_special}
use Rattle.yl_frames.proofs.Escaped.{escape_plain}
use Rattle.yl_lsp.specs.Diagnostics.{rule_link}
use Rattle.yl_lsp.specs.Messages.{placed_words}

pub name_plain : (rule : RuleId) → escape (rule_name rule) ≡ rule_name rule
unfolding escape_byte
name_plain Anchors = refl
name_plain Braces = refl
name_plain Brackets = refl
name_plain Colons = refl
name_plain Commas = refl
name_plain Comments = refl
name_plain DocumentStart = refl
name_plain EmptyLines = refl
name_plain Hyphens = refl
name_plain Indentation = refl
name_plain KeyDuplicates = refl
name_plain KeyOrdering = refl
name_plain LineLength = refl
name_plain NewLineAtEndOfFile = refl
name_plain NewLines = refl
name_plain QuotedStrings = refl
name_plain Syntax = refl
name_plain TrailingSpaces = refl
name_plain Truthy = refl

-- where yamllint's documentation describes a rule
pub link_plain : (rule : RuleId) → escape (rule_link rule) ≡ rule_link rule
unfolding escape_byte
link_plain rule = ap (λ l. codes "https://yamllint.readthedocs.io/en/stable/rules.html#" ++ l) (name_plain rule)

digit_plain : (c : ℕ) → digit_value c < 10 → is_special c ≡ false
digit_plain c h = let d = digit_from_value c h in grind (arith, nat_tests)

digits_plain : (ds : List ℕ) → AllDigits 10 ds → escape ds ≡ ds
digits_plain [] h = refl
digits_plain (c ∷ cs) h = ap (λ l. l ++ escape cs) (escape_plain c (digit_plain c h.0)) ∙ ap (λ l. c ∷ l) (digits_plain cs h.1)

-- one after another
plain_then : (xs ys : List ℕ) → escape xs ≡ xs → escape ys ≡ ys → escape (xs ++ ys) ≡ xs ++ ys
plain_then xs ys p q = flat_map-append escape_byte xs ys ∙ ap (λ l. l ++ escape ys) p ∙ ap (λ l. xs ++ l) q

number_plain : (n : ℕ) → n < 2 ^ 64 → escape (decimal n) ≡ decimal n
number_plain n h = digits_plain (decimal n) (decimal_is_IsNumeral n h).0.1

more_plain : escape (codes " more problems") ≡ codes " more problems"
unfolding escape_byte
more_plain = refl

-- how many problems are not shown
pub hidden_plain : (n : ℕ) → n < 2 ^ 64 → escape (decimal n ++ codes " more problems") ≡ decimal n ++ codes " more problems"
hidden_plain n h = plain_then (decimal n) (codes " more problems") (number_plain n h) more_plain

at_plain : escape (codes " at ") ≡ codes " at "
unfolding escape_byte
at_plain = refl

colon_plain : escape (codes ":") ≡ codes ":"
unfolding escape_byte
colon_plain = refl

-- what is told of a place of a text
pub placed_plain : (text : List ℕ) (line column : ℕ) → escape text ≡ text → line < 2 ^ 64 → column < 2 ^ 64 → escape (placed_words text line column) ≡ placed_words text line column
placed_plain text line column p h k =
    plain_then text _ p (plain_then (codes " at ") _ at_plain (plain_then (decimal line) _ (number_plain line h) (plain_then (codes ":") (decimal column) colon_plain (number_plain column k))))
