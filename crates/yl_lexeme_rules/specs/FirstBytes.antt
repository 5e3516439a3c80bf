-- Bridge: the first bytes of the plain scalars that are not strings.
use Rattle.std.specs.Prelude.{ℕ, Bool, false, ◌||◌, ◌==◌, List, [], ◌∷◌, codes}
use Rattle.std.specs.List.{list_any}
use Rattle.yl_lexeme_rules.specs.Strings.{is_decimal}

-- the characters, other than digits, with which the words and numbers that are not strings begin
abbrev pub first_bytes : List ℕ
first_bytes = codes "~.+-nNtTfF"

abbrev pub begins_no_string : ℕ → Bool
begins_no_string c = list_any (λ b. c == b) first_bytes || is_decimal c

abbrev pub may_be_no_string : List ℕ → Bool
may_be_no_string [] = false
may_be_no_string (c ∷ cs) = begins_no_string c
