-- Meaning: yamllint's rule line-length, with its option allow-non-breakable-words, over the
-- characters of a line.
use Rattle.std.specs.Prelude.{ℕ, Bool, not, ◌&&◌, ◌||◌, ◌==◌, nat_le, if◌then◌else◌, List, [], ◌++◌, ◌+◌, length, drop, codes, slice_index, decimal}
use Rattle.std.specs.List.{prefix_len, list_any}
use Prim.Native.Char.{code}
use Rattle.yl_text.specs.Character.{indentation}
use Rattle.yl_text.specs.Finding.{FindingValue, one_finding}
use Rattle.yl_text.specs.declared.finding.RuleId.TheVariants.{LineLength}
use Rattle.yl_rules.specs.declared.options.RowOptions.{RowOptions}

-- the number of `#` at the start
abbrev pub hash_count : List ℕ → ℕ
hash_count = prefix_len (λ c. c == code "#")

-- what follows the `#` characters of a comment and one more character, or the `-` of an entry and
-- one more character
abbrev pub past_mark : List ℕ → List ℕ
past_mark cs =
    if slice_index cs 0 == code "#" then drop 1 (drop (hash_count cs) cs)
    else if slice_index cs 0 == code "-" then drop 2 cs
    else cs

-- the characters are not empty, and have no space after the mark at which the line could be broken
abbrev pub is_one_word : List ℕ → Bool
is_one_word cs = not (length cs == 0) && not (list_any (λ c. c == code " ") (past_mark cs))

abbrev pub is_non_breakable : List ℕ → Bool
is_non_breakable cs = is_one_word (drop (indentation cs) cs)

-- the finding is after the last character that fits
abbrev pub line_length : RowOptions → ℕ → List ℕ → List FindingValue
line_length o line cs =
    if nat_le (length cs) o.max || (o.allow_non_breakable_words && is_non_breakable cs) then []
    else one_finding LineLength line (o.max + 1)
    (codes "line too long (" ++ (decimal (length cs) ++ (codes " > " ++ (decimal o.max ++ codes " characters)"))))
