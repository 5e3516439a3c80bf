-- Meaning: comments that silence rules: yamllint's documentation, "Disable with comments".
use Rattle.std.specs.Prelude.{ℕ, Bool, true, false, ◌&&◌, ◌||◌, ◌==◌, nat_lt, nat_le, if◌then◌else◌, List, [], ◌∷◌, ◌+◌, length, drop, codes, None, is_some, bytes_eq}
use Rattle.std.specs.List.{list_any, list_all, filter, starts_with, last_or, slice_split}
use Rattle.std.specs.Option.{option_map_or}
use Prim.Native.Char.{code}
use Rattle.yl_text.specs.Character.{is_non_space, without_end}
use Rattle.yl_text.specs.declared.finding.RuleId.{RuleId}
use Rattle.yl_text.specs.Finding.{rule_name}
use Rattle.yl_lexeme.specs.Lexeme.{PlacedCommentValue}

-- `rule:` and a name
abbrev pub is_rule_word : List ℕ → Bool
is_rule_word w = starts_with (λ a b. a == b) w (codes "rule:") && nat_lt 5 (length w) && list_all is_non_space w

-- nothing, or ` rule:NAME` once or more, of which one names the rule
abbrev pub rest_speaks : List ℕ → List ℕ → Bool
rest_speaks [] rule = true
rest_speaks (c ∷ rest) rule =
    let words = slice_split (λ x. x == code " ") rest in
    if c == code " " then list_all is_rule_word words && list_any (λ w. bytes_eq (drop 5 w) rule) words else false

-- the text is these words, and what follows them speaks of the rule
abbrev pub speaks : List ℕ → List ℕ → List ℕ → Bool
speaks text words rule = if starts_with (λ a b. a == b) text words then rest_speaks (drop (length words) text) rule else false

abbrev pub says : List ℕ → RuleId → PlacedCommentValue → Bool
says words rule c = speaks (without_end c.text) words (rule_name rule)

abbrev pub disables : RuleId → PlacedCommentValue → Bool
disables = says (codes "# yamllint disable")

-- the line for which a `disable-line` counts
abbrev pub own_line : PlacedCommentValue → ℕ
own_line c = if is_some c.behind then c.line else c.line + 1

abbrev pub disables_line : RuleId → ℕ → PlacedCommentValue → Bool
disables_line rule line c = says (codes "# yamllint disable-line") rule c && own_line c == line

-- it switches the rule, at or before the line
abbrev pub switches : RuleId → ℕ → PlacedCommentValue → Bool
switches rule line c = nat_le c.line line && (disables rule c || says (codes "# yamllint enable") rule c)

-- the last comment that switches the rule disables
abbrev pub is_switched_off : List PlacedCommentValue → RuleId → ℕ → Bool
is_switched_off comments rule line = option_map_or (disables rule) (last_or None (filter (switches rule line) comments)) false

-- a rule says nothing at a line, counted from 0
abbrev pub is_silenced : List PlacedCommentValue → RuleId → ℕ → Bool
is_silenced comments rule line = is_switched_off comments rule line || list_any (disables_line rule line) comments

-- the first line is the comment that silences the whole file
abbrev pub disables_file : List ℕ → Bool
disables_file first_line = bytes_eq (without_end first_line) (codes "# yamllint disable-file")
