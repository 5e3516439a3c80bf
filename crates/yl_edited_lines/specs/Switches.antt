-- Meaning: comments that may switch rules, and comments that silence one line only, as yamllint's
-- documentation says in "Disable with comments".
use Rattle.std.specs.Prelude.{◌≡◌, ◌<◌, ◌==◌, ℕ, Bool, false, not, List, map, codes}
use Rattle.std.specs.List.{filter, starts_with}
use Rattle.yl_lexeme.specs.Lexeme.{PlacedCommentValue}
use Rattle.yl_report.specs.Directive.{own_line}

-- the comment may switch rules; one that starts with this text silences one line only
abbrev pub may_switch : PlacedCommentValue → Bool
may_switch c = not (starts_with (λ a b. a == b) c.text (codes "# yamllint disable-line"))

-- the texts of the comments that may switch rules, in order
abbrev pub switch_texts : List PlacedCommentValue → List (List ℕ)
switch_texts cs = map (λ c. c.text) (filter may_switch cs)

-- if the comment silences one line only, this is one of the first `rows` lines
abbrev pub SpeaksWithin : ℕ → PlacedCommentValue → Type 0
SpeaksWithin rows c = may_switch c ≡ false → own_line c < rows
