-- Meaning: yamllint's rule comments. A comment is its `#` and what follows it up to the break.
use Rattle.std.specs.Prelude.{ℕ, Bool, false, not, ◌&&◌, ◌==◌, nat_lt, if◌then◌else◌, List, [], ◌++◌, ◌+◌, ◌-◌, drop, codes, Option, Some}
use Rattle.std.specs.Str.{chars}
use Prim.Native.Char.{code}
use Rattle.yl_lexeme.specs.Lexeme.{PlacedCommentValue}
use Rattle.yl_text.specs.Character.{is_non_space, starts_by}
use Rattle.yl_text.specs.Finding.{FindingValue, one_finding}
use Rattle.yl_text.specs.declared.finding.RuleId.TheVariants.{Comments}
use Rattle.yl_rules.specs.LineLength.{hash_count}
use Rattle.yl_rules.specs.declared.comments.CommentsOptions.{CommentsOptions}

-- fewer characters than the minimum are between the column at which the lexeme ends and the column
-- at which the comment begins
abbrev pub is_too_near : Option ℕ → Option ℕ → ℕ → Bool
is_too_near (Some least) (Some end) column = nat_lt (column - end) least
is_too_near _ _ column = false

-- `!` and a character that is not white space follow
abbrev pub is_shebang : List ℕ → Bool
is_shebang rest = starts_by (λ c. c == code "!") rest && starts_by is_non_space (drop 1 rest)

-- a space is required and missing. With `ignore_shebangs`, none is required if the comment begins
-- the text and names an interpreter
abbrev pub lacks_space : CommentsOptions → ℕ → ℕ → List ℕ → Bool
lacks_space o line column rest =
    o.require_starting_space && starts_by (λ c. not (c == code " ")) rest
    && not (o.ignore_shebangs && line == 0 && column == 0 && is_shebang rest)

-- the finding is at the `#`
abbrev pub near_findings : CommentsOptions → PlacedCommentValue → List FindingValue
near_findings o c =
    if is_too_near o.min_spaces_from_content c.behind c.column
    then one_finding Comments (c.line + 1) (c.column + 1) (codes "too few spaces before comment")
    else []

-- the finding is at the character in place of the space; `cs` are the characters of the comment
abbrev pub starting_space_in : CommentsOptions → ℕ → ℕ → List ℕ → List FindingValue
starting_space_in o line column cs =
    if lacks_space o line column (drop (hash_count cs) cs)
    then one_finding Comments (line + 1) (column + hash_count cs + 1) (codes "missing starting space in comment")
    else []

abbrev pub comment_findings : CommentsOptions → PlacedCommentValue → List FindingValue
comment_findings o c = near_findings o c ++ starting_space_in o c.line c.column (chars c.text)
