-- Meaning: the findings of rules in a text. Lines and columns count from 1, columns count
-- characters, and a message is in UTF-8.
use Rattle.std.specs.Prelude.{ℕ, List, [], ◌∷◌, ◌++◌, codes}
use Rattle.yl_text.specs.declared.finding.RuleId.{RuleId}
use Rattle.yl_text.specs.declared.finding.RuleId.TheVariants.{Anchors, Braces, Brackets, Colons, Commas, Comments, DocumentStart, EmptyLines, Hyphens, Indentation, KeyDuplicates, KeyOrdering, LineLength, NewLineAtEndOfFile, NewLines, QuotedStrings, Syntax, TrailingSpaces, Truthy}

pub record FindingValue : Type 0 where
  pub line : ℕ
  pub column : ℕ
  pub rule : RuleId
  pub message : List ℕ

-- the names of the rules in yamllint's documentation ("Rules"); `syntax` is the rule of the text's
-- fault
abbrev pub rule_name : RuleId → List ℕ
rule_name Anchors = codes "anchors"
rule_name Braces = codes "braces"
rule_name Brackets = codes "brackets"
rule_name Colons = codes "colons"
rule_name Commas = codes "commas"
rule_name Comments = codes "comments"
rule_name DocumentStart = codes "document-start"
rule_name EmptyLines = codes "empty-lines"
rule_name Hyphens = codes "hyphens"
rule_name Indentation = codes "indentation"
rule_name KeyDuplicates = codes "key-duplicates"
rule_name KeyOrdering = codes "key-ordering"
rule_name LineLength = codes "line-length"
rule_name NewLineAtEndOfFile = codes "new-line-at-end-of-file"
rule_name NewLines = codes "new-lines"
rule_name QuotedStrings = codes "quoted-strings"
rule_name Syntax = codes "syntax"
rule_name TrailingSpaces = codes "trailing-spaces"
rule_name Truthy = codes "truthy"

-- one finding, at a line and a column
abbrev pub one_finding : RuleId → ℕ → ℕ → List ℕ → List FindingValue
one_finding rule line column message = record { line = line; column = column; rule = rule; message = message } ∷ []

-- what is found at each item of a list, by the items before it (the latest first), the item itself,
-- and the items after it
abbrev pub at_each : {X Y : Type 0} → (List X → X → List X → List Y) → List X → List X → List Y
at_each f before [] = []
at_each f before (x ∷ after) = f before x after ++ at_each f (x ∷ before) after
