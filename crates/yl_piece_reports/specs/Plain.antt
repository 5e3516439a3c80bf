-- Bridge: a law of pieces in whose own lines stands what is kept of them: their part in a report is theirs alone, as that of a section is.
use Rattle.std.specs.Prelude.{◌≡◌, ◌<◌, ◌≤◌, ℕ, Bool, true, List}
use Rattle.std.specs.List.{AllByRecursion}
use Rattle.yl_text.specs.declared.finding.RuleId.{RuleId}
use Rattle.yl_text.specs.Finding.{FindingValue}
use Rattle.yl_sections.specs.Kept.{KeptValue}
use Rattle.yl_piece_reports.specs.Cuts.{AreCutsOf}

-- it stands in the first lines, counted from 1
abbrev pub IsWithin : ℕ → FindingValue → Type 0
IsWithin rows f = (0 < f.line) × (f.line ≤ rows)

-- what is kept stands in its own lines
pub record StandsWithin (k : KeptValue) : Type 0 where
  pub found : AllByRecursion (IsWithin k.rows) k.found
  pub facts : AllByRecursion (λ f. f.line < k.rows) k.facts
  pub comments : AllByRecursion (λ c. c.line < k.rows) k.comments

-- all that is found in it is found by rules that pass the test
abbrev pub IsFoundBy : (RuleId → Bool) → KeptValue → Type 0
IsFoundBy test k = AllByRecursion (λ f. test f.rule ≡ true) k.found

-- both of these make a section plain, its fault aside, where the test passes the rules on sections of which findings are kept. What is found in
-- pieces is found by the rules by which it is found in the sections, so of pieces the former alone is to be shown
abbrev pub PiecesArePlain : Type 0
PiecesArePlain = (test : RuleId → Bool) (ks ps : List KeptValue) → AreCutsOf ks ps → AllByRecursion (IsFoundBy test) ks → AllByRecursion (IsFoundBy test) ps
