-- Worked rows: what sections with a fault, a width or comments show.
use Rattle.std.specs.Prelude.{ℕ, ◌≡◌, refl, List, [], ◌∷◌, codes, Option, Some, None}
use Rattle.std.specs.Fmt.{digits}
use Rattle.yl_text.specs.declared.position.Pos.{Pos}
use Rattle.yl_text.specs.declared.finding.RuleId.{RuleId}
use Rattle.yl_text.specs.declared.finding.RuleId.TheVariants.{Indentation, KeyDuplicates, Syntax}
use Rattle.yl_text.specs.Finding.{FindingValue}
use Rattle.yl_indentation.specs.declared.fact.Expectation.TheVariants.{Beyond}
use Rattle.yl_indentation.specs.declared.fact.Fact.{Fact}
use Rattle.yl_indentation.specs.declared.options.IndentationOptions.{IndentationOptions}
use Rattle.yl_indentation.specs.declared.options.Spaces.TheVariants.{Consistent}
use Rattle.yl_indentation.specs.declared.options.IndentSequences.TheVariants.{Indented}
use Rattle.yl_indentation.specs.Measures.{empty_measure, measure_of}
use Rattle.yl_sections.specs.Kept.{KeptValue, SectionFaultValue, Here, Behind}
use Rattle.yl_lint.specs.TextReport.{comments_in_sections, facts_in_sections, fault_in_sections, findings_in_sections, shown}

abbrev place : ℕ → ℕ → Pos
place line column = record { line = line; col = column }

abbrev finding : ℕ → ℕ → RuleId → List ℕ → FindingValue
finding line column rule message = record { line = line; column = column; rule = rule; message = message }

abbrev section : ℕ → List FindingValue → List Fact → Option SectionFaultValue → KeptValue
section rows found facts fault = record { rows = rows; first = 0; found = found; facts = facts; comments = []; fault = fault; hidden = []; parse_fault = fault }

abbrev options : IndentationOptions
options = record { spaces = Consistent; indent_sequences = Indented }

abbrev fact : ℕ → ℕ → Fact
fact line column = record { line = line; column = column; expectation = Beyond 0 }

abbrev found_in : List KeptValue → List FindingValue
found_in ks = findings_in_sections options (measure_of (facts_in_sections (shown ks))) 0 empty_measure (shown ks)

-- `---`, `k: 1`, `k: 1`, and again: the second document's problem is told by its line in the text
abbrev twice : KeptValue
twice = section 3 (finding 3 1 KeyDuplicates (codes "duplication of key \"k\" in mapping") ∷ []) [] None

second : found_in (twice ∷ twice ∷ [])
    ≡ finding 3 1 KeyDuplicates (codes "duplication of key \"k\" in mapping") ∷ finding 6 1 KeyDuplicates (codes "duplication of key \"k\" in mapping") ∷ []
second = refl

-- `---`, `"a" "b"`: the documents after it are hidden
abbrev failing : KeptValue
failing = section 2 [] [] (Some (Here (place 1 4) (codes "second node")))

hidden : found_in (failing ∷ twice ∷ []) ≡ []
hidden = refl

its_fault : fault_in_sections 0 (place 9 0) (failing ∷ twice ∷ []) ≡ finding 2 5 Syntax (codes "syntax error: second node") ∷ []
its_fault = refl

later_fault : fault_in_sections 0 (place 9 0) (twice ∷ failing ∷ failing ∷ []) ≡ finding 5 5 Syntax (codes "syntax error: second node") ∷ []
later_fault = refl

-- `---`, `[a`: at the next document's first lexeme, or at the text's end
abbrev unended : KeptValue
unended = section 2 [] [] (Some (Behind (codes "comma or closing bracket expected")))

unended_before : fault_in_sections 0 (place 9 0) (unended ∷ twice ∷ []) ≡ finding 3 1 Syntax (codes "syntax error: comma or closing bracket expected") ∷ []
unended_before = refl

unended_last : fault_in_sections 0 (place 5 3) (twice ∷ unended ∷ []) ≡ finding 6 4 Syntax (codes "syntax error: comma or closing bracket expected") ∷ []
unended_last = refl

-- `---`, `a:`, `    b: 1`, `---`, `c:`, `  d: 1`: the width of the first document holds in the second
width : found_in (section 3 [] (fact 2 4 ∷ []) None ∷ section 3 [] (fact 2 2 ∷ []) None ∷ [])
    ≡ finding 6 3 Indentation (codes "wrong indentation: expected 4 but found 2") ∷ []
unfolding digits
width = refl

-- a comment of the second section, by its line in the text
comment : comments_in_sections 0 (twice ∷ record { rows = 1; first = 0; found = []; facts = []; comments = record { line = 0; column = 4; text = codes "# yamllint disable"; behind = Some 3 } ∷ []; fault = None; hidden = []; parse_fault = None } ∷ [])
    ≡ record { line = 3; column = 4; text = codes "# yamllint disable"; behind = Some 3 } ∷ []
comment = refl
