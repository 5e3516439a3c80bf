-- Meaning: the problems of the rule indentation.
use Rattle.std.specs.Prelude.{ℕ, Bool, true, false, not, nat_lt, ◌==◌, if◌then◌else◌, List, [], ◌∷◌, ◌++◌, ◌+◌, codes, decimal, Option, Some, None}
use Rattle.yl_text.specs.declared.finding.RuleId.TheVariants.{Indentation}
use Rattle.yl_text.specs.Finding.{FindingValue, one_finding}
use Rattle.yl_indentation.specs.declared.fact.Expectation.{Expectation}
use Rattle.yl_indentation.specs.declared.fact.Expectation.TheVariants.{At, Beyond, EntryIn}
use Rattle.yl_indentation.specs.declared.fact.Fact.{Fact}
use Rattle.yl_indentation.specs.declared.measure.Measure.{Measure}
use Rattle.yl_indentation.specs.declared.options.IndentationOptions.{IndentationOptions}
use Rattle.yl_indentation.specs.declared.options.Spaces.{Spaces}
use Rattle.yl_indentation.specs.declared.options.Spaces.TheVariants.{Every}
use Rattle.yl_indentation.specs.declared.options.IndentSequences.{IndentSequences}
use Rattle.yl_indentation.specs.declared.options.IndentSequences.TheVariants.{Indented, NotIndented, Whatever, Consistent}
use Rattle.yl_indentation.specs.Measures.{empty_measure, and_later, measure_at, measure_of, is_flush}

-- an entry in a mapping must be indented from the mapping's column. `flush` says that the first
-- such entry of the text stands in its mapping's column, and `at_base` that this one does
abbrev pub is_indented : IndentSequences → Bool → Bool → Bool
is_indented Indented flush at_base = true
is_indented NotIndented flush at_base = false
is_indented Whatever flush at_base = not at_base
is_indented Consistent flush at_base = not flush

-- the width of an indentation at a place: the number that the option gives, or the first step of
-- the text up to the place
abbrev pub width_by_spaces : Spaces → Bool → Measure → Option ℕ
width_by_spaces (Every n) with_entries here = Some n
width_by_spaces _ with_entries here = if with_entries then here.step_with_entries else here.step

abbrev pub not_as_expected : ℕ → Fact → List FindingValue
not_as_expected e f = if e == f.column then [] else one_finding Indentation (f.line + 1) (f.column + 1)
    (codes "wrong indentation: expected " ++ (decimal e ++ (codes " but found " ++ decimal f.column)))

abbrev pub finding_by_width : Option ℕ → ℕ → Fact → List FindingValue
finding_by_width None base f =
    if nat_lt f.column (base + 1) then one_finding Indentation (f.line + 1) (f.column + 1)
    (codes "wrong indentation: expected at least " ++ decimal (base + 1)) else []
finding_by_width (Some w) base f = not_as_expected (base + w) f

abbrev pub finding_by : IndentSequences → Bool → Option ℕ → Fact → Expectation → List FindingValue
finding_by choice flush width f (At e) = not_as_expected e f
finding_by choice flush width f (Beyond base) = finding_by_width width base f
finding_by choice flush width f (EntryIn base) =
    if is_indented choice flush (f.column == base) then finding_by_width width base f else not_as_expected base f

-- the problem of a fact, where `here` is the measure of the facts of the text up to it
abbrev pub finding_at : IndentationOptions → Measure → Bool → Fact → List FindingValue
finding_at options here flush f =
    let choice = options.indent_sequences in
    finding_by choice flush (width_by_spaces options.spaces (is_indented choice flush false) here) f f.expectation

-- the problems of the facts of a document, from the measure of the facts before them and the
-- measure of the whole text
abbrev pub indent_problems : IndentationOptions → Measure → Measure → List Fact → List FindingValue
indent_problems options before whole [] = []
indent_problems options before whole (f ∷ fs) =
    let here = and_later before (measure_at f.column f.expectation) in
    finding_at options here (is_flush whole) f ++ indent_problems options here whole fs

-- the problems of the facts of a text
abbrev pub text_problems : IndentationOptions → List Fact → List FindingValue
text_problems options fs = indent_problems options empty_measure (measure_of fs) fs

-- the facts of documents, one after another
abbrev pub facts_of_all : List (List Fact) → List Fact
facts_of_all [] = []
facts_of_all (d ∷ ds) = d ++ facts_of_all ds

-- the problems of documents, one after another, after facts of the measure `before`
abbrev pub document_problems : IndentationOptions → Measure → Measure → List (List Fact)
    → List FindingValue
document_problems options before whole [] = []
document_problems options before whole (d ∷ ds) =
    indent_problems options before whole d
    ++ document_problems options (and_later before (measure_of d)) whole ds
