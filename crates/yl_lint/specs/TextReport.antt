-- Meaning: the report of a text: the findings in its lines and in its sections, and its fault, in
-- order and with levels. Nothing is shown of the sections after the first one with a fault. The
-- findings of the rules on lines are never hidden.
use Rattle.std.specs.Prelude.{◌≡◌, ℕ, ◌+◌, List, [], ◌∷◌, ◌++◌, map, codes, slice_get}
use Rattle.std.specs.Option.{option_map_or}
use Rattle.std.specs.List.{flat_map}
use Rattle.yl_text.specs.declared.position.Pos.{Pos}
use Rattle.yl_text.specs.declared.finding.RuleId.TheVariants.{Syntax}
use Rattle.yl_text.specs.Finding.{FindingValue}
use Rattle.yl_text.specs.Lines.{RowValue}
use Rattle.yl_text.specs.Store.{end_of_lines}
use Rattle.yl_lexeme.specs.Lexeme.{PlacedCommentValue}
use Rattle.yl_indentation.specs.declared.fact.Fact.{Fact}
use Rattle.yl_indentation.specs.declared.measure.Measure.{Measure}
use Rattle.yl_indentation.specs.declared.options.IndentationOptions.{IndentationOptions}
use Rattle.yl_indentation.specs.Measures.{empty_measure, and_later, measure_of}
use Rattle.yl_indentation.specs.Problems.{indent_problems}
use Rattle.yl_rules.specs.declared.options.RowOptions.{RowOptions}
use Rattle.yl_rules.specs.Rows.{row_findings}
use Rattle.yl_rules.specs.Runs.{run_findings}
use Rattle.yl_report.specs.Directive.{disables_file, is_silenced}
use Rattle.yl_report.specs.Report.{ProblemValue, report_of}
use Rattle.yl_config.specs.declared.config.Config.{Config}
use Rattle.yl_settings.specs.declared.options.RuleOptions.{RuleOptions}
use Rattle.yl_config.specs.Config.{levels_of, options_of}
use Rattle.yl_record.specs.Records.{RecordValue, characters_in, records}
use Rattle.yl_sections.specs.Kept.{KeptValue, SectionFaultValue, Here, Behind, IsKept, unless_fault}
use Rattle.yl_sections.specs.Sections.{sections}

-- ---- lines

-- the findings of the rules that look at one line, in each of these lines; the first has this
-- number
abbrev pub findings_from : RowOptions → ℕ → List RowValue → List FindingValue
findings_from o line [] = []
findings_from o line (row ∷ rows) = row_findings o line row ++ findings_from o (line + 1) rows

abbrev pub findings_in_lines : RuleOptions → List RowValue → List FindingValue
findings_in_lines o rows = findings_from o.row 1 rows ++ run_findings o.run rows

abbrev pub first_text : List RowValue → List ℕ
first_text rows = option_map_or (λ row. row.text) (slice_get rows 0) []

-- ---- the text's fault

abbrev pub syntax_finding : Pos → List ℕ → FindingValue
syntax_finding p text = record { line = p.line + 1; column = p.col + 1; rule = Syntax; message = codes "syntax error: " ++ text }

-- the position after a section, before these sections, which begin at this line: that of the first
-- lexeme of the next section, or else the end of the text
abbrev pub place_after : ℕ → Pos → List KeptValue → Pos
place_after line end [] = end
place_after line end (k ∷ ks) = record { line = line; col = k.first }

-- the finding of the fault of a section of `rows` rows that begins at this line and comes before
-- these sections
abbrev pub finding_of_fault : ℕ → ℕ → Pos → List KeptValue → SectionFaultValue → FindingValue
finding_of_fault line rows end ks (Here p text) = syntax_finding (record p { line = line + p.line }) text
finding_of_fault line rows end ks (Behind text) = syntax_finding (place_after (line + rows) end ks) text

-- the finding of the text's fault, if it has one: the first of the faults of its sections, of which
-- the first section begins at this line
abbrev pub fault_in_sections : ℕ → Pos → List KeptValue → List FindingValue
fault_in_sections line end [] = []
fault_in_sections line end (k ∷ ks) =
    option_map_or (λ f. finding_of_fault line k.rows end ks f ∷ []) k.fault (fault_in_sections (line + k.rows) end ks)

-- ---- what sections show

-- the sections up to and including the first one with a fault
abbrev pub shown : List KeptValue → List KeptValue
shown [] = []
shown (k ∷ ks) = k ∷ unless_fault k.fault (shown ks)

-- the finding, moved `line` lines down
abbrev pub moved : ℕ → FindingValue → FindingValue
moved line f = record f { line = line + f.line }

-- the findings in a section that begins at this line. Its indentation is judged by the measure of
-- the facts before it and by the measure of all facts that are shown
abbrev pub findings_in_section : IndentationOptions → Measure → ℕ → Measure → KeptValue → List FindingValue
findings_in_section o whole line before k = map (moved line) (k.found ++ indent_problems o before whole k.facts)

abbrev pub findings_in_sections : IndentationOptions → Measure → ℕ → Measure → List KeptValue → List FindingValue
findings_in_sections o whole line before [] = []
findings_in_sections o whole line before (k ∷ ks) =
    findings_in_section o whole line before k ++ findings_in_sections o whole (line + k.rows) (and_later before (measure_of k.facts)) ks

abbrev pub facts_in_sections : List KeptValue → List Fact
facts_in_sections ks = flat_map (λ k. k.facts) ks

abbrev pub moved_comment : ℕ → PlacedCommentValue → PlacedCommentValue
moved_comment line c = record c { line = line + c.line }

-- the comments of sections, of which the first begins at this line, at their positions in the text
abbrev pub comments_in_sections : ℕ → List KeptValue → List PlacedCommentValue
comments_in_sections line [] = []
comments_in_sections line (k ∷ ks) = map (moved_comment line) k.comments ++ comments_in_sections (line + k.rows) ks

-- ---- the report

-- all findings in a text that ends at `end`, from the findings of the rules on lines and the
-- summaries of its sections
abbrev pub found_of_kept : Config → List FindingValue → Pos → List KeptValue → List FindingValue
found_of_kept config in_lines end ks =
    let seen = shown ks in
    let whole = measure_of (facts_in_sections seen) in
    in_lines ++ (fault_in_sections 0 end ks ++ findings_in_sections (options_of config).indentation whole 0 empty_measure seen)

-- the report of a text with this first line
unfoldable pub report_of_kept : Config → List FindingValue → List ℕ → Pos → List KeptValue → List ProblemValue
report_of_kept config in_lines first end ks =
    report_of (levels_of config) (disables_file first) (is_silenced (comments_in_sections 0 (shown ks))) (found_of_kept config in_lines end ks)

abbrev pub records_of : List RowValue → List RecordValue
records_of rows = records (characters_in rows)

-- the report of these lines, from the summaries of their sections
abbrev pub report_by : Config → List RowValue → List KeptValue → List ProblemValue
report_by config rows ks = report_of_kept config (findings_in_lines (options_of config) rows) (first_text rows) (end_of_lines rows) ks

-- these are the summaries of these sections, whose documents build events or have a fault
abbrev pub AreKept : Config → List (List RecordValue) → List KeptValue → Type 0
AreKept config [] [] = Unit {0}
AreKept config (s ∷ ss) (k ∷ ks) = IsKept config s k × AreKept config ss ks
AreKept config _ _ = ⊥

-- these problems are the report of the lines of a text under a configuration
pub record IsReport (config : Config) (rows : List RowValue) (problems : List ProblemValue) : Type 0 where
  pub kept : List KeptValue
  pub are : AreKept config (sections (records_of rows)) kept
  pub put : problems ≡ report_by config rows kept

-- the report of each text under a configuration
pub record Reporter (config : Config) : Type 0 where
  pub tells : List RowValue → List ProblemValue
  pub is : (rows : List RowValue) → IsReport config rows (tells rows)
