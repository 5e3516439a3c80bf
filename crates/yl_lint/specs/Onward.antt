-- Meaning: the indentation of the sections of a text, each position judged by the facts up to it;
-- and laws: the findings in sections do not depend on the sections after them.
use Rattle.std.specs.Prelude.{◌≡◌, ℕ, ◌+◌, List, [], ◌∷◌, ◌++◌, map}
use Rattle.yl_text.specs.declared.position.Pos.{Pos}
use Rattle.yl_text.specs.Finding.{FindingValue}
use Rattle.yl_text.specs.Lines.{RowValue}
use Rattle.yl_text.specs.Store.{end_of_lines}
use Rattle.yl_indentation.specs.declared.measure.Measure.{Measure}
use Rattle.yl_indentation.specs.declared.options.IndentationOptions.{IndentationOptions}
use Rattle.yl_indentation.specs.Measures.{empty_measure, and_later, measure_of}
use Rattle.yl_indentation.specs.Onward.{CountsEntriesOnceSeen, onward_problems}
use Rattle.yl_report.specs.Directive.{disables_file, is_silenced}
use Rattle.yl_report.specs.Report.{report_of}
use Rattle.yl_config.specs.declared.config.Config.{Config}
use Rattle.yl_config.specs.Config.{levels_of, options_of}
use Rattle.yl_sections.specs.Kept.{KeptValue}
use Rattle.yl_lint.specs.TextReport.{comments_in_sections, facts_in_sections, fault_in_sections, findings_in_lines, findings_in_sections, first_text, found_of_kept, moved, report_by, shown}

-- the findings in a section that begins at this line. Its indentation is judged only by the facts
-- before it and by its own
abbrev pub onward_in_section : IndentationOptions → ℕ → Measure → KeptValue → List FindingValue
onward_in_section o line before k = map (moved line) (k.found ++ onward_problems o before k.facts)

abbrev pub onward_in_sections : IndentationOptions → ℕ → Measure → List KeptValue → List FindingValue
onward_in_sections o line before [] = []
onward_in_sections o line before (k ∷ ks) = onward_in_section o line before k ++ onward_in_sections o (line + k.rows) (and_later before (measure_of k.facts)) ks

-- the findings of the rule indentation in sections
abbrev pub indentation_in_sections : IndentationOptions → ℕ → Measure → List KeptValue → List FindingValue
indentation_in_sections o line before [] = []
indentation_in_sections o line before (k ∷ ks) = map (moved line) (onward_problems o before k.facts) ++ indentation_in_sections o (line + k.rows) (and_later before (measure_of k.facts)) ks

-- the line after sections, of which the first begins at this line
abbrev pub line_behind : ℕ → List KeptValue → ℕ
line_behind line [] = line
line_behind line (k ∷ ks) = line_behind (line + k.rows) ks

-- all findings in a text, without a measure of the whole text
abbrev pub onward_of_kept : Config → List FindingValue → Pos → List KeptValue → List FindingValue
onward_of_kept config in_lines end ks =
    in_lines ++ (fault_in_sections 0 end ks ++ onward_in_sections (options_of config).indentation 0 empty_measure (shown ks))

-- the findings in sections do not depend on the facts after them
abbrev pub SectionsLookBack : Type 0
SectionsLookBack = (o : IndentationOptions) (later : Measure) (line : ℕ) (before : Measure) (ks : List KeptValue) → CountsEntriesOnceSeen before
    → findings_in_sections o (and_later (and_later before (measure_of (facts_in_sections ks))) later) line before ks ≡ onward_in_sections o line before ks

-- the findings in the first sections of a text are the same whatever sections come after them
abbrev pub FirstSectionsLookBack : Type 0
FirstSectionsLookBack = (o : IndentationOptions) (ks ls : List KeptValue)
    → findings_in_sections o (measure_of (facts_in_sections (ks ++ ls))) 0 empty_measure (ks ++ ls)
    ≡ findings_in_sections o (measure_of (facts_in_sections ks)) 0 empty_measure ks
    ++ onward_in_sections o (line_behind 0 ks) (measure_of (facts_in_sections ks)) ls

-- up to the first section with a fault, the findings by the measure of all sections, with those
-- after the fault, are those by the measure of the sections that are shown
abbrev pub ShownLooksBack : Type 0
ShownLooksBack = (o : IndentationOptions) (ks : List KeptValue)
    → findings_in_sections o (measure_of (facts_in_sections ks)) 0 empty_measure (shown ks)
    ≡ findings_in_sections o (measure_of (facts_in_sections (shown ks))) 0 empty_measure (shown ks)

-- all findings in a text, and its report, need no measure of the whole text
abbrev pub FoundLooksBack : Type 0
FoundLooksBack = (config : Config) (in_lines : List FindingValue) (end : Pos) (ks : List KeptValue)
    → found_of_kept config in_lines end ks ≡ onward_of_kept config in_lines end ks

abbrev pub ReportLooksBack : Type 0
ReportLooksBack = (config : Config) (rows : List RowValue) (ks : List KeptValue)
    → report_by config rows ks
    ≡ report_of (levels_of config) (disables_file (first_text rows)) (is_silenced (comments_in_sections 0 (shown ks)))
    (onward_of_kept config (findings_in_lines (options_of config) rows) (end_of_lines rows) ks)
