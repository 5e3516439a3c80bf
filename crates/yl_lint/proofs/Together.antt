-- What is found in a text, and its report, from their parts.
use Rattle.std.proofs.Common.{◌≡◌, ℕ, Bool, List, ◌++◌, append_assoc, refl}
use Rattle.yl_text.specs.declared.position.Pos.{Pos}
use Rattle.yl_text.specs.declared.finding.RuleId.{RuleId}
use Rattle.yl_text.specs.Finding.{FindingValue}
use Rattle.yl_lexeme.specs.Lexeme.{PlacedCommentValue}
use Rattle.yl_indentation.specs.declared.measure.Measure.{Measure}
use Rattle.yl_indentation.specs.declared.options.IndentationOptions.{IndentationOptions}
use Rattle.yl_indentation.specs.Measures.{empty_measure, measure_of}
use Rattle.yl_rules.specs.Levels.{LevelTable}
use Rattle.yl_report.specs.Directive.{disables_file, is_silenced}
use Rattle.yl_report.specs.Report.{report_of}
use Rattle.yl_config.specs.declared.config.Config.{Config}
use Rattle.yl_config.specs.Config.{levels_of, options_of}
use Rattle.yl_sections.specs.Kept.{KeptValue}
use Rattle.yl_lint.specs.TextReport.{shown, comments_in_sections, fault_in_sections, findings_in_sections, facts_in_sections, found_of_kept, report_of_kept}

pub found_together : (config : Config) (in_lines with_fault all : List FindingValue) (end : Pos) (ks seen : List KeptValue) (o : IndentationOptions) (whole : Measure)
    → seen ≡ shown ks → with_fault ≡ in_lines ++ fault_in_sections 0 end ks → o ≡ (options_of config).indentation → whole ≡ measure_of (facts_in_sections seen)
    → all ≡ with_fault ++ findings_in_sections o whole 0 empty_measure seen → all ≡ found_of_kept config in_lines end ks
found_together config in_lines with_fault all end ks seen o whole is_seen is_fault is_options is_whole is_all =
    rw (is_all, is_fault, is_whole, is_options, is_seen, append_assoc in_lines (fault_in_sections 0 end ks) (findings_in_sections (options_of config).indentation (measure_of (facts_in_sections (shown ks))) 0 empty_measure (shown ks)))
    refl

pub put_together : (config : Config) (in_lines all : List FindingValue) (first : List ℕ) (end : Pos) (ks seen : List KeptValue) (levels : LevelTable) (cs : List PlacedCommentValue) (file : Bool)
    (silenced : RuleId → ℕ → Bool) → seen ≡ shown ks → cs ≡ comments_in_sections 0 seen → file ≡ disables_file first → silenced ≡ is_silenced cs
    → all ≡ found_of_kept config in_lines end ks → levels ≡ levels_of config → report_of levels file silenced all ≡ report_of_kept config in_lines first end ks
unfolding report_of_kept
put_together config in_lines all first end ks seen levels cs file silenced is_seen is_comments is_file is_lines is_all is_levels = rw (is_levels, is_file, is_lines, is_all, is_comments, is_seen) refl
