-- Bridge: a law of the problems of a text.
use Rattle.std.specs.Prelude.{◌≡◌, List, map}
use Rattle.yl_text.specs.Lines.{RowValue}
use Rattle.yl_config.specs.declared.config.Config.{Config}
use Rattle.yl_record.specs.Records.{RecordValue}
use Rattle.yl_sections.specs.Judge.{kept_of_section}
use Rattle.yl_lint.specs.TextReport.{report_by}
use Rattle.yl_found.specs.Found.{all_parts}

-- for any sections, the report by their summaries is the list of the problems that are shown
abbrev pub ReportIsShown : Type 0
ReportIsShown = (config : Config) (rows : List RowValue) (ss : List (List RecordValue)) →
    let ks = map (kept_of_section config) ss in report_by config rows ks ≡ (all_parts config rows ks).shown
