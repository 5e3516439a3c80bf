-- Bridge: what the lines that follow add to the report of a text, by what is kept of the lines that
-- were read.
use Rattle.std.specs.Prelude.{ℕ, ◌≡◌, ◌+◌, List, ◌++◌, map}
use Rattle.yl_text.specs.Finding.{FindingValue}
use Rattle.yl_text.specs.Lines.{RowValue}
use Rattle.yl_rules.specs.declared.options.RowOptions.{RowOptions}
use Rattle.yl_rules.specs.RunsLeft.{RunReaderValue, runs_left}
use Rattle.yl_config.specs.declared.config.Config.{Config}
use Rattle.yl_record.specs.Recorded.{RecorderValue, recorded}
use Rattle.yl_record.specs.Records.{RecordValue}
use Rattle.yl_sections.specs.declared.judging.SectionsJudge.{SectionsJudge}
use Rattle.yl_sections.specs.Judge.{kept_of_section}
use Rattle.yl_sections.specs.Judging.{JudgesAll}
use Rattle.yl_sections.specs.Kept.{KeptValue}
use Rattle.yl_sections.specs.Sections.{sections}
use Rattle.yl_lint.specs.declared.kept.SectionReader.{SectionReader}
use Rattle.yl_lint.specs.TextReport.{findings_from}

-- what is kept of the lines that were read: the findings of the rules that look at one line, and
-- the findings of the rules that look at the lines of a whole text
pub record LineReaderValue : Type 0 where
  pub options : RowOptions
  pub runs : RunReaderValue
  pub found : List FindingValue
  pub found_in_runs : List FindingValue

-- all findings of the rules on lines, if these lines follow
abbrev pub lines_left : LineReaderValue → List RowValue → List FindingValue
lines_left r rows = (r.found ++ findings_from r.options (r.runs.count + 1) rows) ++ (r.found_in_runs ++ runs_left r.runs rows)

-- the summaries of all sections, if these rows follow, each given as its characters: the judge has
-- read some records, and the recorder has those after them
pub record KeepsRest {A : Type 0} (config : Config) (recorder : RecorderValue) (judge : SectionsJudge A) (rows : List (List ℕ)) (all : List KeptValue) : Type 0 where
  pub judged : List RecordValue
  pub judges : JudgesAll config judged judge
  pub whole : map (kept_of_section config) (sections (judged ++ recorded recorder rows)) ≡ all

abbrev pub KeepsLeft : {A : Type 0} → Config → SectionReader A → List (List ℕ) → List KeptValue → Type 0
KeepsLeft config r rows all = KeepsRest config r.recorder r.judge rows all
