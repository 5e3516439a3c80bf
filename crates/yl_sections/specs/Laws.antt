-- Meaning: laws of sections and of their summaries.
use Rattle.std.specs.Prelude.{◌≡◌, List, ◌∷◌, take, drop, None}
use Rattle.yl_config.specs.declared.config.Config.{Config}
use Rattle.yl_record.specs.Records.{RecordValue}
use Rattle.yl_sections.specs.Sections.{sections, row_count, later_sections}
use Rattle.yl_sections.specs.Kept.{KeptValue, IsKept}

-- a section has at most one summary
abbrev pub OneKept : Type 0
OneKept = (config : Config) (rs : List RecordValue) (k l : KeptValue) → IsKept config rs k → IsKept config rs l → k ≡ l

-- the first section has this number of rows, and the others are the sections of the rows after it
abbrev pub FirstSection : Type 0
FirstSection = (rs : List RecordValue) → sections rs ≡ take (row_count None rs) rs ∷ later_sections (drop (row_count None rs) rs)
