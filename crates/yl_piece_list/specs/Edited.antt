-- Bridge: what is known of a piece that has new rows.
use Rattle.std.specs.Prelude.{◌≡◌, List, Some}
use Rattle.yl_config.specs.declared.config.Config.{Config}
use Rattle.yl_record.specs.Records.{RecordValue}
use Rattle.yl_sections.specs.Kept.{KeptValue}
use Rattle.yl_pieces.specs.State.{DocumentState}
use Rattle.yl_section_pieces.specs.Pieces.{IsStateAfter, PieceValue}
use Rattle.yl_section_pieces.specs.Edit.{IsEditAlone, kept_alone}

-- the piece y of the rows `new` comes in place of a piece of the rows `own` that has the summary k and the state s before it, and nothing else
-- changes, whichever rows of the section stand above it
abbrev pub IsEdited : Config → (s : DocumentState) (own new : List RecordValue) → KeptValue → PieceValue → Type 0
IsEdited config s own new k y =
    (front : List RecordValue) → IsStateAfter front s
    → (y.before ≡ Some s) × (IsEditAlone config front own new k × (y.kept ≡ kept_alone config s front new))
