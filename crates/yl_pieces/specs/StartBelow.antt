-- Bridge: a law of the rows at a document's start, further down.
use Rattle.std.specs.Prelude.{ℕ, List}
use Rattle.yl_config.specs.declared.config.Config.{Config}
use Rattle.yl_record.specs.Records.{RecordValue}
use Rattle.yl_pieces.specs.State.{start_state}
use Rattle.yl_pieces.specs.Laws.{AreToldBelow}

-- rows at a document's start are told below any line, line 0 too: no lexeme stands above them
abbrev pub StartIsToldBelow : Type 0
StartIsToldBelow = (config : Config) (n line : ℕ) (rs : List RecordValue) → AreToldBelow config start_state n line rs
