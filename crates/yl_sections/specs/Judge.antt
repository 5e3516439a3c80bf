-- Bridge: the summary of a section, computed: by the outcome of its document while the lexemes are
-- read.
use Rattle.std.specs.Prelude.{List, [], ◌∷◌, map, Some, None}
use Rattle.yl_lexeme.specs.Lexeme.{LexemeValue}
use Rattle.yl_marks.specs.Keys.{token_of}
use Rattle.yl_marks.specs.ByLine.{by_line}
use Rattle.yl_events.specs.Event.{event_of_outline}
use Rattle.yl_events.specs.DocumentOutcome.{DocumentOutcome, Events, Fails}
use Rattle.yl_events.specs.Parsing.{parser_at_start, start_events, document_outcome_of_lines}
use Rattle.yl_config.specs.declared.config.Config.{Config}
use Rattle.yl_record.specs.Records.{RecordValue}
use Rattle.yl_sections.specs.Sections.{lexemes_of}
use Rattle.yl_sections.specs.Kept.{BuiltValue, IsKept, KeptValue, kept_of}

abbrev pub built_by : List LexemeValue → DocumentOutcome → BuiltValue
built_by xs (Events es) = record { events = map (event_of_outline xs) es; fault = None }
built_by xs (Fails f) = record { events = []; fault = Some f }

-- the events or the fault of the document of these lexemes
abbrev pub document_of : List LexemeValue → BuiltValue
document_of [] = record { events = []; fault = None }
document_of (x ∷ xs) = built_by (x ∷ xs) (document_outcome_of_lines parser_at_start start_events (by_line (map token_of (x ∷ xs))))

-- the summary of the section of these rows
unfoldable pub kept_of_section : Config → List RecordValue → KeptValue
kept_of_section config rs = kept_of config rs (document_of (lexemes_of rs))

-- the summary that is computed is a summary of the section
abbrev pub KeptIsComputed : Type 0
KeptIsComputed = (config : Config) (rs : List RecordValue) → IsKept config rs (kept_of_section config rs)
