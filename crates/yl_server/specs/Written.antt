-- Meaning: messages as they are written: each is one JSON text with no space in it, after its header.
use Rattle.std.specs.Prelude.{ℕ, List, [], codes, Some, None}
use Rattle.std.specs.List.{flat_map}
use Rattle.std.specs.Option.{option_map_or}
use Rattle.json.specs.Json.{Json, null}
use Rattle.yl_text.specs.Lines.{RowValue, lines_of}
use Rattle.yl_config.specs.declared.config.Config.{Config}
use Rattle.yl_report.specs.Report.{ProblemValue}
use Rattle.yl_frames.specs.Frames.{framed}
use Rattle.yl_rpc.specs.Answers.{answer, failure, json_text}
use Rattle.yl_lsp.specs.declared.presentation.Presentation.{Presentation}
use Rattle.yl_lsp.specs.Diagnostics.{DiagnosticValue}
use Rattle.yl_lsp.specs.Messages.{PublicationValue, publication, error_message, initialize_result, watch_request}
use Rattle.yl_lsp.specs.Reports.{report_diagnostics, lost_diagnostics}
use Rattle.yl_workspace.specs.declared.cause.Cause.{Cause}
use Rattle.yl_workspace.specs.declared.cause.Cause.TheVariants.{OutOfMemory, TooLarge, BadChange, Missed}
use Rattle.yl_workspace.specs.Changes.{TextValue, Followed, Lost}
use Rattle.yl_workspace.specs.Documents.{DocumentValue}
use Rattle.yl_server.specs.Messages.{ContentValue, Shown, Cleared, MessageValue, Initialized, Done, Refused, Published, Told, Watches}

-- what is told of the lines of a text under a configuration
abbrev pub Reports : Type 0
Reports = Config → List RowValue → List ProblemValue

-- why a text is not followed
abbrev pub lost_words : Cause → List ℕ
lost_words OutOfMemory = codes "out of memory: the text is not followed until it is opened again"
lost_words TooLarge = codes "too large: the text is not followed until it is opened again"
lost_words BadChange = codes "a change that cannot be made: the text is not followed until it is opened again"
lost_words Missed = codes "a message was not read: the text is not followed until it is opened again"

abbrev pub text_diagnostics : Reports → Presentation → Config → TextValue → List DiagnosticValue
text_diagnostics tells how config (Followed text) = report_diagnostics (record { how = how; rows = lines_of text; problems = tells config (lines_of text) })
text_diagnostics tells how config (Lost cause) = lost_diagnostics (lost_words cause)

-- nothing is told of one that is ignored
abbrev pub document_diagnostics : Reports → Presentation → DocumentValue → List DiagnosticValue
document_diagnostics tells how d = option_map_or (λ config. text_diagnostics tells how config d.text) d.config []

abbrev pub publication_of : Reports → (uri : List ℕ) → ContentValue → PublicationValue
publication_of tells uri (Shown how d) = record { uri = uri; version = Some d.version; diagnostics = document_diagnostics tells how d }
publication_of tells uri Cleared = record { uri = uri; version = None; diagnostics = [] }

-- the version that an editor is told
abbrev pub version : List ℕ
version = codes "0.1.0"

abbrev pub message_json : Reports → MessageValue → Json
message_json tells (Initialized id encoding) = answer id (initialize_result encoding version)
message_json tells (Done id) = answer id null
message_json tells (Refused id code words) = failure id code words
message_json tells (Published uri content) = publication (publication_of tells uri content)
message_json tells (Told words) = error_message words
message_json tells Watches = watch_request

-- messages one after another
abbrev pub written : Reports → List MessageValue → List ℕ
written tells ms = flat_map (λ m. framed (json_text (message_json tells m))) ms
