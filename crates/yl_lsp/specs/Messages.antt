-- Meaning: the messages that a server sends of itself, and what it answers to `initialize` (LSP 3.17, 'PublishDiagnostics Notification',
-- 'ShowMessage Notification', 'Initialize Request', 'Register Capability', 'DidChangeWatchedFiles Notification'), as JSON, members in the
-- order of their names. A text is in UTF-8.
use Rattle.std.specs.Prelude.{ℕ, List, [], ◌∷◌, ◌++◌, map, true, codes, decimal, Option, Some, None}
use Rattle.json.specs.Json.{Json, boolean, number, string, array, object, Items, no_items, item, Members, no_members, member}
use Rattle.yl_units.specs.declared.encoding.Encoding.{Encoding}
use Rattle.yl_units.specs.declared.encoding.Encoding.TheVariants.{Utf8, Utf16, Utf32}
use Rattle.yl_lsp.specs.Diagnostics.{DiagnosticValue, diagnostic_json}

abbrev pub items_of : List Json → Items
items_of [] = no_items
items_of (j ∷ js) = item j (items_of js)

abbrev pub notification : (method : List ℕ) → (params : Json) → Json
notification method params =
    object (member (codes "jsonrpc") (string (codes "2.0")) (member (codes "method") (string method) (member (codes "params") params no_members)))

-- ---- diagnostics of a document

pub record PublicationValue : Type 0 where
  pub uri : List ℕ
  pub version : Option (List ℕ)  -- the number as it came
  pub diagnostics : List DiagnosticValue

abbrev pub version_members : Option (List ℕ) → Members
version_members None = no_members
version_members (Some digits) = member (codes "version") (number digits) no_members

abbrev pub publication_params : PublicationValue → Json
publication_params p =
    object (member (codes "diagnostics") (array (items_of (map diagnostic_json p.diagnostics))) (member (codes "uri") (string p.uri) (version_members p.version)))

abbrev pub publication : PublicationValue → Json
publication p = notification (codes "textDocument/publishDiagnostics") (publication_params p)

-- ---- a message for people, of type `Error`

abbrev pub error_message : List ℕ → Json
error_message text =
    notification (codes "window/showMessage") (object (member (codes "message") (string text) (member (codes "type") (number (codes "1")) no_members)))

-- what is told of a place of a text
abbrev pub placed_words : (text : List ℕ) → (line column : ℕ) → List ℕ
placed_words text line column = text ++ (codes " at " ++ (decimal line ++ (codes ":" ++ decimal column)))

-- ---- the result of `initialize`

-- a `PositionEncodingKind`
abbrev pub encoding_name : Encoding → List ℕ
encoding_name Utf8 = codes "utf-8"
encoding_name Utf16 = codes "utf-16"
encoding_name Utf32 = codes "utf-32"

-- texts are opened and closed, change in ranges, and are saved
abbrev pub text_sync : Json
text_sync =
    object (member (codes "change") (number (codes "2")) (member (codes "openClose") (boolean true) (member (codes "save") (boolean true) no_members)))

-- an editor tells of its folders, and of changes of them
abbrev pub folders : Json
folders =
    object (member (codes "workspaceFolders") (object (member (codes "changeNotifications") (boolean true) (member (codes "supported") (boolean true) no_members))) no_members)

abbrev pub capabilities : Encoding → Json
capabilities e =
    object (member (codes "positionEncoding") (string (encoding_name e)) (member (codes "textDocumentSync") text_sync (member (codes "workspace") folders no_members)))

abbrev pub initialize_result : Encoding → (version : List ℕ) → Json
initialize_result e version =
    object (member (codes "capabilities") (capabilities e) (member (codes "serverInfo")
    (object (member (codes "name") (string (codes "zutkrad")) (member (codes "version") (string version) no_members))) no_members))

-- ---- the request that an editor tells of changes of files

abbrev pub watcher : (pattern : List ℕ) → Json
watcher pattern = object (member (codes "globPattern") (string pattern) no_members)

-- of those that say a configuration, by their names
abbrev pub watchers : Json
watchers =
    object (member (codes "watchers")
    (array (items_of (watcher (codes "**/.yamllint") ∷ watcher (codes "**/.yamllint.yaml") ∷ watcher (codes "**/.yamllint.yml") ∷ []))) no_members)

abbrev pub registration : Json
registration =
    object (member (codes "id") (string (codes "configurations")) (member (codes "method") (string (codes "workspace/didChangeWatchedFiles"))
    (member (codes "registerOptions") watchers no_members)))

abbrev pub watch_request : Json
watch_request =
    object (member (codes "id") (string (codes "configurations")) (member (codes "jsonrpc") (string (codes "2.0"))
    (member (codes "method") (string (codes "client/registerCapability"))
    (member (codes "params") (object (member (codes "registrations") (array (items_of (registration ∷ []))) no_members)) no_members))))
