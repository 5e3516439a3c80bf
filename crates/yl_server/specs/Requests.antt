-- Meaning: what a request and a notification ask a server for, by their methods (LSP 3.17).
use Rattle.std.specs.Prelude.{ℕ, ◌||◌, Bool, List, if◌then◌else◌, codes, bytes_eq, Option, Some, None, option_and_then, is_some, unwrap_or}
use Rattle.std.specs.Option.{option_map_or}
use Rattle.json.specs.Json.{Json}
use Rattle.json.specs.Find.{as_object}
use Rattle.yl_lsp.specs.Params.{OpenedValue, ChangeValue, changed_settings, changes_in, document_in, opened_in, version_in}

-- ---- requests

pub data RequestValue : Type 0 where
  Initialize : (params : Option Json) → RequestValue
  Shutdown : RequestValue
  Unknown : RequestValue

abbrev pub request_of : (method : List ℕ) → Option Json → RequestValue
request_of method params =
    if bytes_eq method (codes "initialize") then Initialize params else (if bytes_eq method (codes "shutdown") then Shutdown else Unknown)

-- the params of a request that are an object
abbrev pub object_of : Option Json → Option Json
object_of params = option_and_then (λ j. if is_some (as_object j) then Some j else None) params

-- ---- notifications

pub data NoticeValue : Type 0 where
  Opens : OpenedValue → NoticeValue
  Changes : (uri version : List ℕ) → List ChangeValue → NoticeValue
  Spoils : (uri : List ℕ) → NoticeValue  -- of the shape of no change, it changes a text all the same
  Closes : (uri : List ℕ) → NoticeValue
  Sets : (settings : Option Json) → NoticeValue
  Starts : NoticeValue  -- the editor took the answer to `initialize`
  Refreshes : NoticeValue  -- files may be others than they were
  Exits : NoticeValue
  Passed : NoticeValue  -- it asks for nothing that a server does

abbrev pub spoils : Json → NoticeValue
spoils j = option_map_or Spoils (document_in j) Passed

abbrev pub opens : Json → NoticeValue
opens j = option_map_or Opens (opened_in j) (spoils j)

abbrev pub changes_to : (uri : Option (List ℕ)) → (version : Option (List ℕ)) → List ChangeValue → Option NoticeValue
changes_to (Some uri) (Some version) cs = Some (Changes uri version cs)
changes_to _ _ cs = None

abbrev pub changes : Json → NoticeValue
changes j = unwrap_or (changes_to (document_in j) (version_in j) (changes_in j)) (spoils j)

abbrev pub closes : Json → NoticeValue
closes j = option_map_or Closes (document_in j) Passed

-- a text was saved, files changed that are watched, or the editor has other folders
abbrev pub tells_of_files : (method : List ℕ) → Bool
tells_of_files method =
    bytes_eq method (codes "textDocument/didSave") || bytes_eq method (codes "workspace/didChangeWatchedFiles")
    || bytes_eq method (codes "workspace/didChangeWorkspaceFolders")

abbrev pub notice_with : (method : List ℕ) → Json → NoticeValue
notice_with method j =
    if bytes_eq method (codes "textDocument/didOpen") then opens j
    else (if bytes_eq method (codes "textDocument/didChange") then changes j
    else (if bytes_eq method (codes "textDocument/didClose") then closes j
    else (if bytes_eq method (codes "workspace/didChangeConfiguration") then Sets (changed_settings j)
    else (if bytes_eq method (codes "initialized") then Starts
    else (if tells_of_files method then Refreshes else Passed)))))

abbrev pub notice_of : (method : List ℕ) → Option Json → NoticeValue
notice_of method params = if bytes_eq method (codes "exit") then Exits else option_map_or (notice_with method) params Passed
