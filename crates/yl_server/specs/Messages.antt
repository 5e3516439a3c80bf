-- Meaning: what a server sends: answers to requests, what it tells of documents, and what it tells its user.
use Rattle.std.specs.Prelude.{ℕ, if◌then◌else◌, List, [], ◌∷◌, ◌++◌, bytes_eq, Option, Some, None}
use Rattle.yl_units.specs.declared.encoding.Encoding.{Encoding}
use Rattle.yl_rpc.specs.declared.answers.Code.{Code}
use Rattle.yl_rpc.specs.Calls.{IdValue}
use Rattle.yl_lsp.specs.declared.presentation.Presentation.{Presentation}
use Rattle.yl_workspace.specs.Documents.{DocumentValue}
use Rattle.yl_server.specs.Events.{listed}

-- the problems of a document, shown so; or none, since it is not open
pub data ContentValue : Type 0 where
  Shown : Presentation → DocumentValue → ContentValue
  Cleared : ContentValue

pub data MessageValue : Type 0 where
  Initialized : (id : IdValue) → Encoding → MessageValue  -- the answer to `initialize`
  Done : (id : IdValue) → MessageValue  -- the answer to `shutdown`
  Refused : (id : IdValue) → Code → (words : List ℕ) → MessageValue
  Published : (uri : List ℕ) → ContentValue → MessageValue
  Told : (words : List ℕ) → MessageValue
  Watches : MessageValue  -- the request that the editor tells of changes of files

-- the id of an answer
abbrev pub answered_id : MessageValue → Option IdValue
answered_id (Initialized id encoding) = Some id
answered_id (Done id) = Some id
answered_id (Refused id code words) = Some id
answered_id (Published uri content) = None
answered_id (Told words) = None
answered_id Watches = None

abbrev pub answered_ids : List MessageValue → List IdValue
answered_ids [] = []
answered_ids (m ∷ ms) = listed (answered_id m) ++ answered_ids ms

-- what a message tells of the document with this URI
abbrev pub content_in : (uri : List ℕ) → MessageValue → Option ContentValue
content_in uri (Published of content) = if bytes_eq of uri then Some content else None
content_in uri _ = None

abbrev pub later : {A : Type 0} → Option A → Option A → Option A
later earlier None = earlier
later earlier (Some x) = Some x

-- what is told last of it
abbrev pub last_content : (uri : List ℕ) → List MessageValue → Option ContentValue
last_content uri [] = None
last_content uri (m ∷ ms) = later (content_in uri m) (last_content uri ms)
