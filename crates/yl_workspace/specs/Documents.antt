-- Meaning: the documents that an editor has open (LSP 3.17, 'Text Document Synchronization'), in the order in which they were opened, and
-- what each event leaves of them. `grants` are the answers to what an event asks memory for.
use Rattle.std.specs.Prelude.{ℕ, zero, suc, Bool, true, false, not, if◌then◌else◌, List, [], ◌∷◌, drop, map, bytes_eq, Option, Some, None}
use Rattle.std.specs.List.{filter}
use Rattle.yl_units.specs.declared.encoding.Encoding.{Encoding}
use Rattle.yl_lsp.specs.Params.{ChangeValue, OpenedValue}
use Rattle.yl_config.specs.declared.config.Config.{Config}
use Rattle.yl_workspace.specs.declared.cause.Cause.{Cause}
use Rattle.yl_workspace.specs.declared.cause.Cause.TheVariants.{OutOfMemory}
use Rattle.yl_workspace.specs.Changes.{TextValue, Followed, Lost, within_bounds, followed_if, is_granted, text_after_changes}

pub record DocumentValue : Type 0 where
  pub uri : List ℕ
  pub version : List ℕ  -- the number as it came
  pub config : Option Config  -- by which it is judged. None: it is ignored, and nothing is told of its text
  pub text : TextValue

-- the first document of a URI
abbrev pub document_at : List ℕ → List DocumentValue → Option DocumentValue
document_at uri [] = None
document_at uri (d ∷ ds) = if bytes_eq d.uri uri then Some d else document_at uri ds

-- the documents with another in place of the first one of a URI
abbrev pub with_document : List ℕ → (DocumentValue → DocumentValue) → List DocumentValue → List DocumentValue
with_document uri other [] = []
with_document uri other (d ∷ ds) = if bytes_eq d.uri uri then other d ∷ ds else d ∷ with_document uri other ds

-- with another in place of the one at an index
abbrev pub with_document_at : ℕ → (DocumentValue → DocumentValue) → List DocumentValue → List DocumentValue
with_document_at i other [] = []
with_document_at zero other (d ∷ ds) = other d ∷ ds
with_document_at (suc i) other (d ∷ ds) = d ∷ with_document_at i other ds

-- ---- lost

abbrev pub lost_document : Cause → DocumentValue → DocumentValue
lost_document cause d = record d { text = Lost cause }

abbrev pub lost : Cause → List ℕ → List DocumentValue → List DocumentValue
lost cause uri ds = with_document uri (lost_document cause) ds

abbrev pub all_lost : Cause → List DocumentValue → List DocumentValue
all_lost cause ds = map (lost_document cause) ds

-- ---- opened and closed

abbrev pub opened_document : Option Config → Bool → OpenedValue → DocumentValue
opened_document config granted o =
    record { uri = o.uri; version = o.version; config = config; text = followed_if granted (within_bounds o.text) }

-- in place of the one that is open, else at the end
abbrev pub put_document : DocumentValue → List DocumentValue → List DocumentValue
put_document new [] = new ∷ []
put_document new (d ∷ ds) = if bytes_eq d.uri new.uri then new ∷ ds else d ∷ put_document new ds

-- memory is asked for what is written down of the document, and then for its text. Where the first is refused, the text that may be open
-- is not the editor's any more
abbrev pub opened : Option Config → List Bool → OpenedValue → List DocumentValue → List DocumentValue
opened config grants o ds =
    if is_granted grants then put_document (opened_document config (is_granted (drop 1 grants)) o) ds else lost OutOfMemory o.uri ds

abbrev pub closed : List ℕ → List DocumentValue → List DocumentValue
closed uri ds = filter (λ d. not (bytes_eq d.uri uri)) ds

-- ---- changed

-- memory is asked for the version, and then for each change
abbrev pub changed_document : Encoding → List Bool → List ℕ → List ChangeValue → DocumentValue → DocumentValue
changed_document e grants version changes d =
    if is_granted grants
    then record d { version = version; text = text_after_changes e (drop 1 grants) d.text changes }
    else lost_document OutOfMemory d

abbrev pub changed : Encoding → List Bool → List ℕ → List ℕ → List ChangeValue → List DocumentValue → List DocumentValue
changed e grants uri version changes ds = with_document uri (changed_document e grants version changes) ds

-- ---- judged by another configuration

abbrev pub text_judged : Bool → TextValue → TextValue
text_judged granted (Lost cause) = Lost cause
text_judged true (Followed text) = Followed text
text_judged false (Followed text) = Lost OutOfMemory

abbrev pub configured_document : Option Config → Bool → DocumentValue → DocumentValue
configured_document config granted d = record d { config = config; text = text_judged granted d.text }

-- the text of one that is ignored is followed all the same
abbrev pub configured_at : ℕ → Option Config → Bool → List DocumentValue → List DocumentValue
configured_at i config granted ds = with_document_at i (configured_document config granted) ds

-- memory is asked for once for each document
abbrev pub configured : Option Config → List Bool → List DocumentValue → List DocumentValue
configured config grants [] = []
configured config grants (d ∷ ds) = configured_document config (is_granted grants) d ∷ configured config (drop 1 grants) ds
