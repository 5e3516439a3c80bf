-- Meaning: the server as a machine: what each event makes of it, and what it sends.
use Rattle.std.specs.Prelude.{ℕ, if◌then◌else◌, Bool, false, List, [], ◌∷◌, ◌++◌, map, codes, Option, Some, None, is_some, unwrap_or}
use Rattle.std.specs.Option.{option_map_or}
use Rattle.json.specs.Json.{Json}
use Rattle.yl_units.specs.declared.encoding.Encoding.TheVariants.{Utf16}
use Rattle.yl_config.specs.declared.config.Config.{Config}
use Rattle.yl_rpc.specs.declared.answers.Code.{Code}
use Rattle.yl_rpc.specs.declared.answers.Code.TheVariants.{ParseError, InvalidRequest, MethodNotFound, InvalidParams, InternalError, ServerNotInitialized}
use Rattle.yl_rpc.specs.Calls.{CallValue, Request, Notification, Response, Invalid, IdValue, Null}
use Rattle.yl_lsp.specs.declared.presentation.TheConstants.{MOST_PROBLEMS}
use Rattle.yl_lsp.specs.declared.presentation.Presentation.{Presentation}
use Rattle.yl_lsp.specs.Params.{OpenedValue, encoding_in, takes_links, takes_watchers, first_settings}
use Rattle.yl_workspace.specs.declared.cause.Cause.TheVariants.{BadChange, Missed}
use Rattle.yl_workspace.specs.Documents.{DocumentValue, all_lost, changed, closed, document_at, lost, opened}
use Rattle.yl_server.specs.declared.governed.Governed.{Governed}
use Rattle.yl_server.specs.declared.phase.Phase.{Phase}
use Rattle.yl_server.specs.declared.phase.Phase.TheVariants.{Waiting, Running, Stopped}
use Rattle.yl_server.specs.Events.{Came, Read, NoJson, Dropped, Event}
use Rattle.yl_server.specs.Folders.{config_at_first, fault_anew, fault_at_first, first_fault, governed_each, is_changed, judged_anew}
use Rattle.yl_server.specs.Messages.{MessageValue, Initialized, Done, Refused, Published, Told, Watches, Shown, Cleared}
use Rattle.yl_server.specs.Requests.{RequestValue, Initialize, Shutdown, Unknown, request_of, object_of, NoticeValue, Opens, Changes, Spoils, Closes, Sets, Starts, Refreshes, Exits, Passed, notice_of}
use Rattle.yl_server.specs.declared.settings.Setting.{Setting}
use Rattle.yl_server.specs.declared.settings.Setting.TheVariants.{Set, Faulty}
use Rattle.yl_server.specs.declared.settings.SettingFault.{SettingFault}
use Rattle.yl_server.specs.declared.settings.SettingFault.TheVariants as fault
use Rattle.yl_server.specs.Settings.{file_named, setting_found, setting_of, setting_words}

pub record ServerValue : Type 0 where
  pub phase : Phase
  pub how : Presentation  -- how problems are shown
  pub watches : Bool  -- the editor tells of changes of files, where it is asked to
  pub standard : Config  -- by which a document is judged where nothing else is found
  pub config : Option Config  -- that the settings name. None: each document is judged by what the files of its folder say
  pub file : Option (List ℕ)  -- the file that says it, where the settings name one
  pub documents : List DocumentValue  -- those that are open

-- before the first event
abbrev pub started : Config → ServerValue
started standard = record {
  phase = Waiting;
  how = record { encoding = Utf16; links = false; most = MOST_PROBLEMS };
  watches = false;
  standard = standard;
  config = None;
  file = None;
  documents = [];
}

-- what becomes of a server, and what it sends
abbrev pub Stepped : Type 0
Stepped = ServerValue × List MessageValue

abbrev pub quiet : ServerValue → Stepped
quiet s = (s, [])

-- ---- words for people

abbrev pub memory_words : List ℕ
memory_words = codes "out of memory"

abbrev pub no_json_words : List ℕ
no_json_words = codes "the message is no JSON"

abbrev pub no_request_words : List ℕ
no_request_words = codes "the message is no request and no notification"

abbrev pub waiting_words : List ℕ
waiting_words = codes "the server waits for initialize"

abbrev pub initialized_words : List ℕ
initialized_words = codes "the server is initialized"

abbrev pub stopped_words : List ℕ
stopped_words = codes "the server is shut down"

abbrev pub unknown_words : List ℕ
unknown_words = codes "the server has no such method"

abbrev pub params_words : List ℕ
params_words = codes "the params are no object"

-- ---- documents

-- what is told of a document
abbrev pub told_of : (uri : List ℕ) → ServerValue → MessageValue
told_of uri s = Published uri (option_map_or (Shown s.how) (document_at uri s.documents) Cleared)

-- of all that are open
abbrev pub told_of_all : ServerValue → List MessageValue
told_of_all s = map (λ d. Published d.uri (Shown s.how d)) s.documents

abbrev pub with_documents : List DocumentValue → ServerValue → ServerValue
with_documents ds s = record s { documents = ds }

-- one document is another, and that is told
abbrev pub told_with : (uri : List ℕ) → List DocumentValue → ServerValue → Stepped
told_with uri ds s = (with_documents ds s, told_of uri (with_documents ds s) ∷ [])

-- so if it is open
abbrev pub told_if_open : (uri : List ℕ) → List DocumentValue → ServerValue → Stepped
told_if_open uri ds s = if is_some (document_at uri s.documents) then told_with uri ds s else quiet s

-- what is wrong with settings, or with what files say, is told
abbrev pub told_fault : Option SettingFault → List MessageValue
told_fault None = []
told_fault (Some f) = Told (setting_words f) ∷ []

-- a document that could not be entered is not open, and its user is told
abbrev pub opened_by : Event → OpenedValue → ServerValue → Stepped
opened_by e o s =
    let ds = opened (config_at_first s.standard s.config e.governed) e.granted o s.documents in
    let f = if is_some (document_at o.uri ds) then fault_at_first s.config e.governed else Some fault.Memory in
    (with_documents ds s, told_of o.uri (with_documents ds s) ∷ told_fault f)

-- no text is known any more: a body was not read, which may have been a change
abbrev pub missed : (answer : MessageValue) → ServerValue → Stepped
missed answer s = let new = with_documents (all_lost Missed s.documents) s in (new, answer ∷ told_of_all new)

abbrev pub not_read : Code → (words : List ℕ) → MessageValue
not_read code words = Refused Null code words

abbrev pub missed_for_memory : ServerValue → Stepped
missed_for_memory = missed (not_read InternalError memory_words)

-- ---- settings

abbrev pub with_most : Option ℕ → Presentation → Presentation
with_most most how = record how { most = unwrap_or most how.most }

-- a configuration that is said by a file comes with its path. All documents are judged anew, by what is found for each where none is set
abbrev pub with_setting : List Bool → List Governed → (config : Option Config) → (file : Option (List ℕ)) → (most : Option ℕ) → ServerValue → ServerValue
with_setting granted found config file most s = record s {
  how = with_most most s.how;
  config = config;
  file = file;
  documents = judged_anew config found granted s.documents;
}

abbrev pub set_by : Event → (file : Option (List ℕ)) → Setting → ServerValue → Stepped
set_by e file (Set config most) s =
    let new = with_setting e.granted e.governed config file most s in (new, told_of_all new ++ told_fault (fault_anew config e.governed))
set_by e file (Faulty f) s = (s, told_fault (Some f))

-- other settings than those of this program are passed over
abbrev pub set_with : Event → Option Json → ServerValue → Stepped
set_with e None s = quiet s
set_with e (Some j) s = set_by e (file_named (Some j)) (setting_of e.found (Some j)) s

-- it is read again, if a file says it
abbrev pub read_again : Event → (file : Option (List ℕ)) → ServerValue → Stepped
read_again e None s = quiet s
read_again e (Some path) s = set_by e (Some path) (setting_found e.found None) s

-- each document is judged by what is found for it now. Where that is the same for all, none is told of
abbrev pub governed_by : Event → ServerValue → Stepped
governed_by e s =
    let new = with_documents (governed_each e.governed e.granted s.documents) s in
    (new, (if is_changed e.governed then told_of_all new else []) ++ told_fault (first_fault e.governed))

-- files may be others than they were
abbrev pub refreshed_by : Event → (config : Option Config) → ServerValue → Stepped
refreshed_by e None s = governed_by e s
refreshed_by e (Some c) s = read_again e s.file s

-- ---- requests

abbrev pub initialized : Json → ServerValue → ServerValue
initialized j s = record s { phase = Running; how = record { encoding = encoding_in j; links = takes_links j; most = s.how.most }; watches = takes_watchers j }

-- no document is open before `initialize`
abbrev pub initialized_by : Event → (id : IdValue) → Json → (file : Option (List ℕ)) → Setting → ServerValue → Stepped
initialized_by e id j file (Set config most) s =
    (with_setting e.granted e.governed config file most (initialized j s), Initialized id (encoding_in j) ∷ [])
initialized_by e id j file (Faulty fault.Memory) s = (s, Refused id InternalError memory_words ∷ [])
initialized_by e id j file (Faulty f) s = (initialized j s, Initialized id (encoding_in j) ∷ told_fault (Some f))

abbrev pub initialized_with : Event → (id : IdValue) → Option Json → ServerValue → Stepped
initialized_with e id None s = (s, Refused id InvalidParams params_words ∷ [])
initialized_with e id (Some j) s = initialized_by e id j (file_named (first_settings j)) (setting_of e.found (first_settings j)) s

abbrev pub answered_waiting : Event → (id : IdValue) → RequestValue → ServerValue → Stepped
answered_waiting e id (Initialize params) s = initialized_with e id (object_of params) s
answered_waiting e id _ s = (s, Refused id ServerNotInitialized waiting_words ∷ [])

abbrev pub answered_running : (id : IdValue) → RequestValue → ServerValue → Stepped
answered_running id (Initialize params) s = (s, Refused id InvalidRequest initialized_words ∷ [])
answered_running id Shutdown s = (record s { phase = Stopped }, Done id ∷ [])
answered_running id Unknown s = (s, Refused id MethodNotFound unknown_words ∷ [])

abbrev pub answered : Event → (id : IdValue) → RequestValue → Phase → ServerValue → Stepped
answered e id request Waiting s = answered_waiting e id request s
answered e id request Running s = answered_running id request s
answered e id request Stopped s = (s, Refused id InvalidRequest stopped_words ∷ [])

-- ---- notifications

abbrev pub noticed_running : Event → NoticeValue → ServerValue → Stepped
noticed_running e (Opens o) s = opened_by e o s
noticed_running e (Changes uri version cs) s = told_if_open uri (changed s.how.encoding e.granted uri version cs s.documents) s
noticed_running e (Spoils uri) s = told_if_open uri (lost BadChange uri s.documents) s
noticed_running e (Closes uri) s = told_if_open uri (closed uri s.documents) s
noticed_running e (Sets settings) s = set_with e settings s
noticed_running e Starts s = (s, if s.watches then Watches ∷ [] else [])
noticed_running e Refreshes s = refreshed_by e s.config s
noticed_running e Exits s = quiet s
noticed_running e Passed s = quiet s

-- before `initialize` and after `shutdown` they are passed over
abbrev pub noticed : Event → NoticeValue → Phase → ServerValue → Stepped
noticed e notice Waiting s = quiet s
noticed e notice Running s = noticed_running e notice s
noticed e notice Stopped s = quiet s

-- ---- events

abbrev pub called : Event → CallValue → ServerValue → Stepped
called e (Request id method params) s = answered e id (request_of method params) s.phase s
called e (Notification method params) s = noticed e (notice_of method params) s.phase s
called e Response s = quiet s
called e (Invalid id) s = (s, Refused id InvalidRequest no_request_words ∷ [])

abbrev pub stepped : Event → Came → ServerValue → Stepped
stepped e (Read call) s = called e call s
stepped e NoJson s = missed (not_read ParseError no_json_words) s
stepped e Dropped s = missed_for_memory s

-- an event makes this of a server, and this is sent
unfoldable pub step : Event → ServerValue → Stepped
step e s = stepped e e.came s

-- what events make of it
abbrev pub after : List Event → ServerValue → ServerValue
after [] s = s
after (e ∷ es) s = after es (step e s).0

-- and all that is sent
abbrev pub sent : List Event → ServerValue → List MessageValue
sent [] s = []
sent (e ∷ es) s = (step e s).1 ++ sent es (step e s).0

-- ---- the end

abbrev pub status_in : Phase → ℕ
status_in Stopped = 0
status_in _ = 1

abbrev pub exit_by : NoticeValue → Phase → Option ℕ
exit_by Exits phase = Some (status_in phase)
exit_by _ phase = None

abbrev pub exit_of : Came → Phase → Option ℕ
exit_of (Read (Notification method params)) phase = exit_by (notice_of method params) phase
exit_of _ phase = None
