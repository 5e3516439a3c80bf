-- Each body is answered as it asks.
use Rattle.std.proofs.Common.{◌≡◌, ℕ, Bool, true, false, cond, List, [], ◌∷◌, ◌++◌, map, Option, None, Some, is_some, refl, ap, sym, ◌∙◌, append_assoc}
use Rattle.json.specs.Json.{Json}
use Rattle.yl_rpc.specs.Calls.{IdValue, Null, Request, Notification, Response, Invalid}
use Rattle.yl_lsp.specs.declared.presentation.Presentation.{Presentation}
use Rattle.yl_lsp.specs.Params.{first_settings}
use Rattle.yl_workspace.specs.declared.cause.Cause.TheVariants.{BadChange, Missed}
use Rattle.yl_workspace.specs.Documents.{DocumentValue, all_lost, changed, closed, document_at, lost, opened}
use Rattle.yl_config.specs.declared.config.Config.{Config}
use Rattle.yl_server.specs.declared.phase.Phase.{Phase}
use Rattle.yl_server.specs.declared.phase.Phase.TheVariants.{Waiting, Running, Stopped}
use Rattle.yl_server.specs.Events.{Came, Read, NoJson, Dropped, Event, asked_id, asked_ids, listed}
use Rattle.yl_server.specs.Folders.{config_at_first, fault_anew, fault_at_first, first_fault, governed_each, is_changed, judged_anew}
use Rattle.yl_server.specs.Messages.{MessageValue, Published, Watches, Shown, answered_id, answered_ids}
use Rattle.yl_server.specs.Requests.{RequestValue, Initialize, Shutdown, Unknown, request_of, object_of, NoticeValue, Opens, Changes, Spoils, Closes, Sets, Starts, Refreshes, Exits, Passed, notice_of}
use Rattle.yl_server.specs.declared.settings.Setting.{Setting}
use Rattle.yl_server.specs.declared.settings.Setting.TheVariants.{Set, Faulty}
use Rattle.yl_server.specs.declared.settings.SettingFault.{SettingFault}
use Rattle.yl_server.specs.declared.settings.SettingFault.TheVariants as fault
use Rattle.yl_server.specs.Settings.{file_named, setting_found, setting_of}
use Rattle.yl_server.specs.Machine.{ServerValue, answered, initialized_by, initialized_with, noticed, noticed_running, quiet, read_again, refreshed_by, sent, set_by, set_with, step, stepped, told_fault, told_with, with_most}

answered_append : (xs ys : List MessageValue) → answered_ids (xs ++ ys) ≡ answered_ids xs ++ answered_ids ys
answered_append [] ys = refl
answered_append (m ∷ ms) ys =
    ap (λ l. listed (answered_id m) ++ l) (answered_append ms ys) ∙ sym (append_assoc (listed (answered_id m)) (answered_ids ms) (answered_ids ys))

-- a publication is no answer
none_answered : (how : Presentation) (ds : List DocumentValue) → answered_ids (map (λ d. Published d.uri (Shown how d)) ds) ≡ []
none_answered how [] = refl
none_answered how (d ∷ ds) = none_answered how ds

none_told : (f : Option SettingFault) → answered_ids (told_fault f) ≡ []
none_told None = refl
none_told (Some f) = refl

-- nor is what is told of all documents, and then of a fault
none_in_all : (how : Presentation) (ds : List DocumentValue) (f : Option SettingFault) → answered_ids (map (λ d. Published d.uri (Shown how d)) ds ++ told_fault f) ≡ []
none_in_all how ds f = answered_append (map (λ d. Published d.uri (Shown how d)) ds) (told_fault f) ∙ (ap (λ l. l ++ answered_ids (told_fault f)) (none_answered how ds) ∙ none_told f)

none_if_changed : (how : Presentation) (ds : List DocumentValue) (f : Option SettingFault) (b : Bool) → answered_ids (cond b (map (λ d. Published d.uri (Shown how d)) ds) [] ++ told_fault f) ≡ []
none_if_changed how ds f true = none_in_all how ds f
none_if_changed how ds f false = none_told f

by_setting : (e : Event) (id : IdValue) (j : Json) (file : Option (List ℕ)) (x : Setting) (s : ServerValue) → answered_ids (initialized_by e id j file x s).1 ≡ id ∷ []
by_setting e id j file (Set config most) s = refl
by_setting e id j file (Faulty fault.Memory) s = refl
by_setting e id j file (Faulty fault.Shape) s = refl
by_setting e id j file (Faulty fault.Unreadable) s = refl
by_setting e id j file (Faulty (fault.Refused f)) s = refl

by_params : (e : Event) (id : IdValue) (params : Option Json) (s : ServerValue) → answered_ids (initialized_with e id params s).1 ≡ id ∷ []
by_params e id None s = refl
by_params e id (Some j) s = by_setting e id j (file_named (first_settings j)) (setting_of e.found (first_settings j)) s

by_request : (e : Event) (id : IdValue) (r : RequestValue) (p : Phase) (s : ServerValue) → answered_ids (answered e id r p s).1 ≡ id ∷ []
by_request e id (Initialize params) Waiting s = by_params e id (object_of params) s
by_request e id Shutdown Waiting s = refl
by_request e id Unknown Waiting s = refl
by_request e id (Initialize params) Running s = refl
by_request e id Shutdown Running s = refl
by_request e id Unknown Running s = refl
by_request e id r Stopped s = refl

if_open : (uri : List ℕ) (ds : List DocumentValue) (s : ServerValue) (b : Bool) → answered_ids (cond b (told_with uri ds s) (quiet s)).1 ≡ []
if_open uri ds s true = refl
if_open uri ds s false = refl

of_setting : (e : Event) (file : Option (List ℕ)) (x : Setting) (s : ServerValue) → answered_ids (set_by e file x s).1 ≡ []
of_setting e file (Set config most) s = none_in_all (with_most most s.how) (judged_anew config e.governed e.granted s.documents) (fault_anew config e.governed)
of_setting e file (Faulty f) s = refl

of_settings : (e : Event) (settings : Option Json) (s : ServerValue) → answered_ids (set_with e settings s).1 ≡ []
of_settings e None s = refl
of_settings e (Some j) s = of_setting e (file_named (Some j)) (setting_of e.found (Some j)) s

of_reading : (e : Event) (file : Option (List ℕ)) (s : ServerValue) → answered_ids (read_again e file s).1 ≡ []
of_reading e None s = refl
of_reading e (Some path) s = of_setting e (Some path) (setting_found e.found None) s

of_refresh : (e : Event) (config : Option Config) (s : ServerValue) → answered_ids (refreshed_by e config s).1 ≡ []
of_refresh e None s = none_if_changed s.how (governed_each e.governed e.granted s.documents) (first_fault e.governed) (is_changed e.governed)
of_refresh e (Some c) s = of_reading e s.file s

of_start : (watches : Bool) → answered_ids (cond watches (Watches ∷ []) []) ≡ []
of_start true = refl
of_start false = refl

of_notice_running : (e : Event) (n : NoticeValue) (s : ServerValue) → answered_ids (noticed_running e n s).1 ≡ []
of_notice_running e (Opens o) s =
    let ds = opened (config_at_first s.standard s.config e.governed) e.granted o s.documents in
    none_told (cond (is_some (document_at o.uri ds)) (fault_at_first s.config e.governed) (Some fault.Memory))
of_notice_running e (Changes uri version cs) s = if_open uri (changed s.how.encoding e.granted uri version cs s.documents) s (is_some (document_at uri s.documents))
of_notice_running e (Spoils uri) s = if_open uri (lost BadChange uri s.documents) s (is_some (document_at uri s.documents))
of_notice_running e (Closes uri) s = if_open uri (closed uri s.documents) s (is_some (document_at uri s.documents))
of_notice_running e (Sets settings) s = of_settings e settings s
of_notice_running e Starts s = of_start s.watches
of_notice_running e Refreshes s = of_refresh e s.config s
of_notice_running e Exits s = refl
of_notice_running e Passed s = refl

of_notice : (e : Event) (n : NoticeValue) (p : Phase) (s : ServerValue) → answered_ids (noticed e n p s).1 ≡ []
of_notice e n Waiting s = refl
of_notice e n Running s = of_notice_running e n s
of_notice e n Stopped s = refl

by_body : (e : Event) (came : Came) (s : ServerValue) → answered_ids (stepped e came s).1 ≡ listed (asked_id came)
by_body e (Read (Request id method params)) s = by_request e id (request_of method params) s.phase s
by_body e (Read (Notification method params)) s = of_notice e (notice_of method params) s.phase s
by_body e (Read Response) s = refl
by_body e (Read (Invalid id)) s = refl
by_body e NoJson s = ap (λ l. Null ∷ l) (none_answered s.how (all_lost Missed s.documents))
by_body e Dropped s = ap (λ l. Null ∷ l) (none_answered s.how (all_lost Missed s.documents))

by_step : (e : Event) (s : ServerValue) → answered_ids (step e s).1 ≡ listed (asked_id e.came)
unfolding step
by_step e s = by_body e e.came s

pub all_answered : (es : List Event) (s : ServerValue) → answered_ids (sent es s) ≡ asked_ids es
all_answered [] s = refl
all_answered (e ∷ es) s =
    answered_append (step e s).1 (sent es (step e s).0) ∙ (ap (λ l. l ++ answered_ids (sent es (step e s).0)) (by_step e s) ∙ ap (λ l. listed (asked_id e.came) ++ l) (all_answered es (step e s).0))
