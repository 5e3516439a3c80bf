-- What was told last of each document are its problems as it is.
use Rattle.std.proofs.Common.{◌≡◌, ℕ, Bool, true, false, cond, List, [], ◌∷◌, ◌++◌, map, Option, None, Some, is_some, IfSome, MatchOption, refl, ap, sym, ◌∙◌, subst, append-nil, append_assoc}
use Rattle.std.specs.Prelude.{bytes_eq}
use Rattle.std.specs.Option.{option_map, option_map_or}
use Rattle.json.specs.Json.{Json}
use Rattle.yl_config.specs.declared.config.Config.{Config}
use Rattle.yl_lsp.specs.Params.{first_settings}
use Rattle.yl_rpc.specs.Calls.{IdValue, Request, Notification, Response, Invalid}
use Rattle.yl_workspace.specs.declared.cause.Cause.TheVariants.{BadChange, Missed}
use Rattle.yl_workspace.specs.Documents.{DocumentValue, all_lost, changed, changed_document, closed, document_at, lost, lost_document, opened}
use Rattle.yl_server.specs.declared.governed.Governed.{Governed}
use Rattle.yl_server.specs.declared.phase.Phase.{Phase}
use Rattle.yl_server.specs.declared.phase.Phase.TheVariants.{Waiting, Running, Stopped}
use Rattle.yl_server.specs.Events.{Came, Read, NoJson, Dropped, Event}
use Rattle.yl_server.specs.Folders.{config_at_first, fault_anew, fault_at_first, first_fault, governed_each, is_changed, judged_anew}
use Rattle.yl_server.specs.Messages.{ContentValue, Shown, Cleared, MessageValue, Published, Watches, content_in, last_content, later}
use Rattle.yl_server.specs.Requests.{RequestValue, Initialize, Shutdown, Unknown, request_of, object_of, NoticeValue, Opens, Changes, Spoils, Closes, Sets, Starts, Refreshes, Exits, Passed, notice_of}
use Rattle.yl_server.specs.declared.settings.Setting.{Setting}
use Rattle.yl_server.specs.declared.settings.Setting.TheVariants.{Set, Faulty}
use Rattle.yl_server.specs.declared.settings.SettingFault.{SettingFault}
use Rattle.yl_server.specs.declared.settings.SettingFault.TheVariants as fault
use Rattle.yl_server.specs.Settings.{file_named, setting_found, setting_of}
use Rattle.yl_server.specs.Machine.{ServerValue, Stepped, after, answered, initialized, initialized_by, initialized_with, missed, noticed, noticed_running, quiet, read_again, refreshed_by, sent, set_by, set_with, started, step, stepped, told_fault, told_of, told_of_all, told_with, with_documents, with_setting}
use Rattle.yl_server.proofs.Documents.{AreDistinct, AreSame, KeepsOthers, distinct_closed, distinct_opened, distinct_same, distinct_with, keeps_changed, keeps_lost, none_same, others_closed, others_opened, others_with, same_anew, same_back, same_each, same_lost, same_uri, unchanged}

later_none : {A : Type 0} (o : Option A) → later None o ≡ o
later_none None = refl
later_none (Some x) = refl

later_assoc : {A : Type 0} (a b c : Option A) → later a (later b c) ≡ later (later a b) c
later_assoc a b None = refl
later_assoc a b (Some x) = refl

last_append : (uri : List ℕ) (xs ys : List MessageValue) → last_content uri (xs ++ ys) ≡ later (last_content uri xs) (last_content uri ys)
last_append uri [] ys = sym (later_none (last_content uri ys))
last_append uri (m ∷ ms) ys = ap (later (content_in uri m)) (last_append uri ms ys) ∙ later_assoc (content_in uri m) (last_content uri ms) (last_content uri ys)

-- ---- what holds after each event

abbrev IsShown : ServerValue → Option ContentValue → Option DocumentValue → Type 0
IsShown s told found = MatchOption found (IfSome told (λ content. content ≡ Cleared)) (λ d. told ≡ Some (Shown s.how d))

pub record AllShown (s : ServerValue) (told : List MessageValue) : Type 0 where
  pub waiting : s.phase ≡ Waiting → s.documents ≡ []
  pub distinct : AreDistinct s.documents
  pub each : (uri : List ℕ) → IsShown s (last_content uri told) (document_at uri s.documents)

not_waiting : {A : Type 0} (p : Phase) → p ≡ Running → p ≡ Waiting → A
not_waiting p e f = absurd (running_waiting (sym e ∙ f))
  where
    running_waiting : Running ≡ Waiting → ⊥
    running_waiting e = cc

-- nothing is told of a document
abbrev TellsNone : List MessageValue → Type 0
TellsNone ms = (uri : List ℕ) → last_content uri ms ≡ None

untold : (s : ServerValue) (told ms : List MessageValue) → AllShown s told → TellsNone ms → AllShown s (told ++ ms)
untold s told ms g h = record {
  waiting = g.waiting;
  distinct = g.distinct;
  each = λ uri. subst (λ (o : Option ContentValue). IsShown s o (document_at uri s.documents)) (sym (last_append uri told ms ∙ ap (later (last_content uri told)) (h uri))) (g.each uri);
}

-- ---- one document

told_now : (s : ServerValue) (told : Option ContentValue) (found : Option DocumentValue) → IsShown s (later told (Some (option_map_or (Shown s.how) found Cleared))) found
told_now s told None = refl
told_now s told (Some d) = refl

one_of : (s : ServerValue) (uri v : List ℕ) (ds : List DocumentValue) (told : Option ContentValue) (b : Bool) → bytes_eq uri v ≡ b → KeepsOthers uri s.documents ds → IsShown s told (document_at v s.documents)
    → IsShown s (later told (cond b (Some (option_map_or (Shown s.how) (document_at uri ds) Cleared)) None)) (document_at v ds)
one_of s uri v ds told true e h g =
    subst (λ (w : List ℕ). IsShown s (later told (Some (option_map_or (Shown s.how) (document_at uri ds) Cleared))) (document_at w ds)) (same_uri uri v e) (told_now s told (document_at uri ds))
one_of s uri v ds told false e h g = subst (λ (found : Option DocumentValue). IsShown s told found) (sym (h v e)) g

shown_one : (s : ServerValue) (uri : List ℕ) (ds : List DocumentValue) (told ms : List MessageValue) → s.phase ≡ Running → KeepsOthers uri s.documents ds → AreDistinct ds → TellsNone ms → AllShown s told
    → AllShown (with_documents ds s) (told ++ (told_of uri (with_documents ds s) ∷ ms))
shown_one s uri ds told ms run others distinct none g =
    let m = told_of uri (with_documents ds s) in
    record {
      waiting = not_waiting s.phase run;
      distinct = distinct;
      each = λ v. subst (λ (o : Option ContentValue). IsShown s o (document_at v ds)) (sym (last_append v told (m ∷ ms) ∙ ap (λ o. later (last_content v told) (later (content_in v m) o)) (none v)))
          (one_of s uri v ds (last_content v told) (bytes_eq uri v) refl others (g.each v));
    }

shown_if_open : (s : ServerValue) (uri : List ℕ) (ds : List DocumentValue) (told : List MessageValue) (b : Bool) → s.phase ≡ Running → KeepsOthers uri s.documents ds → AreDistinct ds → AllShown s told
    → let t : Stepped = cond b (told_with uri ds s) (quiet s) in AllShown t.0 (told ++ t.1)
shown_if_open s uri ds told true run others distinct g = shown_one s uri ds told [] run others distinct (λ v. refl) g
shown_if_open s uri ds told false run others distinct g = untold s told [] g (λ v. refl)

-- a fault tells nothing of a document
fault_untold : (f : Option SettingFault) → TellsNone (told_fault f)
fault_untold None uri = refl
fault_untold (Some f) uri = refl

-- and what is told before it stays
then_fault : (uri : List ℕ) (ms : List MessageValue) (f : Option SettingFault) → last_content uri (ms ++ told_fault f) ≡ last_content uri ms
then_fault uri ms f = last_append uri ms (told_fault f) ∙ ap (later (last_content uri ms)) (fault_untold f uri)

-- ---- all documents

last_front : (s : ServerValue) (uri : List ℕ) (d : DocumentValue) (ds : List DocumentValue) (ms : List MessageValue) (b : Bool) → bytes_eq d.uri uri ≡ b → document_at d.uri ds ≡ None
    → last_content uri ms ≡ option_map (Shown s.how) (document_at uri ds)
    → later (cond b (Some (Shown s.how d)) None) (last_content uri ms) ≡ option_map (Shown s.how) (cond b (Some d) (document_at uri ds))
last_front s uri d ds ms true e n h = ap (later (Some (Shown s.how d))) (h ∙ ap (option_map (Shown s.how)) (ap (λ u. document_at u ds) (sym (same_uri d.uri uri e)) ∙ n))
last_front s uri d ds ms false e n h = later_none (last_content uri ms) ∙ h

last_of_all : (s : ServerValue) (uri : List ℕ) (ds : List DocumentValue) → AreDistinct ds
    → last_content uri (map (λ d. Published d.uri (Shown s.how d)) ds) ≡ option_map (Shown s.how) (document_at uri ds)
last_of_all s uri [] h = refl
last_of_all s uri (d ∷ ds) h = last_front s uri d ds (map (λ d. Published d.uri (Shown s.how d)) ds) (bytes_eq d.uri uri) refl h.0 (last_of_all s uri ds h.1)

cleared_if_none : (s : ServerValue) (told : Option ContentValue) (found : Option DocumentValue) → found ≡ None → IsShown s told found → IfSome told (λ content. content ≡ Cleared)
cleared_if_none s told found e h = subst (λ (o : Option DocumentValue). IsShown s told o) e h

all_of : (s t : ServerValue) (told : Option ContentValue) (old new : Option DocumentValue) → (new ≡ None → old ≡ None) → IsShown s told old → IsShown t (later told (option_map (Shown t.how) new)) new
all_of s t told old None h g = cleared_if_none s told old (h refl) g
all_of s t told old (Some d) h g = refl

-- all of the same documents are told
all_told : (s t : ServerValue) (told ms : List MessageValue) → (t.phase ≡ Waiting → t.documents ≡ []) → AreSame s.documents t.documents
    → ((uri : List ℕ) → last_content uri ms ≡ last_content uri (told_of_all t)) → AllShown s told → AllShown t (told ++ ms)
all_told s t told ms w same h g =
    let distinct = distinct_same s.documents t.documents same g.distinct in
    record {
      waiting = w;
      distinct = distinct;
      each = λ uri. subst (λ (o : Option ContentValue). IsShown t o (document_at uri t.documents))
          (sym (last_append uri told ms ∙ ap (later (last_content uri told)) (h uri ∙ last_of_all t uri t.documents distinct)))
          (all_of s t (last_content uri told) (document_at uri s.documents) (document_at uri t.documents) (none_same uri t.documents s.documents (same_back s.documents t.documents same)) (g.each uri));
    }

shown_missed : (s : ServerValue) (told : List MessageValue) (answer : MessageValue) → ((uri : List ℕ) → content_in uri answer ≡ None) → AllShown s told
    → AllShown (missed answer s).0 (told ++ (missed answer s).1)
shown_missed s told answer n g =
    let t = with_documents (all_lost Missed s.documents) s in
    all_told s t told (answer ∷ told_of_all t) (λ w. ap (all_lost Missed) (g.waiting w)) (same_lost Missed s.documents)
    (λ uri. ap (λ o. later o (last_content uri (told_of_all t))) (n uri) ∙ later_none (last_content uri (told_of_all t))) g

-- ---- settings

shown_set : (e : Event) (file : Option (List ℕ)) (x : Setting) (s : ServerValue) (told : List MessageValue) → s.phase ≡ Running → AllShown s told → AllShown (set_by e file x s).0 (told ++ (set_by e file x s).1)
shown_set e file (Set config most) s told run g =
    let t = with_setting e.granted e.governed config file most s in
    let f = fault_anew config e.governed in
    all_told s t told (told_of_all t ++ told_fault f) (not_waiting t.phase run) (same_anew config e.governed e.granted s.documents) (λ uri. then_fault uri (told_of_all t) f) g
shown_set e file (Faulty f) s told run g = untold s told _ g (λ uri. refl)

shown_set_with : (e : Event) (settings : Option Json) (s : ServerValue) (told : List MessageValue) → s.phase ≡ Running → AllShown s told → AllShown (set_with e settings s).0 (told ++ (set_with e settings s).1)
shown_set_with e None s told run g = untold s told _ g (λ uri. refl)
shown_set_with e (Some j) s told run g = shown_set e (file_named (Some j)) (setting_of e.found (Some j)) s told run g

shown_read : (e : Event) (file : Option (List ℕ)) (s : ServerValue) (told : List MessageValue) → s.phase ≡ Running → AllShown s told → AllShown (read_again e file s).0 (told ++ (read_again e file s).1)
shown_read e None s told run g = untold s told _ g (λ uri. refl)
shown_read e (Some path) s told run g = shown_set e (Some path) (setting_found e.found None) s told run g

-- ---- what is found of documents

-- where none is judged by another, they are those that were told of
shown_found : (found : List Governed) (grants : List Bool) (s : ServerValue) (told : List MessageValue) (f : Option SettingFault) (b : Bool) → is_changed found ≡ b → s.phase ≡ Running → AllShown s told
    → let t = with_documents (governed_each found grants s.documents) s in AllShown t (told ++ (cond b (told_of_all t) [] ++ told_fault f))
shown_found found grants s told f true c run g =
    let t = with_documents (governed_each found grants s.documents) s in
    all_told s t told (told_of_all t ++ told_fault f) (not_waiting t.phase run) (same_each found grants s.documents) (λ uri. then_fault uri (told_of_all t) f) g
shown_found found grants s told f false c run g =
    subst (λ (ds : List DocumentValue). AllShown (with_documents ds s) (told ++ told_fault f)) (sym (unchanged found grants s.documents c)) (untold s told (told_fault f) g (fault_untold f))

shown_refreshed : (e : Event) (config : Option Config) (s : ServerValue) (told : List MessageValue) → s.phase ≡ Running → AllShown s told → AllShown (refreshed_by e config s).0 (told ++ (refreshed_by e config s).1)
shown_refreshed e None s told run g = shown_found e.governed e.granted s told (first_fault e.governed) (is_changed e.governed) refl run g
shown_refreshed e (Some c) s told run g = shown_read e s.file s told run g

watch_untold : (watches : Bool) → TellsNone (cond watches (Watches ∷ []) [])
watch_untold true uri = refl
watch_untold false uri = refl

-- ---- requests

-- no document is open, and none is told of
none_open : (s t : ServerValue) (told ms : List MessageValue) → s.documents ≡ [] → t.documents ≡ [] → TellsNone ms → AllShown s told → AllShown t (told ++ ms)
none_open s t told ms old new h g = record {
  waiting = λ _. new;
  distinct = subst AreDistinct (sym new) tt;
  each = λ uri. subst (λ (o : Option ContentValue). IsShown t o (document_at uri t.documents)) (sym (last_append uri told ms ∙ ap (later (last_content uri told)) (h uri)))
      (subst (λ (ds : List DocumentValue). IsShown t (last_content uri told) (document_at uri ds)) (sym new)
      (cleared_if_none s (last_content uri told) (document_at uri s.documents) (ap (document_at uri) old) (g.each uri)));
}

none_anew : (named : Option Config) (found : List Governed) (granted : List Bool) → judged_anew named found granted [] ≡ []
none_anew None found granted = refl
none_anew (Some c) found granted = refl

none_set : (granted : List Bool) (found : List Governed) (config : Option Config) (file : Option (List ℕ)) (most : Option ℕ) (s : ServerValue) → s.documents ≡ [] → (with_setting granted found config file most s).documents ≡ []
none_set granted found config file most s e = ap (judged_anew config found granted) e ∙ none_anew config found granted

shown_initialized : (e : Event) (id : IdValue) (j : Json) (file : Option (List ℕ)) (x : Setting) (s : ServerValue) (told : List MessageValue) → s.phase ≡ Waiting → AllShown s told
    → AllShown (initialized_by e id j file x s).0 (told ++ (initialized_by e id j file x s).1)
shown_initialized e id j file (Set config most) s told w g =
    none_open s (with_setting e.granted e.governed config file most (initialized j s)) told _ (g.waiting w) (none_set e.granted e.governed config file most (initialized j s) (g.waiting w)) (λ uri. refl) g
shown_initialized e id j file (Faulty fault.Memory) s told w g = untold s told _ g (λ uri. refl)
shown_initialized e id j file (Faulty fault.Shape) s told w g = none_open s (initialized j s) told _ (g.waiting w) (g.waiting w) (λ uri. refl) g
shown_initialized e id j file (Faulty fault.Unreadable) s told w g = none_open s (initialized j s) told _ (g.waiting w) (g.waiting w) (λ uri. refl) g
shown_initialized e id j file (Faulty (fault.Refused f)) s told w g = none_open s (initialized j s) told _ (g.waiting w) (g.waiting w) (λ uri. refl) g

shown_initialized_with : (e : Event) (id : IdValue) (params : Option Json) (s : ServerValue) (told : List MessageValue) → s.phase ≡ Waiting → AllShown s told
    → AllShown (initialized_with e id params s).0 (told ++ (initialized_with e id params s).1)
shown_initialized_with e id None s told w g = untold s told _ g (λ uri. refl)
shown_initialized_with e id (Some j) s told w g = shown_initialized e id j (file_named (first_settings j)) (setting_of e.found (first_settings j)) s told w g

shown_shutdown : (s : ServerValue) (told ms : List MessageValue) → TellsNone ms → AllShown s told → AllShown (record s { phase = Stopped }) (told ++ ms)
shown_shutdown s told ms h g =
    let same = untold s told ms g h in
    record { waiting = λ e. absurd (stopped_waiting e); distinct = same.distinct; each = same.each }
  where
    stopped_waiting : Stopped ≡ Waiting → ⊥
    stopped_waiting e = cc

shown_answered : (e : Event) (id : IdValue) (r : RequestValue) (p : Phase) (s : ServerValue) (told : List MessageValue) → s.phase ≡ p → AllShown s told → AllShown (answered e id r p s).0 (told ++ (answered e id r p s).1)
shown_answered e id (Initialize params) Waiting s told w g = shown_initialized_with e id (object_of params) s told w g
shown_answered e id Shutdown Waiting s told w g = untold s told _ g (λ uri. refl)
shown_answered e id Unknown Waiting s told w g = untold s told _ g (λ uri. refl)
shown_answered e id (Initialize params) Running s told w g = untold s told _ g (λ uri. refl)
shown_answered e id Shutdown Running s told w g = shown_shutdown s told _ (λ uri. refl) g
shown_answered e id Unknown Running s told w g = untold s told _ g (λ uri. refl)
shown_answered e id r Stopped s told w g = untold s told _ g (λ uri. refl)

-- ---- notifications

shown_running : (e : Event) (n : NoticeValue) (s : ServerValue) (told : List MessageValue) → s.phase ≡ Running → AllShown s told → AllShown (noticed_running e n s).0 (told ++ (noticed_running e n s).1)
shown_running e (Opens o) s told run g =
    let config = config_at_first s.standard s.config e.governed in
    let ds = opened config e.granted o s.documents in
    let f = cond (is_some (document_at o.uri ds)) (fault_at_first s.config e.governed) (Some fault.Memory) in
    shown_one s o.uri ds told (told_fault f) run (others_opened config e.granted o s.documents) (distinct_opened config e.granted o s.documents g.distinct) (fault_untold f) g
shown_running e (Changes uri version cs) s told run g =
    let other = changed_document s.how.encoding e.granted version cs in
    let keeps = keeps_changed s.how.encoding e.granted version cs in
    shown_if_open s uri (changed s.how.encoding e.granted uri version cs s.documents) told (is_some (document_at uri s.documents)) run (others_with uri other s.documents keeps) (distinct_with uri other s.documents keeps g.distinct) g
shown_running e (Spoils uri) s told run g =
    shown_if_open s uri (lost BadChange uri s.documents) told (is_some (document_at uri s.documents)) run (others_with uri (lost_document BadChange) s.documents (keeps_lost BadChange))
    (distinct_with uri (lost_document BadChange) s.documents (keeps_lost BadChange) g.distinct) g
shown_running e (Closes uri) s told run g =
    shown_if_open s uri (closed uri s.documents) told (is_some (document_at uri s.documents)) run (others_closed uri s.documents) (distinct_closed uri s.documents g.distinct) g
shown_running e (Sets settings) s told run g = shown_set_with e settings s told run g
shown_running e Starts s told run g = untold s told _ g (watch_untold s.watches)
shown_running e Refreshes s told run g = shown_refreshed e s.config s told run g
shown_running e Exits s told run g = untold s told _ g (λ uri. refl)
shown_running e Passed s told run g = untold s told _ g (λ uri. refl)

shown_noticed : (e : Event) (n : NoticeValue) (p : Phase) (s : ServerValue) (told : List MessageValue) → s.phase ≡ p → AllShown s told → AllShown (noticed e n p s).0 (told ++ (noticed e n p s).1)
shown_noticed e n Waiting s told w g = untold s told _ g (λ uri. refl)
shown_noticed e n Running s told w g = shown_running e n s told w g
shown_noticed e n Stopped s told w g = untold s told _ g (λ uri. refl)

-- ---- events

shown_by_body : (e : Event) (came : Came) (s : ServerValue) (told : List MessageValue) → AllShown s told → AllShown (stepped e came s).0 (told ++ (stepped e came s).1)
shown_by_body e (Read (Request id method params)) s told g = shown_answered e id (request_of method params) s.phase s told refl g
shown_by_body e (Read (Notification method params)) s told g = shown_noticed e (notice_of method params) s.phase s told refl g
shown_by_body e (Read Response) s told g = untold s told _ g (λ uri. refl)
shown_by_body e (Read (Invalid id)) s told g = untold s told _ g (λ uri. refl)
shown_by_body e NoJson s told g = shown_missed s told _ (λ uri. refl) g
shown_by_body e Dropped s told g = shown_missed s told _ (λ uri. refl) g

shown_by_step : (e : Event) (s : ServerValue) (told : List MessageValue) → AllShown s told → AllShown (step e s).0 (told ++ (step e s).1)
unfolding step
shown_by_step e s told g = shown_by_body e e.came s told g

shown_after : (es : List Event) (s : ServerValue) (told : List MessageValue) → AllShown s told → AllShown (after es s) (told ++ sent es s)
shown_after [] s told g = subst (AllShown s) (sym (append-nil told)) g
shown_after (e ∷ es) s told g =
    subst (AllShown (after es (step e s).0)) (append_assoc told (step e s).1 (sent es (step e s).0)) (shown_after es (step e s).0 (told ++ (step e s).1) (shown_by_step e s told g))

pub all_shown_after : (c : Config) (es : List Event) → AllShown (after es (started c)) (sent es (started c))
all_shown_after c es = shown_after es (started c) [] (record { waiting = λ _. refl; distinct = tt; each = λ uri. tt })
