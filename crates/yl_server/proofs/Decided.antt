-- What is decided for requests and notifications.
use Rattle.std.proofs.Common.{◌≡◌, ℕ, Bool, true, false, cond, List, [], ◌∷◌, ◌++◌, Option, None, Some, is_some, refl, sym, ap, ◌∙◌, subst}
use Rattle.std.specs.Prelude.{bytes_eq, codes, option_and_then, ◌||◌, if◌then◌else◌, IsSome}
use Rattle.std.specs.Option.{option_map_or}
use Rattle.json.specs.Json.{Json}
use Rattle.yl_config.specs.declared.config.Config.{Config}
use Rattle.yl_rpc.specs.Calls.{IdValue}
use Rattle.yl_rpc.specs.declared.answers.Code.TheVariants.{InternalError, InvalidParams, InvalidRequest, ServerNotInitialized}
use Rattle.yl_lsp.specs.Params.{OpenedValue, SettingsValue, encoding_in, first_settings, opened_in, settings_in}
use Rattle.yl_workspace.specs.Documents.{DocumentValue, document_at, opened}
use Rattle.yl_server.specs.declared.governed.Governed.{Governed}
use Rattle.yl_server.specs.declared.phase.Phase.{Phase}
use Rattle.yl_server.specs.declared.phase.Phase.TheVariants.{Waiting, Running, Stopped}
use Rattle.yl_server.specs.declared.settings.Found.{Found}
use Rattle.yl_server.specs.declared.settings.Found.TheVariants.{Unreadable}
use Rattle.yl_server.specs.declared.settings.Found.TheVariants as found
use Rattle.yl_server.specs.declared.settings.Setting.{Setting}
use Rattle.yl_server.specs.declared.settings.Setting.TheVariants.{Set, Faulty}
use Rattle.yl_server.specs.declared.settings.SettingFault.{SettingFault}
use Rattle.yl_server.specs.declared.settings.SettingFault.TheVariants as fault
use Rattle.yl_server.specs.Bodies.{IsFound, requested_settings, text_set}
use Rattle.yl_server.specs.Events.{NoJson, Event}
use Rattle.yl_server.specs.Folders.{config_at_first, fault_anew, fault_at_first, first_fault, governed_each, is_changed}
use Rattle.yl_server.specs.Machine.{ServerValue, Stepped, answered, answered_running, governed_by, initialized, initialized_by, initialized_with, memory_words, noticed_running, opened_by, params_words, read_again, refreshed_by, set_by, set_with, stopped_words, told_fault, told_of, told_of_all, waiting_words, with_documents, with_setting}
use Rattle.yl_server.specs.Messages.{MessageValue, Initialized, Refused, Told}
use Rattle.yl_server.specs.Requests.{NoticeValue, Opens, RequestValue, opens, request_of, spoils}
use Rattle.yl_server.specs.Settings.{file_named, file_said, setting_found, setting_of, setting_said, setting_words}
use Rattle.yl_server.proofs.Methods.{is_shutdown, is_unknown}

abbrev pub event_of : List Bool → List Governed → Found → Event
event_of granted governed found = record { came = NoJson; granted = granted; found = found; governed = governed }

-- a server became this, and sends these
abbrev pub Becomes : ServerValue → List MessageValue → Stepped → Type 0
Becomes new ms t = (new ≡ t.0) × (ms ≡ t.1)

-- ---- settings

abbrev pub IsConfigured : Option Json → (old new : ServerValue) → List MessageValue → Type 0
IsConfigured j old new ms = (e : Event) × IsFound (text_set j) e.found × Becomes new ms (set_with e j old)

pub configured_none : (j : Option Json) (old : ServerValue) → None ≡ j → IsConfigured j old old []
configured_none j old h = subst (λ (o : Option Json). IsConfigured o old old []) h (event_of [] [] Unreadable, tt, (refl, refl))

-- all that is told of documents, and of a fault
abbrev pub all_told : ServerValue → Option SettingFault → List MessageValue
all_told s f = told_of_all s ++ told_fault f

-- a setting that is put in force
set_in : (config : Option Config) (named file : Option (List ℕ)) (most : Option ℕ) (granted : List Bool) (governed : List Governed) (found : Found) (f : Option SettingFault) (old new : ServerValue) → file ≡ named
    → new ≡ with_setting granted governed config file most old → f ≡ fault_anew config governed → Becomes new (all_told new f) (set_by (event_of granted governed found) named (Set config most) old)
set_in config named file most granted governed found f old new p n q =
    let is : new ≡ with_setting granted governed config named most old = n ∙ ap (λ (x : Option (List ℕ)). with_setting granted governed config x most old) p in
    (is, ap (λ (s : ServerValue). all_told s f) is ∙ ap (all_told (with_setting granted governed config named most old)) q)

pub configured_set : (j : Option Json) (v : Json) (found : Found) (config : Option Config) (file : Option (List ℕ)) (most : Option ℕ) (granted : List Bool) (governed : List Governed) (f : Option SettingFault) (old new : ServerValue)
    → Some v ≡ j → IsFound (text_set (Some v)) found → Set config most ≡ setting_of found (Some v) → file ≡ file_named (Some v) → new ≡ with_setting granted governed config file most old → f ≡ fault_anew config governed
    → IsConfigured j old new (all_told new f)
configured_set j v found config file most granted governed f old new h x s p n q =
    let e : Event = event_of granted governed found in
    subst (λ (o : Option Json). IsConfigured o old new (all_told new f)) h (
      e,
      x,
      subst (λ (y : Setting). Becomes new (all_told new f) (set_by e (file_named (Some v)) y old)) s
          (set_in config (file_named (Some v)) file most granted governed found f old new p n q),
    )

pub configured_faulty : (j : Option Json) (v : Json) (found : Found) (f : SettingFault) (old : ServerValue) → Some v ≡ j → IsFound (text_set (Some v)) found → Faulty f ≡ setting_of found (Some v)
    → IsConfigured j old old (Told (setting_words f) ∷ [])
configured_faulty j v found f old h x s =
    let e : Event = event_of [] [] found in
    let ms = Told (setting_words f) ∷ [] in
    subst (λ (o : Option Json). IsConfigured o old old ms) h (e, x, subst (λ (y : Setting). Becomes old ms (set_by e (file_named (Some v)) y old)) s (refl, refl))

-- where a file is named, its path may find no memory, which is as if the file found none
by_texts : (text file : Option (List ℕ)) (most : Option ℕ) → IsSome (if is_some text then None else file)
    → IsFound text found.NoMemory × (Faulty fault.Memory ≡ (if is_some text || is_some file then setting_found found.NoMemory most else Set None most))
by_texts (Some t) file most h = cc
by_texts None None most h = cc
by_texts None (Some path) most h = (tt, refl)

by_values : (o : Option SettingsValue) → IsSome (option_and_then file_said o)
    → IsFound (option_and_then (λ v. v.config) o) found.NoMemory × (Faulty fault.Memory ≡ option_map_or (setting_said found.NoMemory) o (Faulty fault.Shape))
by_values None h = cc
by_values (Some v) h = by_texts v.config v.config_file v.most h

named_no_memory : (o : Option Json) → IsSome (file_named o) → IsFound (text_set o) found.NoMemory × (Faulty fault.Memory ≡ setting_of found.NoMemory o)
named_no_memory None h = cc
named_no_memory (Some j) h = by_values (settings_in j) h

pub configured_unnamed : (j : Option Json) (v : Json) (old : ServerValue) → Some v ≡ j → IsSome (file_named (Some v)) → IsConfigured j old old (Told (setting_words fault.Memory) ∷ [])
configured_unnamed j v old h n = let k = named_no_memory (Some v) n in configured_faulty j v found.NoMemory fault.Memory old h k.0 k.1

-- ---- files that may be others than they were

abbrev pub IsReadAgain : (old new : ServerValue) → List MessageValue → (file : Option (List ℕ)) → Type 0
IsReadAgain old new ms file = (e : Event) × Becomes new ms (read_again e file old)

pub read_none : (old : ServerValue) → None ≡ old.file → IsReadAgain old old [] old.file
read_none old h = subst (IsReadAgain old old []) h (event_of [] [] Unreadable, (refl, refl))

pub read_set : (path : List ℕ) (found : Found) (config : Option Config) (most : Option ℕ) (granted : List Bool) (governed : List Governed) (f : Option SettingFault) (old new : ServerValue) → Some path ≡ old.file
    → Set config most ≡ setting_found found None → new ≡ with_setting granted governed config old.file most old → f ≡ fault_anew config governed → IsReadAgain old new (all_told new f) old.file
read_set path found config most granted governed f old new h s n q =
    let e : Event = event_of granted governed found in
    subst (IsReadAgain old new (all_told new f)) h (
      e,
      subst (λ (x : Setting). Becomes new (all_told new f) (set_by e (Some path) x old)) s
          (set_in config (Some path) old.file most granted governed found f old new (sym h) n q),
    )

pub read_faulty : (path : List ℕ) (found : Found) (f : SettingFault) (old : ServerValue) → Some path ≡ old.file → Faulty f ≡ setting_found found None → IsReadAgain old old (Told (setting_words f) ∷ []) old.file
read_faulty path found f old h s =
    let e : Event = event_of [] [] found in
    let ms = Told (setting_words f) ∷ [] in
    subst (IsReadAgain old old ms) h (e, subst (λ (x : Setting). Becomes old ms (set_by e (Some path) x old)) s (refl, refl))

abbrev pub IsRefreshed : (old new : ServerValue) → List MessageValue → (config : Option Config) → Type 0
IsRefreshed old new ms config = (e : Event) × Becomes new ms (refreshed_by e config old)

refreshed_some : (config : Option Config) (old new : ServerValue) (ms : List MessageValue) → is_some config ≡ true → IsReadAgain old new ms old.file → IsRefreshed old new ms config
refreshed_some None old new ms n h = cc
refreshed_some (Some c) old new ms n h = h

pub refreshed_named : (old new : ServerValue) (ms : List MessageValue) → is_some old.config ≡ true → IsReadAgain old new ms old.file → IsRefreshed old new ms old.config
refreshed_named old new ms n h = refreshed_some old.config old new ms n h

refreshed_none : (config : Option Config) (old new : ServerValue) (ms : List MessageValue) (e : Event) → is_some config ≡ false → Becomes new ms (governed_by e old) → IsRefreshed old new ms config
refreshed_none None old new ms e n h = (e, h)
refreshed_none (Some c) old new ms e n h = cc

pub refreshed_all : (old new : ServerValue) (granted : List Bool) (governed : List Governed) (f : Option SettingFault) → is_some old.config ≡ false → is_changed governed ≡ true
    → new ≡ with_documents (governed_each governed granted old.documents) old → f ≡ first_fault governed → IsRefreshed old new (all_told new f) old.config
refreshed_all old new granted governed f n c d q =
    let t = with_documents (governed_each governed granted old.documents) old in
    refreshed_none old.config old new (all_told new f) (event_of granted governed Unreadable) n (
      d,
      ap (λ (s : ServerValue). all_told s f) d ∙ (ap (all_told t) q ∙ ap (λ b. cond b (told_of_all t) [] ++ told_fault (first_fault governed)) (sym c)),
    )

pub refreshed_same : (old new : ServerValue) (granted : List Bool) (governed : List Governed) (f : Option SettingFault) → is_some old.config ≡ false → is_changed governed ≡ false
    → new ≡ with_documents (governed_each governed granted old.documents) old → f ≡ first_fault governed → IsRefreshed old new (told_fault f) old.config
refreshed_same old new granted governed f n c d q =
    let t = with_documents (governed_each governed granted old.documents) old in
    refreshed_none old.config old new (told_fault f) (event_of granted governed Unreadable) n
    (d, ap told_fault q ∙ ap (λ b. cond b (told_of_all t) [] ++ told_fault (first_fault governed)) (sym c))

-- ---- `initialize`

abbrev pub IsBegun : (id : IdValue) → Json → Option Json → (old new : ServerValue) → List MessageValue → Type 0
IsBegun id j o old new ms = (e : Event) × IsFound (text_set o) e.found × Becomes new ms (initialized_by e id j (file_named o) (setting_of e.found o) old)

pub begun_set : (id : IdValue) (j : Json) (o q : Option Json) (found : Found) (config : Option Config) (file : Option (List ℕ)) (most : Option ℕ) (granted : List Bool) (governed : List Governed) (old mid new : ServerValue) → o ≡ q
    → IsFound (text_set o) found → Set config most ≡ setting_of found o → file ≡ file_named o → mid ≡ initialized j old → new ≡ with_setting granted governed config file most mid
    → IsBegun id j q old new (Initialized id new.how.encoding ∷ [])
begun_set id j o q found config file most granted governed old mid new h f s p b n =
    let e : Event = event_of granted governed found in
    let is : new ≡ with_setting granted governed config (file_named o) most (initialized j old) =
    n ∙ (ap (with_setting granted governed config file most) b ∙ ap (λ (x : Option (List ℕ)). with_setting granted governed config x most (initialized j old)) p) in
    subst (λ (r : Option Json). IsBegun id j r old new (Initialized id new.how.encoding ∷ [])) h (
      e,
      f,
      subst (λ (x : Setting). Becomes new (Initialized id new.how.encoding ∷ []) (initialized_by e id j (file_named o) x old)) s
          (is, ap (λ x. Initialized id x ∷ []) (ap (λ (t : ServerValue). t.how.encoding) is)),
    )

pub begun_by : (id : IdValue) (j : Json) (o q : Option Json) (found : Found) (f : SettingFault) (old new : ServerValue) (ms : List MessageValue) → o ≡ q → IsFound (text_set o) found → Faulty f ≡ setting_of found o
    → ((e : Event) (file : Option (List ℕ)) → Becomes new ms (initialized_by e id j file (Faulty f) old)) → IsBegun id j q old new ms
begun_by id j o q found f old new ms h x s b =
    let e : Event = event_of [] [] found in
    subst (λ (r : Option Json). IsBegun id j r old new ms) h (e, x, subst (λ (y : Setting). Becomes new ms (initialized_by e id j (file_named o) y old)) s (b e (file_named o)))

pub begun_unnamed : (id : IdValue) (j : Json) (o q : Option Json) (old : ServerValue) → o ≡ q → IsSome (file_named o) → IsBegun id j q old old (Refused id InternalError memory_words ∷ [])
begun_unnamed id j o q old h n =
    let k = named_no_memory o n in
    begun_by id j o q found.NoMemory fault.Memory old old (Refused id InternalError memory_words ∷ []) h k.0 k.1 (λ e file. (refl, refl))

pub begun_no_memory : (e : Event) (id : IdValue) (j : Json) (file : Option (List ℕ)) (f : SettingFault) (old : ServerValue) → f ≡ fault.Memory
    → Becomes old (Refused id InternalError memory_words ∷ []) (initialized_by e id j file (Faulty f) old)
begun_no_memory e id j file f old h = subst (λ (x : SettingFault). Becomes old (Refused id InternalError memory_words ∷ []) (initialized_by e id j file (Faulty x) old)) (sym h) (refl, refl)

-- faults are told, but for want of memory
pub begun_faulty : (e : Event) (id : IdValue) (j : Json) (file : Option (List ℕ)) (f : SettingFault) (old new : ServerValue) → (f ≡ fault.Memory → ⊥) → new ≡ initialized j old
    → Becomes new (Initialized id new.how.encoding ∷ Told (setting_words f) ∷ []) (initialized_by e id j file (Faulty f) old)
begun_faulty e id j file f old new n b =
    subst (λ (t : ServerValue). Becomes t (Initialized id t.how.encoding ∷ Told (setting_words f) ∷ []) (initialized_by e id j file (Faulty f) old)) (sym b) (of f n)
  where
    of : (x : SettingFault) → (x ≡ fault.Memory → ⊥) → Becomes (initialized j old) (Initialized id (encoding_in j) ∷ Told (setting_words x) ∷ []) (initialized_by e id j file (Faulty x) old)
    of fault.Shape m = (refl, refl)
    of fault.Unreadable m = (refl, refl)
    of fault.Memory m = absurd (m refl)
    of (fault.Refused x) m = (refl, refl)

abbrev pub IsInitialized : (id : IdValue) → Option Json → (old new : ServerValue) → List MessageValue → Type 0
IsInitialized id o old new ms = (e : Event) × IsFound (text_set (option_and_then first_settings o)) e.found × Becomes new ms (initialized_with e id o old)

pub initialized_none : (id : IdValue) (o : Option Json) (old : ServerValue) → None ≡ o → IsInitialized id o old old (Refused id InvalidParams params_words ∷ [])
initialized_none id o old h = subst (λ (p : Option Json). IsInitialized id p old old (Refused id InvalidParams params_words ∷ [])) h (event_of [] [] Unreadable, tt, (refl, refl))

pub initialized_some : (id : IdValue) (j : Json) (o : Option Json) (old new : ServerValue) (ms : List MessageValue) → Some j ≡ o → IsBegun id j (first_settings j) old new ms → IsInitialized id o old new ms
initialized_some id j o old new ms h b = subst (λ (p : Option Json). IsInitialized id p old new ms) h b

-- ---- requests

abbrev pub IsAnswered : (id : IdValue) → RequestValue → (old new : ServerValue) → List MessageValue → Phase → Type 0
IsAnswered id request old new ms phase = (e : Event) × IsFound (text_set (requested_settings request phase)) e.found × Becomes new ms (answered e id request phase old)

pub answered_stopped : (id : IdValue) (request : RequestValue) (old : ServerValue) → old.phase ≡ Stopped → IsAnswered id request old old (Refused id InvalidRequest stopped_words ∷ []) old.phase
answered_stopped id request old h =
    subst (IsAnswered id request old old (Refused id InvalidRequest stopped_words ∷ [])) (sym h) (event_of [] [] Unreadable, tt, (refl, refl))

pub answered_when_running : (id : IdValue) (request : RequestValue) (old new : ServerValue) (ms : List MessageValue) → old.phase ≡ Running → Becomes new ms (answered_running id request old) → IsAnswered id request old new ms old.phase
answered_when_running id request old new ms h b = subst (IsAnswered id request old new ms) (sym h) (event_of [] [] Unreadable, tt, b)

waiting_for : (id : IdValue) (m : List ℕ) (params : Option Json) (old : ServerValue) (b : Bool) → bytes_eq m (codes "initialize") ≡ false → bytes_eq m (codes "shutdown") ≡ b
    → IsAnswered id (request_of m params) old old (Refused id ServerNotInitialized waiting_words ∷ []) Waiting
waiting_for id m params old true h g =
    subst (λ (r : RequestValue). IsAnswered id r old old (Refused id ServerNotInitialized waiting_words ∷ []) Waiting) (sym (is_shutdown m params h g)) (event_of [] [] Unreadable, tt, (refl, refl))
waiting_for id m params old false h g =
    subst (λ (r : RequestValue). IsAnswered id r old old (Refused id ServerNotInitialized waiting_words ∷ []) Waiting) (sym (is_unknown m params h g)) (event_of [] [] Unreadable, tt, (refl, refl))

pub answered_before : (id : IdValue) (m : List ℕ) (params : Option Json) (old : ServerValue) → old.phase ≡ Waiting → bytes_eq m (codes "initialize") ≡ false
    → IsAnswered id (request_of m params) old old (Refused id ServerNotInitialized waiting_words ∷ []) old.phase
answered_before id m params old h g =
    subst (IsAnswered id (request_of m params) old old (Refused id ServerNotInitialized waiting_words ∷ [])) (sym h) (waiting_for id m params old (bytes_eq m (codes "shutdown")) g refl)

-- ---- `didOpen`

abbrev pub IsNoticed : Json → (old new : ServerValue) → List MessageValue → Type 0
IsNoticed j old new ms = (e : Event) × Becomes new ms (noticed_running e (opens j) old)

opens_none : (j : Json) → None ≡ opened_in j → spoils j ≡ opens j
opens_none j h = ap (λ o. option_map_or Opens o (spoils j)) h

pub opened_other : (j : Json) (old new : ServerValue) (ms : List MessageValue) → None ≡ opened_in j → ((e : Event) → Becomes new ms (noticed_running e (spoils j) old)) → IsNoticed j old new ms
opened_other j old new ms h f = let e : Event = event_of [] [] Unreadable in (e, subst (λ (n : NoticeValue). Becomes new ms (noticed_running e n old)) (opens_none j h) (f e))

-- a document that is open now, or is not
abbrev opening : ServerValue → OpenedValue → List DocumentValue → (is_open : Bool) → Option SettingFault → Stepped
opening s o ds is_open f = (with_documents ds s, told_of o.uri (with_documents ds s) ∷ told_fault (cond is_open f (Some fault.Memory)))

opened_so : (s new : ServerValue) (o : OpenedValue) (ds : List DocumentValue) (f : Option SettingFault) (b : Bool) → new ≡ with_documents ds s → is_some (document_at o.uri new.documents) ≡ b
    → Becomes new (told_of o.uri new ∷ told_fault (cond b f (Some fault.Memory))) (opening s o ds (is_some (document_at o.uri ds)) f)
opened_so s new o ds f b n k =
    let is_open : b ≡ is_some (document_at o.uri ds) = sym k ∙ ap (λ (t : ServerValue). is_some (document_at o.uri t.documents)) n in (
      n,
      ap (λ (t : ServerValue). told_of o.uri t ∷ told_fault (cond b f (Some fault.Memory))) n ∙ ap (λ c. told_of o.uri (with_documents ds s) ∷ told_fault (cond c f (Some fault.Memory))) is_open,
    )

pub opened_with : (j : Json) (o : OpenedValue) (old new : ServerValue) (config : Option Config) (f : Option SettingFault) (grants : List Bool) (found : List Governed) (b : Bool) → Some o ≡ opened_in j
    → config ≡ config_at_first old.standard old.config found → f ≡ fault_at_first old.config found → new ≡ with_documents (opened config grants o old.documents) old → is_some (document_at o.uri new.documents) ≡ b
    → IsNoticed j old new (told_of o.uri new ∷ told_fault (cond b f (Some fault.Memory)))
opened_with j o old new config f grants found b h c q n k =
    let e : Event = event_of grants found Unreadable in
    let ms = told_of o.uri new ∷ told_fault (cond b f (Some fault.Memory)) in
    let is : new ≡ with_documents (opened (config_at_first old.standard old.config found) grants o old.documents) old =
    n ∙ ap (λ (x : Option Config). with_documents (opened x grants o old.documents) old) c in
    let so = opened_so old new o (opened (config_at_first old.standard old.config found) grants o old.documents) (fault_at_first old.config found) b is k in (
      e,
      subst (λ (x : Option OpenedValue). Becomes new ms (noticed_running e (option_map_or Opens x (spoils j)) old)) h
          (subst (λ (x : Option SettingFault). Becomes new (told_of o.uri new ∷ told_fault (cond b x (Some fault.Memory))) (opened_by e o old)) (sym q) so),
    )
