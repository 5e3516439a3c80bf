-- What notifications ask for, and what is done for them.
use Rattle.std.proofs.Common.{Bor, ◌≡◌, ◌⊎◌, inl, inr, ℕ, Bool, true, false, cond, List, [], Option, None, Some, is_some, refl, sym, ap, ◌∙◌, subst}
use Rattle.std.specs.Prelude.{bytes_eq, codes, option_copied, unwrap_or}
use Rattle.std.specs.Option.{option_map_or}
use Rattle.json.specs.Json.{Json}
use Rattle.yl_lsp.specs.Params.{ChangeValue, OpenedValue, changed_settings, changes_in, document_in, opened_in, version_in}
use Rattle.yl_workspace.specs.Documents.{document_at}
use Rattle.yl_server.specs.declared.phase.Phase.{Phase}
use Rattle.yl_server.specs.declared.phase.Phase.TheVariants.{Waiting, Running, Stopped}
use Rattle.yl_server.specs.declared.settings.Found.TheVariants.{Unreadable}
use Rattle.yl_server.specs.Bodies.{IsFound, noticed_settings, settings_of_notice, text_set}
use Rattle.yl_server.specs.Events.{Event}
use Rattle.yl_server.specs.Machine.{ServerValue, Stepped, exit_by, noticed, noticed_running, quiet, refreshed_by}
use Rattle.yl_server.specs.Messages.{MessageValue}
use Rattle.yl_server.specs.Requests.{NoticeValue, Changes, Opens, Spoils, Closes, Sets, Starts, Refreshes, Passed, changes, changes_to, closes, notice_with, opens, spoils, tells_of_files}
use Rattle.yl_server.proofs.Decided.{Becomes, IsConfigured, event_of}

-- ---- what they ask for

-- it asks for no settings and for no end
abbrev pub IsOfText : NoticeValue → Type 0
IsOfText n = (settings_of_notice n ≡ None) × ((phase : Phase) → exit_by n phase ≡ None)

spoiled : (o : Option (List ℕ)) → IsOfText (option_map_or Spoils o Passed)
spoiled None = (refl, λ p. refl)
spoiled (Some uri) = (refl, λ p. refl)

closed : (o : Option (List ℕ)) → IsOfText (option_map_or Closes o Passed)
closed None = (refl, λ p. refl)
closed (Some uri) = (refl, λ p. refl)

opened : (o : Option OpenedValue) (n : NoticeValue) → IsOfText n → IsOfText (option_map_or Opens o n)
opened None n h = h
opened (Some x) n h = (refl, λ p. refl)

changed : (u v : Option (List ℕ)) (cs : List ChangeValue) (n : NoticeValue) → IsOfText n → IsOfText (unwrap_or (changes_to u v cs) n)
changed None v cs n h = h
changed (Some uri) None cs n h = h
changed (Some uri) (Some version) cs n h = (refl, λ p. refl)

pub opens_of_text : (j : Json) → IsOfText (opens j)
opens_of_text j = opened (opened_in j) (spoils j) (spoiled (document_in j))

pub changes_of_text : (j : Json) → IsOfText (changes j)
changes_of_text j = changed (document_in j) (version_in j) (changes_in j) (spoils j) (spoiled (document_in j))

pub closes_of_text : (j : Json) → IsOfText (closes j)
closes_of_text j = closed (document_in j)

no_end_by : (j : Json) (phase : Phase) (a b c d e f : Bool)
    → exit_by (cond a (opens j) (cond b (changes j) (cond c (closes j) (cond d (Sets (changed_settings j)) (cond e Starts (cond f Refreshes Passed)))))) phase ≡ None
no_end_by j phase true b c d e f = (opens_of_text j).1 phase
no_end_by j phase false true c d e f = (changes_of_text j).1 phase
no_end_by j phase false false true d e f = (closes_of_text j).1 phase
no_end_by j phase false false false true e f = refl
no_end_by j phase false false false false true f = refl
no_end_by j phase false false false false false true = refl
no_end_by j phase false false false false false false = refl

-- but for `exit` none ends a server
pub no_end : (m : List ℕ) (params : Option Json) (phase : Phase) → exit_by (option_map_or (notice_with m) params Passed) phase ≡ None
no_end m None phase = refl
no_end m (Some j) phase =
    no_end_by j phase (bytes_eq m (codes "textDocument/didOpen")) (bytes_eq m (codes "textDocument/didChange")) (bytes_eq m (codes "textDocument/didClose")) (bytes_eq m (codes "workspace/didChangeConfiguration"))
    (bytes_eq m (codes "initialized")) (tells_of_files m)

-- ---- a change of another shape

pub no_document : (j : Json) → None ≡ document_in j → spoils j ≡ changes j
no_document j h = ap (λ d. unwrap_or (changes_to d (version_in j) (changes_in j)) (spoils j)) h

without_version : (d : Option (List ℕ)) (cs : List ChangeValue) (n : NoticeValue) → n ≡ unwrap_or (changes_to d None cs) n
without_version None cs n = refl
without_version (Some uri) cs n = refl

pub no_version : (j : Json) → None ≡ version_in j → spoils j ≡ changes j
no_version j h = without_version (document_in j) (changes_in j) (spoils j) ∙ ap (λ v. unwrap_or (changes_to (document_in j) v (changes_in j)) (spoils j)) h

pub changed_other : (j : Json) (old new : ServerValue) (ms : List MessageValue) → spoils j ≡ changes j → ((e : Event) → Becomes new ms (noticed_running e (spoils j) old))
    → (granted : List Bool) × ((e : Event) → e.granted ≡ granted → Becomes new ms (noticed_running e (changes j) old))
changed_other j old new ms is h = ([], λ e g. subst (λ (n : NoticeValue). Becomes new ms (noticed_running e n old)) is (h e))

-- ---- a change of a document that is not open

-- what is looked for and not there
pub copied_is : {A : Type 0} (o : Option (Bor A)) → is_some (option_copied o) ≡ is_some o
copied_is None = refl
copied_is (Some x) = refl

not_open : (t : Stepped) (s : ServerValue) (b : Bool) → b ≡ false → Becomes s [] (cond b t (quiet s))
not_open t s true h = cc
not_open t s false h = (refl, refl)

pub changed_unopened : (j : Json) (uri version : List ℕ) (old : ServerValue) → Some uri ≡ document_in j → Some version ≡ version_in j → is_some (document_at uri old.documents) ≡ false
    → (granted : List Bool) × ((e : Event) → e.granted ≡ granted → Becomes old [] (noticed_running e (changes j) old))
changed_unopened j uri version old u v n =
    let cs = changes_in j in
    let is : Changes uri version cs ≡ changes j =
    ap (λ d. unwrap_or (changes_to d (Some version) cs) (spoils j)) u ∙ ap (λ w. unwrap_or (changes_to (document_in j) w cs) (spoils j)) v in
    ([], λ e g. subst (λ (x : NoticeValue). Becomes old [] (noticed_running e x old)) is (not_open _ old (is_some (document_at uri old.documents)) n))

-- ---- what is done while a server runs

abbrev pub IsNotedBy : NoticeValue → (old new : ServerValue) → List MessageValue → Type 0
IsNotedBy n old new ms = (e : Event) × IsFound (text_set (settings_of_notice n)) e.found × Becomes new ms (noticed_running e n old)

pub noted_text : (m n : NoticeValue) (old new : ServerValue) (ms : List MessageValue) → m ≡ n → IsOfText n
    → (granted : List Bool) × ((e : Event) → e.granted ≡ granted → Becomes new ms (noticed_running e n old)) → IsNotedBy m old new ms
noted_text m n old new ms is t h =
    let e : Event = event_of h.0 [] Unreadable in
    subst (λ (x : NoticeValue). IsNotedBy x old new ms) (sym is) (e, subst (λ (s : Option Json). IsFound (text_set s) Unreadable) (sym t.0) tt, h.1 e refl)

pub noted_opened : (m : NoticeValue) (j : Json) (old new : ServerValue) (ms : List MessageValue) → m ≡ opens j → (e : Event) × Becomes new ms (noticed_running e (opens j) old) → IsNotedBy m old new ms
noted_opened m j old new ms is h =
    subst (λ (x : NoticeValue). IsNotedBy x old new ms) (sym is) (h.0, subst (λ (s : Option Json). IsFound (text_set s) h.0.found) (sym (opens_of_text j).0) tt, h.1)

pub noted_settings : (m : NoticeValue) (s : Option Json) (old new : ServerValue) (ms : List MessageValue) → m ≡ Sets s → IsConfigured s old new ms → IsNotedBy m old new ms
noted_settings m s old new ms is h = subst (λ (x : NoticeValue). IsNotedBy x old new ms) (sym is) h

pub noted_started : (m : NoticeValue) (old : ServerValue) (ms : List MessageValue) → m ≡ Starts → ((e : Event) → Becomes old ms (noticed_running e Starts old)) → IsNotedBy m old old ms
noted_started m old ms is h = let e : Event = event_of [] [] Unreadable in subst (λ (x : NoticeValue). IsNotedBy x old old ms) (sym is) (e, tt, h e)

pub noted_refreshed : (m : NoticeValue) (old new : ServerValue) (ms : List MessageValue) → m ≡ Refreshes → (e : Event) × Becomes new ms (refreshed_by e old.config old) → IsNotedBy m old new ms
noted_refreshed m old new ms is h = subst (λ (x : NoticeValue). IsNotedBy x old new ms) (sym is) (h.0, tt, h.1)

pub noted_passed : (m : NoticeValue) (old : ServerValue) → m ≡ Passed → IsNotedBy m old old []
noted_passed m old is = subst (λ (x : NoticeValue). IsNotedBy x old old []) (sym is) (event_of [] [] Unreadable, tt, (refl, refl))

-- ---- in each phase

abbrev pub IsNoted : NoticeValue → (old new : ServerValue) → List MessageValue → Phase → Type 0
IsNoted n old new ms phase = (e : Event) × IsFound (text_set (noticed_settings n phase)) e.found × Becomes new ms (noticed e n phase old)

passed : (old : ServerValue) (phase : Phase) → IsNoted Passed old old [] phase
passed old Waiting = (event_of [] [] Unreadable, tt, (refl, refl))
passed old Running = (event_of [] [] Unreadable, tt, (refl, refl))
passed old Stopped = (event_of [] [] Unreadable, tt, (refl, refl))

pub noted_without : (m : List ℕ) (params : Option Json) (old : ServerValue) (phase : Phase) → None ≡ params → IsNoted (option_map_or (notice_with m) params Passed) old old [] phase
noted_without m params old phase h = subst (λ (o : Option Json). IsNoted (option_map_or (notice_with m) o Passed) old old [] phase) h (passed old phase)

noted_waiting : (n : NoticeValue) (old : ServerValue) → old.phase ≡ Waiting → IsNoted n old old [] old.phase
noted_waiting n old h = subst (IsNoted n old old []) (sym h) (event_of [] [] Unreadable, tt, (refl, refl))

noted_stopped : (n : NoticeValue) (old : ServerValue) → old.phase ≡ Stopped → IsNoted n old old [] old.phase
noted_stopped n old h = subst (IsNoted n old old []) (sym h) (event_of [] [] Unreadable, tt, (refl, refl))

pub noted_at_rest : (n : NoticeValue) (old : ServerValue) (phase : Phase) → phase ≡ old.phase → (phase ≡ Waiting) ⊎ (phase ≡ Stopped) → IsNoted n old old [] old.phase
noted_at_rest n old phase e (inl h) = noted_waiting n old (sym e ∙ h)
noted_at_rest n old phase e (inr h) = noted_stopped n old (sym e ∙ h)
