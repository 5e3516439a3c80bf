-- A text is lost only where an event came that may lose it.
use Rattle.std.proofs.Common.{◌≡◌, ℕ, Bool, true, false, cond, not, List, [], ◌∷◌, drop, Option, None, Some, is_some, Result, Ok, Err, ◌⊎◌, inl, inr, refl, sym, ◌∙◌, subst}
use Rattle.std.specs.Prelude.{bytes_eq, nat_le, length}
use Rattle.std.proofs.lemmas.Slice.Eq.{bytes_eq-Decides}
use Rattle.std.specs.Option.{option_map_or}
use Rattle.json.specs.Json.{Json}
use Rattle.yl_units.specs.declared.encoding.Encoding.{Encoding}
use Rattle.yl_config.specs.declared.config.Config.{Config}
use Rattle.yl_rpc.specs.Calls.{IdValue, Request, Notification, Response, Invalid}
use Rattle.yl_lsp.specs.declared.range.Range.{Range}
use Rattle.yl_lsp.specs.Params.{ChangeValue, Whole, Within, Unread, OpenedValue, first_settings}
use Rattle.yl_workspace.specs.declared.cause.Cause.{Cause}
use Rattle.yl_workspace.specs.declared.cause.Cause.TheVariants.{OutOfMemory, TooLarge, BadChange, Missed}
use Rattle.yl_workspace.specs.Changes.{TextValue, Followed, Lost, changed_text, followed_if, is_granted, text_after_change, text_after_changes, within_bounds}
use Rattle.yl_workspace.specs.Documents.{DocumentValue, all_lost, changed_document, closed, configured, configured_document, document_at, lost, lost_document, opened, opened_document, put_document, text_judged, with_document}
use Rattle.yl_server.specs.declared.governed.Governed.{Governed}
use Rattle.yl_server.specs.declared.phase.Phase.{Phase}
use Rattle.yl_server.specs.declared.phase.Phase.TheVariants.{Waiting, Running, Stopped}
use Rattle.yl_server.specs.declared.settings.Setting.{Setting}
use Rattle.yl_server.specs.declared.settings.Setting.TheVariants.{Set, Faulty}
use Rattle.yl_server.specs.declared.settings.SettingFault.TheVariants as fault
use Rattle.yl_server.specs.Events.{Came, Read, NoJson, Dropped, Event}
use Rattle.yl_text.specs.declared.TheConstants.{MAX_BYTES}
use Rattle.yl_text.specs.Lines.{lines_of}
use Rattle.yl_text.specs.Edit.{offset, edited_text}
use Rattle.yl_units.specs.Places.{place_of}
use Rattle.yl_server.specs.Folders.{config_at_first, first_found, governed_each, judged, judged_anew}
use Rattle.yl_server.specs.Laws.{AreLostForCause, Each, Gives, GivesText, IsCause, IsMissed, IsRefused, SomeEvent}
use Rattle.yl_server.specs.Requests.{RequestValue, Initialize, Shutdown, Unknown, request_of, object_of, NoticeValue, Opens, Changes, Spoils, Closes, Sets, Starts, Refreshes, Exits, Passed, notice_of}
use Rattle.yl_server.specs.Settings.{file_named, setting_found, setting_of}
use Rattle.yl_server.specs.Machine.{ServerValue, Stepped, after, answered, initialized_by, initialized_with, noticed, noticed_running, read_again, refreshed_by, set_by, set_with, started, step, stepped}

-- ---- why a change may lose a text

-- a change that asks for memory may lose its text for these causes
abbrev MayLose : List Bool → Cause → Type 0
MayLose grants OutOfMemory = IsRefused grants
MayLose grants TooLarge = Unit {0}
MayLose grants BadChange = Unit {0}
MayLose grants Missed = ⊥

-- faults that memory has no part in
abbrev IsFault : Cause → Type 0
IsFault OutOfMemory = ⊥
IsFault TooLarge = Unit {0}
IsFault BadChange = Unit {0}
IsFault Missed = ⊥

fault_may : (grants : List Bool) (c : Cause) → IsFault c → MayLose grants c
fault_may grants OutOfMemory h = absurd h
fault_may grants TooLarge h = tt
fault_may grants BadChange h = tt
fault_may grants Missed h = absurd h

refused_later : (grants : List Bool) → IsRefused (drop 1 grants) → IsRefused grants
refused_later [] h = h
refused_later (true ∷ grants) h = h
refused_later (false ∷ grants) h = tt

may_later : (grants : List Bool) (c : Cause) → MayLose (drop 1 grants) c → MayLose grants c
may_later grants OutOfMemory h = refused_later grants h
may_later grants TooLarge h = tt
may_later grants BadChange h = tt
may_later grants Missed h = h

refused_first : (grants : List Bool) → is_granted grants ≡ false → IsRefused grants
refused_first [] h = cc
refused_first (true ∷ grants) h = cc
refused_first (false ∷ grants) h = tt

-- a text is lost for the cause that it is lost for
same_cause : (P : Cause → Type 0) (x c : Cause) → P x → Lost x ≡ Lost c → P c
same_cause P x c h e = subst P (one e) h
  where
    one : Lost x ≡ Lost c → x ≡ c
    one e = cc

if_followed : (grants : List Bool) (granted : Bool) (r : Result (List ℕ) Cause) (c : Cause) → is_granted grants ≡ granted → ((x : Cause) → r ≡ Err x → IsFault x) → followed_if granted r ≡ Lost c → MayLose grants c
if_followed grants granted (Err x) c g h e = same_cause (MayLose grants) x c (fault_may grants x (h x refl)) e
if_followed grants true (Ok t) c g h e = cc
if_followed grants false (Ok t) c g h e = same_cause (MayLose grants) OutOfMemory c (refused_first grants g) e

bounds_fault : (text : List ℕ) (b : Bool) (x : Cause) → (let r : Result (List ℕ) Cause = cond b (Ok text) (Err TooLarge) in r ≡ Err x) → IsFault x
bounds_fault text true x e = absurd (ok_err e)
  where
    ok_err : (let r : Result (List ℕ) Cause = Ok text in r ≡ Err x) → ⊥
    ok_err e = cc
bounds_fault text false x e = subst IsFault (one e) tt
  where
    one : (let r : Result (List ℕ) Cause = Err TooLarge in r ≡ Err x) → TooLarge ≡ x
    one e = cc

range_fault : (r : Result (List ℕ) Cause) (b : Bool) (x : Cause) → ((y : Cause) → r ≡ Err y → IsFault y) → cond b r (Err BadChange) ≡ Err x → IsFault x
range_fault r true x h e = h x e
range_fault r false x h e = subst IsFault (one e) tt
  where
    one : (let q : Result (List ℕ) Cause = Err BadChange in q ≡ Err x) → BadChange ≡ x
    one e = cc

changed_fault : (e : Encoding) (old : List ℕ) (range : Range) (new : List ℕ) (x : Cause) → changed_text e old range new ≡ Err x → IsFault x
unfolding changed_text
changed_fault e old range new x h =
    let ps = lines_of old in
    let from = place_of e ps range.start in
    let to = place_of e ps range.end in
    let text = edited_text ps from to new in
    range_fault (within_bounds text) (nat_le (offset ps from) (offset ps to)) x (λ y k. bounds_fault text (nat_le (length text) MAX_BYTES) y k) h

-- ---- changes

of_change : (e : Encoding) (grants : List Bool) (old : TextValue) (ch : ChangeValue) (c : Cause) → text_after_change e (is_granted grants) old ch ≡ Lost c → (old ≡ Lost c) ⊎ MayLose grants c
of_change e grants old (Whole t) c h = inr (if_followed grants (is_granted grants) (within_bounds t) c refl (λ x k. bounds_fault t (nat_le (length t) MAX_BYTES) x k) h)
of_change e grants old Unread c h = inr (same_cause (MayLose grants) BadChange c tt h)
of_change e grants (Lost x) (Within range t) c h = inl h
of_change e grants (Followed old) (Within range t) c h = inr (if_followed grants (is_granted grants) (changed_text e old range t) c refl (λ x k. changed_fault e old range t x k) h)

of_changes : (e : Encoding) (grants : List Bool) (old : TextValue) (cs : List ChangeValue) (c : Cause) → text_after_changes e grants old cs ≡ Lost c → (old ≡ Lost c) ⊎ MayLose grants c
of_changes e grants old [] c h = inl h
of_changes e grants old (ch ∷ cs) c h = elim (of_changes e (drop 1 grants) (text_after_change e (is_granted grants) old ch) cs c h) [
  | inl k ↦ of_change e grants old ch c k
  | inr k ↦ inr (may_later grants c k)
]

of_changed_if : (e : Encoding) (grants : List Bool) (version : List ℕ) (cs : List ChangeValue) (d : DocumentValue) (c : Cause) (b : Bool) → is_granted grants ≡ b
    → (cond b (record d { version = version; text = text_after_changes e (drop 1 grants) d.text cs }) (lost_document OutOfMemory d)).text ≡ Lost c → (d.text ≡ Lost c) ⊎ MayLose grants c
of_changed_if e grants version cs d c true g h = elim (of_changes e (drop 1 grants) d.text cs c h) [ inl k ↦ inl k | inr k ↦ inr (may_later grants c k) ]
of_changed_if e grants version cs d c false g h = inr (same_cause (MayLose grants) OutOfMemory c (refused_first grants g) h)

of_changed : (e : Encoding) (grants : List Bool) (version : List ℕ) (cs : List ChangeValue) (d : DocumentValue) (c : Cause) → (changed_document e grants version cs d).text ≡ Lost c → (d.text ≡ Lost c) ⊎ MayLose grants c
of_changed e grants version cs d c h = of_changed_if e grants version cs d c (is_granted grants) refl h

of_opened : (config : Option Config) (grants : List Bool) (o : OpenedValue) (c : Cause) → (opened_document config (is_granted grants) o).text ≡ Lost c → MayLose grants c
of_opened config grants o c h = if_followed grants (is_granted grants) (within_bounds o.text) c refl (λ x k. bounds_fault o.text (nat_le (length o.text) MAX_BYTES) x k) h

-- only want of memory loses a text that is judged anew
abbrev WantsMemory : List Bool → Cause → Type 0
WantsMemory grants OutOfMemory = IsRefused grants
WantsMemory grants _ = ⊥

of_judged : (grants : List Bool) (granted : Bool) (t : TextValue) (c : Cause) → is_granted grants ≡ granted → text_judged granted t ≡ Lost c → (t ≡ Lost c) ⊎ WantsMemory grants c
of_judged grants granted (Lost x) c g h = inl h
of_judged grants true (Followed t) c g h = cc
of_judged grants false (Followed t) c g h = inr (same_cause (WantsMemory grants) OutOfMemory c (refused_first grants g) h)

-- ---- each document

each_map : (P Q : DocumentValue → Type 0) → ((d : DocumentValue) → P d → Q d) → (ds : List DocumentValue) → Each P ds → Each Q ds
each_map P Q f [] h = tt
each_map P Q f (d ∷ ds) h = (f d h.0, each_map P Q f ds h.1)

each_with : (P Q : DocumentValue → Type 0) (uri : List ℕ) (other : DocumentValue → DocumentValue) → ((d : DocumentValue) → P d → Q d) → ((d : DocumentValue) → d.uri ≡ uri → P d → Q (other d))
    → (ds : List DocumentValue) → Each P ds → Each Q (with_document uri other ds)
each_with P Q uri other f g [] h = tt
each_with P Q uri other f g (d ∷ ds) h = of (bytes_eq d.uri uri) refl (each_with P Q uri other f g ds h.1)
  where
    of : (b : Bool) → bytes_eq d.uri uri ≡ b → Each Q (with_document uri other ds) → Each Q (cond b (other d ∷ ds) (d ∷ with_document uri other ds))
    of true e rest = (g d ((bytes_eq-Decides d.uri uri).0 e) h.0, each_map P Q f ds h.1)
    of false e rest = (f d h.0, rest)

each_put : (P Q : DocumentValue → Type 0) (new : DocumentValue) → ((d : DocumentValue) → P d → Q d) → Q new → (ds : List DocumentValue) → Each P ds → Each Q (put_document new ds)
each_put P Q new f q [] h = (q, tt)
each_put P Q new f q (d ∷ ds) h = of (bytes_eq d.uri new.uri) (each_put P Q new f q ds h.1)
  where
    of : (b : Bool) → Each Q (put_document new ds) → Each Q (cond b (new ∷ ds) (d ∷ put_document new ds))
    of true rest = (q, each_map P Q f ds h.1)
    of false rest = (f d h.0, rest)

each_closed : (P : DocumentValue → Type 0) (uri : List ℕ) (ds : List DocumentValue) → Each P ds → Each P (closed uri ds)
each_closed P uri [] h = tt
each_closed P uri (d ∷ ds) h = of (bytes_eq d.uri uri) (each_closed P uri ds h.1)
  where
    of : (b : Bool) → Each P (closed uri ds) → Each P (cond (not b) (d ∷ closed uri ds) (closed uri ds))
    of true rest = rest
    of false rest = (h.0, rest)

each_lost : (Q : DocumentValue → Type 0) (c : Cause) → ((d : DocumentValue) → Q (lost_document c d)) → (ds : List DocumentValue) → Each Q (all_lost c ds)
each_lost Q c f [] = tt
each_lost Q c f (d ∷ ds) = (f d, each_lost Q c f ds)

-- ---- each event

abbrev Explained : (Cause → List ℕ → Type 0) → DocumentValue → Type 0
Explained J d = (c : Cause) → d.text ≡ Lost c → J c d.uri

abbrev AreExplained : (Cause → List ℕ → Type 0) → ServerValue → Type 0
AreExplained J s = Each (Explained J) s.documents

abbrev With : (Cause → List ℕ → Type 0) → Event → Cause → List ℕ → Type 0
With J e c uri = J c uri ⊎ IsCause c uri e

cause_in : (c : Cause) (uri : List ℕ) (e : Event) → MayLose e.granted c → GivesText uri e.came → IsCause c uri e
cause_in OutOfMemory uri e h g = h
cause_in TooLarge uri e h g = g
cause_in BadChange uri e h g = g
cause_in Missed uri e h g = absurd h

still : (J : Cause → List ℕ → Type 0) (e : Event) (d : DocumentValue) → Explained J d → Explained (With J e) d
still J e d h c k = inl (h c k)

still_all : (J : Cause → List ℕ → Type 0) (e : Event) (s : ServerValue) → AreExplained J s → AreExplained (With J e) s
still_all J e s h = each_map (Explained J) (Explained (With J e)) (still J e) s.documents h

-- a change of a document of which this event gives a text
changed_by : (J : Cause → List ℕ → Type 0) (e : Event) (uri : List ℕ) (other : DocumentValue → DocumentValue) → ((d : DocumentValue) → (other d).uri ≡ d.uri)
    → ((d : DocumentValue) (c : Cause) → (other d).text ≡ Lost c → (d.text ≡ Lost c) ⊎ MayLose e.granted c) → GivesText uri e.came
    → (ds : List DocumentValue) → Each (Explained J) ds → Each (Explained (With J e)) (with_document uri other ds)
changed_by J e uri other keeps why gives ds h =
    each_with (Explained J) (Explained (With J e)) uri other (still J e) (λ d same x c k. elim (why d c k) [
      | inl p ↦ inl (subst (J c) (sym (keeps d)) (x c p))
      | inr p ↦ inr (subst (λ (u : List ℕ). IsCause c u e) (sym same ∙ sym (keeps d)) (cause_in c uri e p gives))
    ]) ds h

keeps_changed : (e : Encoding) (grants : List Bool) (version : List ℕ) (cs : List ChangeValue) (d : DocumentValue) → (changed_document e grants version cs d).uri ≡ d.uri
keeps_changed e grants version cs d = of (is_granted grants)
  where
    of : (b : Bool) → (cond b (record d { version = version; text = text_after_changes e (drop 1 grants) d.text cs }) (lost_document OutOfMemory d)).uri ≡ d.uri
    of true = refl
    of false = refl

spoiled : (e : Event) (d : DocumentValue) (c : Cause) → (lost_document BadChange d).text ≡ Lost c → (d.text ≡ Lost c) ⊎ MayLose e.granted c
spoiled e d c h = inr (same_cause (MayLose e.granted) BadChange c tt h)

opened_by_event : (J : Cause → List ℕ → Type 0) (e : Event) (config : Option Config) (o : OpenedValue) → GivesText o.uri e.came → (ds : List DocumentValue) → Each (Explained J) ds
    → Each (Explained (With J e)) (opened config e.granted o ds)
opened_by_event J e config o gives ds h = of (is_granted e.granted) refl
  where
    of : (b : Bool) → is_granted e.granted ≡ b → Each (Explained (With J e)) (cond b (put_document (opened_document config (is_granted (drop 1 e.granted)) o) ds) (lost OutOfMemory o.uri ds))
    of true g =
        each_put (Explained J) (Explained (With J e)) (opened_document config (is_granted (drop 1 e.granted)) o) (still J e)
        (λ c k. inr (cause_in c o.uri e (may_later e.granted c (of_opened config (drop 1 e.granted) o c k)) gives)) ds h
    of false g =
        changed_by J e o.uri (lost_document OutOfMemory) (λ d. refl) (λ d c k. inr (same_cause (MayLose e.granted) OutOfMemory c (refused_first e.granted g) k)) gives ds h

-- a document that is judged by another configuration, with these grants left of the event's
judged_by_event : (J : Cause → List ℕ → Type 0) (e : Event) (config : Option Config) (grants : List Bool) → (IsRefused grants → IsRefused e.granted) → (d : DocumentValue) → Explained J d
    → Explained (With J e) (configured_document config (is_granted grants) d)
judged_by_event J e config grants r d h = λ c k. elim (of_judged grants (is_granted grants) d.text c refl k) [ inl p ↦ inl (h c p) | inr p ↦ inr (refused c p) ]
  where
    refused : (c : Cause) → WantsMemory grants c → IsCause c d.uri e
    refused OutOfMemory p = r p
    refused TooLarge p = absurd p
    refused BadChange p = absurd p
    refused Missed p = absurd p

configured_by_event : (J : Cause → List ℕ → Type 0) (e : Event) (config : Option Config) (grants : List Bool) → (IsRefused grants → IsRefused e.granted) → (ds : List DocumentValue) → Each (Explained J) ds
    → Each (Explained (With J e)) (configured config grants ds)
configured_by_event J e config grants r [] h = tt
configured_by_event J e config grants r (d ∷ ds) h =
    (judged_by_event J e config grants r d h.0, configured_by_event J e config (drop 1 grants) (λ x. r (refused_later grants x)) ds h.1)

found_by_event : (J : Cause → List ℕ → Type 0) (e : Event) (o : Option (Option Config)) (grants : List Bool) → (IsRefused grants → IsRefused e.granted) → (d : DocumentValue) → Explained J d
    → Explained (With J e) (option_map_or (λ c. configured_document c (is_granted grants) d) o d)
found_by_event J e None grants r d h = still J e d h
found_by_event J e (Some config) grants r d h = judged_by_event J e config grants r d h

each_by_event : (J : Cause → List ℕ → Type 0) (e : Event) (found : List Governed) (grants : List Bool) → (IsRefused grants → IsRefused e.granted) → (ds : List DocumentValue) → Each (Explained J) ds
    → Each (Explained (With J e)) (governed_each found grants ds)
each_by_event J e found grants r [] h = tt
each_by_event J e found grants r (d ∷ ds) h =
    (found_by_event J e (judged (first_found found)) grants r d h.0, each_by_event J e (drop 1 found) (drop 1 grants) (λ x. r (refused_later grants x)) ds h.1)

anew_by_event : (J : Cause → List ℕ → Type 0) (e : Event) (named : Option Config) (ds : List DocumentValue) → Each (Explained J) ds → Each (Explained (With J e)) (judged_anew named e.governed e.granted ds)
anew_by_event J e None ds h = each_by_event J e e.governed e.granted (λ x. x) ds h
anew_by_event J e (Some c) ds h = configured_by_event J e (Some c) e.granted (λ x. x) ds h

-- ---- the machine

explained_if : (J : Cause → List ℕ → Type 0) (e : Event) (s : ServerValue) (t u : Stepped) (b : Bool) → AreExplained (With J e) t.0 → AreExplained (With J e) u.0 → AreExplained (With J e) (cond b t u).0
explained_if J e s t u true h g = h
explained_if J e s t u false h g = g

when_set : (J : Cause → List ℕ → Type 0) (e : Event) (file : Option (List ℕ)) (x : Setting) (s : ServerValue) → AreExplained J s → AreExplained (With J e) (set_by e file x s).0
when_set J e file (Set config most) s h = anew_by_event J e config s.documents h
when_set J e file (Faulty f) s h = still_all J e s h

when_set_with : (J : Cause → List ℕ → Type 0) (e : Event) (settings : Option Json) (s : ServerValue) → AreExplained J s → AreExplained (With J e) (set_with e settings s).0
when_set_with J e None s h = still_all J e s h
when_set_with J e (Some j) s h = when_set J e (file_named (Some j)) (setting_of e.found (Some j)) s h

when_read : (J : Cause → List ℕ → Type 0) (e : Event) (file : Option (List ℕ)) (s : ServerValue) → AreExplained J s → AreExplained (With J e) (read_again e file s).0
when_read J e None s h = still_all J e s h
when_read J e (Some path) s h = when_set J e (Some path) (setting_found e.found None) s h

when_refreshed : (J : Cause → List ℕ → Type 0) (e : Event) (config : Option Config) (s : ServerValue) → AreExplained J s → AreExplained (With J e) (refreshed_by e config s).0
when_refreshed J e None s h = each_by_event J e e.governed e.granted (λ x. x) s.documents h
when_refreshed J e (Some c) s h = when_read J e s.file s h

when_initialized : (J : Cause → List ℕ → Type 0) (e : Event) (id : IdValue) (j : Json) (file : Option (List ℕ)) (x : Setting) (s : ServerValue) → AreExplained J s → AreExplained (With J e) (initialized_by e id j file x s).0
when_initialized J e id j file (Set config most) s h = anew_by_event J e config s.documents h
when_initialized J e id j file (Faulty fault.Memory) s h = still_all J e s h
when_initialized J e id j file (Faulty fault.Shape) s h = still_all J e s h
when_initialized J e id j file (Faulty fault.Unreadable) s h = still_all J e s h
when_initialized J e id j file (Faulty (fault.Refused f)) s h = still_all J e s h

when_initialized_with : (J : Cause → List ℕ → Type 0) (e : Event) (id : IdValue) (params : Option Json) (s : ServerValue) → AreExplained J s → AreExplained (With J e) (initialized_with e id params s).0
when_initialized_with J e id None s h = still_all J e s h
when_initialized_with J e id (Some j) s h = when_initialized J e id j (file_named (first_settings j)) (setting_of e.found (first_settings j)) s h

when_answered : (J : Cause → List ℕ → Type 0) (e : Event) (id : IdValue) (r : RequestValue) (p : Phase) (s : ServerValue) → AreExplained J s → AreExplained (With J e) (answered e id r p s).0
when_answered J e id (Initialize params) Waiting s h = when_initialized_with J e id (object_of params) s h
when_answered J e id Shutdown Waiting s h = still_all J e s h
when_answered J e id Unknown Waiting s h = still_all J e s h
when_answered J e id (Initialize params) Running s h = still_all J e s h
when_answered J e id Shutdown Running s h = still_all J e s h
when_answered J e id Unknown Running s h = still_all J e s h
when_answered J e id r Stopped s h = still_all J e s h

-- what a notification gives, the event gives
when_running : (J : Cause → List ℕ → Type 0) (e : Event) (n : NoticeValue) (s : ServerValue) → ((uri : List ℕ) → Gives uri n → GivesText uri e.came) → AreExplained J s → AreExplained (With J e) (noticed_running e n s).0
when_running J e (Opens o) s gives h =
    opened_by_event J e (config_at_first s.standard s.config e.governed) o (gives o.uri refl) s.documents h
when_running J e (Changes uri version cs) s gives h =
    explained_if J e s _ _ (is_some (document_at uri s.documents))
    (changed_by J e uri (changed_document s.how.encoding e.granted version cs) (keeps_changed s.how.encoding e.granted version cs) (of_changed s.how.encoding e.granted version cs) (gives uri refl) s.documents h)
    (still_all J e s h)
when_running J e (Spoils uri) s gives h =
    explained_if J e s _ _ (is_some (document_at uri s.documents))
    (changed_by J e uri (lost_document BadChange) (λ d. refl) (spoiled e) (gives uri refl) s.documents h)
    (still_all J e s h)
when_running J e (Closes uri) s gives h =
    explained_if J e s _ _ (is_some (document_at uri s.documents)) (each_closed (Explained (With J e)) uri s.documents (still_all J e s h)) (still_all J e s h)
when_running J e (Sets settings) s gives h = when_set_with J e settings s h
when_running J e Starts s gives h = still_all J e s h
when_running J e Refreshes s gives h = when_refreshed J e s.config s h
when_running J e Exits s gives h = still_all J e s h
when_running J e Passed s gives h = still_all J e s h

when_noticed : (J : Cause → List ℕ → Type 0) (e : Event) (n : NoticeValue) (p : Phase) (s : ServerValue) → ((uri : List ℕ) → Gives uri n → GivesText uri e.came) → AreExplained J s → AreExplained (With J e) (noticed e n p s).0
when_noticed J e n Waiting s gives h = still_all J e s h
when_noticed J e n Running s gives h = when_running J e n s gives h
when_noticed J e n Stopped s gives h = still_all J e s h

missed_in : (J : Cause → List ℕ → Type 0) (e : Event) (s : ServerValue) → ((uri : List ℕ) → IsCause Missed uri e) → Each (Explained (With J e)) (all_lost Missed s.documents)
missed_in J e s m = each_lost (Explained (With J e)) Missed (λ d c k. inr (same_cause (λ x. IsCause x d.uri e) Missed c (m d.uri) k)) s.documents

by_body : (J : Cause → List ℕ → Type 0) (e : Event) (came : Came) (s : ServerValue) → came ≡ e.came → AreExplained J s → AreExplained (With J e) (stepped e came s).0
by_body J e (Read (Request id method params)) s is h = when_answered J e id (request_of method params) s.phase s h
by_body J e (Read (Notification method params)) s is h = when_noticed J e (notice_of method params) s.phase s (λ uri g. subst (GivesText uri) is g) h
by_body J e (Read Response) s is h = still_all J e s h
by_body J e (Read (Invalid id)) s is h = still_all J e s h
by_body J e NoJson s is h = missed_in J e s (λ uri. subst IsMissed is tt)
by_body J e Dropped s is h = missed_in J e s (λ uri. subst IsMissed is tt)

by_step : (J : Cause → List ℕ → Type 0) (e : Event) (s : ServerValue) → AreExplained J s → AreExplained (With J e) (step e s).0
unfolding step
by_step J e s h = by_body J e e.came s refl h

-- ---- all events

abbrev WithAll : (Cause → List ℕ → Type 0) → List Event → Cause → List ℕ → Type 0
WithAll J es c uri = J c uri ⊎ SomeEvent (IsCause c uri) es

explained_for : (J K : Cause → List ℕ → Type 0) → ((c : Cause) (uri : List ℕ) → J c uri → K c uri) → (ds : List DocumentValue) → Each (Explained J) ds → Each (Explained K) ds
explained_for J K f ds h = each_map (Explained J) (Explained K) (λ d x c k. f c d.uri (x c k)) ds h

regroup : (J : Cause → List ℕ → Type 0) (e : Event) (es : List Event) (c : Cause) (uri : List ℕ) → WithAll (With J e) es c uri → WithAll J (e ∷ es) c uri
regroup J e es c uri h = elim h [ inl k ↦ elim k [ inl x ↦ inl x | inr x ↦ inr (inl x) ] | inr k ↦ inr (inr k) ]

by_events : (J : Cause → List ℕ → Type 0) (es : List Event) (s : ServerValue) → AreExplained J s → AreExplained (WithAll J es) (after es s)
by_events J [] s h = explained_for J (WithAll J []) (λ c uri x. inl x) s.documents h
by_events J (e ∷ es) s h =
    explained_for (WithAll (With J e) es) (WithAll J (e ∷ es)) (regroup J e es) (after es (step e s).0).documents (by_events (With J e) es (step e s).0 (by_step J e s h))

none_yet : Cause → List ℕ → Type 0
none_yet c uri = ⊥

pub all_lost_for_cause : AreLostForCause
unfolding none_yet
all_lost_for_cause config es =
    explained_for (WithAll none_yet es) (λ c uri. SomeEvent (IsCause c uri) es) (λ c uri h. elim h [ inl x ↦ absurd x | inr x ↦ x ]) (after es (started config)).documents (by_events none_yet es (started config) tt)
