-- What becomes of the open documents, each of which has a URI of its own.
use Rattle.std.proofs.Common.{◌≡◌, ℕ, Bool, true, false, cond, not, List, [], ◌∷◌, drop, Option, None, Some, refl, ap, sym, ◌∙◌}
use Rattle.std.specs.Prelude.{◌||◌, bytes_eq, is_some}
use Rattle.std.specs.Option.{option_map_or}
use Rattle.std.proofs.lemmas.Slice.Eq.{bytes_eq-Decides}
use Rattle.yl_config.specs.declared.config.Config.{Config}
use Rattle.yl_units.specs.declared.encoding.Encoding.{Encoding}
use Rattle.yl_lsp.specs.Params.{ChangeValue, OpenedValue}
use Rattle.yl_workspace.specs.declared.cause.Cause.{Cause}
use Rattle.yl_workspace.specs.declared.cause.Cause.TheVariants.{OutOfMemory}
use Rattle.yl_workspace.specs.Changes.{is_granted, text_after_changes}
use Rattle.yl_workspace.specs.Documents.{DocumentValue, all_lost, changed_document, closed, configured, configured_document, document_at, lost, lost_document, opened, opened_document, put_document, with_document}
use Rattle.yl_server.specs.declared.governed.Governed.{Governed}
use Rattle.yl_server.specs.Folders.{first_found, governed_each, is_changed, judged, judged_anew}

-- ---- URIs

true_false : true ≡ false → ⊥
true_false e = cc

pub same_uri : (xs ys : List ℕ) → bytes_eq xs ys ≡ true → xs ≡ ys
same_uri xs ys = (bytes_eq-Decides xs ys).0

is_same : (xs ys : List ℕ) → xs ≡ ys → bytes_eq xs ys ≡ true
is_same xs ys = (bytes_eq-Decides xs ys).1

false_of : (b : Bool) → (b ≡ true → ⊥) → b ≡ false
false_of true h = absurd (h refl)
false_of false h = refl

other_way : (xs ys : List ℕ) → bytes_eq xs ys ≡ false → bytes_eq ys xs ≡ false
other_way xs ys h = false_of (bytes_eq ys xs) (λ e. true_false (sym (is_same xs ys (sym (same_uri ys xs e))) ∙ h))

-- one that is the same as another differs from what that one does
differs : (x u v : List ℕ) → bytes_eq x u ≡ true → bytes_eq u v ≡ false → bytes_eq x v ≡ false
differs x u v e h = ap (λ w. bytes_eq w v) (same_uri x u e) ∙ h

-- ---- the document of another URI

missed_front : (v : List ℕ) (d : DocumentValue) (ds : List DocumentValue) → bytes_eq d.uri v ≡ false → document_at v (d ∷ ds) ≡ document_at v ds
missed_front v d ds h = ap (λ b. cond b (Some d) (document_at v ds)) h

-- what becomes of the documents changes none of another URI
abbrev pub KeepsOthers : (uri : List ℕ) → List DocumentValue → List DocumentValue → Type 0
KeepsOthers uri old new = (v : List ℕ) → bytes_eq uri v ≡ false → document_at v new ≡ document_at v old

-- they have URIs of their own
abbrev pub AreDistinct : List DocumentValue → Type 0
AreDistinct [] = Unit {0}
AreDistinct (d ∷ ds) = (document_at d.uri ds ≡ None) × AreDistinct ds

-- ---- in place of one

others_front : (uri : List ℕ) (other : DocumentValue → DocumentValue) (d : DocumentValue) (ds : List DocumentValue) (a : Bool) → bytes_eq d.uri uri ≡ a → ((x : DocumentValue) → (other x).uri ≡ x.uri)
    → KeepsOthers uri ds (with_document uri other ds) → KeepsOthers uri (d ∷ ds) (cond a (other d ∷ ds) (d ∷ with_document uri other ds))
others_front uri other d ds true e keeps h v g =
    missed_front v (other d) ds (ap (λ w. bytes_eq w v) (keeps d) ∙ differs d.uri uri v e g) ∙ sym (missed_front v d ds (differs d.uri uri v e g))
others_front uri other d ds false e keeps h v g = ap (λ o. cond (bytes_eq d.uri v) (Some d) o) (h v g)

pub others_with : (uri : List ℕ) (other : DocumentValue → DocumentValue) (ds : List DocumentValue) → ((x : DocumentValue) → (other x).uri ≡ x.uri) → KeepsOthers uri ds (with_document uri other ds)
others_with uri other [] keeps v g = refl
others_with uri other (d ∷ ds) keeps v g = others_front uri other d ds (bytes_eq d.uri uri) refl keeps (others_with uri other ds keeps) v g

-- ---- the same documents

abbrev pub AreSame : List DocumentValue → List DocumentValue → Type 0
AreSame [] [] = Unit {0}
AreSame (x ∷ xs) (y ∷ ys) = (x.uri ≡ y.uri) × AreSame xs ys
AreSame _ _ = ⊥

pub same_all : (ds : List DocumentValue) → AreSame ds ds
same_all [] = tt
same_all (d ∷ ds) = (refl, same_all ds)

pub same_lost : (c : Cause) (ds : List DocumentValue) → AreSame ds (all_lost c ds)
same_lost c [] = tt
same_lost c (d ∷ ds) = (refl, same_lost c ds)

pub same_configured : (c : Option Config) (grants : List Bool) (ds : List DocumentValue) → AreSame ds (configured c grants ds)
same_configured c grants [] = tt
same_configured c grants (d ∷ ds) = (refl, same_configured c _ ds)

same_governed : (o : Option (Option Config)) (granted : Bool) (d : DocumentValue) → d.uri ≡ (option_map_or (λ c. configured_document c granted d) o d).uri
same_governed None granted d = refl
same_governed (Some c) granted d = refl

pub same_each : (found : List Governed) (grants : List Bool) (ds : List DocumentValue) → AreSame ds (governed_each found grants ds)
same_each found grants [] = tt
same_each found grants (d ∷ ds) = (same_governed (judged (first_found found)) (is_granted grants) d, same_each (drop 1 found) (drop 1 grants) ds)

pub same_anew : (named : Option Config) (found : List Governed) (grants : List Bool) (ds : List DocumentValue) → AreSame ds (judged_anew named found grants ds)
same_anew None found grants ds = same_each found grants ds
same_anew (Some c) found grants ds = same_configured (Some c) grants ds

-- where none is judged by another, all stay as they are
stays : (o : Option (Option Config)) (granted : Bool) (d : DocumentValue) → is_some o ≡ false → option_map_or (λ c. configured_document c granted d) o d ≡ d
stays None granted d h = refl
stays (Some c) granted d h = cc

or_parts : (a b : Bool) → (a || b) ≡ false → (a ≡ false) × (b ≡ false)
or_parts true b h = cc
or_parts false b h = (refl, h)

pub unchanged : (found : List Governed) (grants : List Bool) (ds : List DocumentValue) → is_changed found ≡ false → governed_each found grants ds ≡ ds
unchanged found grants [] h = refl
unchanged [] grants (d ∷ ds) h = ap (λ (l : List DocumentValue). d ∷ l) (unchanged [] (drop 1 grants) ds refl)
unchanged (g ∷ gs) grants (d ∷ ds) h =
    let parts = or_parts (is_some (judged g)) (is_changed gs) h in
    ap (λ (x : DocumentValue). x ∷ governed_each gs (drop 1 grants) ds) (stays (judged g) (is_granted grants) d parts.0) ∙ ap (λ (l : List DocumentValue). d ∷ l) (unchanged gs (drop 1 grants) ds parts.1)

same_front : (uri : List ℕ) (other : DocumentValue → DocumentValue) (d : DocumentValue) (ds : List DocumentValue) (a : Bool) → ((x : DocumentValue) → (other x).uri ≡ x.uri)
    → AreSame ds (with_document uri other ds) → AreSame (d ∷ ds) (cond a (other d ∷ ds) (d ∷ with_document uri other ds))
same_front uri other d ds true keeps h = (sym (keeps d), same_all ds)
same_front uri other d ds false keeps h = (refl, h)

same_with : (uri : List ℕ) (other : DocumentValue → DocumentValue) (ds : List DocumentValue) → ((x : DocumentValue) → (other x).uri ≡ x.uri) → AreSame ds (with_document uri other ds)
same_with uri other [] keeps = tt
same_with uri other (d ∷ ds) keeps = same_front uri other d ds (bytes_eq d.uri uri) keeps (same_with uri other ds keeps)

none_of : (v : List ℕ) (x y : DocumentValue) (xs ys : List DocumentValue) (b : Bool) → (document_at v xs ≡ None → document_at v ys ≡ None) → cond b (Some x) (document_at v xs) ≡ None → cond b (Some y) (document_at v ys) ≡ None
none_of v x y xs ys true h n = absurd (some_none n)
  where
    some_none : Some x ≡ None → ⊥
    some_none e = cc
none_of v x y xs ys false h n = h n

pub none_same : (v : List ℕ) (xs ys : List DocumentValue) → AreSame xs ys → document_at v xs ≡ None → document_at v ys ≡ None
none_same v [] [] h n = refl
none_same v [] (y ∷ ys) h n = absurd h
none_same v (x ∷ xs) [] h n = refl
none_same v (x ∷ xs) (y ∷ ys) h n =
    ap (λ u. cond (bytes_eq u v) (Some y) (document_at v ys)) (sym h.0) ∙ none_of v x y xs ys (bytes_eq x.uri v) (none_same v xs ys h.1) n

pub same_back : (xs ys : List DocumentValue) → AreSame xs ys → AreSame ys xs
same_back [] [] h = tt
same_back [] (y ∷ ys) h = absurd h
same_back (x ∷ xs) [] h = absurd h
same_back (x ∷ xs) (y ∷ ys) h = (sym h.0, same_back xs ys h.1)

pub distinct_same : (xs ys : List DocumentValue) → AreSame xs ys → AreDistinct xs → AreDistinct ys
distinct_same [] [] h g = tt
distinct_same [] (y ∷ ys) h g = absurd h
distinct_same (x ∷ xs) [] h g = tt
distinct_same (x ∷ xs) (y ∷ ys) h g = (none_same y.uri xs ys h.1 (ap (λ u. document_at u xs) (sym h.0) ∙ g.0), distinct_same xs ys h.1 g.1)

pub distinct_with : (uri : List ℕ) (other : DocumentValue → DocumentValue) (ds : List DocumentValue) → ((x : DocumentValue) → (other x).uri ≡ x.uri) → AreDistinct ds → AreDistinct (with_document uri other ds)
distinct_with uri other ds keeps h = distinct_same ds (with_document uri other ds) (same_with uri other ds keeps) h

-- ---- lost and changed

pub keeps_lost : (c : Cause) (d : DocumentValue) → (lost_document c d).uri ≡ d.uri
keeps_lost c d = refl

pub keeps_changed : (e : Encoding) (grants : List Bool) (version : List ℕ) (cs : List ChangeValue) (d : DocumentValue) → (changed_document e grants version cs d).uri ≡ d.uri
keeps_changed e grants version cs d = of (is_granted grants)
  where
    of : (b : Bool) → (cond b (record d { version = version; text = text_after_changes e (drop 1 grants) d.text cs }) (lost_document OutOfMemory d)).uri ≡ d.uri
    of true = refl
    of false = refl

-- ---- opened

put_front : (v : List ℕ) (new x : DocumentValue) (xs : List DocumentValue) (a : Bool) → bytes_eq x.uri new.uri ≡ a → bytes_eq new.uri v ≡ false → document_at v (put_document new xs) ≡ document_at v xs
    → document_at v (cond a (new ∷ xs) (x ∷ put_document new xs)) ≡ document_at v (x ∷ xs)
put_front v new x xs true e g h = missed_front v new xs g ∙ sym (missed_front v x xs (differs x.uri new.uri v e g))
put_front v new x xs false e g h = ap (λ o. cond (bytes_eq x.uri v) (Some x) o) h

others_put : (new : DocumentValue) (ds : List DocumentValue) → KeepsOthers new.uri ds (put_document new ds)
others_put new [] v g = missed_front v new [] g
others_put new (d ∷ ds) v g = put_front v new d ds (bytes_eq d.uri new.uri) refl g (others_put new ds v g)

distinct_front : (new x : DocumentValue) (xs : List DocumentValue) (a : Bool) → bytes_eq x.uri new.uri ≡ a → AreDistinct (x ∷ xs) → AreDistinct (put_document new xs)
    → AreDistinct (cond a (new ∷ xs) (x ∷ put_document new xs))
distinct_front new x xs true e h g = (ap (λ u. document_at u xs) (sym (same_uri x.uri new.uri e)) ∙ h.0, h.1)
distinct_front new x xs false e h g = (others_put new xs x.uri (other_way x.uri new.uri e) ∙ h.0, g)

distinct_put : (new : DocumentValue) (ds : List DocumentValue) → AreDistinct ds → AreDistinct (put_document new ds)
distinct_put new [] h = (refl, tt)
distinct_put new (d ∷ ds) h = distinct_front new d ds (bytes_eq d.uri new.uri) refl h (distinct_put new ds h.1)

pub others_opened : (c : Option Config) (grants : List Bool) (o : OpenedValue) (ds : List DocumentValue) → KeepsOthers o.uri ds (opened c grants o ds)
others_opened c grants o ds v g = of (is_granted grants)
  where
    of : (b : Bool) → document_at v (cond b (put_document (opened_document c (is_granted (drop 1 grants)) o) ds) (lost OutOfMemory o.uri ds)) ≡ document_at v ds
    of true = others_put (opened_document c (is_granted (drop 1 grants)) o) ds v g
    of false = others_with o.uri (lost_document OutOfMemory) ds (keeps_lost OutOfMemory) v g

pub distinct_opened : (c : Option Config) (grants : List Bool) (o : OpenedValue) (ds : List DocumentValue) → AreDistinct ds → AreDistinct (opened c grants o ds)
distinct_opened c grants o ds h = of (is_granted grants)
  where
    of : (b : Bool) → AreDistinct (cond b (put_document (opened_document c (is_granted (drop 1 grants)) o) ds) (lost OutOfMemory o.uri ds))
    of true = distinct_put (opened_document c (is_granted (drop 1 grants)) o) ds h
    of false = distinct_with o.uri (lost_document OutOfMemory) ds (keeps_lost OutOfMemory) h

-- ---- closed

closed_front : (v u : List ℕ) (x : DocumentValue) (xs : List DocumentValue) (a : Bool) → bytes_eq x.uri u ≡ a → bytes_eq u v ≡ false → document_at v (closed u xs) ≡ document_at v xs
    → document_at v (cond (not a) (x ∷ closed u xs) (closed u xs)) ≡ document_at v (x ∷ xs)
closed_front v u x xs true e g h = h ∙ sym (missed_front v x xs (differs x.uri u v e g))
closed_front v u x xs false e g h = ap (λ o. cond (bytes_eq x.uri v) (Some x) o) h

pub others_closed : (u : List ℕ) (ds : List DocumentValue) → KeepsOthers u ds (closed u ds)
others_closed u [] v g = refl
others_closed u (d ∷ ds) v g = closed_front v u d ds (bytes_eq d.uri u) refl g (others_closed u ds v g)

distinct_closed_front : (u : List ℕ) (x : DocumentValue) (xs : List DocumentValue) (a : Bool) → bytes_eq x.uri u ≡ a → document_at x.uri xs ≡ None → AreDistinct (closed u xs)
    → AreDistinct (cond (not a) (x ∷ closed u xs) (closed u xs))
distinct_closed_front u x xs true e h g = g
distinct_closed_front u x xs false e h g = (others_closed u xs x.uri (other_way x.uri u e) ∙ h, g)

pub distinct_closed : (u : List ℕ) (ds : List DocumentValue) → AreDistinct ds → AreDistinct (closed u ds)
distinct_closed u [] h = tt
distinct_closed u (d ∷ ds) h = distinct_closed_front u d ds (bytes_eq d.uri u) refl h.0 (distinct_closed u ds h.1)
