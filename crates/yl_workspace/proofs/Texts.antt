-- What opening a text, edits and changes leave.
use Rattle.std.proofs.Common.{◌≡◌, ℕ, ◌+◌, ◌<◌, ◌≤◌, inl, inr, Bool, true, false, cond, nat_le, List, [], ◌∷◌, length, drop, get_or, refl, sym, ◌∙◌, ap, subst, arith, Result, Ok, Err}
use Rattle.std.proofs.lemmas.Bool.{cases_lt}
use Rattle.std.proofs.lemmas.Bool.Decides.{nat_tests}
use Rattle.std.proofs.lemmas.List.{take_all, drop_all, drop_more}
use Rattle.std.specs.Str.{IsUtf8, IsValidUpTo}
use Rattle.yl_text.specs.declared.TheConstants.{MAX_BYTES}
use Rattle.yl_text.specs.declared.position.Pos.{Pos}
use Rattle.yl_text.specs.declared.fault.TextFault.{TextFault}
use Rattle.yl_text.specs.declared.fault.TextFault.TheVariants.{NotUtf8, Range, TooLarge, Memory}
use Rattle.yl_text.specs.Fault.{IsFaultOf}
use Rattle.yl_text.specs.Lines.{RowValue, text_of, IsLines}
use Rattle.yl_text.specs.Edit.{CanEdit, IsEditFault, IsEditRange, IsInText, edited_text, offset}
use Rattle.yl_text.proofs.Computed.{lines_of-is}
use Rattle.yl_text.proofs.OneAnswer.{no_fault_beside}
use Rattle.yl_units.specs.declared.encoding.Encoding.{Encoding}
use Rattle.yl_units.specs.Places.{place_of}
use Rattle.yl_lsp.specs.declared.range.Range as R
use Rattle.yl_lsp.specs.Params.{ChangeValue, Unread}
use Rattle.yl_difference.specs.Difference.{IsDifference}
use Rattle.yl_config.specs.declared.config.Config.{Config}
use Rattle.yl_session.specs.State.{SessionValue, Shows}
use Rattle.yl_session.specs.Runs.{IsAnswer}
use Rattle.yl_workspace.specs.declared.cause.Cause.{Cause}
use Rattle.yl_workspace.specs.declared.cause.Cause.TheVariants as C
use Rattle.yl_workspace.specs.Changes.{TextValue, Followed, Lost, within_bounds, changed_text, followed_if, text_after_change, text_after_changes}
use Rattle.yl_workspace.specs.Shown.{cause_of}

-- ---- bounds

pub within : (t : List ℕ) → length t ≤ MAX_BYTES → within_bounds t ≡ Ok t
within t h =
    let test : nat_le (length t) MAX_BYTES ≡ true = grind (arith, nat_tests) in
    let F : Bool → Result (List ℕ) Cause = λ b. cond b (Ok t) (Err C.TooLarge) in
    ap F test

pub too_large : (t : List ℕ) → MAX_BYTES < length t → within_bounds t ≡ Err C.TooLarge
too_large t h =
    let test : nat_le (length t) MAX_BYTES ≡ false = grind (arith, nat_tests) in
    let F : Bool → Result (List ℕ) Cause = λ b. cond b (Ok t) (Err C.TooLarge) in
    ap F test

pub not_cut : (t : List ℕ) (n : ℕ) → IsUtf8 t → ¬ (IsValidUpTo t n)
not_cut t n u h = h.longest (length t) h.short (subst IsUtf8 (sym (take_all (length t) t (omega arith))) u)

-- ---- a session over a text

pub own_text : (c : Config) (t : List ℕ) (s : SessionValue) → Shows c t s → Shows c (text_of s.rows) s
own_text c t s h = record { config = h.config; lines = subst (λ (u : List ℕ). IsLines u s.rows) (sym h.lines.joined) h.lines; problems = h.problems }

pub opened : (c : Config) (t : List ℕ) (s : SessionValue) → Shows c t s → length t ≤ MAX_BYTES → (granted : Bool) × (Followed (text_of s.rows) ≡ followed_if granted (within_bounds t))
opened c t s h l = (true, ap Followed h.lines.joined ∙ sym (ap (followed_if true) (within t l)))

pub open_fault : (t : List ℕ) (fault : TextFault) → IsUtf8 t → IsFaultOf t fault → (granted : Bool) × (Lost (cause_of fault) ≡ followed_if granted (within_bounds t))
open_fault t (NotUtf8 n) u h = absurd (not_cut t n u h)
open_fault t Range u h = absurd h
open_fault t TooLarge u h = (true, sym (ap (followed_if true) (too_large t h.1)))
open_fault t Memory u h = (false, sym (ap (followed_if false) (within t h.short)))

-- ---- an edit between places that an editor names

abbrev changed_in : Encoding → List RowValue → R.Range → List ℕ → Result (List ℕ) Cause
changed_in e qs range new =
    cond (nat_le (offset qs (place_of e qs range.start)) (offset qs (place_of e qs range.end))) (within_bounds (edited_text qs (place_of e qs range.start) (place_of e qs range.end) new)) (Err C.BadChange)

pub changed_is : (e : Encoding) (ps : List RowValue) (range : R.Range) (new : List ℕ) → IsLines (text_of ps) ps → changed_text e (text_of ps) range new ≡ changed_in e ps range new
unfolding changed_text
changed_is e ps range new h = ap (λ (qs : List RowValue). changed_in e qs range new) (lines_of-is (text_of ps) ps h)

pub ordered : (e : Encoding) (ps : List RowValue) (range : R.Range) (new : List ℕ) → IsLines (text_of ps) ps → offset ps (place_of e ps range.start) ≤ offset ps (place_of e ps range.end)
    → changed_text e (text_of ps) range new ≡ within_bounds (edited_text ps (place_of e ps range.start) (place_of e ps range.end) new)
ordered e ps range new h l =
    let test : nat_le (offset ps (place_of e ps range.start)) (offset ps (place_of e ps range.end)) ≡ true = grind (arith, nat_tests) in
    changed_is e ps range new h ∙ ap (λ b. cond b (within_bounds (edited_text ps (place_of e ps range.start) (place_of e ps range.end) new)) (Err C.BadChange)) test

pub disordered : (e : Encoding) (ps : List RowValue) (range : R.Range) (new : List ℕ) → IsLines (text_of ps) ps → offset ps (place_of e ps range.end) < offset ps (place_of e ps range.start)
    → changed_text e (text_of ps) range new ≡ Err C.BadChange
disordered e ps range new h l =
    let test : nat_le (offset ps (place_of e ps range.start)) (offset ps (place_of e ps range.end)) ≡ false = grind (arith, nat_tests) in
    changed_is e ps range new h ∙ ap (λ b. cond b (within_bounds (edited_text ps (place_of e ps range.start) (place_of e ps range.end) new)) (Err C.BadChange)) test

pub record ArePlaces (e : Encoding) (ps : List RowValue) (range : R.Range) (from to : Pos) : Type 0 where
  pub lines : IsLines (text_of ps) ps
  pub from_is : from ≡ place_of e ps range.start
  pub to_is : to ≡ place_of e ps range.end
  pub from_inside : IsInText ps from
  pub to_inside : IsInText ps to

-- the two places as the definition has them
own_places : (e : Encoding) (ps : List RowValue) (range : R.Range) (from to : Pos) → ArePlaces e ps range from to → ArePlaces e ps range (place_of e ps range.start) (place_of e ps range.end)
own_places e ps range from to h = record { lines = h.lines; from_is = refl; to_is = refl; from_inside = subst (IsInText ps) h.from_is h.from_inside; to_inside = subst (IsInText ps) h.to_is h.to_inside }

can_change : (e : Encoding) (ps : List RowValue) (range : R.Range) (new : List ℕ) → IsLines (text_of ps) ps → CanEdit ps (place_of e ps range.start) (place_of e ps range.end) new
    → changed_text e (text_of ps) range new ≡ Ok (edited_text ps (place_of e ps range.start) (place_of e ps range.end) new)
can_change e ps range new h can = ordered e ps range new h can.range.ordered ∙ within (edited_text ps (place_of e ps range.start) (place_of e ps range.end) new) can.short

fault_change : (e : Encoding) (ps : List RowValue) (range : R.Range) (new : List ℕ) (fault : TextFault) → ArePlaces e ps range (place_of e ps range.start) (place_of e ps range.end) → IsUtf8 new
    → IsEditFault ps (place_of e ps range.start) (place_of e ps range.end) new fault → Lost (cause_of fault) ≡ followed_if true (changed_text e (text_of ps) range new)
fault_change e ps range new (NotUtf8 n) h u f = absurd (not_cut new n u f)
fault_change e ps range new Range h u f =
    let a = offset ps (place_of e ps range.start) in
    let b = offset ps (place_of e ps range.end) in
    let less : b < a = elim (cases_lt b a) [ inl l ↦ l | inr l ↦ absurd (f.1 (record { first = h.from_inside; last = h.to_inside; ordered = l })) ] in
    sym (ap (followed_if true) (disordered e ps range new h.lines less))
fault_change e ps range new TooLarge h u f =
    sym (ap (followed_if true) (ordered e ps range new h.lines f.1.ordered ∙ too_large (edited_text ps (place_of e ps range.start) (place_of e ps range.end) new) f.2))
fault_change e ps range new Memory h u f = absurd f

refused_at : (e : Encoding) (ps : List RowValue) (range : R.Range) (new : List ℕ) (fault : TextFault) → ArePlaces e ps range (place_of e ps range.start) (place_of e ps range.end) → IsUtf8 new
    → IsAnswer ps (place_of e ps range.start) (place_of e ps range.end) new (Err fault) → (granted : Bool) × (Lost (cause_of fault) ≡ followed_if granted (changed_text e (text_of ps) range new))
refused_at e ps range new (NotUtf8 n) h u f = (true, fault_change e ps range new (NotUtf8 n) h u f)
refused_at e ps range new Range h u f = (true, fault_change e ps range new Range h u f)
refused_at e ps range new TooLarge h u f = (true, fault_change e ps range new TooLarge h u f)
refused_at e ps range new Memory h u f = (false, sym (ap (followed_if false) (can_change e ps range new h.lines f.0)))

-- what an edit is answered is what the definition says of it
pub refused : (e : Encoding) (ps : List RowValue) (range : R.Range) (new : List ℕ) (from to : Pos) (fault : TextFault) → ArePlaces e ps range from to → IsUtf8 new
    → IsAnswer ps from to new (Err fault) → (granted : Bool) × (Lost (cause_of fault) ≡ followed_if granted (changed_text e (text_of ps) range new))
refused e ps range new from to fault h u f =
    let start : IsAnswer ps (place_of e ps range.start) to new (Err fault) = subst (λ p. IsAnswer ps p to new (Err fault)) h.from_is f in
    let both : IsAnswer ps (place_of e ps range.start) (place_of e ps range.end) new (Err fault) = subst (λ p. IsAnswer ps (place_of e ps range.start) p new (Err fault)) h.to_is start in
    refused_at e ps range new fault (own_places e ps range from to h) u both

pub made : (e : Encoding) (ps : List RowValue) (range : R.Range) (new : List ℕ) (from to : Pos) (c : Config) (s : SessionValue) → ArePlaces e ps range from to
    → CanEdit ps from to new → Shows c (edited_text ps from to new) s → (granted : Bool) × (Followed (text_of s.rows) ≡ followed_if granted (changed_text e (text_of ps) range new))
made e ps range new from to c s h can shown =
    let start : CanEdit ps (place_of e ps range.start) to new = subst (λ p. CanEdit ps p to new) h.from_is can in
    let both : CanEdit ps (place_of e ps range.start) (place_of e ps range.end) new = subst (λ p. CanEdit ps (place_of e ps range.start) p new) h.to_is start in
    let text : text_of s.rows ≡ edited_text ps (place_of e ps range.start) (place_of e ps range.end) new =
    shown.lines.joined ∙ ap (λ p. edited_text ps p to new) h.from_is ∙ ap (λ p. edited_text ps (place_of e ps range.start) p new) h.to_is in
    (true, ap Followed text ∙ sym (ap (followed_if true) (can_change e ps range new h.lines both)))

-- ---- an edit that has no fault

pub only_memory : (ps : List RowValue) (from to : Pos) (new : List ℕ) (fault : TextFault) → CanEdit ps from to new → IsAnswer ps from to new (Err fault) → cause_of fault ≡ C.OutOfMemory
only_memory ps from to new (NotUtf8 n) can f = absurd (no_fault_beside ps from to new (NotUtf8 n) can f)
only_memory ps from to new Range can f = absurd (no_fault_beside ps from to new Range can f)
only_memory ps from to new TooLarge can f = absurd (no_fault_beside ps from to new TooLarge can f)
only_memory ps from to new Memory can f = refl

-- ---- changes in their order

-- a change more is made: those that are left leave what it and they leave
pub one_more : (e : Encoding) (granted : Bool) (rest : List Bool) (old new : TextValue) (cs : List ChangeValue) (i : ℕ) (c : ChangeValue) → i < length cs → c ≡ get_or cs i Unread → new ≡ text_after_change e granted old c
    → text_after_changes e rest new (drop (i + 1) cs) ≡ text_after_changes e (granted ∷ rest) old (drop i cs)
one_more e granted rest old new cs i c l is made =
    ap (λ t. text_after_changes e rest t (drop (i + 1) cs)) (made ∙ ap (λ d. text_after_change e granted old d) is)
    ∙ ap (λ (ds : List ChangeValue). text_after_changes e (granted ∷ rest) old ds) (sym (drop_more cs i Unread l))

-- none is left
pub no_more : (e : Encoding) (text : TextValue) (cs : List ChangeValue) (i : ℕ) → length cs ≤ i → text ≡ text_after_changes e [] text (drop i cs)
no_more e text cs i l = ap (λ (ds : List ChangeValue). text_after_changes e [] text ds) (sym (drop_all i cs l))

-- ---- an edit that makes one text of another
pub replaced_text : (ps : List RowValue) (old new bytes : List ℕ) (from to : Pos) → IsLines old ps → IsDifference old new from to bytes → edited_text ps from to bytes ≡ new
replaced_text ps old new bytes from to h d = subst (λ (qs : List RowValue). edited_text qs from to bytes ≡ new) (lines_of-is old ps h) d.made

pub replaced_can : (ps : List RowValue) (old new bytes : List ℕ) (from to : Pos) → IsLines old ps → IsDifference old new from to bytes → IsUtf8 bytes → length new ≤ MAX_BYTES → CanEdit ps from to bytes
replaced_can ps old new bytes from to h d u l = record {
  utf8 = u;
  range = subst (λ (qs : List RowValue). IsEditRange qs from to) (lines_of-is old ps h) d.range;
  short = subst (λ (t : List ℕ). length t ≤ MAX_BYTES) (sym (replaced_text ps old new bytes from to h d)) l;
}

pub difference_of : (old new xs ys : List ℕ) (from to : Pos) → xs ≡ ys → IsDifference old new from to xs → IsDifference old new from to ys
difference_of old new xs ys from to e d = subst (λ (t : List ℕ). IsDifference old new from to t) e d
