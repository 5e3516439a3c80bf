-- Rows of one section of a text in place of others, where it is one section still.
use Rattle.std.proofs.Common.{◌≡◌, ◌<◌, ◌+◌, ℕ, zero, suc, ◌⊎◌, inl, inr, Bool, true, false, List, [], ◌∷◌, ◌++◌, length, take, drop, Option, Some, None, refl, sym, ◌∙◌, ap, subst, append_assoc, add-one, arith, zero-add}
use Rattle.std.specs.Prelude.{slice_get}
use Rattle.std.specs.List.{splice}
use Rattle.std.proofs.Math.Seq.{drop-append-add, drop-append_seam, take-append-add, take-append_seam}
use Rattle.std.proofs.lemmas.Bool.{cases_lt}
use Rattle.std.proofs.lemmas.List.{length-append}
use Rattle.yl_lexeme.specs.declared.lexeme.Kind.{Kind}
use Rattle.yl_record.specs.Records.{RecordValue}
use Rattle.yl_sections.specs.Local.{begins_section, is_start_at, kind_after, row_total}
use Rattle.yl_sections.specs.Sections.{Parts, is_section_start, last_kind_from, parts, sections, with_row}
use Rattle.yl_sections.proofs.Local.{sections_local}
use Rattle.yl_pieces.specs.State.{DocumentState, start_state}
use Rattle.yl_pieces.specs.Told.{fault_in}
use Rattle.yl_pieces.specs.Laws.{AreClosed}
use Rattle.yl_pieces.specs.Edit.{IsPieceAfter, IsPieceEdit, after_front, after_next}
use Rattle.yl_pieces.specs.SectionEdited.{IsSectionAt, IsSectionStill, SectionIsEdited, SectionIsReplaced, around}
use Rattle.yl_pieces.proofs.JoinedSound.{sound_both, sound_rest, sound_there}
use Rattle.yl_pieces.proofs.OneSection.{one_section}
use Rattle.yl_pieces.proofs.LastKinds.{kind_both, latest_is, same_kinds}

-- ---- a section begins with its first row

abbrev starts_after : Option Kind → List RecordValue → ℕ → Bool
starts_after last rs i = begins_section (kind_after last (take i rs)) (drop i rs)

abbrev AreStarts : Option Kind → List RecordValue → Parts → Type 0
AreStarts last rs p = (n : ℕ) → n < length p.later → starts_after last rs (length p.here + row_total (take n p.later)) ≡ true

one_lower : (last : Option Kind) (r : RecordValue) (rs : List RecordValue) (i j : ℕ) → i ≡ suc j → starts_after (last_kind_from last r.entry.lexemes) rs j ≡ true
    → starts_after last (r ∷ rs) i ≡ true
one_lower last r rs i j e h = ap (λ k. starts_after last (r ∷ rs) k) e ∙ h

starts_onto : (last : Option Kind) (b : Bool) (r : RecordValue) (rs : List RecordValue) (p : Parts) → is_section_start last r.entry.lexemes ≡ b
    → AreStarts (last_kind_from last r.entry.lexemes) rs p → AreStarts last (r ∷ rs) (with_row b r p)
starts_onto last true r rs p b h zero l = b
starts_onto last true r rs p b h (suc n) l = one_lower last r rs _ (length p.here + row_total (take n p.later)) (omega arith) (h n (omega (arith, l)))
starts_onto last false r rs p b h n l = one_lower last r rs _ (length p.here + row_total (take n p.later)) (omega arith) (h n l)

are_starts : (last : Option Kind) (rs : List RecordValue) → AreStarts last rs (parts last rs)
are_starts last [] n l = absurd (omega (arith, l))
are_starts last (r ∷ rs) n l =
    let next = last_kind_from last r.entry.lexemes in
    starts_onto last (is_section_start last r.entry.lexemes) r rs (parts next rs) refl (are_starts next rs) n l

start_there : (rs : List RecordValue) (j : ℕ) → 0 < j → j < length (sections rs) → is_start_at rs (row_total (take j (sections rs))) ≡ true
start_there rs zero s l = absurd (omega (arith, s))
start_there rs (suc n) s l = are_starts None rs n (omega (arith, l))

-- ---- lists

within_by : (ss : List (List RecordValue)) (i : ℕ) (s : List RecordValue) → slice_get ss i ≡ Some s → i < length ss
within_by [] zero s h = cc
within_by [] (suc i) s h = cc
within_by (t ∷ ss) zero s h = omega arith
within_by (t ∷ ss) (suc i) s h = omega (arith, within_by ss i s h)

one_more : (ss : List (List RecordValue)) (i : ℕ) (s : List RecordValue) → slice_get ss i ≡ Some s → row_total (take (suc i) ss) ≡ row_total (take i ss) + length s
one_more [] zero s h = cc
one_more [] (suc i) s h = cc
one_more (t ∷ ss) zero s h = let same : t ≡ s = cc in omega (arith, ap (λ (rs : List RecordValue). length rs) same)
one_more (t ∷ ss) (suc i) s h = omega (arith, one_more ss i s h)

module _ (above rs : List RecordValue) where
  start_is : is_start_at (above ++ rs) (length above) ≡ begins_section (kind_after None above) rs
  start_is =
      ap (λ (qs : List RecordValue). begins_section (kind_after None qs) (drop (length above) (above ++ rs))) (take-append_seam above rs)
      ∙ ap (begins_section (kind_after None above)) (drop-append_seam above rs)

-- the first row says whether a section begins
begins_alike : (last : Option Kind) (front us vs below : List RecordValue) → 0 < length front → begins_section last ((front ++ us) ++ below) ≡ begins_section last ((front ++ vs) ++ below)
begins_alike last [] us vs below h = absurd (omega (arith, h))
begins_alike last (r ∷ front) us vs below h = refl

-- ---- a section is replaced

module _ (i : ℕ) (above front old new below : List RecordValue) (at : IsSectionAt i above (front ++ old) below) (still : IsSectionStill i front old new below) where
  abbrev was : List RecordValue
  was = front ++ old

  abbrev is : List RecordValue
  is = front ++ new

  abbrev olds : List RecordValue
  olds = around above was below

  abbrev news : List RecordValue
  news = around above is below

  abbrev ss : List (List RecordValue)
  ss = sections olds

  -- the last kind above the rows below
  abbrev last_above : List RecordValue → Option Kind
  last_above rs = kind_after None (above ++ rs)

  same_kind : kind_after None was ≡ kind_after None is → last_above was ≡ last_above is
  same_kind h = kind_both None above was ∙ same_kinds (kind_after None above) was is h ∙ sym (kind_both None above is)

  -- ---- places

  within : i < length ss
  within = within_by ss i was at.section_is

  x_is : length above ≡ row_total (take i ss)
  x_is = sym at.rows_above

  y_is : length above + length was ≡ row_total (take (i + 1) ss)
  y_is =
      sym (ap (λ n. row_total (take n ss)) (add-one i) ∙ one_more ss i was at.section_is ∙ ap (λ (n : ℕ). n + length was) at.rows_above)

  rows_before : take (length above) olds ≡ take (length above) news
  rows_before = take-append_seam above (was ++ below) ∙ sym (take-append_seam above (is ++ below))

  behind_rows : (rs : List RecordValue) → drop (length above + length rs) (around above rs below) ≡ below
  behind_rows rs = drop-append-add above (rs ++ below) (length rs) ∙ drop-append_seam rs below

  rows_behind : drop (length above + length was) olds ≡ drop (length above + length is) news
  rows_behind = behind_rows was ∙ sym (behind_rows is)

  middle : drop (length above) (take (length above + length is) news) ≡ is
  middle =
      ap (drop (length above)) (take-append-add above (is ++ below) (length is) ∙ ap (λ (rs : List RecordValue). above ++ rs) (take-append_seam is below))
      ∙ drop-append_seam above is

  -- ---- where it begins

  begins_now : 0 < length front → is_start_at olds (length above) ≡ true → is_start_at news (length above) ≡ true
  begins_now some h =
      start_is above (is ++ below)
      ∙ begins_alike (kind_after None above) front new old below some
      ∙ sym (start_is above (was ++ below))
      ∙ h

  starts_if : (i ≡ 0) ⊎ (0 < length front) → (i ≡ 0) ⊎ (is_start_at news (length above) ≡ true)
  starts_if (inl e) = inl e
  starts_if (inr some) = elim (cases_lt 0 i) [
    | inl l ↦ inr (begins_now some (ap (λ n. is_start_at olds n) x_is ∙ start_there olds i l within))
    | inr l ↦ inl (omega (arith, l))
  ]

  -- ---- where the next one does

  begins_below : (rs : List RecordValue) → is_start_at (around above rs below) (length above + length rs) ≡ begins_section (last_above rs) below
  begins_below rs =
      ap (λ (qs : List RecordValue). is_start_at qs (length above + length rs)) (sym (append_assoc above rs below))
      ∙ ap (λ n. is_start_at ((above ++ rs) ++ below) n) (sym (length-append above rs))
      ∙ start_is (above ++ rs) below

  begins_still : (below ≡ []) ⊎ (kind_after None was ≡ kind_after None is) → begins_section (last_above was) below ≡ true → begins_section (last_above is) below ≡ true
  begins_still (inl none) h =
      let nowhere : begins_section (last_above was) [] ≡ true = sym (ap (begins_section (last_above was)) none) ∙ h in
      absurd (cc)
  begins_still (inr same) h = ap (λ (k : Option Kind). begins_section k below) (sym (same_kind same)) ∙ h

  goes_on : is_start_at olds (length above + length was) ≡ true → is_start_at news (length above + length is) ≡ true
  goes_on h = begins_below is ∙ begins_still still.last (sym (begins_below was) ∙ h)

  ends : (i + 1 ≡ length ss) ⊎ (is_start_at news (length above + length is) ≡ true)
  ends = elim (cases_lt (i + 1) (length ss)) [
    | inl l ↦ inr (goes_on (ap (λ n. is_start_at olds n) y_is ∙ start_there olds (i + 1) (omega arith) l))
    | inr l ↦ inl (omega (arith, l, within))
  ]

  replaced : sections news ≡ splice ss i (i + 1) (is ∷ [])
  replaced =
      let x = length above in
      sym (sections_local olds news i (i + 1) x (x + length was) (x + length is) (omega arith) (omega (arith, within)) x_is y_is (omega (arith, still.some)) rows_before rows_behind
      (starts_if still.begins) ends)
      ∙ ap (splice ss i (i + 1)) (ap sections middle ∙ still.one)

pub section_replaced : SectionIsReplaced
section_replaced i above front old new below at still = replaced i above front old new below at still

-- ---- the kind of the last lexeme of a piece, by the state after it

module _ (front rows : List RecordValue) where
  latest_after : (after_next front rows).marker.marks.latest ≡ kind_after None (front ++ rows)
  latest_after =
      latest_is (after_front front) (length front) rows
      ∙ ap (λ (k : Option Kind). kind_after k rows) (latest_is start_state 0 front)
      ∙ sym (kind_both None front rows)

-- ---- a section in three parts, of which the state between the last two is known

module _ (front rows rest : List RecordValue) (some : 0 < length front) (closed : AreClosed front) (sound : fault_in start_state 0 front ≡ None) (piece : IsPieceAfter front rows) where
  abbrev before : DocumentState
  before = after_front front

  abbrev line : ℕ
  line = length front + length rows

  far : 0 < line
  far = omega (arith, some)

  at_front : fault_in before (0 + length front) (rows ++ rest) ≡ fault_in before (length front) (rows ++ rest)
  at_front = ap (λ (k : ℕ). fault_in before k (rows ++ rest)) (zero-add (length front))

  sound_last : fault_in start_state 0 (front ++ (rows ++ rest)) ≡ None → fault_in (after_next front rows) line rest ≡ None
  sound_last h =
      let lower : fault_in before (length front) (rows ++ rest) ≡ None = sym at_front ∙ sound_rest start_state 0 front (rows ++ rest) closed (omega (arith, some)) sound h in
      sound_rest before (length front) rows rest piece.closed far piece.sound lower

  sound_all : fault_in (after_next front rows) line rest ≡ None → fault_in start_state 0 (front ++ (rows ++ rest)) ≡ None
  sound_all h =
      let lower : fault_in before (length front) (rows ++ rest) ≡ None = sound_both before (length front) rows rest piece.closed far piece.sound h in
      sound_both start_state 0 front (rows ++ rest) closed (omega (arith, some)) sound (at_front ∙ lower)

-- ---- a piece is edited

module _ (front old new rest : List RecordValue) (e : IsPieceEdit front old new) (sound : fault_in start_state 0 (front ++ (old ++ rest)) ≡ None) where
  sound_now : fault_in start_state 0 (front ++ (new ++ rest)) ≡ None
  sound_now =
      let row = length front + length old in
      let line = length front + length new in
      let was : fault_in (after_next front old) row rest ≡ None = sound_last front old rest e.some e.closed e.sound e.old_piece sound in
      let moved : fault_in (after_next front old) line rest ≡ None = sound_there (after_next front old) row line rest (omega (arith, e.some)) (omega (arith, e.some)) was in
      sound_all front new rest e.some e.closed e.sound e.new_piece (subst (λ (s : DocumentState). fault_in s line rest ≡ None) e.same moved)

  kind_of_pieces : kind_after None (front ++ old) ≡ kind_after None (front ++ new)
  kind_of_pieces = sym (latest_after front old) ∙ ap (λ (s : DocumentState). s.marker.marks.latest) e.same ∙ latest_after front new

  kind_with_rest : (rows : List RecordValue) → kind_after None (front ++ (rows ++ rest)) ≡ kind_after (kind_after None (front ++ rows)) rest
  kind_with_rest rows = ap (λ (rs : List RecordValue). kind_after None rs) (sym (append_assoc front rows rest)) ∙ kind_both None (front ++ rows) rest

  kind_stays : kind_after None (front ++ (old ++ rest)) ≡ kind_after None (front ++ (new ++ rest))
  kind_stays = kind_with_rest old ∙ ap (λ (k : Option Kind). kind_after k rest) kind_of_pieces ∙ sym (kind_with_rest new)

  is_still : (i : ℕ) (below : List RecordValue) → IsSectionStill i front (old ++ rest) (new ++ rest) below
  is_still i below = record {
    some = omega (arith, e.some, length-append front (new ++ rest));
    begins = inr e.some;
    one = one_section (front ++ (new ++ rest)) sound_now;
    last = inr kind_stays;
  }

pub section_edited : SectionIsEdited
section_edited i above front old new rest below at e sound =
    section_replaced i above front (old ++ rest) (new ++ rest) below at (is_still front old new rest e sound i below)
