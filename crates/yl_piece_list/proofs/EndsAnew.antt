-- A section in pieces that ends anew above row `from`, and keeps what it had.
use Rattle.std.proofs.Common.{◌≡◌, ◌<◌, ◌≤◌, ◌+◌, ◌-◌, ◌⊎◌, ℕ, zero, suc, List, [], ◌∷◌, ◌++◌, length, take, drop, Some, refl, ap, sym, subst, ◌∙◌, add-one, arith, rules, append_assoc, inl, inr}
use Rattle.std.specs.Prelude.{slice_get}
use Rattle.std.specs.List.{splice}
use Rattle.std.proofs.lemmas.Bool.{cases_lt}
use Rattle.std.proofs.lemmas.List.{length-drop, length-take, places, same_lists}
use Rattle.yl_config.specs.declared.config.Config.{Config}
use Rattle.yl_record.specs.Records.{RecordValue}
use Rattle.yl_sections.specs.Front.{IsFront}
use Rattle.yl_sections.specs.Holding.{TakesNothing, documents_holding}
use Rattle.yl_sections.specs.Kept.{documents_in, rows_kept}
use Rattle.yl_sections.specs.Local.{row_total}
use Rattle.yl_sections.specs.Sections.{sections}
use Rattle.yl_sections.proofs.KeptRows.{rows_front}
use Rattle.yl_rejudge.specs.Documents.{AreFront}
use Rattle.yl_rejudge.specs.Places.{changed_sections}
use Rattle.yl_rejudge.proofs.Bound.{in_section}
use Rattle.yl_section_pieces.specs.Pieces.{PieceValue, summaries}
use Rattle.yl_section_pieces.specs.Sections.{AreKeptSections}
use Rattle.yl_piece_list.specs.Anew.{AreKeptBehind, IsLastPiece, LosesRows, RowsEndAnew}
use Rattle.yl_piece_list.proofs.Flat.{IsFound, put, rows_at, rows_between, start_end}
use Rattle.yl_piece_list.proofs.LastPiece.{IsLastIn, begins_above, end_row, last_in, last_piece_is}
use Rattle.yl_piece_list.proofs.NextPiece.{same_changed, total_rows}
use Rattle.yl_piece_list.proofs.Starts.{start_at}

-- ---- rows between two others

get_dropped : (rs : List RecordValue) (x i : ℕ) → slice_get (drop x rs) i ≡ slice_get rs (x + i)
get_dropped rs zero i = let e : i ≡ 0 + i = omega arith in ap (λ k. slice_get rs k) e
get_dropped [] (suc x) i = refl
get_dropped (r ∷ rs) (suc x) i = let e : suc x + i ≡ suc (x + i) = omega arith in get_dropped rs x i ∙ ap (λ k. slice_get (r ∷ rs) k) (sym e)

get_taken : (rs : List RecordValue) (e i : ℕ) (r : RecordValue) → slice_get (take e rs) i ≡ Some r → (i < e) × (slice_get rs i ≡ Some r)
get_taken rs zero i r h = cc
get_taken [] (suc e) i r h = cc
get_taken (x ∷ rs) (suc e) zero r h = (omega arith, h)
get_taken (x ∷ rs) (suc e) (suc i) r h = let g = get_taken rs e i r h in (omega (arith, g.0), g.1)

front_between : (rs : List RecordValue) (x from e : ℕ) → x ≤ from → AreFront rs x from e → IsFront (from - x) (drop x (take e rs))
front_between rs x from e o h = record {
  sound = λ i r l at. let g = get_taken rs e (x + i) r (sym (get_dropped (take e rs) x i) ∙ at) in (h (x + i) r (omega arith) g.0 g.1).0 (omega (arith, l, o));
  bare = λ i r l at. let g = get_taken rs e (x + i) r (sym (get_dropped (take e rs) x i) ∙ at) in (h (x + i) r (omega arith) g.0 g.1).1 (omega (arith, l, o));
}

rows_left : (rs : List RecordValue) (x from y : ℕ) → x ≤ from → from ≤ y → take (from - x) (drop x (take y rs)) ≡ drop x (take from rs)
rows_left rs x from y o l = same_lists _ _ (search (rules, places)) (λ k d h. grind (arith, places))

module _ (config : Config) (old new : List RecordValue) (ps : List PieceValue) (h : AreKeptSections config (sections old) ps)
    (f e x z from end : ℕ) (d : IsFound config old ps h new f e x z from end) (x_at : x ≡ rows_kept (take f (summaries ps))) where
  x_is : x ≡ row_total (take d.p (sections old))
  x_is = x_at ∙ (ap (λ n. rows_kept (take n (summaries ps))) d.p_at ∙ rows_at config old ps h d.p)

  -- ---- where it is seen to end anew

  module _ (i row : ℕ) (last : IsLastPiece ps f i) (row_at : row ≡ rows_kept (take i (summaries ps)))
      (anew : RowsEndAnew old new x (rows_kept (take (i + 1) (summaries ps))) from) where
    abbrev y : ℕ
    y = rows_kept (take (i + 1) (summaries ps))

    there : d.p < length (sections old)
    there = elim (cases_lt d.p (length (sections old))) [
      | inl l ↦ l
      | inr l ↦
          let all : d.p ≡ length (sections old) = omega (arith, l, d.p_within) in
          let at : f ≡ length ps = d.p_at ∙ (ap (λ n. start_at h.cuts n) all ∙ start_end config old ps h) in
          absurd (omega (arith, at, last.order, last.within))
    ]

    is_last : IsLastIn config old ps h d.p f i
    is_last = last_in config old ps h d.p f d.p_at there i last

    y_is : rows_kept (take (i + 1) (summaries ps)) ≡ row_total (take (suc d.p) (sections old))
    y_is = end_row config old ps h d.p f d.p_at there i last

    y_few : rows_kept (take (i + 1) (summaries ps)) ≤ length old
    y_few = omega (arith, rows_front (summaries ps) (i + 1), total_rows config old ps h)

    own : is_last.rows ≡ drop x (take (rows_kept (take (i + 1) (summaries ps))) old)
    own =
        is_last.own
        ∙ (ap (λ n. drop n (take (row_total (take (suc d.p) (sections old))) old)) (sym x_is)
        ∙ ap (λ n. drop x (take n old)) (sym y_is))

    front : IsFront (from - x) is_last.rows
    front = subst (λ (rs : List RecordValue). IsFront (from - x) rs) (sym own) (front_between old x from y (omega (arith, anew.before)) anew.front)

    row_is : row ≡ x + rows_kept (summaries is_last.above)
    row_is = omega (arith, row_at, is_last.rows_above, x_is)

    -- its last piece begins above it
    pub row_above : row < from
    row_above =
        let low = begins_above config is_last.rows is_last.above is_last.piece (from - x) is_last.kept (omega (arith, anew.before)) front in
        omega (arith, low, row_is)

    -- and stands above what is judged up to
    pub piece_above : (old_end : ℕ) → from ≤ old_end → (e ≡ length ps) ⊎ (old_end ≤ rows_kept (take e (summaries ps))) → i < e
    piece_above old_end o (inl w) = omega (arith, w, last.within)
    piece_above old_end o (inr w) = elim (cases_lt i e) [
      | inl l ↦ l
      | inr l ↦ absurd (omega (arith, w, o, row_above, row_at, rows_between (summaries ps) e i l))
    ]

    some_left : rows_kept (summaries is_last.above) + (from - row) ≡ from - x
    some_left = omega (arith, row_is, row_above)

    loses : LosesRows config is_last.rows is_last.above is_last.piece (from - row)
    loses = record {
      kept = is_last.kept;
      some = omega (arith, row_above);
      within =
          let count = ap (λ (rs : List RecordValue). length rs) own in
          omega (arith, some_left, anew.before, anew.after, y_few, count, length-drop x (take y old), length-take y old);
      front = subst (λ n. IsFront n is_last.rows) (sym some_left) front;
    }

    rows_are : take from old ≡ take from new → take (rows_kept (summaries is_last.above) + (from - row)) is_last.rows ≡ drop x (take from new)
    rows_are same =
        ap (λ n. take n is_last.rows) some_left
        ∙ (ap (λ (rs : List RecordValue). take (from - x) rs) own
        ∙ (rows_left old x from y (omega (arith, anew.before)) (omega (arith, anew.after)) ∙ ap (λ (rs : List RecordValue). drop x rs) same))

    spliced : (ns : List PieceValue) → splice ps f e (is_last.above ++ ns) ≡ splice ps i e ns
    spliced ns =
        ap (λ (qs : List PieceValue). take f ps ++ qs) (append_assoc is_last.above ns (drop e ps))
        ∙ (sym (append_assoc (take f ps) is_last.above (ns ++ drop e ps)) ∙ ap (λ (qs : List PieceValue). qs ++ (ns ++ drop e ps)) (sym is_last.front))

    pub anew_kept : take from old ≡ take from new → (ns : List PieceValue)
        → ((x : PieceValue) → slice_get ps i ≡ Some x → AreKeptBehind config x (from - row) (changed_sections (i + 1) from z new) ns)
        → AreKeptSections config (sections new) (splice ps i e ns)
    anew_kept same ns judged =
        let behind = judged is_last.piece is_last.there is_last.rows is_last.above loses in
        let rows = rows_are same in
        let changed = same_changed (i + 1) (d.p + 1) from z new (λ w. absurd (omega (arith, w))) (λ w. omega arith) in
        let kept : AreKeptSections config (drop x (take from new) ∷ changed_sections (d.p + 1) from z new) (is_last.above ++ ns) =
        subst (λ (ss : List (List RecordValue)). AreKeptSections config (drop x (take from new) ∷ ss) (is_last.above ++ ns)) changed
        (subst (λ (rs : List RecordValue). AreKeptSections config (rs ∷ changed_sections (i + 1) from z new) (is_last.above ++ ns)) rows behind) in
        let all = put config old ps h new f f e x x x z from from end d (drop x (take from new) ∷ changed_sections (d.p + 1) from z new) (is_last.above ++ ns)
        (d.outcome.changed_anew anew.start anew.before) kept in
        subst (λ (qs : List PieceValue). AreKeptSections config (sections new) qs) (spliced ns) all

    pub few_behind : (m : ℕ) → end ≤ m + 1 → documents_in (changed_sections (i + 1) from z new) ≤ documents_holding 0 from m (sections new)
    few_behind m w =
        let changed = same_changed (i + 1) (d.p + 1) from z new (λ v. absurd (omega (arith, v))) (λ v. omega arith) in
        let same = ap (λ (ss : List (List RecordValue)). documents_in ss) changed in
        omega (arith, same, d.outcome.few_anew anew.start anew.before m w)

  -- ---- where it isn't

  -- where nothing was read of the rows that leave the last section above, it is seen to end anew; else what is judged is few
  pub near_taken : TakesNothing old new from
      → ((i : ℕ) → IsLastPiece ps f i → RowsEndAnew old new x (rows_kept (take (i + 1) (summaries ps))) from → ⊥)
      → (m : ℕ) → end ≤ m + 1 → documents_in (changed_sections d.p x z new) ≤ documents_holding 0 from m (sections new)
  near_taken taken not_seen m w = elim (d.outcome.near m w taken.within) [
    | inl few ↦ few
    | inr g ↦
        let there = d.outcome.last g.0 g.1.0 g.1.1 in
        let front = taken.front g.0 g.1.0 in
        let i = start_at h.cuts (suc d.p) - 1 in
        let last = last_piece_is config old ps h d.p f d.p_at there.0 in
        let high = end_row config old ps h d.p f d.p_at there.0 i last ∙ ap (λ n. row_total (take n (sections old))) (sym (add-one d.p)) in
        absurd (not_seen i last (record {
          before = g.1.1;
          after = omega (arith, there.1, high);
          start = g.1.0;
          front = λ j r a b at. (
            λ l. front.sound j r l at,
            λ l. front.bare j r l (in_section old d.p from j (omega (arith, g.1.1, x_is)) (omega (arith, b, high))) at,
          );
        }))
  ]
