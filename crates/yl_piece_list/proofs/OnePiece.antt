-- An edit within one piece, in the list of all pieces.
use Rattle.std.proofs.Common.{◌≡◌, ◌<◌, ◌≤◌, ◌+◌, ◌-◌, ℕ, true, List, [], ◌∷◌, ◌++◌, length, take, drop, Option, Some, None, refl, sym, ◌∙◌, ap, subst, inr, arith, append_assoc}
use Rattle.std.specs.Prelude.{slice_get}
use Rattle.std.specs.List.{splice}
use Rattle.std.proofs.lemmas.List.{drop-drop, drop_at, length-append, take_at, take-map}
use Rattle.yl_config.specs.declared.config.Config.{Config}
use Rattle.yl_record.specs.Records.{RecordValue}
use Rattle.yl_sections.specs.Kept.{KeptValue, rows_kept}
use Rattle.yl_sections.specs.Local.{all_rows, row_total}
use Rattle.yl_sections.specs.Sections.{sections}
use Rattle.yl_sections.proofs.Local.{joined_parts}
use Rattle.yl_rejudge.proofs.SectionsEdited.{rows_whole}
use Rattle.yl_pieces.specs.State.{DocumentState, start_state}
use Rattle.yl_pieces.specs.Told.{fault_in, is_border}
use Rattle.yl_pieces.specs.Edit.{after_front}
use Rattle.yl_pieces.specs.SectionEdited.{IsSectionAt}
use Rattle.yl_pieces.proofs.SectionEdited.{section_edited}
use Rattle.yl_piece_names.proofs.RowsPatched.{some_lexeme}
use Rattle.yl_section_pieces.specs.Pieces.{ArePiecesOf, BeginsWithLexeme, IsBefore, IsKeptInPieces, IsKeptSection, PieceValue, summaries}
use Rattle.yl_section_pieces.specs.Edit.{IsEditAlone, PieceIsEdited, kept_alone}
use Rattle.yl_section_pieces.specs.Sections.{AreKeptSections, IsInSection, StandsAfter}
use Rattle.yl_section_pieces.proofs.Sections as laws
use Rattle.yl_piece_list.specs.Around.{HasLexemeAt}
use Rattle.yl_piece_list.specs.Edited.{IsEdited}
use Rattle.yl_piece_list.proofs.RowRuns.{after, in_three, middle, regrouped, rows_around, same_above, same_below}
use Rattle.yl_piece_list.proofs.Sound.{rows_sound}

-- ---- the first row of a piece

lexeme_of : (front rest : List RecordValue) (k : KeptValue) (b : Option DocumentState) (s : DocumentState) → IsBefore front rest k b → b ≡ Some s → BeginsWithLexeme rest
lexeme_of front rest k None s h e = absurd (cc)
lexeme_of front rest k (Some r) s h e = h.1.0

pub below_rows : (front rest : List RecordValue) (above : List PieceValue) (p : PieceValue) (below : List PieceValue) (s : DocumentState)
    → ArePiecesOf front rest (above ++ (p ∷ below)) → p.before ≡ Some s → BeginsWithLexeme (drop (rows_kept (summaries above)) rest)
below_rows front rest [] p below s h e = lexeme_of front rest p.kept p.before s h.0.before e
below_rows front rest (q ∷ above) p below s h e =
    subst (λ (rs : List RecordValue). BeginsWithLexeme rs) (drop-drop (rows_kept (summaries above)) q.kept.rows rest)
    (below_rows (front ++ take q.kept.rows rest) (drop q.kept.rows rest) above p below s h.1 e)

lexeme_more : (xs ys : List RecordValue) → BeginsWithLexeme xs → BeginsWithLexeme (xs ++ ys)
lexeme_more [] ys h = absurd h
lexeme_more (x ∷ xs) ys h = h

-- ---- the edit

module _ (config : Config) (old new : List RecordValue) (ps : List PieceValue) (h : AreKeptSections config (sections old) ps)
    (i : ℕ) (k : KeptValue) (s : DocumentState) (there : slice_get ps i ≡ Some (record { kept = k; before = Some s })) where
  abbrev x : PieceValue
  x = record { kept = k; before = Some s }

  w : IsInSection config (sections old) ps i (record { kept = k; before = Some s })
  w = laws.sections_are_found.inside config (sections old) ps i x h there

  t : StandsAfter config w.rows w.above k s w.below
  t = laws.sections_are_found.after config w.rows w.above k s w.below w.kept

  abbrev front_rows : List RecordValue
  front_rows = all_rows (take w.section (sections old))

  abbrev back_rows : List RecordValue
  back_rows = all_rows (drop (w.section + 1) (sections old))

  all_old : old ≡ front_rows ++ ((t.front ++ (t.own ++ t.rest)) ++ back_rows)
  all_old =
      sym (joined_parts None old)
      ∙ (rows_around (sections old) w.section w.rows w.there ∙ ap (λ (ys : List RecordValue). front_rows ++ (ys ++ back_rows)) t.all)

  front_long : length front_rows ≡ row_total (take w.section (sections old))
  front_long = sym (rows_whole (take w.section (sections old)))

  row_is : rows_kept (take i (summaries ps)) ≡ length (front_rows ++ t.front)
  row_is =
      let e = ap rows_kept (take-map (λ (p : PieceValue). p.kept) i ps) in
      omega (arith, e, w.rows_before, t.place.rows_above, front_long, length-append front_rows t.front)

  fault_none : fault_in start_state 0 (t.front ++ (t.own ++ t.rest)) ≡ None
  fault_none =
      let border : is_border (after_front t.front) ≡ true = ap is_border (sym t.state.state) ∙ t.state.border in
      rows_sound config (t.front ++ (t.own ++ t.rest)) (some_lexeme t.front (t.own ++ t.rest) border) t.place.kept.cut.whole.fault

  at_section : IsSectionAt w.section front_rows (t.front ++ (t.own ++ t.rest)) back_rows
  at_section = record {
    section_is = ap (λ (rs : List RecordValue). slice_get (sections rs) w.section) (sym all_old) ∙ (w.there ∙ ap (λ (rs : List RecordValue). Some rs) t.all);
    rows_above = ap (λ (rs : List RecordValue). row_total (take w.section (sections rs))) (sym all_old) ∙ sym front_long;
  }

  sections_now : (n : List RecordValue) → IsEditAlone config t.front t.own n k
      → sections (front_rows ++ ((t.front ++ (n ++ t.rest)) ++ back_rows)) ≡ splice (sections old) w.section (w.section + 1) ((t.front ++ (n ++ t.rest)) ∷ [])
  sections_now n alone =
      section_edited w.section front_rows t.front t.own n t.rest back_rows at_section alone.edit fault_none
      ∙ ap (λ (rs : List RecordValue). splice (sections rs) w.section (w.section + 1) ((t.front ++ (n ++ t.rest)) ∷ [])) (sym all_old)

  -- rows stand above the piece
  pub some_above : 0 < rows_kept (take i (summaries ps))
  some_above = omega (arith, row_is, length-append front_rows t.front, t.state.some)

  -- the piece begins with a row that has a lexeme
  pub lexeme_at : HasLexemeAt old (rows_kept (take i (summaries ps)))
  lexeme_at =
      let row = rows_kept (take i (summaries ps)) in
      let below = below_rows [] (t.front ++ (t.own ++ t.rest)) w.above x w.below s t.place.kept.pieces refl in
      let own : BeginsWithLexeme (t.own ++ t.rest) =
      subst (λ (rs : List RecordValue). BeginsWithLexeme rs) (drop_at t.front (t.own ++ t.rest) (rows_kept (summaries w.above)) (sym t.place.rows_above)) below in
      let all : old ≡ (front_rows ++ t.front) ++ (t.own ++ (t.rest ++ back_rows)) = all_old ∙ regrouped front_rows t.front t.own t.rest back_rows in
      let there : drop row old ≡ (t.own ++ t.rest) ++ back_rows =
      ap (λ (rs : List RecordValue). drop row rs) all
      ∙ (drop_at (front_rows ++ t.front) (t.own ++ (t.rest ++ back_rows)) row (sym row_is) ∙ sym (append_assoc t.own t.rest back_rows)) in
      subst (λ (rs : List RecordValue). BeginsWithLexeme rs) (sym there) (lexeme_more (t.own ++ t.rest) back_rows own)

  module _ (from old_end end row last : ℕ) (row_at : row ≡ rows_kept (take i (summaries ps))) (last_at : last ≡ row + k.rows)
      (above : row ≤ from) (ordered : from ≤ old_end) (below : old_end ≤ last) (end_at : from ≤ end)
      (same_front : take from old ≡ take from new) (same_back : drop old_end old ≡ drop end new) where
    at_row : length (front_rows ++ t.front) ≡ row
    at_row = sym (row_at ∙ row_is)

    at_last : row + length t.own ≡ last
    at_last = omega (arith, last_at, t.place.rows)

    grouped : old ≡ (front_rows ++ t.front) ++ (t.own ++ (t.rest ++ back_rows))
    grouped = all_old ∙ regrouped front_rows t.front t.own t.rest back_rows

    old_own : drop row (take last old) ≡ t.own
    old_own = ap (λ (ys : List RecordValue). drop row (take last ys)) grouped ∙ middle (front_rows ++ t.front) t.own (t.rest ++ back_rows) row last at_row at_last

    new_above : take row new ≡ front_rows ++ t.front
    new_above =
        sym (same_above old new row from above same_front)
        ∙ (ap (λ (ys : List RecordValue). take row ys) grouped ∙ take_at (front_rows ++ t.front) (t.own ++ (t.rest ++ back_rows)) row at_row)

    new_below : drop (last - old_end + end) new ≡ t.rest ++ back_rows
    new_below =
        sym (same_below old new last old_end end below same_back)
        ∙ (ap (λ (ys : List RecordValue). drop last ys) grouped ∙ after (front_rows ++ t.front) t.own (t.rest ++ back_rows) row last at_row at_last)

    all_new : new ≡ front_rows ++ ((t.front ++ (drop row (take (last - old_end + end) new) ++ t.rest)) ++ back_rows)
    all_new =
        in_three new row (last - old_end + end) (omega (arith, above, end_at))
        ∙ (ap (λ (ys : List RecordValue). ys ++ (drop row (take (last - old_end + end) new) ++ drop (last - old_end + end) new)) new_above
        ∙ (ap (λ (ys : List RecordValue). (front_rows ++ t.front) ++ (drop row (take (last - old_end + end) new) ++ ys)) new_below
        ∙ sym (regrouped front_rows t.front (drop row (take (last - old_end + end) new)) t.rest back_rows)))

    pub piece_edited : PieceIsEdited → (y : PieceValue) → IsEdited config s (drop row (take last old)) (drop row (take (last - old_end + end) new)) k y
        → AreKeptSections config (sections new) (splice ps i (i + 1) (y ∷ []))
    piece_edited law y e =
        let n = drop row (take (last - old_end + end) new) in
        let given = e t.front t.state in
        let alone : IsEditAlone config t.front t.own n k = subst (λ (os : List RecordValue). IsEditAlone config t.front os n k) old_own given.1.0 in
        let now : PieceValue = record { kept = kept_alone config s t.front n; before = Some s } in
        let is : now ≡ y = λ j. record { kept = sym given.1.1 j; before = sym given.0 j } in
        let pieces : IsKeptInPieces config (t.front ++ (n ++ t.rest)) (w.above ++ (now ∷ w.below)) = law config t.front t.own n t.rest w.above w.below k s t.place alone in
        let two : 1 < length (w.above ++ (now ∷ w.below)) = omega (arith, t.more, length-append w.above (now ∷ w.below)) in
        let section : IsKeptSection config (t.front ++ (n ++ t.rest)) (w.above ++ (y ∷ w.below)) =
        subst (λ (z : PieceValue). IsKeptSection config (t.front ++ (n ++ t.rest)) (w.above ++ (z ∷ w.below))) is (inr (pieces, two)) in
        let put = laws.sections_are_found.replaced config (sections old) ps i x w (t.front ++ (n ++ t.rest)) y there section in
        subst (λ (us : List (List RecordValue)). AreKeptSections config us (splice ps i (i + 1) (y ∷ [])))
        (sym (ap sections all_new ∙ sections_now n alone)) put
