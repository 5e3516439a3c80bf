-- What stands around pieces that are replaced.
use Rattle.std.proofs.Common.{◌≡◌, ◌<◌, ◌≤◌, ◌+◌, ◌-◌, ◌==◌, ◌&&◌, ◌⊎◌, ℕ, zero, suc, Bool, true, false, ltb, List, [], ◌∷◌, length, take, drop, Option, Some, None, refl, ap, sym, subst, ◌∙◌, arith, cond, inl, inr}
use Rattle.std.specs.Prelude.{option_map, slice_get}
use Rattle.std.proofs.lemmas.Bool.{cases_lt, lt-ltb, ne_eqb}
use Rattle.std.proofs.lemmas.List.{length-drop, length-map}
use Rattle.yl_lexeme.specs.declared.lexeme.Kind.{Kind}
use Rattle.yl_lexeme.specs.Lexeme.{LexemeValue}
use Rattle.yl_config.specs.declared.config.Config.{Config}
use Rattle.yl_record.specs.Records.{RecordValue}
use Rattle.yl_sections.specs.Kept.{KeptValue, rows_kept}
use Rattle.yl_sections.specs.Local.{begins_section, is_start_at, kind_after, row_total}
use Rattle.yl_sections.specs.Sections.{is_section_start, sections}
use Rattle.yl_sections.proofs.SectionStarts.{not_first, start_there}
use Rattle.yl_rejudge.specs.Places.{changed_sections}
use Rattle.yl_rejudge.proofs.SectionsEdited.{rows_of_sections}
use Rattle.yl_pieces.specs.State.{DocumentState}
use Rattle.yl_section_pieces.specs.Pieces.{BeginsWithLexeme, PieceValue, summaries}
use Rattle.yl_section_pieces.specs.Sections.{AreKeptSections, IsSectionBorder}
use Rattle.yl_section_pieces.proofs.Sections as laws
use Rattle.yl_piece_list.specs.Around.{ArePiecesAround, HasLexemeAt}
use Rattle.yl_piece_list.proofs.RowRuns.{same_below}
use Rattle.yl_piece_list.proofs.Flat.{rows_at, section_at, start_end}
use Rattle.yl_piece_list.proofs.OnePiece.{lexeme_at}
use Rattle.yl_piece_list.proofs.Starts.{start_at}

pub total_rows : (config : Config) (old : List RecordValue) (ps : List PieceValue) → AreKeptSections config (sections old) ps → rows_kept (summaries ps) ≡ length old
total_rows config old ps h = laws.sections_are_listed.rows config (sections old) ps h ∙ rows_of_sections old

-- ---- a row with a lexeme

begins : (last : Option Kind) (rs : List RecordValue) → begins_section last rs ≡ true → BeginsWithLexeme rs
begins last [] e = absurd (cc)
begins last (r ∷ rs) e = by last r.entry.lexemes e where
  by : (last : Option Kind) (xs : List LexemeValue) → is_section_start last xs ≡ true → 0 < length xs
  by last [] e = absurd (cc)
  by last (x ∷ xs) e = omega arith

pub start_has_lexeme : (rs : List RecordValue) (i : ℕ) → is_start_at rs i ≡ true → HasLexemeAt rs i
start_has_lexeme rs i e = begins (kind_after None (take i rs)) (drop i rs) e

-- a section begins below the first row
start_below : (rs : List RecordValue) (i : ℕ) → is_start_at rs i ≡ true → 0 < i
start_below rs zero e = let no : true ≡ false = sym e ∙ not_first rs in absurd (cc)
start_below rs (suc i) e = omega arith

record IsThere (ps : List PieceValue) (i : ℕ) : Type 0 where
  piece : PieceValue
  there : slice_get ps i ≡ Some piece

piece_there : (ps : List PieceValue) (i : ℕ) → i < length ps → IsThere ps i
piece_there [] i l = absurd (omega arith)
piece_there (p ∷ ps) zero l = record { piece = p; there = refl }
piece_there (p ∷ ps) (suc i) l = let d = piece_there ps i (omega arith) in record { piece = d.piece; there = d.there }

-- each piece after the first begins with a row that has a lexeme
next_has_lexeme : (config : Config) (old : List RecordValue) (ps : List PieceValue) (h : AreKeptSections config (sections old) ps) (i : ℕ) → 0 < i → i < length ps
    → HasLexemeAt old (rows_kept (take i (summaries ps)))
next_has_lexeme config old ps h i some l = let d = piece_there ps i l in by d.piece.kept d.piece.before d.there
  where
    border : IsSectionBorder ps i → HasLexemeAt old (rows_kept (take i (summaries ps)))
    border b =
        let s = section_at config old ps h i b in
        let rows : rows_kept (take i (summaries ps)) ≡ row_total (take s.section (sections old)) = ap (λ n. rows_kept (take n (summaries ps))) s.at ∙ rows_at config old ps h s.section in
        let first : 0 < s.section = positive s.section s.at in
        let last : s.section < length (sections old) = elim (cases_lt s.section (length (sections old))) [
          | inl k ↦ k
          | inr k ↦
              let e : s.section ≡ length (sections old) = omega (arith, k, s.within) in
              let f = ap (λ n. start_at h.cuts n) e in
              absurd (omega (arith, f, start_end config old ps h, s.at, l))
        ] in
        subst (λ n. HasLexemeAt old n) (sym rows) (start_has_lexeme old (row_total (take s.section (sections old))) (start_there old s.section first last))
      where
        positive : (p : ℕ) → i ≡ start_at h.cuts p → 0 < p
        positive zero e = absurd (omega (arith, e, some))
        positive (suc p) e = omega arith

    by : (k : KeptValue) (b : Option DocumentState) → slice_get ps i ≡ Some (record { kept = k; before = b }) → HasLexemeAt old (rows_kept (take i (summaries ps)))
    by k None e = border (inr (ap (option_map (λ (p : PieceValue). p.before)) e))
    by k (Some s) e = lexeme_at config old old ps h i k s e

-- what comes after pieces that are replaced begins in the new rows with a row that has a lexeme
pub around_one : (config : Config) (old new : List RecordValue) (ps : List PieceValue) (h : AreKeptSections config (sections old) ps) (i from old_end end : ℕ)
    → i < length ps → 0 < rows_kept (take i (summaries ps)) → rows_kept (take i (summaries ps)) ≤ from → from ≤ end
    → old_end ≤ rows_kept (take (i + 1) (summaries ps)) → drop old_end old ≡ drop end new
    → ArePiecesAround (summaries ps) new from old_end end i (i + 1)
around_one config old new ps h i from old_end end l some first range below same = record { first = first; last = by (cases_lt (i + 1) (length ps)) }
  where
    by : (i + 1 < length ps) ⊎ (length ps ≤ i + 1) → (i + 1 ≡ length (summaries ps))
        ⊎ ((old_end ≤ rows_kept (take (i + 1) (summaries ps))) × (0 < rows_kept (take (i + 1) (summaries ps)) - old_end + end)
        × HasLexemeAt new (rows_kept (take (i + 1) (summaries ps)) - old_end + end))
    by (inl m) = inr (
      below,
      omega (arith, some, first, range),
      subst (λ (rs : List RecordValue). BeginsWithLexeme rs) (same_below old new (rows_kept (take (i + 1) (summaries ps))) old_end end below same)
          (next_has_lexeme config old ps h (i + 1) (omega arith) m),
    )
    by (inr m) = inl (omega (arith, l, m, length-map ps (λ (p : PieceValue). p.kept)))

pub around_sections : (new : List RecordValue) (ps : List PieceValue) (from old_end end f e here x y : ℕ)
    → x ≡ rows_kept (take f (summaries ps)) → x ≤ here → here ≤ from → y ≡ rows_kept (take e (summaries ps))
    → (e ≡ length ps) ⊎ (IsSectionBorder ps e × ((old_end ≤ y) × (is_start_at new (y - old_end + end) ≡ true)))
    → ArePiecesAround (summaries ps) new from old_end end f e
around_sections new ps from old_end end f e here x y x_at low high y_at last = record { first = omega (arith, x_at, low, high); last = by last }
  where
    by : (e ≡ length ps) ⊎ (IsSectionBorder ps e × ((old_end ≤ y) × (is_start_at new (y - old_end + end) ≡ true)))
        → (e ≡ length (summaries ps)) ⊎ ((old_end ≤ rows_kept (take e (summaries ps))) × (0 < rows_kept (take e (summaries ps)) - old_end + end)
        × HasLexemeAt new (rows_kept (take e (summaries ps)) - old_end + end))
    by (inl w) = inl (omega (arith, w, length-map ps (λ (p : PieceValue). p.kept)))
    by (inr w) = inr (
      omega (arith, w.1.0, y_at),
      subst (λ n. 0 < n - old_end + end) y_at (start_below new (y - old_end + end) w.1.1),
      subst (λ n. HasLexemeAt new (n - old_end + end)) y_at (start_has_lexeme new (y - old_end + end) w.1.1),
    )

-- ---- the sections that are judged

some_by : (t u : Bool) (ss : List (List RecordValue)) → u ≡ false → cond (t && u) [] ss ≡ ss
some_by true true ss e = absurd (cc)
some_by true false ss e = refl
some_by false u ss e = refl

pub apart_changed : (p x z : ℕ) (new : List RecordValue) → ¬ (x ≡ z) → changed_sections p x z new ≡ sections (drop x (take z new))
apart_changed p x z new d = some_by (ltb 0 p) (x == z) (sections (drop x (take z new))) (ne_eqb x z d)

pub first_changed : (p x z : ℕ) (new : List RecordValue) → p ≡ 0 → changed_sections p x z new ≡ sections (drop x (take z new))
first_changed p x z new e = ap (λ n. changed_sections n x z new) e

-- only whether others come before them counts
pub same_changed : (f p x z : ℕ) (new : List RecordValue) → (p ≡ 0 → f ≡ 0) → (0 < p → 0 < f) → changed_sections f x z new ≡ changed_sections p x z new
same_changed f zero x z new a b = ap (λ n. changed_sections n x z new) (a refl)
same_changed zero (suc p) x z new a b = absurd (let no : 0 < 0 = b (omega arith) in omega arith)
same_changed (suc f) (suc p) x z new a b =
    ap (λ (t : Bool). cond (t && (x == z)) [] (sections (drop x (take z new)))) (lt-ltb 0 (suc f) (omega arith) ∙ sym (lt-ltb 0 (suc p) (omega arith)))

-- as many rows stand after the edit in both
pub rows_after : (old new : List RecordValue) (old_end end : ℕ) → drop old_end old ≡ drop end new → length old - old_end ≡ length new - end
rows_after old new old_end end e = let n = ap (λ (rs : List RecordValue). length rs) e in omega (arith, n, length-drop old_end old, length-drop end new)
