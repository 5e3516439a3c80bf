-- The last piece of a section, in the list of all pieces.
use Rattle.std.proofs.Common.{◌≡◌, ◌<◌, ◌≤◌, ◌+◌, ◌-◌, ℕ, zero, suc, List, [], ◌∷◌, ◌++◌, length, take, drop, Option, Some, None, refl, ap, sym, subst, ◌∙◌, arith, append_assoc, inl, inr}
use Rattle.std.specs.Prelude.{IsSome, slice_get}
use Rattle.std.specs.List.{AllZip}
use Rattle.std.proofs.lemmas.Bool.{cases_lt}
use Rattle.std.proofs.lemmas.List.{length-append, length-take-le, map-append, take-map, take_at}
use Rattle.yl_text.proofs.Every.{all_last}
use Rattle.yl_config.specs.declared.config.Config.{Config}
use Rattle.yl_record.specs.Records.{RecordValue}
use Rattle.yl_sections.specs.Front.{IsFront}
use Rattle.yl_sections.specs.Kept.{KeptValue, rows_kept}
use Rattle.yl_sections.specs.Local.{all_rows, row_total}
use Rattle.yl_sections.specs.Sections.{sections}
use Rattle.yl_sections.proofs.Local.{joined_parts}
use Rattle.yl_rejudge.proofs.SectionsEdited.{rows_whole}
use Rattle.yl_pieces.specs.State.{DocumentState}
use Rattle.yl_section_pieces.specs.Pieces.{BeginsWithLexeme, IsKeptSection, PieceValue, summaries}
use Rattle.yl_section_pieces.specs.Sections.{AreKeptSections, IsSectionBorder}
use Rattle.yl_section_pieces.proofs.SectionsHeaded.{section_headed}
use Rattle.yl_section_pieces.proofs.SectionsListed.{flat}
use Rattle.yl_section_pieces.proofs.SectionsRuns.{at_second, drop_second, take_second}
use Rattle.yl_piece_list.specs.Anew.{IsLastPiece}
use Rattle.yl_piece_list.proofs.Flat.{apart, border_at, rows_at, section_at, start_end}
use Rattle.yl_piece_list.proofs.OnePiece.{below_rows}
use Rattle.yl_piece_list.proofs.RowRuns.{middle, rows_around}
use Rattle.yl_piece_list.proofs.SectionsCut.{total_more}
use Rattle.yl_piece_list.proofs.Starts.{start_at, starts_ordered}

-- ---- the pieces of one section

module _ {S P : Type 0} (K : S → List P → Type 0) where
  record IsCutAt (ss : List S) (cs : List (List P)) (p : ℕ) : Type 0 where
    rows : S
    pieces : List P
    there : slice_get ss p ≡ Some rows
    kept : K rows pieces
    next : start_at cs (suc p) ≡ start_at cs p + length pieces
    all : flat cs ≡ take (start_at cs p) (flat cs) ++ (pieces ++ drop (start_at cs (suc p)) (flat cs))

  cut_at : (ss : List S) (cs : List (List P)) (p : ℕ) → AllZip K ss cs → p < length ss → IsCutAt ss cs p
  cut_at [] cs p h l = absurd (omega arith)
  cut_at (s ∷ ss) [] p h l = absurd h
  cut_at (s ∷ ss) (c ∷ cs) zero h l = record {
    rows = s;
    pieces = c;
    there = refl;
    kept = h.0;
    next = omega arith;
    all = ap (λ (ps : List P). c ++ ps) (sym (drop_second c (flat cs) 0));
  }
  cut_at (s ∷ ss) (c ∷ cs) (suc p) h l =
      let d = cut_at ss cs p h.1 (omega arith) in
      let a = start_at cs p in
      let b = start_at cs (suc p) in
      let more = d.next in
      record {
        rows = d.rows;
        pieces = d.pieces;
        there = d.there;
        kept = d.kept;
        next = omega (arith, more);
        all =
            ap (λ (ps : List P). c ++ ps) d.all
            ∙ (sym (append_assoc c (take a (flat cs)) (d.pieces ++ drop b (flat cs)))
            ∙ (ap (λ (ps : List P). ps ++ (d.pieces ++ drop b (flat cs))) (sym (take_second c (flat cs) a))
            ∙ ap (λ (ps : List P). take (length c + a) (c ++ flat cs) ++ (d.pieces ++ ps)) (sym (drop_second c (flat cs) b))));
      }

record HasLast {P : Type 0} (ps : List P) : Type 0 where
  above : List P
  last : P
  all : ps ≡ above ++ (last ∷ [])

has_last : {P : Type 0} (ps : List P) → 0 < length ps → HasLast ps
has_last [] l = absurd (omega arith)
has_last (p ∷ []) l = record { above = []; last = p; all = refl }
has_last (p ∷ (q ∷ ps)) l =
    let d = has_last (q ∷ ps) (omega arith) in
    record { above = p ∷ d.above; last = d.last; all = ap (λ (qs : List _). p ∷ qs) d.all }

module _ {P : Type 0} (front above back : List P) (x : P) where
  regrouped : front ++ ((above ++ (x ∷ [])) ++ back) ≡ (front ++ above) ++ (x ∷ back)
  regrouped = simp append_assoc

  last_there : (i : ℕ) → length front + length above ≡ i → slice_get (front ++ ((above ++ (x ∷ [])) ++ back)) i ≡ Some x
  last_there i e =
      let at : i ≡ length (front ++ above) + 0 = omega (arith, e, length-append front above) in
      ap (λ (ps : List P). slice_get ps i) regrouped ∙ (ap (λ (n : ℕ). slice_get ((front ++ above) ++ (x ∷ back)) n) at ∙ at_second (front ++ above) (x ∷ back) 0)

  last_above : (i : ℕ) → length front + length above ≡ i → take i (front ++ ((above ++ (x ∷ [])) ++ back)) ≡ front ++ above
  last_above i e =
      ap (λ (ps : List P). take i ps) regrouped ∙ take_at (front ++ above) (x ∷ back) i (omega (arith, e, length-append front above))

rows_both : (ks js : List KeptValue) → rows_kept (ks ++ js) ≡ rows_kept ks + rows_kept js
rows_both [] js = omega arith
rows_both (k ∷ ks) js = let more = rows_both ks js in omega (arith, more)

-- ---- the last piece of the section of an index

module _ (config : Config) (old : List RecordValue) (ps : List PieceValue) (h : AreKeptSections config (sections old) ps) where
  -- the piece of index i is the last one of the section of index p, which begins with the piece of index f
  pub record IsLastIn (p f i : ℕ) : Type 0 where
    pub rows : List RecordValue
    pub above : List PieceValue
    pub piece : PieceValue
    pub kept : IsKeptSection config rows (above ++ (piece ∷ []))
    pub own : rows ≡ drop (row_total (take p (sections old))) (take (row_total (take (suc p) (sections old))) old)
    pub there : slice_get ps i ≡ Some piece
    pub front : take i ps ≡ take f ps ++ above
    pub rows_above : rows_kept (take i (summaries ps)) ≡ row_total (take p (sections old)) + rows_kept (summaries above)

  module _ (p f : ℕ) (at : f ≡ start_at h.cuts p) (l : p < length (sections old)) where
    next : f < start_at h.cuts (suc p)
    next = omega (arith, at, apart config old ps h p (suc p) (omega arith) (omega (arith, l)))

    few : start_at h.cuts (suc p) ≤ length ps
    few = omega (arith, starts_ordered h.cuts (suc p) (length (sections old)) (omega (arith, l)), start_end config old ps h)

    -- no section begins between
    between : (j : ℕ) → f < j → j < start_at h.cuts (suc p) → IsSectionBorder ps j → ⊥
    between j a b border =
        let s = section_at config old ps h j border in
        elim (cases_lt p s.section) [
          | inl m ↦ omega (arith, b, s.at, starts_ordered h.cuts (suc p) s.section (omega (arith, m)))
          | inr m ↦ omega (arith, a, at, s.at, starts_ordered h.cuts s.section p m)
        ]

    pub last_piece_is : IsLastPiece ps f (start_at h.cuts (suc p) - 1)
    last_piece_is = record {
      order = omega (arith, next);
      within = omega (arith, next, few);
      last =
          let e : start_at h.cuts (suc p) ≡ start_at h.cuts (suc p) - 1 + 1 = omega (arith, next) in
          subst (IsSectionBorder ps) e (border_at config old ps h (suc p));
      passed = λ j a b border. between j a (omega (arith, b, next)) border;
    }

    pub end_is : (i : ℕ) → IsLastPiece ps f i → i + 1 ≡ start_at h.cuts (suc p)
    end_is i d = elim (cases_lt (i + 1) (start_at h.cuts (suc p))) [
      | inl m ↦ absurd (between (i + 1) (omega (arith, d.order)) m d.last)
      | inr m ↦ elim (cases_lt (start_at h.cuts (suc p)) (i + 1)) [
        | inl n ↦ absurd (d.passed (start_at h.cuts (suc p)) next (omega (arith, n)) (border_at config old ps h (suc p)))
        | inr n ↦ omega (arith, m, n)
      ]
    ]

    -- the row after the section
    pub end_row : (i : ℕ) → IsLastPiece ps f i → rows_kept (take (i + 1) (summaries ps)) ≡ row_total (take (suc p) (sections old))
    end_row i d = ap (λ (n : ℕ). rows_kept (take n (summaries ps))) (end_is i d) ∙ rows_at config old ps h (suc p)

    pub last_in : (i : ℕ) → IsLastPiece ps f i → IsLastIn p f i
    last_in i d =
        let c = cut_at (IsKeptSection config) (sections old) h.cuts p h.each l in
        let e = start_at h.cuts (suc p) in
        let end = end_is i d in
        let more = c.next in
        let v = has_last c.pieces (omega (arith, next, at, more)) in
        let count = ap (λ (qs : List PieceValue). length qs) v.all in
        let all : ps ≡ take f ps ++ ((v.above ++ (v.last ∷ [])) ++ drop e ps) =
        subst (λ (qs : List PieceValue). qs ≡ take (start_at h.cuts p) qs ++ (c.pieces ++ drop e qs)) (sym h.all) c.all
        ∙ (ap (λ (n : ℕ). take n ps ++ (c.pieces ++ drop e ps)) (sym at) ∙ ap (λ (qs : List PieceValue). take f ps ++ (qs ++ drop e ps)) v.all) in
        let long : length (take f ps) + length v.above ≡ i =
        omega (arith, length-take-le f ps (omega (arith, d.order, d.within)), count, length-append v.above (v.last ∷ []), more, end, at) in
        let front : take i ps ≡ take f ps ++ v.above =
        ap (λ (qs : List PieceValue). take i qs) all ∙ last_above (take f ps) v.above (drop e ps) v.last i long in
        let rows : rows_kept (take i (summaries ps)) ≡ rows_kept (take f (summaries ps)) + rows_kept (summaries v.above) =
        ap rows_kept (take-map (λ (q : PieceValue). q.kept) i ps)
        ∙ (ap (λ (qs : List PieceValue). rows_kept (summaries qs)) front
        ∙ (ap rows_kept (map-append (λ (q : PieceValue). q.kept) (take f ps) v.above)
        ∙ (rows_both (summaries (take f ps)) (summaries v.above)
        ∙ ap (λ (ks : List KeptValue). rows_kept ks + rows_kept (summaries v.above)) (sym (take-map (λ (q : PieceValue). q.kept) f ps))))) in
        let first : rows_kept (take f (summaries ps)) ≡ row_total (take p (sections old)) =
        ap (λ (n : ℕ). rows_kept (take n (summaries ps))) at ∙ rows_at config old ps h p in
        record {
          rows = c.rows;
          above = v.above;
          piece = v.last;
          kept = subst (λ (qs : List PieceValue). IsKeptSection config c.rows qs) v.all c.kept;
          own = own c.rows c.there;
          there = ap (λ (qs : List PieceValue). slice_get qs i) all ∙ last_there (take f ps) v.above (drop e ps) v.last i long;
          front = front;
          rows_above = omega (arith, rows, first);
        }
      where
        own : (rs : List RecordValue) → slice_get (sections old) p ≡ Some rs
            → rs ≡ drop (row_total (take p (sections old))) (take (row_total (take (suc p) (sections old))) old)
        own rs there =
            let a = row_total (take p (sections old)) in
            let b = row_total (take (suc p) (sections old)) in
            let above = all_rows (take p (sections old)) in
            let below = all_rows (drop (p + 1) (sections old)) in
            let all : old ≡ above ++ (rs ++ below) = sym (joined_parts None old) ∙ rows_around (sections old) p rs there in
            sym (ap (λ (ys : List RecordValue). drop a (take b ys)) all
            ∙ middle above rs below a b (sym (rows_whole (take p (sections old)))) (sym (total_more (sections old) p rs there)))

-- ---- where it begins

lexeme_row : (rs : List RecordValue) (n m : ℕ) → IsFront n rs → n ≤ m → BeginsWithLexeme (drop m rs) → ⊥
lexeme_row rs n m h o begins = by rs m (λ r e. (h.bare m r o e).0) begins where
  by : (rs : List RecordValue) (m : ℕ) → ((r : RecordValue) → slice_get rs m ≡ Some r → r.entry.lexemes ≡ []) → BeginsWithLexeme (drop m rs) → ⊥
  by [] zero none begins = begins
  by [] (suc m) none begins = begins
  by (r ∷ rs) zero none begins = let count = ap (λ (xs : List _). length xs) (none r refl) in omega (arith, begins, count)
  by (r ∷ rs) (suc m) none begins = by rs m none begins

-- the last piece of a section begins above the rows that this loses
pub begins_above : (config : Config) (rs : List RecordValue) (above : List PieceValue) (x : PieceValue) (n : ℕ)
    → IsKeptSection config rs (above ++ (x ∷ [])) → 0 < n → IsFront n rs → rows_kept (summaries above) < n
begins_above config rs [] x n kept some h = some
begins_above config rs (a ∷ above) x n (inl e) some h =
    let count = ap (λ (qs : List PieceValue). length qs) e in
    absurd (omega (arith, count, length-append above (x ∷ [])))
begins_above config rs (a ∷ above) x n (inr g) some h =
    let headed = section_headed config rs (a ∷ (above ++ (x ∷ []))) (inr g) in
    by x.before refl (all_last (λ (q : PieceValue). IsSome q.before) above x headed.1)
  where
    no_some : IsSome (let none : Option DocumentState = None in none) → ⊥
    no_some s = cc

    by : (b : Option DocumentState) → x.before ≡ b → IsSome x.before → rows_kept (summaries (a ∷ above)) < n
    by None e s = absurd (no_some (subst (λ (b : Option DocumentState). IsSome b) e s))
    by (Some s) e t = elim (cases_lt (rows_kept (summaries (a ∷ above))) n) [
      | inl l ↦ l
      | inr l ↦ absurd (lexeme_row rs n (rows_kept (summaries (a ∷ above))) h l (below_rows [] rs (a ∷ above) x [] s g.0.pieces e))
    ]
