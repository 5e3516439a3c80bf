-- The pieces of one section: which have a state before them, and which of its rows are those of a piece.
use Rattle.std.proofs.Common.{◌≡◌, ◌<◌, ◌≤◌, ◌+◌, ℕ, List, [], ◌∷◌, ◌++◌, length, take, drop, Option, Some, None, refl, ap, sym, subst, ◌∙◌, inl, inr, arith, append_assoc, append-nil}
use Rattle.std.specs.Prelude.{IsSome, option_map, slice_get}
use Rattle.std.specs.List.{AllByRecursion}
use Rattle.std.proofs.lemmas.List.{drop-drop, length-append, length-drop, length-take-le, take-append-drop}
use Rattle.yl_config.specs.declared.config.Config.{Config}
use Rattle.yl_record.specs.Records.{RecordValue}
use Rattle.yl_sections.specs.Kept.{KeptValue, rows_kept}
use Rattle.yl_pieces.specs.State.{DocumentState}
use Rattle.yl_section_pieces.specs.Pieces.{ArePiecesOf, IsBefore, IsKeptInPieces, IsKeptSection, IsPieceOf, PieceValue, summaries, whole_piece}
use Rattle.yl_section_pieces.specs.Sections.{AreHeaded, StandsAfter}
use Rattle.yl_section_pieces.proofs.SectionsRuns.{take_both}

-- ---- states before pieces

first_has_none : (rest : List RecordValue) (k : KeptValue) (b : Option DocumentState) → IsBefore [] rest k b → b ≡ None
first_has_none rest k None h = refl
first_has_none rest k (Some s) h = let some : 0 < 0 = h.0.some in absurd (omega arith)

later_has_some : (front rest : List RecordValue) (k : KeptValue) (b : Option DocumentState) → 0 < length front → IsBefore front rest k b → IsSome b
later_has_some front rest k None l h = let e : length front ≡ 0 = ap length h in absurd (omega arith)
later_has_some front rest k (Some s) l h = refl

later_have_some : (front rest : List RecordValue) (ps : List PieceValue)
    → 0 < length front → ArePiecesOf front rest ps → AllByRecursion (λ q. IsSome q.before) ps
later_have_some front rest [] l h = tt
later_have_some front rest (p ∷ ps) l h =
    let longer : 0 < length (front ++ take p.kept.rows rest) = omega (arith, length-append front (take p.kept.rows rest)) in
    (later_has_some front rest p.kept p.before l h.0.before, later_have_some (front ++ take p.kept.rows rest) (drop p.kept.rows rest) ps longer h.1)

pieces_headed : (config : Config) (rs : List RecordValue) (ps : List PieceValue) → IsKeptInPieces config rs ps → AreHeaded ps
pieces_headed config rs [] h = let first = h.cut.first in absurd (cc)
pieces_headed config rs (p ∷ ps) h =
    let own = h.pieces.0 in
    let some : 0 < p.kept.rows = own.some in
    let within : p.kept.rows ≤ length rs = own.rows in
    let longer : 0 < length ([] ++ take p.kept.rows rs) = omega (arith, length-take-le p.kept.rows rs within) in
    (first_has_none rs p.kept p.before own.before, later_have_some ([] ++ take p.kept.rows rs) (drop p.kept.rows rs) ps longer h.pieces.1)

pub section_headed : (config : Config) (rs : List RecordValue) (ps : List PieceValue) → IsKeptSection config rs ps → AreHeaded ps
section_headed config rs ps (inl e) = subst AreHeaded (sym e) (refl, tt)
section_headed config rs ps (inr h) = pieces_headed config rs ps h.0

-- ---- the rows of a piece

-- the piece stands after the rows of those above it
abbrev IsAfterRows : (front rest : List RecordValue) → ℕ → PieceValue → Type 0
IsAfterRows front rest n p = (n ≤ length rest) × IsPieceOf (front ++ take n rest) (drop n rest) p

pieces_parted : (front rest : List RecordValue) (above : List PieceValue) (p : PieceValue) (below : List PieceValue)
    → ArePiecesOf front rest (above ++ (p ∷ below))
    → IsAfterRows front rest (rows_kept (summaries above)) p
pieces_parted front rest [] p below h = (omega arith, subst (λ (rs : List RecordValue). IsPieceOf rs rest p) (sym (append-nil front)) h.0)
pieces_parted front rest (q ∷ above) p below h =
    let n = q.kept.rows in
    let m = rows_kept (summaries above) in
    let within : n ≤ length rest = h.0.rows in
    let later = pieces_parted (front ++ take n rest) (drop n rest) above p below h.1 in
    let rows : (front ++ take n rest) ++ take m (drop n rest) ≡ front ++ take (n + m) rest =
    append_assoc front (take n rest) (take m (drop n rest)) ∙ ap (λ (rs : List RecordValue). front ++ rs) (sym (take_both n m rest)) in (
      omega (arith, later.0, length-drop n rest),
      subst (λ (rs : List RecordValue). IsPieceOf rs (drop (n + m) rest) p) rows
          (subst (λ (rs : List RecordValue). IsPieceOf ((front ++ take n rest) ++ take m (drop n rest)) rs p) (drop-drop m n rest) later.1),
    )

some_above : (above : List PieceValue) (p : PieceValue) (below : List PieceValue)
    → AreHeaded (above ++ (p ∷ below)) → IsSome p.before → 0 < length above
some_above [] p below h some = let none : p.before ≡ None = h.0 in absurd (cc)
some_above (q ∷ above) p below h some = omega arith

in_pieces_after : (config : Config) (rs : List RecordValue) (above : List PieceValue) (k : KeptValue) (s : DocumentState) (below : List PieceValue)
    → IsKeptInPieces config rs (above ++ (record { kept = k; before = Some s } ∷ below)) → StandsAfter config rs above k s below
in_pieces_after config rs above k s below h =
    let p : PieceValue = record { kept = k; before = Some s } in
    let n = rows_kept (summaries above) in
    let r = pieces_parted [] rs above p below h.pieces in
    let own = take k.rows (drop n rs) in
    let rest = drop k.rows (drop n rs) in
    let all : rs ≡ take n rs ++ (own ++ rest) =
    sym (take-append-drop n rs) ∙ ap (λ (xs : List RecordValue). take n rs ++ xs) (sym (take-append-drop k.rows (drop n rs))) in
    record {
      front = take n rs;
      own = own;
      rest = rest;
      all = all;
      more = some_above above p below (pieces_headed config rs (above ++ (p ∷ below)) h) refl;
      place = record {
        kept = subst (λ (xs : List RecordValue). IsKeptInPieces config xs (above ++ (p ∷ below))) all h;
        rows_above = sym (length-take-le n rs r.0);
        rows = sym (length-take-le k.rows (drop n rs) r.1.rows);
      };
      state = r.1.before.0;
    }

-- a section that is kept whole has no piece with a state before it
not_whole : (config : Config) (rs : List RecordValue) (above : List PieceValue) (k : KeptValue) (s : DocumentState) (below : List PieceValue)
    → above ++ (record { kept = k; before = Some s } ∷ below) ≡ whole_piece config rs ∷ [] → ⊥
not_whole config rs [] k s below e =
    let first : Some (Some s) ≡ Some None = ap (λ (ps : List PieceValue). option_map (λ p. p.before) (slice_get ps 0)) e in
    cc
not_whole config rs (p ∷ []) k s below e = cc
not_whole config rs (p ∷ (q ∷ above)) k s below e = cc

pub piece_after : (config : Config) (rs : List RecordValue) (above : List PieceValue) (k : KeptValue) (s : DocumentState) (below : List PieceValue)
    → IsKeptSection config rs (above ++ (record { kept = k; before = Some s } ∷ below)) → StandsAfter config rs above k s below
piece_after config rs above k s below (inl e) = absurd (not_whole config rs above k s below e)
piece_after config rs above k s below (inr h) = in_pieces_after config rs above k s below h.0

-- a piece that is alone in its section is the whole section
pub alone_is_whole : (config : Config) (rs : List RecordValue) (p : PieceValue) → IsKeptSection config rs (p ∷ []) → p ≡ whole_piece config rs
alone_is_whole config rs p (inl e) = cc
alone_is_whole config rs p (inr h) = let more : 1 < 1 = h.1 in absurd (omega arith)
