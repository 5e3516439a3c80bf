-- The pieces of a section: those above a run of its rows, and those below it, where other rows come in its place.
use Rattle.std.proofs.Common.{◌≡◌, ◌≤◌, ◌<◌, ◌+◌, ℕ, List, [], ◌∷◌, ◌++◌, take, drop, length, Option, Some, None, sym, ◌∙◌, ap, subst, arith, append_assoc, append-nil}
use Rattle.std.specs.List.{AllByRecursion}
use Rattle.std.proofs.Math.Seq.{drop-append_seam, take-append_seam}
use Rattle.std.proofs.lemmas.List.{drop-append-le, length-append, length-drop, take-append-drop, take-append-le}
use Rattle.yl_config.specs.declared.config.Config.{Config}
use Rattle.yl_record.specs.Records.{RecordValue}
use Rattle.yl_sections.specs.Kept.{KeptValue, rows_kept}
use Rattle.yl_pieces.specs.State.{DocumentState}
use Rattle.yl_pieces.specs.Edit.{IsEditTold, IsPieceEdit}
use Rattle.yl_pieces.proofs.EditTold.{edit_told}
use Rattle.yl_piece_reports.specs.Plain.{StandsWithin}
use Rattle.yl_section_pieces.specs.Pieces.{ArePiecesOf, BeginsWithLexeme, IsBefore, IsPieceOf, IsStateAfter, PieceValue, summaries}
use Rattle.yl_section_pieces.proofs.FrontStays.{closed_below, closed_both}

-- ---- all pieces

pub pieces_within : (front rest : List RecordValue) (ps : List PieceValue) → ArePiecesOf front rest ps → AllByRecursion StandsWithin (summaries ps)
pieces_within front rest [] h = tt
pieces_within front rest (p ∷ ps) h = (h.0.within, pieces_within (front ++ take p.kept.rows rest) (drop p.kept.rows rest) ps h.1)

-- ---- the first row

pub some_begins : (rows : List RecordValue) → BeginsWithLexeme rows → 0 < length rows
some_begins [] h = absurd h
some_begins (r ∷ rows) h = omega arith

begins_more : (rows more : List RecordValue) → BeginsWithLexeme rows → BeginsWithLexeme (rows ++ more)
begins_more [] more h = absurd h
begins_more (r ∷ rows) more h = h

begins_still : (rows was now : List RecordValue) → 0 < length rows → BeginsWithLexeme (rows ++ was) → BeginsWithLexeme (rows ++ now)
begins_still [] was now some h = absurd (omega (arith, some))
begins_still (r ∷ rows) was now some h = h

-- the rows that come after those of a piece have no part in what is kept before it
before_still : (front rows was now : List RecordValue) (k : KeptValue) (s : Option DocumentState) → 0 < length rows
    → IsBefore front (rows ++ was) k s → IsBefore front (rows ++ now) k s
before_still front rows was now k None some h = h
before_still front rows was now k (Some s) some h = (h.0, (begins_still rows was now some h.1.0, h.1.1))

-- ---- the pieces above rows

-- those of the rows `own` come first, and then others, which may be replaced
pub record ArePiecesAbove (front own rest : List RecordValue) (above below : List PieceValue) : Type 0 where
  pub others : ArePiecesOf (front ++ own) rest below
  pub replaced : (now : List RecordValue) (ps : List PieceValue) → ArePiecesOf (front ++ own) now ps → ArePiecesOf front (own ++ now) (above ++ ps)

none_above : (front own rest : List RecordValue) (below : List PieceValue) → 0 ≡ length own → ArePiecesOf front (own ++ rest) below
    → ArePiecesAbove front own rest [] below
none_above front [] rest below e h = record {
  others = subst (λ (f : List RecordValue). ArePiecesOf f rest below) (sym (append-nil front)) h;
  replaced = λ now ps g. subst (λ (f : List RecordValue). ArePiecesOf f now ps) (append-nil front) g;
}
none_above front (r ∷ own) rest below e h = absurd (omega (arith, e))

module _ (front own rest : List RecordValue) (p : PieceValue) (above below : List PieceValue) (fits : p.kept.rows ≤ length own) where
  abbrev k : ℕ
  k = p.kept.rows

  abbrev first : List RecordValue
  first = take k own

  abbrev later : List RecordValue
  later = drop k own

  joined : (front ++ first) ++ later ≡ front ++ own
  joined = append_assoc front first later ∙ ap (λ (rs : List RecordValue). front ++ rs) (take-append-drop k own)

  one_above : IsPieceOf front (own ++ rest) p → ArePiecesAbove (front ++ first) later rest above below
      → ArePiecesAbove front own rest (p ∷ above) below
  one_above piece more = record {
    others = subst (λ (f : List RecordValue). ArePiecesOf f rest below) joined more.others;
    replaced = λ now ps g. (
      record { rows = wide now; some = piece.some; within = piece.within; before = before_still front own rest now p.kept p.before some_own piece.before },
      subst (λ (f : List RecordValue). ArePiecesOf (front ++ f) (drop k (own ++ now)) (above ++ ps)) (sym (take-append-le k own now fits))
          (subst (λ (f : List RecordValue). ArePiecesOf (front ++ first) f (above ++ ps)) (sym (drop-append-le k own now fits))
          (more.replaced now ps (subst (λ (f : List RecordValue). ArePiecesOf f now ps) (sym joined) g))),
    );
  }
    where
      some_own : 0 < length own
      some_own = omega (arith, fits, piece.some)

      wide : (now : List RecordValue) → k ≤ length (own ++ now)
      wide now = omega (arith, fits, length-append own now)

  next : ArePiecesOf (front ++ take k (own ++ rest)) (drop k (own ++ rest)) (above ++ below)
      → ArePiecesOf (front ++ first) (later ++ rest) (above ++ below)
  next h =
      subst (λ (f : List RecordValue). ArePiecesOf (front ++ first) f (above ++ below)) (drop-append-le k own rest fits)
      (subst (λ (f : List RecordValue). ArePiecesOf (front ++ f) (drop k (own ++ rest)) (above ++ below)) (take-append-le k own rest fits) h)

pub pieces_above : (front own rest : List RecordValue) (above below : List PieceValue) → rows_kept (summaries above) ≡ length own
    → ArePiecesOf front (own ++ rest) (above ++ below)
    → ArePiecesAbove front own rest above below
pieces_above front own rest [] below e h = none_above front own rest below e h
pieces_above front own rest (p ∷ above) below e h =
    let sum : p.kept.rows + rows_kept (summaries above) ≡ length own = e in
    let fits : p.kept.rows ≤ length own = omega (arith, sum) in
    let left : rows_kept (summaries above) ≡ length (drop p.kept.rows own) = omega (arith, sum, length-drop p.kept.rows own) in
    one_above front own rest p above below fits h.0
    (pieces_above (front ++ take p.kept.rows own) (drop p.kept.rows own) rest above below left (next front own rest p above below fits h.1))

-- ---- the pieces below rows

module _ (config : Config) (front old new : List RecordValue) (e : IsPieceEdit front old new) where
  state_stays : (between : List RecordValue) (s : DocumentState) → IsStateAfter (front ++ (old ++ between)) s
      → IsStateAfter (front ++ (new ++ between)) s
  state_stays between s h =
      let told : IsEditTold config front old new between = edit_told config front old new between e in
      record {
        some = omega (arith, e.some, length-append front (new ++ between));
        closed =
            closed_both front (new ++ between) e.closed
            (closed_both new between e.new_piece.closed (closed_below old between (closed_below front (old ++ between) h.closed)));
        sound = told.sound h.sound;
        state = h.state ∙ told.state h.sound;
        border = h.border;
      }

  some_before : (between : List RecordValue) → front ++ (old ++ between) ≡ [] → ⊥
  some_before between h =
      let none : length (front ++ (old ++ between)) ≡ 0 = ap length h in
      omega (arith, e.some, none, length-append front (old ++ between))

  before_stays : (between rest : List RecordValue) (k : KeptValue) (s : Option DocumentState) → IsBefore (front ++ (old ++ between)) rest k s
      → IsBefore (front ++ (new ++ between)) rest k s
  before_stays between rest k None h = absurd (some_before between h)
  before_stays between rest k (Some s) h = (state_stays between s h.0, h.1)

  further : (rows between more : List RecordValue) → (front ++ (rows ++ between)) ++ more ≡ front ++ (rows ++ (between ++ more))
  further rows between more = append_assoc front (rows ++ between) more ∙ ap (λ (rs : List RecordValue). front ++ rs) (append_assoc rows between more)

  pieces_stay : (between rest : List RecordValue) (ps : List PieceValue) → ArePiecesOf (front ++ (old ++ between)) rest ps
      → ArePiecesOf (front ++ (new ++ between)) rest ps
  pieces_stay between rest [] h = h
  pieces_stay between rest (p ∷ ps) h =
      let more = take p.kept.rows rest in
      let left = drop p.kept.rows rest in (
        record { rows = h.0.rows; some = h.0.some; within = h.0.within; before = before_stays between rest p.kept p.before h.0.before },
        subst (λ (f : List RecordValue). ArePiecesOf f left ps) (sym (further new between more))
            (pieces_stay (between ++ more) left ps (subst (λ (f : List RecordValue). ArePiecesOf f left ps) (further old between more) h.1)),
      )

  pub pieces_below : (rest : List RecordValue) (ps : List PieceValue) → ArePiecesOf (front ++ old) rest ps → ArePiecesOf (front ++ new) rest ps
  pieces_below rest ps h =
      subst (λ (rs : List RecordValue). ArePiecesOf (front ++ rs) rest ps) (append-nil new)
      (pieces_stay [] rest ps (subst (λ (rs : List RecordValue). ArePiecesOf (front ++ rs) rest ps) (sym (append-nil old)) h))

-- ---- the first piece

-- of rows, with those that come after them
pub first_piece : (front own rest : List RecordValue) (p : PieceValue) (ps : List PieceValue) → p.kept.rows ≡ length own
    → ArePiecesOf front (own ++ rest) (p ∷ ps) → ArePiecesOf (front ++ own) rest ps
first_piece front own rest p ps e h =
    let first : take p.kept.rows (own ++ rest) ≡ own = ap (λ (k : ℕ). take k (own ++ rest)) e ∙ take-append_seam own rest in
    let later : drop p.kept.rows (own ++ rest) ≡ rest = ap (λ (k : ℕ). drop k (own ++ rest)) e ∙ drop-append_seam own rest in
    subst (λ (rs : List RecordValue). ArePiecesOf (front ++ own) rs ps) later
    (subst (λ (rs : List RecordValue). ArePiecesOf (front ++ rs) (drop p.kept.rows (own ++ rest)) ps) first h.1)

pub with_first : (front own rest : List RecordValue) (k : KeptValue) (s : DocumentState) (ps : List PieceValue) → k.rows ≡ length own
    → StandsWithin k → IsStateAfter front s → BeginsWithLexeme own → k.first ≡ 0
    → ArePiecesOf (front ++ own) rest ps → ArePiecesOf front (own ++ rest) (record { kept = k; before = Some s } ∷ ps)
with_first front own rest k s ps e within after begins none h =
    let first : take k.rows (own ++ rest) ≡ own = ap (λ (n : ℕ). take n (own ++ rest)) e ∙ take-append_seam own rest in
    let later : drop k.rows (own ++ rest) ≡ rest = ap (λ (n : ℕ). drop n (own ++ rest)) e ∙ drop-append_seam own rest in
    let rows : k.rows ≤ length (own ++ rest) = omega (arith, e, length-append own rest) in
    let some : 0 < k.rows = omega (arith, e, some_begins own begins) in (
      record { rows = rows; some = some; within = within; before = (after, (begins_more own rest begins, none)) },
      subst (λ (rs : List RecordValue). ArePiecesOf (front ++ rs) (drop k.rows (own ++ rest)) ps) (sym first)
          (subst (λ (rs : List RecordValue). ArePiecesOf (front ++ own) rs ps) (sym later) h),
    )
