use Rattle.std.proofs.Common.{◌≡◌, ◌<◌, ◌+◌, ◌-◌, ℕ, ◌∷◌, [], List, length, take, drop, Option, Some, None, ap, sym, ◌∙◌, arith}
use Rattle.std.specs.Prelude.{IfOk, IfSome, Result, Ok, Err, slice_get}
use Rattle.std.specs.List.{splice}
use Rattle.std.proofs.lemmas.List.{length-map}
use Rattle.yl_sections.specs.Kept.{KeptValue}
use Rattle.yl_sections.specs.Sections.{sections}
use Rattle.yl_sections.proofs.KeptRows.{got, rows_front, rows_more}
use Rattle.yl_pieces.specs.State.{DocumentState}
use Rattle.yl_section_pieces.specs.Pieces.{PieceValue, summaries}
use Rattle.yl_section_pieces.specs.Sections.{AreKeptSections}
use Rattle.yl_piece_list.specs.Edited.{IsEdited}
use Rattle.yl_piece_list.proofs.TwoLists.{piece_of_parts}
use Rattle.yl_piece_list.proofs.NextPiece.{rows_after, total_rows}
use Rattle.yl_piece_list.proofs.OnePiece.{piece_edited, some_above}
use Rattle.yl_piece_list.proofs.one_piece.edit_one.Goals as goal

weaker : {X E : Type 0} (P Q : X → Type 0) → ((x : X) → P x → Q x) → (r : Result (Option X) E) → IfOk r (λ o. IfSome o P) → IfOk r (λ o. IfSome o Q)
weaker P Q f (Ok (Some x)) h = f x h
weaker P Q f (Ok None) h = h
weaker P Q f (Err e) h = h

always : {X E : Type 0} (P : Type 0) → P → (r : Result (Option X) E) → IfOk r (λ o. IfSome o (λ x. P))
always P p (Ok (Some x)) = p
always P p (Ok None) = tt
always P p (Err e) = tt

pub overflow_add-last : goal.overflow_add-last
overflow_add-last g c =
    let total = total_rows c.args.config.now c.args.old.now.items c.args.pieces.now c.requires.kept in
    record { fits = omega (arith, c.rows.ensures, c.requires.at.row, total, rows_front (summaries c.args.pieces.now) (c.args.at.section + 1), c.requires.few.0) }

pub overflow_add-last-else-last-old_end : goal.overflow_add-last-else-last-old_end
overflow_add-last-else-last-old_end g c =
    let total = total_rows c.args.config.now c.args.old.now.items c.args.pieces.now c.requires.kept in
    record { fits = omega (arith, c.rows.ensures, c.requires.at.row, total, rows_front (summaries c.args.pieces.now) (c.args.at.section + 1), c.requires.few.0, c.requires.few.1, c.requires.range.within) }

pub edit_rows-requires-clause-old : goal.edit_rows-requires-clause-old
edit_rows-requires-clause-old g c =
    let total = total_rows c.args.config.now c.args.old.now.items c.args.pieces.now c.requires.kept in
    (omega arith, omega (arith, c.rows.ensures, c.requires.at.row, total, rows_front (summaries c.args.pieces.now) (c.args.at.section + 1)))

pub edit_rows-requires-clause-new : goal.edit_rows-requires-clause-new
edit_rows-requires-clause-new g c =
    let total = total_rows c.args.config.now c.args.old.now.items c.args.pieces.now c.requires.kept in
    let same = rows_after c.args.old.now.items c.args.records.now c.args.old_end c.args.end c.requires.behind in (
      omega (arith, c.requires.above, c.requires.range.ordered, c.if-last-old_end.false),
      omega (arith, c.rows.ensures, c.requires.at.row, total, rows_front (summaries c.args.pieces.now) (c.args.at.section + 1), same, c.requires.range.within, c.requires.old_range.within, c.if-last-old_end.false),
    )

pub returns-clause-not_first : goal.returns-clause-not_first
returns-clause-not_first g c =
    let ps = c.args.pieces.now in
    let i : ℕ = c.args.at.section in
    let k = c.get-kept.result.now in
    let s = c.in-Some.before.now in
    let kept : slice_get (summaries ps) i ≡ Some k = ap (λ (js : List KeptValue). slice_get js i) (sym c.kept.ensures) ∙ c.get-kept.ensures in
    let state = ap (λ (bs : List (Option DocumentState)). slice_get bs i) (sym c.before-2.ensures) ∙ (c.get.ensures ∙ ap (λ (b : Option DocumentState). Some b) (sym c.in-Some.ensures)) in
    let some = some_above c.args.config.now c.args.old.now.items c.args.records.now ps c.requires.kept i k s (piece_of_parts ps i k (Some s) kept state) in
    always (0 < c.args.at.row) (omega (arith, some, c.requires.at.row)) c.edit_rows.result

pub returns-clause-kept : goal.returns-clause-kept
returns-clause-kept g c =
    let ps = c.args.pieces.now in
    let i : ℕ = c.args.at.section in
    let row : ℕ = c.args.at.row in
    let last : ℕ = c.args.at.row + c.rows.result in
    let config = c.args.config.now in
    let old = c.args.old.now.items in
    let new = c.args.records.now in
    let k = c.get-kept.result.now in
    let s = c.in-Some.before.now in
    let kept : slice_get (summaries ps) i ≡ Some k = ap (λ (js : List KeptValue). slice_get js i) (sym c.kept.ensures) ∙ c.get-kept.ensures in
    let state = ap (λ (bs : List (Option DocumentState)). slice_get bs i) (sym c.before-2.ensures) ∙ (c.get.ensures ∙ ap (λ (b : Option DocumentState). Some b) (sym c.in-Some.ensures)) in
    let there = piece_of_parts ps i k (Some s) kept state in
    let inside : i < length (summaries ps) = omega (arith, c.len.ensures, c.if-at-len.false, length-map ps (λ (p : PieceValue). p.kept)) in
    let more = rows_more (summaries ps) i k inside (got (summaries ps) i k kept) in
    let last_at : last ≡ row + k.rows = omega (arith, c.rows.ensures, more) in
    weaker (λ (y : PieceValue). IsEdited config s (drop row (take last old)) (drop row (take (last - c.args.old_end + c.args.end) new)) k y)
    (λ (y : PieceValue). AreKeptSections config (sections new) (splice ps i (i + 1) (y ∷ [])))
    (λ y e. piece_edited config old new ps c.requires.kept i k s there c.args.from c.args.old_end c.args.end row last c.requires.at.row last_at c.requires.above
    c.requires.old_range.ordered c.if-last-old_end.false c.requires.range.ordered c.requires.before c.requires.behind c.requires.law y e)
    c.edit_rows.result c.edit_rows.ensures
