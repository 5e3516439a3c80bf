use Rattle.std.proofs.Common.{◌≡◌, ℕ, List, Option, Some, None, refl, ap, sym, subst, ◌∙◌}
use Rattle.std.specs.Prelude.{slice_get}
use Rattle.yl_sections.specs.Kept.{KeptValue}
use Rattle.yl_pieces.specs.State.{DocumentState}
use Rattle.yl_section_pieces.specs.Pieces.{PieceValue, summaries}
use Rattle.yl_piece_list.specs.Anew.{IsShorter}
use Rattle.yl_piece_list.specs.PieceLists.{states}
use Rattle.yl_piece_list.proofs.ShorterPiece.{part_shorter, whole_shorter}
use Rattle.yl_piece_list.proofs.TwoLists.{piece_of_parts}
use Rattle.yl_piece_list.proofs.shorter.shorter_piece.Goals as goal

-- the piece by its parts
is_piece : (ps : List PieceValue) (i : ℕ) (k : KeptValue) (b : Option DocumentState) (x : PieceValue) → slice_get (summaries ps) i ≡ Some k
    → slice_get (states ps) i ≡ Some b → slice_get ps i ≡ Some x → record { kept = k; before = b } ≡ x
is_piece ps i k b x e f there = by (sym (piece_of_parts ps i k b e f) ∙ there) where
  by : {p : PieceValue} → Some p ≡ Some x → p ≡ x
  by e = cc

pub returns-in_ok-kept-in-None : goal.returns-in_ok-kept-in-None
returns-in_ok-kept-in-None g c = λ x there.
    let config = c.args.config.now in
    let ps = c.args.pieces.now in
    let i : ℕ = c.args.i in
    let k = c.get-kept.result.now in
    let now = c.in_ok-kept-in-None.kept in
    let kept : slice_get (summaries ps) i ≡ Some k = ap (λ (js : List KeptValue). slice_get js i) (sym c.kept.ensures) ∙ c.get-kept.ensures in
    let state =
    ap (λ (bs : List (Option DocumentState)). slice_get bs i) (sym c.before-2.ensures)
    ∙ (c.get.ensures ∙ ap (λ (b : Option DocumentState). Some b) (sym c.in-None.ensures)) in
    subst (λ (p : PieceValue). IsShorter config p c.args.rows (record { kept = now; before = None })) (is_piece ps i k None x kept state there)
    (whole_shorter config (record { kept = k; before = None }) c.args.rows now refl c.in_ok-kept-in-None.ensures)

pub returns-in_ok-before-in-Some : goal.returns-in_ok-before-in-Some
returns-in_ok-before-in-Some g c = λ x there.
    let config = c.args.config.now in
    let ps = c.args.pieces.now in
    let i : ℕ = c.args.i in
    let k = c.get-kept.result.now in
    let s = c.in-Some.state.now in
    let b = c.in_ok-before-in-Some.before in
    let kept : slice_get (summaries ps) i ≡ Some k = ap (λ (js : List KeptValue). slice_get js i) (sym c.kept.ensures) ∙ c.get-kept.ensures in
    let state =
    ap (λ (bs : List (Option DocumentState)). slice_get bs i) (sym c.before-2.ensures)
    ∙ (c.get.ensures ∙ ap (λ (b : Option DocumentState). Some b) (sym c.in-Some.ensures)) in
    subst (λ (p : PieceValue). IsShorter config p c.args.rows (record { kept = c.in_ok-kept-in-Some.kept; before = b }))
    (is_piece ps i k (Some s) x kept state there)
    (subst (λ (j : KeptValue). IsShorter config (record { kept = k; before = Some s }) c.args.rows (record { kept = j; before = b }))
    (sym c.in_ok-kept-in-Some.ensures)
    (part_shorter config (record { kept = k; before = Some s }) c.args.rows s b refl c.in_ok-before-in-Some.ensures))
