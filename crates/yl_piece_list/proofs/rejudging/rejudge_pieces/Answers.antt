use Rattle.std.proofs.Common.{◌≡◌, ◌<◌, ◌≤◌, ◌+◌, ℕ, List, [], ◌∷◌, length, take, Option, Some, None, ap, sym, subst, ◌∙◌, arith, inl}
use Rattle.std.specs.Prelude.{IfOk, IfSome, OnOk, Result, Ok, Err}
use Rattle.std.specs.List.{splice}
use Rattle.yl_sections.specs.Kept.{KeptValue, rows_kept}
use Rattle.yl_sections.specs.Sections.{sections}
use Rattle.yl_section_pieces.specs.Pieces.{PieceValue, summaries}
use Rattle.yl_section_pieces.specs.Sections.{AreKeptSections}
use Rattle.yl_sections.specs.Holding.{TakesNothing, documents_holding}
use Rattle.yl_piece_list.specs.Around.{ArePiecesAround}
use Rattle.yl_piece_list.proofs.NextPiece.{around_one}
use Rattle.yl_piece_list.proofs.rejudging.rejudge_pieces.Goals as goal

weaker : {X E : Type 0} (P Q : X → Type 0) → ((x : X) → P x → Q x) → (r : Result X E) → IfOk r P → IfOk r Q
weaker P Q f (Ok x) h = f x h
weaker P Q f (Err e) h = h

always : {X E : Type 0} (P : Type 0) → P → (r : Result X E) → OnOk r P
always P p (Ok x) = p
always P p (Err e) = tt

of_some : {X : Type 0} (P : X → Type 0) (o : Option X) (x : X) → IfSome o P → o ≡ Some x → P x
of_some P None x h e = absurd (cc)
of_some P (Some y) x h e = let same : y ≡ x = cc in subst P same h

pub returns-in-Some-clause-kept : goal.returns-in-Some-clause-kept
returns-in-Some-clause-kept g c =
    let ps = c.args.pieces.now in
    let i : ℕ = c.section_of-here.result.section in
    let kept = of_some (λ (p : PieceValue). AreKeptSections c.args.config.now (sections c.args.records.now) (splice ps i (i + 1) (p ∷ []))) c.in_ok-one.one c.in-Some.piece c.in_ok-one.ensures.kept c.in-Some.is in
    weaker _ _ (λ r e.
    subst (λ (n : ℕ). AreKeptSections c.args.config.now (sections c.args.records.now) (splice ps n r.end r.pieces.items)) (sym e.0)
    (subst (λ (n : ℕ). AreKeptSections c.args.config.now (sections c.args.records.now) (splice ps i n r.pieces.items)) (sym e.1.0)
    (subst (λ (qs : List PieceValue). AreKeptSections c.args.config.now (sections c.args.records.now) (splice ps i (i + 1) qs)) (sym e.1.1) kept)))
    c.one_replaced.result c.one_replaced.ensures

pub returns-in-Some-clause-around : goal.returns-in-Some-clause-around
returns-in-Some-clause-around g c =
    let ps = c.args.pieces.now in
    let i : ℕ = c.section_of-here.result.section in
    let there = of_some (λ (p : PieceValue). i < length ps) c.in_ok-one.one c.in-Some.piece c.in_ok-one.ensures.there c.in-Some.is in
    let below = of_some (λ (p : PieceValue). 0 < c.section_of-here.result.row) c.in_ok-one.one c.in-Some.piece c.in_ok-one.ensures.not_first c.in-Some.is in
    let holds = of_some (λ (p : PieceValue). c.args.old_end ≤ rows_kept (take (i + 1) (summaries ps))) c.in_ok-one.one c.in-Some.piece c.in_ok-one.ensures.holds c.in-Some.is in
    let at = c.section_of-here.ensures.at ∙ ap (λ (js : List KeptValue). rows_kept (take i js)) c.kept.ensures in
    let around = around_one c.args.config.now c.args.old.now.items c.args.records.now ps c.requires.kept i c.args.from c.args.old_end c.args.end there
    (omega (arith, at, below)) (omega (arith, at, c.section_of-here.ensures.row)) c.requires.range.ordered holds c.requires.behind in
    weaker _ _ (λ r e.
    inl (subst (λ (n : ℕ). ArePiecesAround (summaries ps) c.args.records.now c.args.from c.args.old_end c.args.end n r.end) (sym e.0)
    (subst (λ (n : ℕ). ArePiecesAround (summaries ps) c.args.records.now c.args.from c.args.old_end c.args.end i n) (sym e.1.0) around)))
    c.one_replaced.result c.one_replaced.ensures

pub returns-in-Some-clause-documents : goal.returns-in-Some-clause-documents
returns-in-Some-clause-documents g c =
    always (TakesNothing c.args.old.now.items c.args.records.now c.args.from → (m : ℕ) → c.args.end ≤ m + 1
    → c.args.meter.now.documents ≤ c.args.meter.now.documents + documents_holding 0 c.args.from m (sections c.args.records.now))
    (λ h m w. omega arith) c.one_replaced.result
