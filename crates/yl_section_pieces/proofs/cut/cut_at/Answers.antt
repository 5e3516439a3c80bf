use Rattle.std.proofs.Common.{Bor, ℕ, ap, map, sym, ◌∙◌}
use Rattle.std.proofs.lemmas.List.{map-id}
use Rattle.std.proofs.lemmas.Iterator.Consumers.{YieldsList-end}
use Rattle.std.proofs.lemmas.Iterator.Adapters.{YieldsList-from_vec}
use Rattle.yl_text.specs.Finding.{FindingValue}
use Rattle.yl_section_pieces.specs.Cut.{piece_at}
use Rattle.yl_section_pieces.proofs.CutPieces.{pieces_all, pieces_more}
use Rattle.yl_section_pieces.proofs.cut.cut_at.Goals as goal

pub loop-border-preserved : goal.loop-border-preserved
loop-border-preserved g c =
    pieces_more c.args.kept.now (map (λ (f : Bor FindingValue). f.now) c.args.found.now) c.loop-border.at c.loop-border.before c.loop-border.pieces.items c.loop-border.yielded c.loop-border.invariant
    c.in-Some.border c.cut_piece.new.at c.in_ok-piece.piece c.push.new.self.items c.in_ok-piece.ensures.piece c.in_ok-piece.ensures.next c.in_ok-push.ensures.items

-- the loop has seen all of the list
pub returns : goal.returns
returns g c =
    let given = c.into_iter-border-iterator.ensures.into_iter_gives in
    let seen = YieldsList-end (YieldsList-from_vec {s = c.into_iter-border-iterator.result} c.args.borders.items given.0 (given.1 ∙ c.args.borders.ok.0))
    c.loop-border.yielded c.loop-border.border-iterator c.loop-border.yielded_by c.next.result c.next.new.self c.in-None.is c.next.ensures.steps in
    pieces_all c.args.kept.now (map (λ (f : Bor FindingValue). f.now) c.args.found.now) c.loop-border.at c.loop-border.before c.loop-border.pieces.items c.loop-border.yielded c.loop-border.invariant
    c.args.borders.items c.in_ok-last.last c.push-2.new.self.items (c.in_ok-last.ensures.piece ∙ ap (λ (n : ℕ). piece_at c.args.kept.now (map (λ (f : Bor FindingValue). f.now) c.args.found.now) c.loop-border.at n) c.rows.ensures) c.in_ok-push-2.ensures.items (sym (map-id c.loop-border.yielded) ∙ seen.0)
