use Rattle.std.proofs.Common.{◌∙◌, ◌+◌, length, drop, sym, ap, arith}
use Rattle.std.proofs.lemmas.List.{length-drop, take_rest}
use Rattle.yl_patterns.specs.Reading.{items_after, piece_of}
use Rattle.yl_patterns.proofs.Pieces.{items_more, joined}
use Rattle.yl_patterns.proofs.reading.push_items.Goals as goal

pub loop-at-preserved : goal.loop-at-preserved
loop-at-preserved g c =
    let text = c.args.text.now in
    let at = c.loop-at.at in
    let p = c.in-Some.piece in
    let rest = take_rest text at in
    let is = ap (λ l. piece_of c.loop-at.place l) (sym rest) ∙ sym c.in-Some.ensures.piece in
    let more = items_more c.loop-at.place text at p c.loop-at.items.items c.loop-at-test.true c.in-Some.ensures.within.0 is in
    record {
      within = omega (arith, c.in-Some.ensures.within.1, ap length rest, length-drop at text, c.loop-at-test.true);
      items = ap (λ xs. joined xs (items_after p.next 0 (drop (at + p.len) text))) c.in_ok-push.ensures.items ∙ sym more ∙ c.loop-at.invariant.items;
    }
