use Rattle.std.proofs.Common.{◌≡◌, ◌<◌, ◌∙◌, ◌+◌, ◌++◌, ◌∷◌, [], List, ap, arith, drop, map, sym}
use Rattle.yl_lexeme.specs.Lexeme.{PlacedCommentValue}
use Rattle.yl_piece_reports.specs.Told.{comment_above}
use Rattle.yl_section_pieces.specs.Cut.{above_row}
use Rattle.yl_section_pieces.proofs.CutLoops.{part_more, taken_more}
use Rattle.yl_section_pieces.proofs.lists.comments_in.Goals as goal

pub loop-at-preserved : goal.loop-at-preserved
loop-at-preserved g c =
    let xs = c.args.comments.now in
    let i = c.loop-at.at in
    let rows = c.args.rows in
    let line = λ (d : PlacedCommentValue). d.line in
    let f = comment_above rows.start in
    let x = c.index-comments-at.result in
    let new = c.push.new.self.items in
    let part = c.loop-at.part.items in
    let low : x.line < rows.end = omega (arith, c.line.ensures, c.if-line-rows.false) in
    let pushed : new ≡ part ++ f x ∷ [] = c.in_ok-push.ensures.items ∙ ap (λ (d : PlacedCommentValue). part ++ d ∷ []) c.in_ok-comment_above.ensures in
    record {
      items =
          ap (λ (ys : List PlacedCommentValue). ys ++ map f (above_row line rows.end (drop (i + 1) xs))) pushed
          ∙ (sym (part_more line f rows.end xs part i x x c.loop-at-test.true c.index-comments-at.is low) ∙ c.loop-at.invariant.items);
      next = taken_more i c.args.at.now part new (f x) c.loop-at.invariant.next pushed;
    }
