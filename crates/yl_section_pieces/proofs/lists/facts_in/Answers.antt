use Rattle.std.proofs.Common.{◌≡◌, ◌∙◌, ◌+◌, ◌++◌, ◌∷◌, [], List, ap, drop, get_or, map, refl, sym}
use Rattle.yl_indentation.specs.declared.fact.Expectation.TheVariants.{At}
use Rattle.yl_indentation.specs.declared.fact.Fact.{Fact}
use Rattle.yl_piece_reports.specs.Told.{fact_above}
use Rattle.yl_section_pieces.specs.Cut.{above_row}
use Rattle.yl_section_pieces.proofs.CutLoops.{part_more, taken_more}
use Rattle.yl_section_pieces.proofs.lists.facts_in.Goals as goal

pub loop-at-preserved : goal.loop-at-preserved
loop-at-preserved g c =
    let xs = c.args.facts.now in
    let i = c.loop-at.at in
    let rows = c.args.rows in
    let line = λ (f : Fact). f.line in
    let f = fact_above rows.start in
    let none : Fact = record { line = 0; column = 0; expectation = At 0 } in
    let x : Fact = get_or xs i none in
    let new = c.push.new.self.items in
    let part = c.loop-at.part.items in
    let is : c.saturating_sub.result ≡ (f x).line = c.saturating_sub.ensures in
    let pushed : new ≡ part ++ f x ∷ [] = c.in_ok-push.ensures.items ∙ (λ j. part ++ record { line = is j; column = x.column; expectation = x.expectation } ∷ []) in
    record {
      items =
          ap (λ (ys : List Fact). ys ++ map f (above_row line rows.end (drop (i + 1) xs))) pushed
          ∙ (sym (part_more line f rows.end xs part i x none c.loop-at-test.true refl c.if-fact-rows.false) ∙ c.loop-at.invariant.items);
      next = taken_more i c.args.at.now part new (f x) c.loop-at.invariant.next pushed;
    }
