use Rattle.std.proofs.Common.{◌≡◌, ◌<◌, ◌≤◌, ◌-◌, ◌∙◌, ◌+◌, ◌++◌, ◌∷◌, [], Bor, List, ap, arith, drop, get_or, length, map, sym}
use Rattle.std.proofs.lemmas.List.{get_or-map, length-map}
use Rattle.yl_text.specs.Finding.{FindingValue}
use Rattle.yl_pieces.specs.Patched.{row_of}
use Rattle.yl_piece_reports.specs.Told.{finding_above}
use Rattle.yl_section_pieces.specs.Cut.{above_row}
use Rattle.yl_section_pieces.proofs.CutLoops.{part_ends, part_more, part_stops, taken_more}
use Rattle.yl_section_pieces.proofs.lists.found_in.Goals as goal
use Rattle.yl_section_pieces.proofs.lists.found_in.Goals.{else-loop-at-test, then-loop-at-test+then-row_of-from}

pub loop-at-preserved : goal.loop-at-preserved
loop-at-preserved g c =
    let now = λ (f : Bor FindingValue). f.now in
    let all = c.args.found.now in
    let xs = map now all in
    let i = c.loop-at.at in
    let rows = c.args.rows in
    let f = finding_above rows.start in
    let b = c.index-found-at.result in
    let x = b.now in
    let new = c.push.new.self.items in
    let part = c.loop-at.part.items in
    let many : length xs ≡ length all = length-map all now in
    let inside : i < length xs = omega (arith, many, c.loop-at-test.true) in
    let is : x ≡ get_or xs i x = ap now c.index-found-at.is ∙ sym (get_or-map now all i b x c.loop-at-test.true) in
    let low : row_of x < rows.end = omega (arith, c.row_of.ensures, c.from.ensures, c.if-row_of-from.false) in
    let line : c.saturating_sub-line.result ≡ x.line - rows.start = omega (arith, c.saturating_sub-line.ensures, c.line.ensures, c.from-in-loop-at.ensures) in
    let copied : c.in_ok-copy_at.field-0 ≡ f x = c.in_ok-copy_at.ensures ∙ (λ j. record { line = line j; column = x.column; rule = x.rule; message = x.message }) in
    let pushed : new ≡ part ++ f x ∷ [] = c.in_ok-push.ensures.items ∙ ap (λ (y : FindingValue). part ++ y ∷ []) copied in
    record {
      items =
          ap (λ (ys : List FindingValue). ys ++ map f (above_row row_of rows.end (drop (i + 1) xs))) pushed
          ∙ (sym (part_more row_of f rows.end xs part i x x inside is low) ∙ c.loop-at.invariant.items);
      next = taken_more i c.args.at.now part new (f x) c.loop-at.invariant.next pushed;
    }

pub returns-clause-items : goal.returns-clause-items
returns-clause-items g c =
    let now = λ (f : Bor FindingValue). f.now in
    let all = c.args.found.now in
    let xs = map now all in
    let i = c.loop-at.at in
    let rows = c.args.rows in
    let f = finding_above rows.start in
    let part = c.loop-at.part.items in
    let many : length xs ≡ length all = length-map all now in
    elim c.loop-at-test.branch [
      | else-loop-at-test w ↦ let past : length xs ≤ i = omega (arith, many, w.loop-at-test.false) in sym (part_ends row_of f rows.end xs part i past) ∙ c.loop-at.invariant.items
      | then-loop-at-test+then-row_of-from w ↦
          let b = w.index-found-at.result in
          let x = b.now in
          let inside : i < length xs = omega (arith, many, w.loop-at-test.true) in
          let is : x ≡ get_or xs i x = ap now w.index-found-at.is ∙ sym (get_or-map now all i b x w.loop-at-test.true) in
          let high : rows.end ≤ row_of x = omega (arith, w.row_of.ensures, w.from.ensures, w.if-row_of-from.true) in
          sym (part_stops row_of f rows.end xs part i x x inside is high) ∙ c.loop-at.invariant.items
    ]
