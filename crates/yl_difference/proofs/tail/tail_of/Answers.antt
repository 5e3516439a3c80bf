use Rattle.std.proofs.Common.{rules, ◌≡◌, ◌≢◌, ◌+◌, ◌∷◌, [], length, arith}
use Rattle.std.specs.Str.{chars}
use Rattle.yl_text.specs.declared.row.Break.TheVariants.{No}
use Rattle.yl_text.specs.Lines.{RowValue, lines_of}
use Rattle.yl_text.proofs.Fitting.{length-chars}
use Rattle.yl_difference.specs.Rest.{IsRest}
use Rattle.yl_difference.proofs.Rests.{rest_more, rest_inside, rest_short, few, last_is, start_from, end_from}
use Rattle.yl_difference.proofs.tail.tail_of.Goals as goal

pub overflow_cast-result : goal.overflow_cast-result
overflow_cast-result c =
    let rest = c.loop-rest.rest.now in
    let count : c.length_of.result ≡ length (chars rest) = c.length_of.ensures in
    record { fits = omega (arith, count, length-chars rest, rest_short c.args.text.now c.loop-rest.line rest c.loop-rest.invariant.rest, c.requires) }

pub returns-then-eq-clause-from : goal.returns-then-eq-clause-from
returns-then-eq-clause-from c =
    let rest = c.loop-rest.rest.now in
    let first = c.cut_line-first.result in
    let last : first.end ≡ No = search rules in
    let count : c.length_of.result ≡ length (chars rest) = c.length_of.ensures in
    let row : RowValue = record { text = first.line.now; end = first.end } in
    let only : lines_of rest ≡ row ∷ [] = last_is rest row first.end first.rest.now c.cut_line-first.ensures.first last in
    end_from c.args.text.now c.loop-rest.line rest row c.length_of.result c.loop-rest.invariant.rest only c.loop-rest.invariant.utf8 count

pub overflow_add-line : goal.overflow_add-line
overflow_add-line c =
    let first = c.cut_line-first.result in
    let more : first.end ≢ No = search rules in
    let next : IsRest c.args.text.now (c.loop-rest.line + 1) first.rest.now =
    rest_more c.args.text.now c.loop-rest.line c.loop-rest.rest.now (record { text = first.line.now; end = first.end }) first.end first.rest.now c.loop-rest.invariant.rest c.cut_line-first.ensures.first more in
    record { fits = omega (arith, rest_inside c.args.text.now (c.loop-rest.line + 1) first.rest.now next, few c.args.text.now, c.requires) }

pub loop-rest-preserved : goal.loop-rest-preserved
loop-rest-preserved c =
    let first = c.cut_line-first.result in
    let more : first.end ≢ No = search rules in
    record {
      utf8 = c.cut_line-first.ensures.utf8;
      rest = rest_more c.args.text.now c.loop-rest.line c.loop-rest.rest.now (record { text = first.line.now; end = first.end }) first.end first.rest.now c.loop-rest.invariant.rest c.cut_line-first.ensures.first more;
    }

pub returns-clause-from : goal.returns-clause-from
returns-clause-from c = start_from c.args.text.now c.loop-rest.line c.loop-rest.rest.now c.loop-rest.invariant.rest
