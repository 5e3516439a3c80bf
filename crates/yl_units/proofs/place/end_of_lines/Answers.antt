use Rattle.std.proofs.Common.{◌≡◌, ◌<◌, ◌-◌, ◌^◌, length, ap, ◌∙◌, subst, arith}
use Rattle.std.specs.Str.{IsUtf8, chars}
use Rattle.yl_text.proofs.Fitting.{lines_are_few, found_short}
use Rattle.yl_units.proofs.Rows.{some_line, end_is, in_text}
use Rattle.yl_units.proofs.place.end_of_lines.Goals as goal

pub overflow_cast-result : goal.overflow_cast-result
overflow_cast-result g c =
    let few : length (g.S.Lines.rows c.args.lines.now) < 2 ^ 32 - 1 = lines_are_few (g.S.Lines.rows c.args.lines.now) c.requires in
    record { fits = omega (arith, few, c.len-last.ensures) }

pub overflow_cast-result-2 : goal.overflow_cast-result-2
overflow_cast-result-2 g c =
    let row = c.row.result.now in
    let short : length (chars row.text) < 2 ^ 31 = found_short (g.S.Lines.rows c.args.lines.now) c.requires _ row c.row.ensures in
    let is : c.length_of.result ≡ length (chars row.text) = c.length_of.ensures ∙ ap (λ t. length (chars t)) c.as_str.ensures in
    record { fits = omega (arith, short, is) }

pub returns-clause-place : goal.returns-clause-place
returns-clause-place g c =
    let row = c.row.result.now in
    let is : c.length_of.result ≡ length (chars row.text) = c.length_of.ensures ∙ ap (λ t. length (chars t)) c.as_str.ensures in
    end_is (g.S.Lines.rows c.args.lines.now) c.len-last.result c.length_of.result row c.len-last.ensures c.row.ensures is

pub returns-clause-inside : goal.returns-clause-inside
returns-clause-inside g c =
    let ps = g.S.Lines.rows c.args.lines.now in
    let row = c.row.result.now in
    let is : c.length_of.result ≡ length (chars row.text) = c.length_of.ensures ∙ ap (λ t. length (chars t)) c.as_str.ensures in
    in_text ps (c.len-last.result - 1) c.length_of.result row (omega (arith, some_line ps c.requires, c.len-last.ensures)) c.row.ensures (subst IsUtf8 c.as_str.ensures c.as_str.utf8) (omega (arith, is))
