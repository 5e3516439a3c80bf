use Rattle.std.proofs.Common.{◌≡◌, ◌<◌, ◌≤◌, ◌-◌, ◌^◌, ℕ, List, length, ap, ◌∙◌, subst, arith}
use Rattle.std.specs.Str.{IsUtf8, chars}
use Rattle.yl_text.proofs.Fitting.{lines_are_few, found_short}
use Rattle.yl_units.specs.declared.encoding.Encoding.{Encoding}
use Rattle.yl_units.specs.Units.{column_of}
use Rattle.yl_units.proofs.Counting.{column_within}
use Rattle.yl_units.proofs.Rows.{in_text}
use Rattle.yl_units.proofs.place.place_of.Goals as goal

same_column : (e : Encoding) (a b : List ℕ) (units n : ℕ) → n ≡ column_of e (chars a) units → a ≡ b → n ≡ column_of e (chars b) units
same_column e a b units n h s = h ∙ ap (λ t. column_of e (chars t) units) s

pub overflow_cast-line : goal.overflow_cast-line
overflow_cast-line g c =
    let few : length (g.S.Lines.rows c.args.lines.now) < 2 ^ 32 - 1 = lines_are_few (g.S.Lines.rows c.args.lines.now) c.requires in
    record { fits = omega (arith, few, c.len.ensures, c.if-place-len.false) }

pub overflow_cast-result : goal.overflow_cast-result
overflow_cast-result g c =
    let row = c.row-row.result.now in
    let short : length (chars row.text) < 2 ^ 31 = found_short (g.S.Lines.rows c.args.lines.now) c.requires _ row c.row-row.ensures in
    let is : c.column_of.result ≡ column_of c.args.encoding (chars row.text) c.args.place.units = same_column c.args.encoding c.as_str.result.now row.text c.args.place.units c.column_of.result c.column_of.ensures c.as_str.ensures in
    record { fits = omega (arith, short, is, column_within c.args.encoding (chars row.text) c.args.place.units) }

pub returns-clause-inside : goal.returns-clause-inside
returns-clause-inside g c =
    let row = c.row-row.result.now in
    let is : c.column_of.result ≡ column_of c.args.encoding (chars row.text) c.args.place.units = same_column c.args.encoding c.as_str.result.now row.text c.args.place.units c.column_of.result c.column_of.ensures c.as_str.ensures in
    in_text (g.S.Lines.rows c.args.lines.now) c.args.place.line c.column_of.result row (omega (arith, c.len.ensures, c.if-place-len.false)) c.row-row.ensures (subst IsUtf8 c.as_str.ensures c.as_str.utf8) (omega (arith, is, column_within c.args.encoding (chars row.text) c.args.place.units))
