use Rattle.std.proofs.Common.{◌≡◌, ◌+◌, ◌<◌, ℕ, List, length, arith, ap, subst, sym}
use Rattle.std.specs.Str.{chars}
use Rattle.yl_text.specs.Edit.{offset}
use Rattle.yl_text.specs.Lines.{row_bytes}
use Rattle.yl_text.specs.Places.{line_bytes, line_start, IsByteOf, IsBytePlace, IsCut}
use Rattle.yl_text.proofs.ByBytes.{line_is, start_within}
use Rattle.yl_text.proofs.places.byte_place.Goals as goal

pub byte_of-requires : goal.byte_of-requires
byte_of-requires g c =
    let ps = g.S.Lines.rows c.args.lines.now in
    omega (arith, start_within ps c.args.place.line, ap length (line_is ps c.args.place.line c.row.result.now c.row.ensures), c.requires.short)

pub renamed-requires-clause-cut : goal.renamed-requires-clause-cut
renamed-requires-clause-cut g c =
    let is = line_is (g.S.Lines.rows c.args.lines.now) c.args.place.line c.row.result.now c.row.ensures in
    let of : IsByteOf (row_bytes c.row.result.now) c.args.place.col c.in-Some.byte = c.in-Some.ensures in
    subst (λ (bs : List ℕ). IsCut bs c.in-Some.byte) (sym is) of.cut

pub returns-in-Some : goal.returns-in-Some
returns-in-Some g c =
    let ps = g.S.Lines.rows c.args.lines.now in
    let p = c.args.place in
    let is = line_is ps p.line c.row.result.now c.row.ensures in
    let of : IsByteOf (line_bytes ps p.line) p.col c.in-Some.byte = subst (λ (bs : List ℕ). IsByteOf bs p.col c.in-Some.byte) (sym is) c.in-Some.ensures in
    let at : line_start ps p.line + c.in-Some.byte ≡ offset ps p = ap (λ (k : ℕ). line_start ps p.line + k) of.same in
    let line : p.line < length ps = omega (arith, c.if-line-len.false, c.len.ensures) in
    (record { line = line; column = of.enough }, subst (λ (n : ℕ). IsBytePlace ps n c.renamed.result.line c.renamed.result.byte) at c.renamed.ensures)

pub returns-in-None : goal.returns-in-None
returns-in-None g c = λ i.
    let ps = g.S.Lines.rows c.args.lines.now in
    let p = c.args.place in
    let is = ap (λ (bs : List ℕ). length (chars bs)) (line_is ps p.line c.row.result.now c.row.ensures) in
    let few : length (chars (row_bytes c.row.result.now)) < p.col = c.in-None.ensures in
    let enough = i.column in
    omega (arith, is, few, enough)
