use Rattle.std.proofs.Common.{inl, inr, arith, rules}
use Rattle.std.proofs.lemmas.Bool.{cases_order}
use Rattle.yl_text.specs.Edit.{offset}
use Rattle.yl_text.specs.Places.{IsBytePlace}
use Rattle.yl_text.proofs.LineEdits.{in_line_before}
use Rattle.yl_text.proofs.places.are_one_place.Goals as goal

pub returns-else-one-other : goal.returns-else-one-other
returns-else-one-other g c =
    let ps = g.S.Lines.rows c.args.lines.now in
    let one = c.unwrap-one.result in
    let other = c.unwrap-other.result in
    let at : IsBytePlace ps (offset ps c.args.from) one.line one.byte = search rules in
    let to : IsBytePlace ps (offset ps c.args.to) other.line other.byte = search rules in (
      λ t. search rules,
      λ e. elim (cases_order one.line other.line) [
        | inl same ↦ absurd (c.if-one-other.false same)
        | inr less ↦ elim less [
          | inl l ↦ let z = in_line_before ps _ _ other.line other.byte one.line one.byte to at l in absurd (omega arith)
          | inr l ↦ let z = in_line_before ps _ _ one.line one.byte other.line other.byte at to l in absurd (omega arith)
        ]
      ],
    )
