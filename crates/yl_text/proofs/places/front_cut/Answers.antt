use Rattle.std.proofs.Common.{◌≡◌, ◌≢◌, ◌-◌, ◌∙◌, inl, inr, length, ap, sym, arith, rules, length-append}
use Rattle.yl_text.specs.Lines.{break_bytes}
use Rattle.yl_text.specs.Edit.{offset, last_byte}
use Rattle.yl_text.specs.PutLines.{front_of}
use Rattle.yl_text.specs.Places.{line_bytes, IsBytePlace}
use Rattle.yl_text.proofs.ByBytes.{line_is}
use Rattle.yl_text.proofs.LineEdits.{behind_some, front_cut_here, front_cut_back}
use Rattle.yl_text.proofs.places.front_cut.Goals as goal
use Rattle.yl_text.proofs.places.front_cut.Goals.{then-at-gt0-via-then-at-gt0, then-at-gt0-via-else-at-gt0+then-not-front_ends_in_cr}

pub returns-then-at-gt0 : goal.returns-then-at-gt0
returns-then-at-gt0 g c =
    let ps = g.S.Lines.rows c.args.lines.now in
    let at : IsBytePlace ps (offset ps c.args.from) c.unwrap-at.result.line c.unwrap-at.result.byte = search rules in
    front_cut_here ps c.args.from c.unwrap-at.result.line c.unwrap-at.result.byte c.requires.lines at
    (elim c.then-at-gt0.branch [
      | then-at-gt0-via-then-at-gt0 w ↦ inl w.if-at-gt0.true
      | then-at-gt0-via-else-at-gt0+then-not-front_ends_in_cr w ↦
          let not : last_byte (front_of ps c.unwrap-at.result.line) ≢ 13 = search rules in
          inr (let z = w.if-at-gt0.false in omega arith, not)
    ])

pub returns : goal.returns
returns g c =
    let ps = g.S.Lines.rows c.args.lines.now in
    let i = c.unwrap-at.result.line in
    let at : IsBytePlace ps (offset ps c.args.from) i c.unwrap-at.result.byte = search rules in
    let cr : last_byte (front_of ps i) ≡ 13 = search rules in
    let size : c.bytes.result ≡ length (line_bytes ps (i - 1)) = c.bytes.ensures ∙ sym (ap length (line_is ps (i - 1) c.row.result.now c.row.ensures) ∙ length-append c.row.result.now.text (break_bytes c.row.result.now.end)) in
    front_cut_back ps c.args.from i c.unwrap-at.result.byte c.bytes.result c.requires.lines at (let z = c.if-at-gt0.false in omega arith) (behind_some ps i cr) cr size
