use Rattle.std.proofs.Common.{◌≡◌, ◌+◌, length, arith, refl, ap, ◌∙◌, sym, length-append}
use Rattle.yl_text.specs.Places.{line_bytes}
use Rattle.yl_text.proofs.ByBytes.{line_is, some_bytes, start_more, start_cut}
use Rattle.yl_text.proofs.Fitting.{lines_are_few}
use Rattle.yl_text.specs.Lines.{break_bytes}
use Rattle.yl_text.proofs.places.renamed.Goals as goal
use Rattle.yl_text.proofs.places.renamed.Goals.{else-line-len-via-then-line-len+else-byte-bytes, else-line-len-via-else-line-len}

pub overflow_add-line : goal.overflow_add-line
overflow_add-line g c =
    let few = lines_are_few (g.S.Lines.rows c.args.lines.now) c.requires.lines in
    record { fits = omega (arith, few, c.requires.line) }

pub returns-then-byte-bytes : goal.returns-then-byte-bytes
returns-then-byte-bytes g c =
    let ps = g.S.Lines.rows c.args.lines.now in
    let size : c.args.byte ≡ length (line_bytes ps c.args.line) = c.if-byte-bytes.true ∙ c.bytes.ensures ∙ sym (ap length (line_is ps c.args.line c.row.result.now c.row.ensures) ∙ length-append c.row.result.now.text (break_bytes c.row.result.now.end)) in
    record {
      line = omega (arith, c.if-line-len.true, c.len.ensures);
      place = omega (arith, start_more ps c.args.line, size);
      inside = λ more. some_bytes ps (c.args.line + 1) c.requires.lines more;
      cut = start_cut (line_bytes ps (c.args.line + 1));
    }

pub returns : goal.returns
returns g c =
    let ps = g.S.Lines.rows c.args.lines.now in
    record {
      line = c.requires.line;
      place = refl;
      inside = λ more. elim c.else-line-len.branch [
        | else-line-len-via-then-line-len+else-byte-bytes w ↦
            let size = ap length (line_is ps c.args.line w.row.result.now w.row.ensures) ∙ length-append w.row.result.now.text (break_bytes w.row.result.now.end) in
            let other = w.if-byte-bytes.false in
            omega (arith, size, w.bytes.ensures, other, c.requires.cut.within)
        | else-line-len-via-else-line-len w ↦ absurd (omega (arith, w.if-line-len.false, c.len.ensures, more))
      ];
      cut = c.requires.cut;
    }
