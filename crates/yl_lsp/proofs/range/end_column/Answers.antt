use Rattle.std.proofs.Common.{◌≡◌, ◌+◌, min, max, true, false, cond, length, drop, sym, ap, ◌∙◌, arith}
use Rattle.std.specs.Str.{chars}
use Rattle.yl_units.proofs.Rows.{short_row}
use Rattle.yl_units.specs.Places.{row_chars}
use Rattle.yl_lsp.specs.Words.{is_to_line_end, word_len}
use Rattle.yl_lsp.proofs.Spans.{row_past, word_most}
use Rattle.yl_lsp.proofs.range.end_column.Goals as goal

pub returns-then-start-len : goal.returns-then-start-len
returns-then-start-len g c =
    let ps = g.S.Lines.rows c.args.lines.now in
    omega (arith, ap length (row_past ps c.args.start.line (omega (arith, c.len.ensures, c.if-start-len.true))))

pub returns-then-is_to_line_end : goal.returns-then-is_to_line_end
returns-then-is_to_line_end g c =
    let ps = g.S.Lines.rows c.args.lines.now in
    let col = c.args.start.col in
    let row = row_chars ps c.args.start.line in
    let yes : is_to_line_end c.args.rule ≡ true = sym c.is_to_line_end.ensures ∙ c.if-is_to_line_end.true in
    let is = ap (λ b. min (cond b (length row) (col + max 1 (word_len (drop col row)))) (length row)) yes in
    omega (arith, is, short_row ps c.requires.lines c.args.start.line)

pub overflow_add-result : goal.overflow_add-result
overflow_add-result g c =
    let ps = g.S.Lines.rows c.args.lines.now in
    record { fits = omega (arith, short_row ps c.requires.lines c.args.start.line, c.requires.col, c.word_len.ensures, word_most (chars c.text_from.result.now)) }

pub returns : goal.returns
returns g c =
    let ps = g.S.Lines.rows c.args.lines.now in
    let col = c.args.start.col in
    let row = row_chars ps c.args.start.line in
    let no : is_to_line_end c.args.rule ≡ false = sym c.is_to_line_end.ensures ∙ c.if-is_to_line_end.false in
    let is = ap (λ b. min (cond b (length row) (col + max 1 (word_len (drop col row)))) (length row)) no in
    let word : c.word_len.result ≡ word_len (drop col row) = c.word_len.ensures ∙ ap (λ l. word_len l) c.text_from.ensures in
    omega (arith, is, word)
