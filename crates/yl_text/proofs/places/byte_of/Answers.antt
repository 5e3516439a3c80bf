use Rattle.std.proofs.Common.{◌-◌, ℕ, List, length, take, arith, ap, ◌∙◌, subst}
use Rattle.std.specs.Str.{IsUtf8, chars, encode_utf8_all}
use Rattle.yl_text.specs.Lines.{break_bytes}
use Rattle.yl_text.proofs.Columns.{byte_of_row, length_row_chars}
use Rattle.yl_text.proofs.places.byte_of.Goals as goal

pub returns-then-left-len : goal.returns-then-left-len
returns-then-left-len g c =
    let p = c.args.row.now in
    let utf8 = subst IsUtf8 c.as_str.ensures c.as_str.utf8 in
    let left = c.walk_over-byte.ensures.left ∙ ap (λ (t : List ℕ). c.args.characters - length (chars t)) c.as_str.ensures in
    let break = c.len.ensures ∙ ap (λ e. length (break_bytes e)) c.end.ensures in
    omega (arith, left, break, length_row_chars p.text p.end utf8, c.if-left-len.true)

pub overflow_add-result : goal.overflow_add-result
overflow_add-result g c =
    let p = c.args.row.now in
    let utf8 = subst IsUtf8 c.as_str.ensures c.as_str.utf8 in
    let left = c.walk_over-byte.ensures.left ∙ ap (λ (t : List ℕ). c.args.characters - length (chars t)) c.as_str.ensures in
    let break = c.len.ensures ∙ ap (λ e. length (break_bytes e)) c.end.ensures in
    let byte = c.walk_over-byte.ensures.byte ∙ ap (λ (t : List ℕ). length (encode_utf8_all (take c.args.characters (chars t)))) c.as_str.ensures in
    let is = byte_of_row p.text p.end c.args.characters c.walk_over-byte.result.byte c.walk_over-byte.result.left utf8 byte left (omega (arith, c.if-left-len.false, break)) in
    record { fits = omega (arith, is.cut.within, c.requires) }

pub returns : goal.returns
returns g c =
    let p = c.args.row.now in
    let utf8 = subst IsUtf8 c.as_str.ensures c.as_str.utf8 in
    let left = c.walk_over-byte.ensures.left ∙ ap (λ (t : List ℕ). c.args.characters - length (chars t)) c.as_str.ensures in
    let break = c.len.ensures ∙ ap (λ e. length (break_bytes e)) c.end.ensures in
    let byte = c.walk_over-byte.ensures.byte ∙ ap (λ (t : List ℕ). length (encode_utf8_all (take c.args.characters (chars t)))) c.as_str.ensures in
    byte_of_row p.text p.end c.args.characters c.walk_over-byte.result.byte c.walk_over-byte.result.left utf8 byte left (omega (arith, c.if-left-len.false, break))
