use Rattle.std.proofs.Common.{◌≡◌, ◌∙◌, ℕ, List, ap, sym, length, take, drop}
use Rattle.std.specs.Str.{chars, encode_utf8_all}
use Rattle.yl_units.specs.Places.{row_chars}
use Rattle.yl_units.proofs.Rows.{row_at, boundary, chars_behind}
use Rattle.yl_units.proofs.walk.text_from.Goals as goal

pub range_from-requires : goal.range_from-requires
range_from-requires g c = λ _.
    let from = c.args.from in
    let is : row_chars (g.S.Lines.rows c.args.lines.now) from.line ≡ chars c.as_str.result.now = row_at _ from.line c.row.result.now c.row.ensures ∙ ap (λ t. chars t) (sym c.as_str.ensures) in
    boundary c.as_str.result.now from.col from.byte c.as_str.utf8 (c.requires.byte ∙ ap (λ (l : List ℕ). length (encode_utf8_all (take from.col l))) is)

pub returns : goal.returns
returns g c =
    let from = c.args.from in
    let is : row_chars (g.S.Lines.rows c.args.lines.now) from.line ≡ chars c.as_str.result.now = row_at _ from.line c.row.result.now c.row.ensures ∙ ap (λ t. chars t) (sym c.as_str.ensures) in
    let byte = c.requires.byte ∙ ap (λ (l : List ℕ). length (encode_utf8_all (take from.col l))) is in
    ap (λ t. chars t) c.range_from.ensures.value ∙ ap (λ k. chars (drop k c.as_str.result.now)) byte ∙ chars_behind c.as_str.result.now from.col c.as_str.utf8 ∙ ap (λ (l : List ℕ). drop from.col l) (sym is)
