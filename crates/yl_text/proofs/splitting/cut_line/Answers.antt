use Rattle.std.proofs.Common.{◌≡◌, ◌+◌, ℕ, length, drop, ap, ◌∙◌}
use Rattle.std.proofs.Math.Nat.{sub-zero}
use Rattle.yl_text.specs.Lines.{break_bytes}
use Rattle.yl_text.proofs.Cut.{rest_boundary, lines_first}
use Rattle.yl_text.proofs.splitting.cut_line.Goals as goal

pub range_from-requires : goal.range_from-requires
range_from-requires c =
    let t = c.args.text.now in
    let n = c.first_break-place.result in
    let e = c.break_at-end.result in
    let same = c.as_bytes-bytes.ensures.value in
    rw c.len.ensures (λ _. rest_boundary t n e c.utf8.text (rw same at c.first_break-place.ensures.within) (rw same at c.first_break-place.ensures.at) (rw same at c.break_at-end.ensures))

pub returns-clause-first : goal.returns-clause-first
returns-clause-first c =
    let t = c.args.text.now in
    let n = c.first_break-place.result in
    let e = c.break_at-end.result in
    let same = c.as_bytes-bytes.ensures.value in
    let rest : c.range_from.result.now ≡ drop (n + length (break_bytes e)) t = c.range_from.ensures.value ∙ ap (λ (m : ℕ). drop (n + m) t) c.len.ensures in
    rw (c.range.ensures.value, sub-zero, rest)
    (lines_first t n e (rw same at c.first_break-place.ensures.within) (rw same at c.first_break-place.ensures.before) (rw same at c.first_break-place.ensures.at) (rw same at c.break_at-end.ensures))
