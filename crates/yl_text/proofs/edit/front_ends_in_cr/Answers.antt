use Rattle.std.proofs.Common.{◌≡◌, ◌+◌, ◌-◌, ℕ, rules, arith, subst}
use Rattle.std.specs.Prelude.{◌↔◌}
use Rattle.yl_text.specs.declared.row.Break.TheVariants.{Cr}
use Rattle.yl_text.specs.Edit.{last_byte}
use Rattle.yl_text.specs.PutLines.{front_of}
use Rattle.yl_text.proofs.Seams.{front_ends}
use Rattle.yl_text.proofs.edit.front_ends_in_cr.Goals as goal

pub returns-then-a-gt0 : goal.returns-then-a-gt0
returns-then-a-gt0 g c =
    let ps = g.S.Lines.rows c.args.lines.now in
    let n : c.args.a - 1 + 1 ≡ c.args.a = omega arith in
    let P : ℕ → Type 0 = λ a. (last_byte (front_of ps a) ≡ 13) ↔ (c.row.result.now.end ≡ Cr) in
    let h = subst P n (front_ends ps (c.args.a - 1) c.row.result.now c.requires.lines (omega arith) c.row.ensures) in
    (λ t. let e : c.row.result.now.end ≡ Cr = search rules in h.1 e, λ f. let z = h.0 f in search rules)
