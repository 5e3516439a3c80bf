use Rattle.std.proofs.Common.{◌≡◌, ℕ, List, [], ◌∷◌, length, refl, rules, sym, ap, ◌∙◌, arith}
use Rattle.std.proofs.lemmas.Bool.{eqb-true, eqb-false}
use Rattle.yl_text.specs.declared.row.Break.TheVariants.{Lf}
use Rattle.yl_text.proofs.Seams.{back_starts}
use Rattle.yl_text.proofs.edit.back_starts_with_lf.Goals as goal

none : (xs : List ℕ) → length xs ≡ 0 → xs ≡ []
none [] e = refl
none (x ∷ xs) e = absurd (omega (arith, e))

pub returns-then-is_empty : goal.returns-then-is_empty
returns-then-is_empty g c =
    let h = back_starts (g.S.Lines.rows c.args.lines.now) c.args.b c.row-row.result.now c.requires.lines c.row-row.ensures in
    let l : length c.as_str.result.now ≡ 0 = eqb-true (length c.as_str.result.now) 0 (sym c.is_empty.ensures ∙ c.if-is_empty.true) in
    let x : c.row-row.result.now.text ≡ [] = sym c.as_str.ensures ∙ none c.as_str.result.now l in
    (λ t. let e : c.row-row.result.now.end ≡ Lf = search rules in h.1 (x, e), λ f. let z = (h.0 f).1 in search rules)

pub returns-else-is_empty : goal.returns-else-is_empty
returns-else-is_empty g c =
    let h = back_starts (g.S.Lines.rows c.args.lines.now) c.args.b c.row-row.result.now c.requires.lines c.row-row.ensures in (
      λ t. search rules,
      λ f.
          let z : c.as_str.result.now ≡ [] = c.as_str.ensures ∙ (h.0 f).0 in
          absurd (eqb-false (length c.as_str.result.now) 0 (sym c.is_empty.ensures ∙ c.if-is_empty.false) (ap length z)),
    )
