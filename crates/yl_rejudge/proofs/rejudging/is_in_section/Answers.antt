use Rattle.std.proofs.Common.{◌≡◌, ◌+◌, ◌-◌, ◌≤◌, ◌↔◌, ℕ, IsTrue, take, arith}
use Rattle.std.specs.Prelude.{leb}
use Rattle.std.proofs.lemmas.Bool.{le-leb, leb-true}
use Rattle.yl_sections.specs.Kept.{rows_kept}
use Rattle.yl_sections.proofs.KeptRows.{got, rows_more}
use Rattle.yl_rejudge.proofs.rejudging.is_in_section.Goals as goal

-- so many rows from one on reach `end`
reaches : (row rows end below : ℕ) → row ≤ end → below ≡ row + rows → IsTrue (leb (end - row) rows) ↔ (end ≤ below)
reaches row rows end below l e = (
  λ t. let h = leb-true (end - row) rows t in omega (arith, l, e, h),
  λ h. le-leb (end - row) rows (omega (arith, l, e, h)),
)

pub returns : goal.returns
returns g c =
    let js = c.args.kept.now.items in
    let s : ℕ = c.args.place.section in
    let more = rows_more js s c.get.result.now (omega (arith, c.len.ensures)) (got js s c.get.result.now c.get.ensures) in
    let h = reaches c.args.place.row c.rows.result c.args.end (rows_kept (take (s + 1) js)) c.requires.above (omega (arith, more, c.rows.ensures, c.requires.at.row)) in
    (λ t. (omega (arith, c.len.ensures), h.0 t), λ w. h.1 w.1)
