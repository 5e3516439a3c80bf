use Rattle.std.proofs.Common.{◌+◌, arith, inl, inr}
use Rattle.std.proofs.lemmas.Bool.{cases_lt}
use Rattle.yl_chunks.proofs.Pieces.{part_rises}
use Rattle.yl_chunks.proofs.counting.touched.Goals as goal

pub returns-clause-ordered : goal.returns-clause-ordered
returns-clause-ordered g c =
    let f = c.last_start-first in
    let e = c.last_start in
    elim (cases_lt f.result (e.result + 1)) [
      | inl h ↦ h
      | inr h ↦ absurd (omega (arith, e.ensures.most (omega (arith, f.ensures.within)), part_rises (λ v. v.items) c.args.chunks.now (e.result + 1) f.result h, f.ensures.least))
    ]
