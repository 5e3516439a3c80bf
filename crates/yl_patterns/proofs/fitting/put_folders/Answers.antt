use Rattle.std.proofs.Common.{◌≡◌, ◌||◌, ◌&&◌, Bool, true, false, eqb, refl, ap, ◌∙◌, sym, arith, drop, ◌∷◌, ◌-◌}
use Rattle.yl_patterns.specs.Fits.{some_folder_fits}
use Rattle.yl_patterns.proofs.Filled.{IsAt, at_place, before_less, from_more, read_before, table_from}
use Rattle.yl_patterns.proofs.fitting.put_folders.Goals as goal

or_swap : (a b : Bool) → (a || b) ≡ (b || a)
or_swap true true = refl
or_swap true false = refl
or_swap false true = refl
or_swap false false = refl

pub loop-k-preserved : goal.loop-k-preserved
loop-k-preserved c = λ next t.
    let cs = c.args.path.now in
    let row = c.loop-k.row in
    let k = c.loop-k.k in
    let x = c.index-path-k.result in
    let at : IsAt cs row k x = record { some = omega arith; within = omega arith; len = omega arith; read = c.index-path-k.is } in
    let h = c.loop-k.invariant next t in
    let here = read_before next cs row k x at h.0 in
    let folder =
    or_swap c.loop-k.some_folder (eqb x 47 && c.loop-k.next) ∙ ap (λ (b : Bool). (eqb x 47 && b) || c.loop-k.some_folder) h.1
    ∙ ap (λ (b : Bool). (eqb x 47 && next (drop k cs)) || b) h.2 in
    let both =
    ap (λ (b : Bool). b || (c.loop-k.some_folder || (eqb x 47 && c.loop-k.next))) here ∙ ap (λ (b : Bool). next (x ∷ drop k cs) || b) folder in (
      before_less next cs row k _ h.0,
      h.0.at (k - 1) (omega arith),
      folder ∙ sym (at_place (λ l. some_folder_fits next l) cs row k x at),
      from_more (λ l. next l || some_folder_fits next l) cs row k x _ at both h.3,
    )

pub returns : goal.returns
returns c = λ next t.
    table_from (λ l. next l || some_folder_fits next l) c.args.path.now c.loop-k.row c.loop-k.k (omega arith) (omega arith) (c.loop-k.invariant next t).3
