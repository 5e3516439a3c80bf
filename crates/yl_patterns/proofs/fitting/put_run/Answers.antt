use Rattle.std.proofs.Common.{◌||◌, ◌&&◌, Bool, not, eqb, ap, ◌∙◌, arith, get_or, false, drop, ◌∷◌, ◌-◌, ◌+◌}
use Rattle.yl_patterns.specs.Fits.{run_fits}
use Rattle.yl_patterns.proofs.Filled.{IsAt, before_less, from_more, read_before, read_from, table_from}
use Rattle.yl_patterns.proofs.fitting.put_run.Goals as goal

pub loop-k-preserved : goal.loop-k-preserved
loop-k-preserved c = λ next t.
    let cs = c.args.path.now in
    let row = c.loop-k.row in
    let k = c.loop-k.k in
    let x = c.index-path-k.result in
    let at : IsAt cs row k x = record { some = omega arith; within = omega arith; len = omega arith; read = c.index-path-k.is } in
    let h = c.loop-k.invariant next t in
    let here = read_before next cs row k x at h.0 in
    let later = read_from (run_fits next) cs row k x at h.1 in
    let both = ap (λ (b : Bool). b || (not (eqb x 47) && get_or row (k - 1 + 1) false)) here ∙ ap (λ (b : Bool). next (x ∷ drop k cs) || (not (eqb x 47) && b)) later in
    (before_less next cs row k _ h.0, from_more (run_fits next) cs row k x _ at both h.1)

pub returns : goal.returns
returns c = λ next t. table_from (run_fits next) c.args.path.now c.loop-k.row c.loop-k.k (omega arith) (omega arith) (c.loop-k.invariant next t).1
