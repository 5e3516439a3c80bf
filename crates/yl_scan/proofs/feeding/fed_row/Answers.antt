use Rattle.std.proofs.lemmas.Result.{IfOk-weaker}
use Rattle.yl_scan.proofs.feeding.fed_row.Goals as goal

pub returns-in-Between-clause-in_order : goal.returns-in-Between-clause-in_order
returns-in-Between-clause-in_order g c = IfOk-weaker c.fresh_row.result _ _ (λ step order k. order _ k) c.fresh_row.ensures.in_order
