use Rattle.std.proofs.Common.{arith}
use Rattle.yl_summary.proofs.Whole.{some_few, some_more}
use Rattle.yl_summary.proofs.walking.overview_within.Goals as goal

pub overview_of-requires : goal.overview_of-requires
overview_of-requires g c = some_few c.args.kept.now.items c.loop-at.at c.items_from-items.result.now c.min-count.result c.requires.few c.items_from-items.ensures.items

pub loop-at-preserved : goal.loop-at-preserved
loop-at-preserved g c = record {
  known =
      some_more c.args.kept.now.items c.args.from c.loop-at.at c.min-count.result c.items_from-items.result.now c.loop-at.overview c.overview_of.result c.and_later-overview.result c.loop-at.invariant.after (omega arith) (omega arith) c.requires.few
      c.items_from-items.ensures.items c.loop-at.invariant.known c.overview_of.ensures c.and_later-overview.ensures;
  after = omega arith;
  upto = omega arith;
}
