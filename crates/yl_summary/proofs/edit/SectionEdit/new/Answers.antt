use Rattle.std.proofs.Common.{arith}
use Rattle.yl_summary.proofs.Joined.{few_new}
use Rattle.yl_summary.proofs.edit.SectionEdit.new.Goals as goal

pub overview_of-requires : goal.overview_of-requires
overview_of-requires g c = few_new c.args.sections.now.items c.args.kept.now c.args.from c.args.end c.requires.few_then

pub returns-clause-edit : goal.returns-clause-edit
returns-clause-edit g c =
    let ks = c.args.sections.now.items in record {
      range = c.requires.range;
      few = c.requires.few;
      few_then = c.requires.few_then;
      overviews = c.requires.overviews;
      near = c.new-near.ensures;
      above = c.all_above.ensures ks c.args.from c.args.end c.requires.few (omega (arith, c.requires.range.ordered, c.requires.range.within)) c.new-near.ensures;
      gone = c.overview_within.ensures;
      come = c.overview_of.ensures;
      below = c.all_below.ensures ks c.args.from c.args.end c.requires.few c.new-near.ensures;
    }
