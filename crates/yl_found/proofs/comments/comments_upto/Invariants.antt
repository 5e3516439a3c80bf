use Rattle.std.proofs.Common.{[], ◌∷◌, ◌++◌, drop}
use Rattle.yl_summary.specs.Overview.{AreOverviews}
use Rattle.yl_found.specs.Gathered.{IsGathered}
use Rattle.yl_found.proofs.comments.comments_upto.Given as goal

abbrev pub invariant-loop-upper : goal.invariant-loop-upper
invariant-loop-upper g l = record {
  gathered : IsGathered l.survey.sections l.count l.gathered;
  rest : AreOverviews (drop l.gathered.section l.survey.sections) (drop l.upper-index l.above ++ l.survey.near ∷ l.survey.below.now);
}

abbrev pub invariant-loop-lower : goal.invariant-loop-lower
invariant-loop-lower g l = record {
  gathered : IsGathered l.survey.sections l.count l.gathered;
  rest : AreOverviews (drop l.gathered.section l.survey.sections) (drop l.lower-index l.below ++ []);
}
