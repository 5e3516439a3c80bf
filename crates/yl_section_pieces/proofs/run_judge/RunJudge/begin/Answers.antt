use Rattle.std.proofs.Common.{refl}
use Rattle.yl_section_pieces.proofs.run_judge.RunJudge.begin.Goals as goal

pub returns : goal.returns
returns g c = record {
  rows = c.in_ok-resume.ensures;
  sound = refl;
  names = λ t same. c.in_ok-begin.ensures t same;
  found = λ es none. c.in_ok-rules_for_run.ensures es none;
}
