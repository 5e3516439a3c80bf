use Rattle.std.proofs.Common.{◌≡◌, List, ◌++◌, ap, ◌∙◌, append_assoc}
use Rattle.yl_text.specs.Finding.{FindingValue}
use Rattle.yl_lexeme_rules.proofs.commas.push_between.Goals as goal

both_put : (old one two few many : List FindingValue) → one ≡ old ++ few → two ≡ one ++ many → two ≡ old ++ (few ++ many)
both_put old one two few many p q = q ∙ ap (λ fs. fs ++ many) p ∙ append_assoc old few many

pub returns : goal.returns
returns g c = both_put c.args.problems.now.items _ _ _ _ c.in_ok-report_too_few.ensures c.in_ok-report_too_many.ensures
