use Rattle.std.proofs.Common.{◌≡◌, ◌-◌, ◌+◌, ◌++◌, ◌∷◌, List, [], map, take, refl}
use Rattle.yl_sections.specs.Kept.{KeptValue}
use Rattle.yl_sections.specs.Judge.{kept_of_section}
use Rattle.yl_rejudge.specs.Places.{changed_sections}
use Rattle.yl_rejudge.proofs.rejudging.judge_behind.Goals as goal

-- one, and then others
one_and : (none one judged all rest : List KeptValue) (k l : KeptValue) → none ≡ [] → one ≡ none ++ k ∷ [] → all ≡ one ++ judged → k ≡ l → judged ≡ rest → all ≡ l ∷ rest
one_and none one judged all rest k l a b c d e = rw (c, b, a, d, e) refl

pub returns-clause-kept : goal.returns-clause-kept
returns-clause-kept g c = λ rs long front is.
    one_and c.new-all.result.items c.push.new.self.items c.in_ok-judged.judged.items c.append.new.self.items
    (map (kept_of_section c.args.config.now) (changed_sections (c.args.first.section + 1) c.args.from c.args.z c.args.records.now)) c.in_ok-kept_of_front.field-0
    (kept_of_section c.args.config.now (take (c.args.from - c.args.first.row) rs)) c.new-all.ensures.items c.in_ok-push.ensures.items c.in_ok-append.ensures.items
    (c.in_ok-kept_of_front.ensures c.args.config.now rs long front is) c.in_ok-judged.ensures.kept
