use Rattle.std.proofs.Common.{◌≡◌, ◌++◌, ◌∙◌, List, ap, map, subst}
use Rattle.std.specs.Prelude.{IfOk}
use Rattle.yl_record.specs.Records.{RecordValue}
use Rattle.yl_sections.specs.Judge.{kept_of_section}
use Rattle.yl_sections.specs.Kept.{KeptValue}
use Rattle.yl_sections.specs.Sections.{sections}
use Rattle.yl_lint.proofs.kept.SectionReader.finish.Goals as goal

pub returns : goal.returns
returns g c = λ all h.
    let kept_of = λ (rs : List RecordValue). map (kept_of_section c.args.config.now) (sections rs) in
    let rows = c.deref.result.now in
    let same = ap (λ (rs : List RecordValue). kept_of (h.judged ++ rs)) (c.deref.ensures.value ∙ c.in_ok-rows.ensures.told) ∙ h.whole in
    subst (λ (ks : List KeptValue). IfOk c.finish-2.result (λ v. v.items ≡ ks)) same (c.finish-2.ensures (h.judged ++ rows) (c.in_ok-judge_rows.ensures.judged h.judged h.judges))
