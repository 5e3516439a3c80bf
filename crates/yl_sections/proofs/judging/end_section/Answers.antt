use Rattle.std.proofs.Common.{◌∙◌, ◌++◌, ◌∷◌, [], ap, subst, sym}
use Rattle.yl_sections.specs.declared.section_judge.SectionJudge.{SectionJudge}
use Rattle.yl_sections.specs.Judging.{Judges}
use Rattle.yl_sections.specs.Kept.{KeptValue}
use Rattle.yl_sections.proofs.judging.end_section.Goals as goal

pub returns : goal.returns
returns g c = λ here judges.
    let config = c.args.config.now in
    let old = subst (λ (j : SectionJudge g.row.A.Denot). Judges config here j) (sym c.replace-judge.ensures.value) judges in (
      c.in_ok-push.ensures.items ∙ ap (λ (k : KeptValue). c.args.kept.now.items ++ k ∷ []) (c.in_ok-finish.ensures here old),
      subst (λ (j : SectionJudge g.row.A.Denot). Judges config [] j) (sym c.replace-judge.ensures.after) (c.new.ensures config),
    )
