use Rattle.std.proofs.Common.{◌≡◌, ◌∙◌, List, map, subst}
use Rattle.std.specs.Prelude.{IfOk}
use Rattle.yl_marks.specs.Keys.{lexeme_at_line, token_of}
use Rattle.yl_indentation.specs.declared.fact.Fact.{Fact}
use Rattle.yl_indentation.specs.Elements.{element_of}
use Rattle.yl_indentation.specs.Context.{nothing_open}
use Rattle.yl_indentation.proofs.LookBack.{facts_suffice}
use Rattle.yl_indentation.proofs.SlimElements.{slim_facts}
use Rattle.yl_indentation.proofs.facts.indent_facts.Goals as goal

pub returns : goal.returns
returns g c =
    let lexemes = map (λ x. lexeme_at_line x.line x.lexeme.now) c.args.lexemes.now in
    let element = element_of (map token_of lexemes) c.args.counted c.args.indentations.now in
    subst (λ (fs : List Fact). IfOk c.facts_in.result (λ v. v.items ≡ fs))
    (slim_facts element nothing_open c.args.marks.now
    ∙ facts_suffice (map element c.args.marks.now))
    c.facts_in.ensures
