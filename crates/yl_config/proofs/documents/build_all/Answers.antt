use Rattle.std.proofs.Common.{◌∙◌, refl}
use Rattle.std.proofs.lemmas.Result.{IfOk-weaker}
use Rattle.yl_marks.specs.Keys.{lexeme_at_line}
use Rattle.yl_config.proofs.Cutting.{built_all}
use Rattle.yl_config.proofs.documents.build_all.Goals as goal

pub returns : goal.returns
returns g c =
    let xs = c.args.lexemes.now in
    let places = c.as_slice.result.now in
    IfOk-weaker c.build_behind.result _ _
    (λ ds h. built_all xs (λ x. lexeme_at_line x.line x.lexeme.now) (λ x. x.lexeme.now.kind) places ds.items (λ x. refl) (c.as_slice.ensures.value ∙ c.in_ok-places.ensures) c.in-len1-up.len_at_least h)
    c.build_behind.ensures
