use Rattle.std.proofs.Common.{◌≤◌, ◌+◌, ◌-◌, min, length, get_or, ◌∙◌, ap, arith}
use Rattle.yl_marks.specs.Keys.{lexeme_at_line}
use Rattle.yl_config.proofs.Cutting.{built_end, built_step}
use Rattle.yl_config.proofs.documents.build_behind.Goals as goal

pub loop-place-preserved : goal.loop-place-preserved
loop-place-preserved g c =
    let xs = c.args.lexemes.now in
    let l = c.loop-place in
    let least = c.min-len.ensures ∙ ap (λ n. min n (length xs - l.at)) c.saturating_sub.ensures in
    record {
      within = omega (arith, c.min-len.ensures, l.invariant.within);
      built = built_step xs (λ x. lexeme_at_line x.line x.lexeme.now) _ l.all.items c.push.new.self.items l.passed c.min-len.result l.at l.place-index c.args.places.now c.in_ok-build.field-0
          c.loop-place-test.true least l.invariant.built c.in_ok-build.ensures c.in_ok-push.ensures.items;
    }

pub returns : goal.returns
returns g c =
    let l = c.loop-place in
    built_end c.args.lexemes.now (λ x. lexeme_at_line x.line x.lexeme.now) _ l.all.items c.push-2.new.self.items l.passed l.at l.place-index c.args.places.now c.in_ok-build-2.field-0
    c.loop-place-test.false l.invariant.built c.in_ok-build-2.ensures c.in_ok-push-2.ensures.items
