use Rattle.std.proofs.Common.{arith, refl}
use Rattle.yl_marks.specs.Keys.{lexeme_at_line}
use Rattle.yl_lexeme_rules.proofs.LexemesLeft.{all_read, lexemes_more, version_at_end, version_more}
use Rattle.yl_lexeme_rules.proofs.lexeme_rules.LexemeRules.read_all.Goals as goal

pub loop-i-preserved : goal.loop-i-preserved
loop-i-preserved g c =
    let r = c.loop-i.self in record {
      found = λ v rest later ks h. lexemes_more (λ x. lexeme_at_line x.line x.lexeme.now) c.args.lexemes.now c.loop-i.i v c.args.options.now r _ c.index-lexemes-i.result _
          c.args.keys.now _ _ rest later ks c.loop-i.problems.items _ _ c.loop-i-test.true c.index-lexemes-i.is (omega arith) refl
          c.in_ok-read_lexeme.ensures.read c.in_ok-read_lexeme.ensures.told (c.loop-i.invariant.version v rest h) (c.loop-i.invariant.found v rest later ks h);
      version = λ v rest h. version_more (λ x. lexeme_at_line x.line x.lexeme.now) c.args.lexemes.now c.loop-i.i v r _ c.index-lexemes-i.result _ rest c.loop-i-test.true c.index-lexemes-i.is
          c.in_ok-read_lexeme.ensures.read (c.loop-i.invariant.version v rest h);
    }

pub returns-clause-found : goal.returns-clause-found
returns-clause-found g c = λ v rest later ks h.
    all_read (λ x. lexeme_at_line x.line x.lexeme.now) c.args.lexemes.now c.loop-i.i v c.args.options.now c.loop-i.self c.args.keys.now later ks c.loop-i.problems.items _
    (omega arith) c.requires (c.loop-i.invariant.found v rest later ks h)

pub returns-clause-version : goal.returns-clause-version
returns-clause-version g c = λ v rest h.
    version_at_end (λ x. lexeme_at_line x.line x.lexeme.now) c.args.lexemes.now c.loop-i.i v c.loop-i.self rest (omega arith) (c.loop-i.invariant.version v rest h)
