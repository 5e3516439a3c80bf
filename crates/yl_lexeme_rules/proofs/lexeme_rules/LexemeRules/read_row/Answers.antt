use Rattle.std.proofs.Common.{arith, refl}
use Rattle.yl_marks.specs.Keys.{lexeme_at_line}
use Rattle.yl_lexeme_rules.proofs.LexemesLeft.{all_read, lexemes_more, summary_at_end, summary_more, version_at_end, version_more}
use Rattle.yl_lexeme_rules.proofs.lexeme_rules.LexemeRules.read_row.Goals as goal

pub loop-i-preserved : goal.loop-i-preserved
loop-i-preserved g c =
    let r = c.loop-i.self in record {
      found = λ v rest later ks h. lexemes_more (lexeme_at_line c.args.row.now.line) c.args.row.now.lexemes.now c.loop-i.i v c.args.options.now r _ _ _
          c.args.keys.now _ _ rest later ks c.loop-i.problems.items _ _ c.loop-i-test.true c.lexeme-item.is (omega arith) refl
          c.in_ok-read_lexeme.ensures.read c.in_ok-read_lexeme.ensures.told (c.loop-i.invariant.version v rest h) (c.loop-i.invariant.found v rest later ks h);
      version = λ v rest h. version_more (lexeme_at_line c.args.row.now.line) c.args.row.now.lexemes.now c.loop-i.i v r _ _ _ rest c.loop-i-test.true c.lexeme-item.is
          c.in_ok-read_lexeme.ensures.read (c.loop-i.invariant.version v rest h);
      read = summary_more (lexeme_at_line c.args.row.now.line) c.args.row.now.lexemes.now c.loop-i.i r _ _ _ _ c.loop-i-test.true c.lexeme-item.is
          c.in_ok-read_lexeme.ensures.read c.loop-i.invariant.read;
    }

pub returns-clause-found : goal.returns-clause-found
returns-clause-found g c = λ v rest later ks h.
    all_read (lexeme_at_line c.args.row.now.line) c.args.row.now.lexemes.now c.loop-i.i v c.args.options.now c.loop-i.self c.args.keys.now later ks c.loop-i.problems.items _
    (omega arith) c.requires (c.loop-i.invariant.found v rest later ks h)

pub returns-clause-version : goal.returns-clause-version
returns-clause-version g c = λ v rest h.
    version_at_end (lexeme_at_line c.args.row.now.line) c.args.row.now.lexemes.now c.loop-i.i v c.loop-i.self rest (omega arith) (c.loop-i.invariant.version v rest h)

pub returns-clause-read : goal.returns-clause-read
returns-clause-read g c =
    summary_at_end (lexeme_at_line c.args.row.now.line) c.args.row.now.lexemes.now c.loop-i.i c.loop-i.self _ (omega arith) c.loop-i.invariant.read
