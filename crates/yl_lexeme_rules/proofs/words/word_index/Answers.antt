use Rattle.std.proofs.Common.{refl, sym, ◌∙◌}
use Rattle.yl_lexeme_rules.specs.Truthy.{truthy_words}
use Rattle.yl_lexeme_rules.specs.TruthyLetters.{may_be_truthy}
use Rattle.yl_lexeme_rules.proofs.TruthyLemmas.{index_more, not_among}
use Rattle.yl_lexeme_rules.proofs.words.word_index.Goals as goal

pub loop-i-preserved : goal.loop-i-preserved
loop-i-preserved c =
    index_more truthy_words c.loop-i.i c.word_at.result.now c.args.word.now _ c.word_at.ensures
    (sym c.is_word.ensures ∙ c.if-is_word.false) c.loop-i.invariant

pub returns-then-not-may_be_truthy : goal.returns-then-not-may_be_truthy
returns-then-not-may_be_truthy c =
    sym (not_among may_be_truthy truthy_words 0 c.args.word.now refl
    (sym c.may_be_truthy.ensures ∙ c.if-not-may_be_truthy.true))
