use Rattle.std.proofs.Common.{arith, ◌∙◌, ◌+◌, ◌++◌, sym, ap, drop}
use Rattle.std.specs.Prelude.{string_bytes}
use Rattle.std.specs.List.{items_where_true}
use Rattle.yl_lexeme_rules.specs.Truthy.{truthy_words}
use Rattle.yl_lexeme_rules.specs.WordList.{word_list}
use Rattle.yl_lexeme_rules.proofs.TruthyLemmas.{chosen_here, words_begun}
use Rattle.yl_lexeme_rules.proofs.words.truthy_text.Goals as goal

pub loop-i-init : goal.loop-i-init
loop-i-init g c = words_begun _ _ (items_where_true c.args.words.now.allowed truthy_words) c.in_ok-text.ensures.ok

pub loop-i-preserved : goal.loop-i-preserved
loop-i-preserved g c =
    let flags = c.args.words.now.allowed in
    c.in_ok-is_first.ensures (items_where_true (drop (c.loop-i.i + 1) flags) (drop (c.loop-i.i + 1) truthy_words))
    ∙ ap (λ ws. string_bytes c.loop-i.text ++ word_list c.loop-i.is_first ws) (sym (chosen_here truthy_words flags c.loop-i.i _ c.word_at.ensures (omega arith)))
    ∙ c.loop-i.invariant
