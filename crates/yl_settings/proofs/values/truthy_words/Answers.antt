use Rattle.std.proofs.Common.{◌≡◌, Option, Some, ap, sym, ◌∙◌}
use Rattle.yl_events.specs.Event.{kind_value}
use Rattle.yl_lexeme_rules.specs.declared.truthy.TruthyWords.{TruthyWords}
use Rattle.yl_settings.specs.Item.{nodes_at}
use Rattle.yl_settings.specs.Nodes.{NoNode}
use Rattle.yl_settings.specs.Values.{no_words, words_beside}
use Rattle.yl_settings.proofs.AtNone.{at_none}
use Rattle.yl_settings.proofs.Truthy.{words_beside-first, words_beside-none}
use Rattle.yl_settings.proofs.values.truthy_words.Goals as goal

pub loop-word-preserved : goal.loop-word-preserved
loop-word-preserved c =
    let es = c.args.events.now in
    let x = c.in-Some.word in
    record {
      within = c.in-Some.ensures.within;
      made = ap (λ (o : Option TruthyWords). words_beside o (nodes_at es x.more)) c.with_word-set.ensures
          ∙ (words_beside-first c.loop-word.set (kind_value x.item.kind) x.item.place (nodes_at es x.item.inside) (nodes_at es x.more) (nodes_at es c.loop-word.rest) c.in-Some.ensures.item
          ∙ c.loop-word.invariant.made);
    }

pub returns : goal.returns
returns c =
    let es = c.args.events.now in
    let nothing : nodes_at es c.loop-word.rest ≡ NoNode = at_none c.first_item.result _ _ c.in_default.not-Some c.first_item.ensures.item in
    let made : c.loop-word.set ≡ words_beside (Some no_words) (nodes_at es c.args.item.now.inside) =
    sym (words_beside-none c.loop-word.set (nodes_at es c.loop-word.rest) nothing) ∙ c.loop-word.invariant.made in
    rw (sym c.starts_sequence.ensures ∙ c.if-not-starts_sequence.false) made
