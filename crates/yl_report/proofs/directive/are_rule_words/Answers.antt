use Rattle.std.proofs.Common.{rules, tests, ◌==◌, ℕ}
use Rattle.std.proofs.lemmas.Iterator.Splits.{YieldsList-from_slice_split}
use Rattle.std.proofs.lemmas.Iterator.Search.{all_from_yields_List}
use Rattle.yl_report.specs.Directive.{is_rule_word}
use Rattle.yl_report.proofs.directive.are_rule_words.Goals as goal

pub returns : goal.returns
returns c =
    all_from_yields_List is_rule_word _ _ _ c.all.ensures.ran
    (YieldsList-from_slice_split _ (λ (x : ℕ). x == 0x20) c.args.words.now c.split.ensures.rest c.split.ensures.done c.split.ensures.closure (λ x b q k. search rules))
    (λ x b q k. search (rules, tests))
