use Rattle.std.proofs.Common.{rules, tests, ◌==◌, ℕ}
use Rattle.std.proofs.lemmas.Iterator.Splits.{YieldsList-from_slice_split}
use Rattle.std.proofs.lemmas.Iterator.Search.{any_from_yields_List}
use Rattle.std.specs.Prelude.{List, drop, bytes_eq}
use Rattle.yl_report.proofs.directive.has_name.Goals as goal

pub returns : goal.returns
returns c =
    any_from_yields_List (λ (w : List ℕ). bytes_eq (drop 5 w) c.args.rule.now) _ _ _ c.any.ensures.ran
    (YieldsList-from_slice_split _ (λ (x : ℕ). x == 0x20) c.args.words.now c.split.ensures.rest c.split.ensures.done c.split.ensures.closure (λ x b q k. search rules))
    (λ x b q k. search (rules, tests))
