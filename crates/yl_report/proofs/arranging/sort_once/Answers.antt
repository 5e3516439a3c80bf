use Rattle.std.proofs.Common.{◌≡◌, rules}
use Rattle.std.specs.Ordering.{is_lt, eq_by_cmp}
use Rattle.std.specs.List.{dedup}
use Rattle.std.specs.List.Sorted.{IsSorted}
use Rattle.std.proofs.lemmas.Fn.{dedup_same}
use Rattle.std.proofs.lemmas.List.Sorted.{answers_always}
use Rattle.yl_text.specs.Finding.{FindingValue}
use Rattle.yl_report.specs.Report.{finding_order, sorted_once}
use Rattle.yl_report.proofs.Order.{below_ranks, arranged}
use Rattle.yl_report.proofs.Unique.{one_arrangement}
use Rattle.yl_report.proofs.Inserted.{sorted_once_arranged}
use Rattle.yl_report.proofs.arranging.sort_once.Goals as goal

pub returns : goal.returns
returns g c =
    let mid = c.sort_unstable_by.new.self.items in
    let sorted : IsSorted finding_order mid = c.sort_unstable_by.ensures.sorted (λ (x y : FindingValue). is_lt (finding_order x y)) below_ranks (answers_always _ _ _ (λ f a r f' k. search rules)) in
    let once : c.dedup_by.new.self.items ≡ dedup (λ (x y : FindingValue). eq_by_cmp finding_order x y) mid =
    dedup_same _ (λ (x y : FindingValue). eq_by_cmp finding_order x y) _ (λ x y b f' x' y' k. search rules) mid c.dedup_by.new.self.items c.dedup_by.ensures.filtered in
    one_arrangement c.args.found.now.items c.dedup_by.new.self.items (sorted_once c.args.found.now.items)
    (arranged c.args.found.now.items mid c.dedup_by.new.self.items c.sort_unstable_by.ensures.permutation sorted once)
    (sorted_once_arranged c.args.found.now.items)
