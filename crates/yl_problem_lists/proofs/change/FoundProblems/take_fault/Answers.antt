use Rattle.std.proofs.Common.{rules, ◌≡◌}
use Rattle.std.specs.List.{filter}
use Rattle.std.proofs.lemmas.Fn.{filter_same}
use Rattle.yl_problem_lists.specs.Parts.{is_no_fault}
use Rattle.yl_problem_lists.proofs.change.FoundProblems.take_fault.Goals as goal

pub returns-then-had_fault-clause-parts : goal.returns-then-had_fault-clause-parts
returns-then-had_fault-clause-parts g c =
    let kept : c.retain.new.self.items ≡ filter is_no_fault c.args.self.now.shown.items =
    filter_same _ is_no_fault _ (λ x b f' k. search rules) c.args.self.now.shown.items c.retain.new.self.items c.retain.ensures.filtered in
    λ i. record { shown = kept i; suppressed = c.args.self.now.suppressed.items }
