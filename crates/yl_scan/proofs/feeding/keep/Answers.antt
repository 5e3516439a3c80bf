use Rattle.std.proofs.Common.{rules, cond, sym, ap, ◌∙◌}
use Rattle.std.specs.List.{filter}
use Rattle.std.proofs.lemmas.Fn.{filter_same}
use Rattle.yl_scan.proofs.Feed.{ends_by}
use Rattle.yl_scan.proofs.feeding.keep.Goals as goal

pub returns-then-is_tab : goal.returns-then-is_tab
returns-then-is_tab g c =
    filter_same _ (ends_by c.args.fault.column) _ (λ x b f' k. search rules) c.args.lexemes.now.items c.retain.new.self.items c.retain.ensures.filtered
    ∙ ap (λ b. cond b (filter (ends_by c.args.fault.column) c.args.lexemes.now.items) c.args.lexemes.now.items) (sym c.if-is_tab.true ∙ c.is_tab.ensures)
