use Rattle.std.proofs.Common.{List, [], ◌∷◌, ◌++◌, arith, ap, sym, ◌∙◌}
use Rattle.yl_text.specs.Finding.{FindingValue}
use Rattle.yl_text.specs.Store.{end_of_lines}
use Rattle.yl_text.specs.declared.position.Pos.{Pos}
use Rattle.yl_lint.specs.TextReport.{fault_in_sections}
use Rattle.yl_found.proofs.FaultFound.{fault_none, no_such}
use Rattle.yl_found.proofs.fault.find_fault.Goals as goal

pub returns-then-overview-len : goal.returns-then-overview-len
returns-then-overview-len g c =
    c.new-found.ensures.items ∙ sym (fault_none c.args.sections.now c.args.overview.sound c.args.overview.row (end_of_lines (g.L.Lines.rows c.args.lines.now)) c.requires.first (omega (arith, c.if-overview-len.true, c.len.ensures)))

pub returns-in_default : goal.returns-in_default
returns-in_default g c = no_such c.args.sections.now c.args.overview.sound c.args.overview.row c.get.result.now c.fault.result c.requires.first c.get.ensures c.fault.ensures c.in_default.not-Some

pub returns : goal.returns
returns g c =
    c.in_ok-push.ensures.items
    ∙ (ap (λ (fs : List FindingValue). fs ++ c.in_ok-one.one ∷ []) c.new-found.ensures.items ∙ (sym c.in_ok-one.ensures ∙ ap (λ (p : Pos). fault_in_sections 0 p c.args.sections.now) c.end_of.ensures))
