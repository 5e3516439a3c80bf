use Rattle.std.proofs.Common.{ℕ, [], ◌∷◌, ap, arith, sym, ◌∙◌}
use Rattle.yl_text.specs.Finding.{FindingValue}
use Rattle.yl_sections.specs.Owned.{section_fault_value}
use Rattle.yl_lint.specs.TextReport.{finding_of_fault}
use Rattle.yl_found.proofs.FaultFound.{fault_before, fault_last}
use Rattle.yl_found.proofs.Given.{then_ok}
use Rattle.yl_found.proofs.fault.finding_at.Goals as goal

pub returns-then-next-count : goal.returns-then-next-count
returns-then-next-count g c =
    let o = c.args.overview in
    let k = c.get.result.now in
    let next = c.get-then-next-count.result.now in
    let f = section_fault_value c.args.fault in
    then_ok c.finding_of_fault.result c.finding_of_fault.ensures (λ x e.
    fault_before c.args.sections.now o.sound o.row c.args.end k next f c.requires.first c.get.ensures c.get-then-next-count.ensures (c.requires.fault k c.get.ensures)
    ∙ ap (λ (y : FindingValue). y ∷ []) (ap (λ (n : ℕ). finding_of_fault o.row n c.args.end (next ∷ []) f) (sym c.rows-rows.ensures) ∙ sym e))

pub returns : goal.returns
returns g c =
    let o = c.args.overview in
    let k = c.get.result.now in
    let f = section_fault_value c.args.fault in
    then_ok c.finding_of_fault-2.result c.finding_of_fault-2.ensures (λ x e.
    fault_last c.args.sections.now o.sound o.row c.args.end k f c.requires.first c.get.ensures (omega (arith, c.if-next-count.false, c.len-count.ensures)) (c.requires.fault k c.get.ensures)
    ∙ ap (λ (y : FindingValue). y ∷ []) (ap (λ (n : ℕ). finding_of_fault o.row n c.args.end [] f) (sym c.rows-rows.ensures) ∙ sym e))
