use Rattle.std.proofs.Common.{◌∙◌, ap, sym}
use Rattle.yl_rules.specs.Rows.{row_findings}
use Rattle.yl_edited_lines.proofs.unchanged.is_alike.Goals as goal

pub returns : goal.returns
returns g c = λ e. record {
  found =
      ap (λ o. row_findings o c.args.line c.args.old.now) (sym c.row_options.ensures)
      ∙ (sym c.in_ok-before.ensures
      ∙ (sym c.deref.ensures.value
      ∙ (c.are_same_findings.ensures e
      ∙ (c.deref-2.ensures.value ∙ (c.in_ok-after.ensures ∙ ap (λ o. row_findings o c.args.line c.args.new.now) c.row_options-2.ensures)))));
  end = c.is_same_kind.ensures.end c.if-not-is_same_kind.false;
  empty = c.is_same_kind.ensures.empty c.if-not-is_same_kind.false;
}
