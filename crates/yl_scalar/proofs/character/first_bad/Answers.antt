use Rattle.std.proofs.Common.{sym, ◌∙◌}
use Rattle.yl_scalar.proofs.Printable.{printable_none_bad, common_none_bad}
use Rattle.yl_scalar.proofs.character.first_bad.Goals as goal

pub returns-then-is_printable_ascii-clause-place : goal.returns-then-is_printable_ascii-clause-place
returns-then-is_printable_ascii-clause-place c =
    sym (printable_none_bad c.args.text.now (sym c.is_printable_ascii.ensures ∙ c.if-is_printable_ascii.true))

pub returns-then-are_common-clause-place : goal.returns-then-are_common-clause-place
returns-then-are_common-clause-place c =
    sym (common_none_bad c.args.text.now (sym c.are_common.ensures ∙ c.if-are_common.true))
