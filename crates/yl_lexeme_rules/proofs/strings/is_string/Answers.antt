use Rattle.std.proofs.Common.{sym, ◌∙◌}
use Rattle.yl_lexeme_rules.proofs.FirstBytes.{is_string_by_first}
use Rattle.yl_lexeme_rules.proofs.strings.is_string.Goals as goal

pub returns-then-not-may_be_no_string : goal.returns-then-not-may_be_no_string
returns-then-not-may_be_no_string c =
    sym (is_string_by_first c.args.value.now
    (sym c.may_be_no_string.ensures ∙ c.if-not-may_be_no_string.true))
