use Rattle.std.proofs.Common.{sym, ◌∙◌}
use Rattle.yl_row.proofs.Tabs.{no_tab}
use Rattle.yl_row.proofs.word.first_tab.Goals as goal

pub returns : goal.returns
returns c = sym (no_tab c.args.row.now (sym c.has_tab.ensures ∙ c.if-has_tab.false))
