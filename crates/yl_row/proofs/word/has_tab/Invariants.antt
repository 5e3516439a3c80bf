use Rattle.std.proofs.Common.{◌≡◌, take}
use Rattle.std.specs.List.{list_any}
use Rattle.yl_row.proofs.Tabs.{is_tab}
use Rattle.yl_row.proofs.word.has_tab.Given as goal

abbrev pub invariant-loop-c : goal.invariant-loop-c
invariant-loop-c l = l.found ≡ list_any is_tab (take l.c-index l.row)
