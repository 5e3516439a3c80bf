use Rattle.std.proofs.Common.{List, ◌++◌, drop}
use Rattle.yl_events.specs.Event.{EventValue}
use Rattle.yl_tree.specs.Tree.{tree_findings}
use Rattle.yl_tree.specs.TreeRules.{Finds}
use Rattle.yl_piece_names.specs.OpeningEvents.{opening_events}
use Rattle.yl_piece_names.proofs.run_rules.rules_for_run.Given as goal

abbrev pub invariant-loop-opening : goal.invariant-loop-opening
invariant-loop-opening g l = (es : List EventValue) → Finds l.rules (opening_events (drop l.opening-index l.openings) ++ es) (tree_findings l.options (opening_events l.openings ++ es))
