use Rattle.std.proofs.Common.{◌≡◌, ◌++◌, List, map, take, drop}
use Rattle.yl_text.specs.Finding.{FindingValue}
use Rattle.yl_events.specs.Event.{EventValue}
use Rattle.yl_tree.specs.OpenNodes.{OpenNodes}
use Rattle.yl_tree.specs.TreeRules.{Finds}
use Rattle.yl_pieces.specs.Events.{without_anchor}
use Rattle.yl_piece_names.specs.KeptNames.{names_of_run}
use Rattle.yl_section_pieces.proofs.run_judge.push_events.Given as goal

abbrev pub invariant-loop-i : goal.invariant-loop-i
invariant-loop-i g l = record {
  names : (t : OpenNodes) (es : List EventValue) → l.fn.names ≡ names_of_run t es → l.names ≡ names_of_run t (es ++ map without_anchor (take l.i l.events));
  rules : (es : List EventValue) (all : List FindingValue) → Finds l.fn.rules (map without_anchor l.events ++ es) all → Finds l.rules (map without_anchor (drop l.i l.events) ++ es) all;
}
