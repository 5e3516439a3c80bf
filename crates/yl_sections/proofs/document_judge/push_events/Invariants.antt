use Rattle.std.proofs.Common.{List, map, drop, ◌++◌}
use Rattle.yl_text.specs.Finding.{FindingValue}
use Rattle.yl_events.specs.Event.{EventValue}
use Rattle.yl_events.specs.Seen.{event_seen}
use Rattle.yl_tree.specs.TreeRules.{Finds}
use Rattle.yl_sections.proofs.document_judge.push_events.Given as goal

abbrev pub invariant-loop-outline : goal.invariant-loop-outline
invariant-loop-outline g l =
    (es : List EventValue) (all : List FindingValue) → Finds l.fn.tree (map (event_seen l.lexemes) l.outlines ++ es) all
    → Finds l.tree (map (event_seen l.lexemes) (drop l.outline-index l.outlines) ++ es) all
