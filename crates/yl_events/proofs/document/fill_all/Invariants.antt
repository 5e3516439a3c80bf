use Rattle.std.proofs.Common.{◌≡◌, map, take}
use Rattle.yl_marks.specs.Keys.{lexeme_at_line}
use Rattle.yl_events.specs.Event.{event_value, event_of_outline}
use Rattle.yl_events.proofs.document.fill_all.Given as goal

abbrev pub invariant-loop-outline : goal.invariant-loop-outline
invariant-loop-outline g l =
    map event_value l.events.items
    ≡ map (event_of_outline (map (λ x. lexeme_at_line x.line x.lexeme.now) l.lexemes)) (take l.outline-index l.outlines)
