use Rattle.std.proofs.Common.{◌≡◌, ◌++◌, List, reverse, subst}
use Rattle.yl_marks.specs.declared.symbol.Symbol.{Symbol}
use Rattle.yl_events.specs.DocumentOutcome.{Fails}
use Rattle.yl_events.specs.SymbolParsing.{SymbolParserValue, outcome_of_symbols}
use Rattle.yl_events.proofs.Lines.{fed_fault, fed_inside}
use Rattle.yl_events.proofs.symbol_parser.SymbolParser.feed.Goals as goal

pub returns-in_ok-fault-in-Some-clause-told : goal.returns-in_ok-fault-in-Some-clause-told
returns-in_ok-fault-in-Some-clause-told g c =
    subst (λ (p : SymbolParserValue). (later : List Symbol) → outcome_of_symbols p c.args.first c.args.outlines.now.items (c.args.symbols.now ++ later) ≡ Fails c.in_ok-fault-in-Some.fault)
    c.self.view_is
    (fed_fault (record { goals = reverse c.self.inside.goals.items; trail = c.self.inside.trail }) c.args.first c.args.outlines.now.items c.args.symbols.now c.in_ok-walk.field-0
    c.walk.new.goals.items c.walk.new.events.items c.in-Some.place c.in_ok-fault-in-Some.fault c.requires c.in_ok-walk.ensures c.in-Some.is c.in_ok-fault-in-Some.ensures)

pub returns-in_ok-fault-in-Some-clause-inside : goal.returns-in_ok-fault-in-Some-clause-inside
returns-in_ok-fault-in-Some-clause-inside g c =
    fed_inside c.args.first (reverse c.self.inside.goals.items) c.args.outlines.now.items c.args.symbols.now c.in_ok-walk.field-0 c.walk.new.goals.items c.walk.new.events.items c.in-Some.place
    c.in_ok-fault-in-Some.fault _ c.requires c.in_ok-walk.ensures c.in-Some.is c.in_ok-fault-in-Some.ensures
