-- Bridge: what symbols tell depends on the parser's state before them, in which no lexeme has an
-- index. How many lexemes come before moves the places of what is told, and nothing else.
use Rattle.std.specs.Prelude.{ℕ, ◌≡◌, ◌+◌, List, [], map, Option, Some, None, option_map}
use Rattle.yl_marks.specs.declared.symbol.Symbol.{Symbol}
use Rattle.yl_marks.specs.MarksAlike.{symbol_after}
use Rattle.yl_events.specs.declared.symbol.Outline.{Outline}
use Rattle.yl_events.specs.Machine.{ParserState}
use Rattle.yl_events.specs.Trail.{trail_after}
use Rattle.yl_events.specs.DocumentOutcome.{DocumentOutcome, Events, Fails, steps}
use Rattle.yl_events.specs.SymbolParsing.{SymbolParserValue, outcome_of_symbols}
use Rattle.yl_events.specs.State.{goal_state, parser_state}

-- symbols whose lexemes count from this one on
abbrev pub symbols_after : ℕ → List Symbol → List Symbol
symbols_after n ws = map (symbol_after n) ws

-- ---- what is told

-- an event that says whether it has an anchor, and not which lexeme that is
abbrev pub outline_shape : Outline → Outline
outline_shape o = record o { anchor = option_map (λ a. 0) o.anchor }

-- an event whose place counts from this lexeme on
abbrev pub outline_after : ℕ → Outline → Outline
outline_after n o = record o { place = option_map (λ i. n + i) o.place }

-- a document's events in that shape, or its fault
abbrev pub outcome_shape : DocumentOutcome → DocumentOutcome
outcome_shape (Events es) = Events (map outline_shape es)
outcome_shape (Fails f) = Fails f

-- the events, or the fault, with places that count from this lexeme on
abbrev pub outcome_after : ℕ → DocumentOutcome → DocumentOutcome
outcome_after n (Events es) = Events (map (outline_after n) es)
outcome_after n (Fails f) = Fails (record f { place = n + f.place })

-- where all of some symbols are taken, the goals after them without indices, and the events in
-- that shape
abbrev pub steps_shape : Option ParserState → Option ParserState
steps_shape None = None
steps_shape (Some s) = Some (record { goals = map goal_state s.goals; events = map outline_shape s.events })

-- the same, with places that count from this lexeme on
abbrev pub steps_after : ℕ → Option ParserState → Option ParserState
steps_after n None = None
steps_after n (Some s) = Some (record s { events = map (outline_after n) s.events })

-- ---- the law

-- the same symbols come to p after m lexemes, and to q after n lexemes. Where the document ends
-- with them, both tell the same of it, but for which lexemes its anchors are. Where more symbols
-- come, both have told the same events so, and hold the same state
pub record AreParsedAlike (p q : SymbolParserValue) (m n : ℕ) (ws : List Symbol) : Type 0 where
  pub outcome :
      outcome_after n (outcome_shape (outcome_of_symbols p m [] (symbols_after m ws)))
      ≡ outcome_after m (outcome_shape (outcome_of_symbols q n [] (symbols_after n ws)))
  pub after :
      steps_after n (steps_shape (steps (symbols_after m ws) p.goals []))
      ≡ steps_after m (steps_shape (steps (symbols_after n ws) q.goals []))
  pub trail : trail_after p.trail (symbols_after m ws) ≡ trail_after q.trail (symbols_after n ws)

-- two parsers in the same state tell the same of the same symbols, and are in the same state after
-- them
abbrev pub SymbolsAreParsedAlike : Type 0
SymbolsAreParsedAlike = (p q : SymbolParserValue) (m n : ℕ) (ws : List Symbol) → parser_state p ≡ parser_state q → AreParsedAlike p q m n ws
