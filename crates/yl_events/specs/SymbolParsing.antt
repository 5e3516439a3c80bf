-- Bridge: a document that is parsed symbol by symbol: its outcome, by the symbols that are still to
-- come.
use Rattle.std.specs.Prelude.{ℕ, ◌≡◌, ◌+◌, Bool, true, false, List, [], ◌∷◌, ◌++◌, Option, Some, None}
use Rattle.yl_marks.specs.declared.symbol.Symbol.{Symbol}
use Rattle.yl_marks.specs.declared.symbol.Symbol.TheVariants.{One}
use Rattle.yl_events.specs.declared.symbol.Goal.{Goal}
use Rattle.yl_events.specs.declared.symbol.Outline.{Outline}
use Rattle.yl_events.specs.declared.fault.PlacedParseFault.{PlacedParseFault}
use Rattle.yl_events.specs.Derives.{lexeme_count}
use Rattle.yl_events.specs.Machine.{goals_of_document}
use Rattle.yl_events.specs.Trail.{TrailValue, no_trail}
use Rattle.yl_events.specs.DocumentOutcome.{DocumentOutcome, Events, Fails, outcome_by}

-- what the rest of a document depends on, of the symbols that were read
pub record SymbolParserValue : Type 0 where
  pub goals : List Goal  -- what is still to be read, the innermost first
  pub trail : TrailValue

-- no document has begun: every lexeme is refused
abbrev pub no_symbols : SymbolParserValue
no_symbols = record { goals = []; trail = no_trail }

abbrev pub symbols_at_start : SymbolParserValue
symbols_at_start = record { goals = goals_of_document; trail = no_trail }

-- the outcome if the document ends with these symbols, after `count` lexemes: the events `out` and
-- those of the symbols, or the fault
abbrev pub outcome_of_symbols : SymbolParserValue → (count : ℕ) → List Outline → List Symbol → DocumentOutcome
outcome_of_symbols p count out ws = outcome_by p.trail count p.goals out ws

-- no mark comes after the last lexeme; the flag says whether a lexeme or nothing stands before
-- these symbols, and not a mark
abbrev pub is_whole : Bool → List Symbol → Bool
is_whole b [] = b
is_whole b (One kind i ∷ ws) = is_whole true ws
is_whole b (w ∷ ws) = is_whole false ws

-- these symbols come: their events are appended, or the document has this fault, whatever follows
abbrev pub FeedsSymbols : SymbolParserValue → (count : ℕ) → List Outline → List Symbol → Option PlacedParseFault → SymbolParserValue → List Outline → Type 0
FeedsSymbols p count out ws None q out' =
    (later : List Symbol) → outcome_of_symbols p count out (ws ++ later) ≡ outcome_of_symbols q (count + lexeme_count ws) out' later
FeedsSymbols p count out ws (Some f) q out' = (later : List Symbol) → outcome_of_symbols p count out (ws ++ later) ≡ Fails f

-- the events `out`, and after them those of the outcome; a fault stays as it is
abbrev pub told_behind : List Outline → DocumentOutcome → DocumentOutcome
told_behind out (Events es) = Events (out ++ es)
told_behind out (Fails f) = Fails f

-- the events before some symbols precede those of the symbols, and do not change them
abbrev pub ToldBehind : Type 0
ToldBehind = (p : SymbolParserValue) (count : ℕ) (before out : List Outline) (ws : List Symbol) →
    outcome_of_symbols p count (before ++ out) ws ≡ told_behind before (outcome_of_symbols p count out ws)
