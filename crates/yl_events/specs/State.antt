-- Bridge: what a parser of symbols holds before a row, without the indices of lexemes.
use Rattle.std.specs.Prelude.{option_map, map}
use Rattle.yl_events.specs.declared.symbol.Properties.{Properties}
use Rattle.yl_events.specs.declared.symbol.Properties.TheVariants.{Anchored, Tagged, AnchoredTagged, TaggedAnchored}
use Rattle.yl_events.specs.declared.symbol.Goal.{Goal}
use Rattle.yl_events.specs.declared.symbol.Goal.TheVariants.{Formed}
use Rattle.yl_events.specs.SymbolParsing.{SymbolParserValue}

-- which properties there are, and not which lexemes they are
abbrev pub properties_state : Properties → Properties
properties_state (Anchored a) = Anchored 0
properties_state (Tagged t) = Tagged 0
properties_state (AnchoredTagged a t) = AnchoredTagged 0 0
properties_state (TaggedAnchored t a) = TaggedAnchored 0 0

-- what is still to be read; the other goals have no index
abbrev pub goal_state : Goal → Goal
goal_state (Formed w ps) = Formed w (option_map properties_state ps)
goal_state g = g

-- what counts of the symbols that were read
abbrev pub parser_state : SymbolParserValue → SymbolParserValue
parser_state p = record p { goals = map goal_state p.goals }
