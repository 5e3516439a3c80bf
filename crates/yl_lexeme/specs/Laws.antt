-- Bridge: laws of what is kept of lexemes and of units.
use Rattle.std.specs.Prelude.{◌≡◌, List}
use Rattle.yl_lexeme.specs.Past.{PastLexeme, context_from}
use Rattle.yl_lexeme.specs.Keys.{Spot, key_start}
use Rattle.yl_lexeme.specs.Kept.{key_unit_of}
use Rattle.yl_lexeme.specs.Known.{context_of, surroundings_of}

-- what is kept of the lexemes before a position, those that begin in its row and those before,
-- gives the context that looking back over them gives
abbrev pub KeptSuffices : Type 0
KeptSuffices = (here older : List PastLexeme) → context_of (surroundings_of here older) ≡ context_from here older

-- what is kept of the lexemes of a line gives the position at which looking back finds that a key
-- begins
abbrev pub UnitSuffices : Type 0 → Type 0
UnitSuffices T = (here : List (Spot T)) → (key_unit_of here).unit ≡ key_start here
