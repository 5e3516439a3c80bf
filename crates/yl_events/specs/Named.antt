-- Bridge: the lexemes that the outlines of the parser and its goals name. A lexeme is named by its
-- index in the document.
use Rattle.std.specs.Prelude.{ℕ, ◌≡◌, ◌<◌, ◌≤◌, ◌+◌, ◌⊎◌, List, [], ◌∷◌, Option, Some, None, IfSome}
use Rattle.yl_marks.specs.declared.symbol.Symbol.{Symbol}
use Rattle.yl_marks.specs.declared.symbol.Symbol.TheVariants.{OpenSequence, OpenMapping, BeginKey, Close, One}
use Rattle.yl_events.specs.declared.symbol.Properties.{Properties}
use Rattle.yl_events.specs.declared.symbol.Properties.TheVariants.{Anchored, Tagged, AnchoredTagged, TaggedAnchored}
use Rattle.yl_events.specs.declared.symbol.Goal.{Goal}
use Rattle.yl_events.specs.declared.symbol.Goal.TheVariants.{Formed}
use Rattle.yl_events.specs.declared.symbol.Outline.{Outline}

-- ---- anchors that wait for their node

-- the anchor among properties
abbrev pub anchor_among : Option Properties → Option ℕ
anchor_among None = None
anchor_among (Some (Anchored a)) = Some a
anchor_among (Some (Tagged t)) = None
anchor_among (Some (AnchoredTagged a t)) = Some a
anchor_among (Some (TaggedAnchored t a)) = Some a

-- the anchor whose node the goal is to read
abbrev pub anchor_of_goal : Goal → Option ℕ
anchor_of_goal (Formed w ps) = anchor_among ps
anchor_of_goal _ = None

-- the anchor whose node the innermost goal is to read
abbrev pub waiting_anchor : List Goal → Option ℕ
waiting_anchor [] = None
waiting_anchor (g ∷ goals) = anchor_of_goal g

-- no anchor waits in these goals
abbrev pub NoneWaits : List Goal → Type 0
NoneWaits [] = Unit {0}
NoneWaits (g ∷ goals) = (anchor_of_goal g ≡ None) × NoneWaits goals

-- no anchor waits but in the innermost goal
abbrev pub OnlyInnermostWaits : List Goal → Type 0
OnlyInnermostWaits [] = Unit {0}
OnlyInnermostWaits (g ∷ goals) = NoneWaits goals

-- ---- names

-- the lexemes that a symbol names satisfy Is
abbrev pub SymbolNames : (ℕ → Type 0) → Symbol → Type 0
SymbolNames Is (OpenSequence i) = Is i
SymbolNames Is (OpenMapping i) = Is i
SymbolNames Is (BeginKey i) = Is i
SymbolNames Is Close = Unit {0}
SymbolNames Is (One kind i) = Is i

abbrev pub SymbolsName : (ℕ → Type 0) → List Symbol → Type 0
SymbolsName Is [] = Unit {0}
SymbolsName Is (w ∷ ws) = SymbolNames Is w × SymbolsName Is ws

-- the lexemes that an outline names satisfy Is
abbrev pub OutlineNames : (ℕ → Type 0) → Outline → Type 0
OutlineNames Is o = IfSome o.place Is × IfSome o.anchor Is

abbrev pub OutlinesName : (ℕ → Type 0) → List Outline → Type 0
OutlinesName Is [] = Unit {0}
OutlinesName Is (o ∷ os) = OutlineNames Is o × OutlinesName Is os

-- i is the index of a lexeme of a line that has `count` lexemes, the first of which has the index
-- `first`
abbrev pub IsInLine : (first count : ℕ) → ℕ → Type 0
IsInLine first count i = (first ≤ i) × (i < first + count)

-- i is the index of one of these lexemes, or of the anchor that waits
abbrev pub IsNamed : (first count : ℕ) → Option ℕ → ℕ → Type 0
IsNamed first count waiting i = IsInLine first count i ⊎ (waiting ≡ Some i)
