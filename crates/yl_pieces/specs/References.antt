-- Bridge: the anchors and aliases of a document, read off its events, and read off its lexemes without a parser.
use Rattle.std.specs.Prelude.{ℕ, ◌≡◌, List, [], ◌∷◌, ◌++◌, Option, Some, None}
use Rattle.std.specs.List.{flat_map}
use Rattle.yl_text.specs.declared.position.Pos.{Pos}
use Rattle.yl_lexeme.specs.declared.lexeme.Kind.{Kind}
use Rattle.yl_lexeme.specs.Lexeme.{LexemeValue}
use Rattle.yl_marks.specs.declared.symbol.Symbol.{Symbol}
use Rattle.yl_marks.specs.declared.symbol.Symbol.TheVariants.{One}
use Rattle.yl_events.specs.declared.symbol.Shape.{Shape}
use Rattle.yl_events.specs.declared.symbol.Shape.TheVariants.{Alias}
use Rattle.yl_events.specs.declared.symbol.Outline.{Outline}
use Rattle.yl_events.specs.DocumentOutcome.{Events}
use Rattle.yl_events.specs.SymbolParsing.{symbols_at_start, outcome_of_symbols}
use Rattle.yl_events.specs.Parsing.{start_events}
use Rattle.yl_events.specs.Event.{EventKindValue, EventAnchorValue, EventValue, AliasOf}
use Rattle.yl_events.specs.Built.{Builds}

-- ---- by the lexeme's index in the document

-- an anchor or an alias
pub data Reference : Type 0 where
  Declares : (index : ℕ) → Reference
  Uses : (index : ℕ) → Reference

abbrev pub alias_reference : Shape → (place : Option ℕ) → List Reference
alias_reference Alias (Some i) = Uses i ∷ []
alias_reference _ _ = []

abbrev pub anchor_reference : Option ℕ → List Reference
anchor_reference None = []
anchor_reference (Some i) = Declares i ∷ []

-- those of an outline
abbrev pub references_of : Outline → List Reference
references_of o = alias_reference o.kind o.place ++ anchor_reference o.anchor

abbrev pub references_in : List Outline → List Reference
references_in os = flat_map references_of os

-- that of a lexeme of this kind
abbrev pub reference_of_kind : Kind → (index : ℕ) → List Reference
reference_of_kind Kind.Anchor i = Declares i ∷ []
reference_of_kind Kind.Alias i = Uses i ∷ []
reference_of_kind _ i = []

abbrev pub reference_of_symbol : Symbol → List Reference
reference_of_symbol (One kind i) = reference_of_kind kind i
reference_of_symbol _ = []

abbrev pub references_among : List Symbol → List Reference
references_among ws = flat_map reference_of_symbol ws

-- where symbols give a document's events, the anchors and aliases of both are the same, in order
abbrev pub ReferencesAreLexemes : Type 0
ReferencesAreLexemes = (ws : List Symbol) (es : List Outline) → outcome_of_symbols symbols_at_start 0 start_events ws ≡ Events es → references_in es ≡ references_among ws

-- ---- by name and place

-- an anchor or an alias; the place of an alias is as its event has it
pub data NamedReference : Type 0 where
  DeclaresName : (name : List ℕ) (place : Pos) → NamedReference
  UsesName : (name : List ℕ) (place : Option Pos) → NamedReference

abbrev pub alias_of_event : EventKindValue → Option Pos → List NamedReference
alias_of_event (AliasOf name) place = UsesName name place ∷ []
alias_of_event _ place = []

abbrev pub anchor_of_event : Option EventAnchorValue → List NamedReference
anchor_of_event None = []
anchor_of_event (Some a) = DeclaresName a.name a.place ∷ []

-- those of an event
abbrev pub references_of_event : EventValue → List NamedReference
references_of_event e = alias_of_event e.kind e.place ++ anchor_of_event e.anchor

-- that of a lexeme of this kind with this value that starts here
abbrev pub named_reference : Kind → (name : List ℕ) → (start : Pos) → List NamedReference
named_reference Kind.Anchor name start = DeclaresName name start ∷ []
named_reference Kind.Alias name start = UsesName name (Some start) ∷ []
named_reference _ name start = []

abbrev pub reference_of_lexeme : LexemeValue → List NamedReference
reference_of_lexeme x = named_reference x.kind x.value x.start

-- where a document has events, their anchors and aliases are those of its lexemes, in order
abbrev pub AnchorsAreLexemes : Type 0
AnchorsAreLexemes = (xs : List LexemeValue) (es : List EventValue) → Builds xs es None → flat_map references_of_event es ≡ flat_map reference_of_lexeme xs

-- ---- an event is not both

-- the anchor of an alias
abbrev pub anchor_of_alias : EventKindValue → Option EventAnchorValue → List EventAnchorValue
anchor_of_alias (AliasOf name) (Some a) = a ∷ []
anchor_of_alias _ anchor = []

-- no alias among a document's events has an anchor
abbrev pub AliasesHaveNoAnchors : Type 0
AliasesHaveNoAnchors = (xs : List LexemeValue) (es : List EventValue) → Builds xs es None → flat_map (λ e. anchor_of_alias e.kind e.anchor) es ≡ []
