-- Bridge: events and references that move: where a list of them is cut by rows, and where they are after
-- so many rows went above them and so many came.
use Rattle.std.specs.Prelude.{ℕ, ◌≤◌, ◌<◌, ◌+◌, ◌-◌, Option, Some, IfSome, option_map}
use Rattle.yl_text.specs.declared.position.Pos.{Pos}
use Rattle.yl_events.specs.Event.{EventAnchorValue, EventValue}
use Rattle.yl_tree.specs.Keys.{name_of}
use Rattle.yl_pieces.specs.DuplicatesOfRuns.{place_below}
use Rattle.yl_pieces.specs.References.{NamedReference, DeclaresName, UsesName}

-- ---- where a list is cut by rows, which count from 0

-- the place, if there is one, is in the first so many rows
abbrev pub IsAbove : ℕ → Option Pos → Type 0
IsAbove rows place = IfSome place (λ p. p.line < rows)

-- it is in so many rows, the first of which is this one
abbrev pub IsIn : (first rows : ℕ) → Option Pos → Type 0
IsIn first rows place = IfSome place (λ p. (first ≤ p.line) × (p.line < first + rows))

-- it is in this row or further down
abbrev pub IsFrom : ℕ → Option Pos → Type 0
IsFrom first place = IfSome place (λ p. first ≤ p.line)

-- the place of an event that has a name: at no other do the rules on keys find anything
abbrev pub IfNamed : (Option Pos → Type 0) → EventValue → Type 0
IfNamed P e = IfSome (name_of e) (λ name. P e.place)

-- ---- moved by so many rows that went, and so many that came

abbrev pub place_moved : (old new : ℕ) → Pos → Pos
place_moved old new p = record p { line = p.line - old + new }

abbrev pub anchor_moved : (old new : ℕ) → EventAnchorValue → EventAnchorValue
anchor_moved old new a = record a { place = place_moved old new a.place }

abbrev pub event_moved : (old new : ℕ) → EventValue → EventValue
event_moved old new e = record e { place = option_map (place_moved old new) e.place; anchor = option_map (anchor_moved old new) e.anchor }

abbrev pub place_of_reference : NamedReference → Option Pos
place_of_reference (DeclaresName name place) = Some place
place_of_reference (UsesName name place) = place

-- the reference with its place changed so
abbrev pub reference_at : (Pos → Pos) → NamedReference → NamedReference
reference_at change (DeclaresName name place) = DeclaresName name (change place)
reference_at change (UsesName name place) = UsesName name (option_map change place)

abbrev pub reference_moved : (old new : ℕ) → NamedReference → NamedReference
reference_moved old new r = reference_at (place_moved old new) r

-- so many lines below
abbrev pub reference_below : ℕ → NamedReference → NamedReference
reference_below n r = reference_at (place_below n) r
