-- Bridge: a law of the rule anchors: rows in place of others, where the anchors and aliases of both have
-- the same names.
use Rattle.std.specs.Prelude.{ℕ, ◌≡◌, ◌+◌, false, List, [], ◌++◌, map, reverse, Some, None}
use Rattle.std.specs.List.{AllByRecursion, flat_map}
use Rattle.yl_text.specs.Finding.{FindingValue, at_each}
use Rattle.yl_events.specs.Event.{EventValue, AliasOf, Empty}
use Rattle.yl_lexeme_rules.specs.LexemesAlike.{finding_below}
use Rattle.yl_tree.specs.declared.options.AnchorsOptions.{AnchorsOptions}
use Rattle.yl_tree.specs.Anchors.{anchors, anchors_at}
use Rattle.yl_pieces.specs.References.{NamedReference, DeclaresName, UsesName, references_of_event, anchor_of_alias}
use Rattle.yl_pieces.specs.Patched.{finding_moved, list_patched, row_of}
use Rattle.yl_piece_names.specs.Moved.{IsAbove, IsFrom, IsIn, event_moved, place_of_reference, reference_below, reference_moved}

-- ---- references

-- an event that has this reference, and nothing else
abbrev pub event_of_reference : NamedReference → EventValue
event_of_reference (DeclaresName name place) = record { kind = Empty; place = None; anchor = Some (record { name = name; place = place }); is_tagged = false }
event_of_reference (UsesName name place) = record { kind = AliasOf name; place = place; anchor = None; is_tagged = false }

abbrev pub events_of_references : List NamedReference → List EventValue
events_of_references rs = map event_of_reference rs

-- the reference without its place: an anchor is at the start of the text
abbrev pub placeless : NamedReference → NamedReference
placeless (DeclaresName name place) = DeclaresName name (record { line = 0; col = 0 })
placeless (UsesName name place) = UsesName name None

-- what the rule finds at references that have others above and below them
abbrev pub anchors_between : AnchorsOptions → (above here below : List NamedReference) → List FindingValue
anchors_between o above here below =
    at_each (λ before e after. anchors_at o (before ++ reverse (events_of_references above)) e (after ++ events_of_references below)) [] (events_of_references here)

-- ---- an edit

-- no alias among these events has an anchor
abbrev pub AreApart : List EventValue → Type 0
AreApart es = flat_map (λ e. anchor_of_alias e.kind e.anchor) es ≡ []

-- the anchors and aliases of a document before and after an edit, each in order: those above the rows
-- that it changes, those of the rows that went, those of the rows that came, those below
pub record ReferenceParts : Type 0 where
  pub above : List NamedReference
  pub went : List NamedReference
  pub came : List NamedReference
  pub below : List NamedReference

-- a document had the events `was`, and has the events `now`: after the first `rows` rows so many new
-- ones came in place of so many old ones, in which the anchors and aliases have the same names
pub record ReferencesEdit (rows old new : ℕ) (p : ReferenceParts) (was now : List EventValue) : Type 0 where
  pub was_apart : AreApart was
  pub now_apart : AreApart now
  pub was_has : flat_map references_of_event was ≡ p.above ++ (p.went ++ p.below)
  pub now_has : flat_map references_of_event now ≡ p.above ++ (p.came ++ map (reference_moved old new) p.below)
  pub same_names : map placeless p.went ≡ map placeless p.came
  pub stand_above : AllByRecursion (λ r. IsAbove rows (place_of_reference r)) p.above
  pub stand_in : AllByRecursion (λ r. IsIn rows old (place_of_reference r)) p.went
  pub stand_below : AllByRecursion (λ r. IsFrom (rows + old) (place_of_reference r)) p.below

-- ---- the law

pub record AnchorsArePatched : Type 0 where
  -- what the rule finds in a document it finds in its anchors and aliases
  pub by_references : (o : AnchorsOptions) (es : List EventValue) → AreApart es → anchors o es ≡ anchors o (events_of_references (flat_map references_of_event es))
  -- events that are moved have their references moved
  pub moved : (old new : ℕ) (es : List EventValue) → flat_map references_of_event (map (event_moved old new) es) ≡ map (reference_moved old new) (flat_map references_of_event es)
  -- what was found above and below the rows is found now, the latter moved, with what is found at
  -- the references of the new rows
  pub patched : (o : AnchorsOptions) (rows old new : ℕ) (p : ReferenceParts) (was now : List EventValue) → ReferencesEdit rows old new p was now
      → anchors o now ≡ list_patched row_of (finding_moved old new) rows old (anchors o was) (anchors_between o p.above p.came p.below)
  -- the same for rows without anchors and aliases: nothing is found in the new ones
  pub none : (o : AnchorsOptions) (rows old new : ℕ) (p : ReferenceParts) (was now : List EventValue) → ReferencesEdit rows old new p was now → p.came ≡ []
      → anchors o now ≡ list_patched row_of (finding_moved old new) rows old (anchors o was) []
  -- what is found at references that stand further down, so many lines below
  pub below : (o : AnchorsOptions) (n : ℕ) (above here rest : List NamedReference)
      → anchors_between o above (map (reference_below n) here) rest ≡ map (finding_below n) (anchors_between o above here rest)
