-- What the rule anchors finds in a document it finds in its anchors and aliases.
use Rattle.std.specs.Prelude.{if◌then◌else◌}
use Rattle.std.proofs.Common.{◌≡◌, ℕ, List, [], ◌∷◌, ◌++◌, map, Bool, not, ◌&&◌, ◌||◌, refl, sym, ◌∙◌, ap, codes, Option, Some, None, option_map}
use Rattle.std.specs.List.{flat_map}
use Rattle.std.proofs.lemmas.List.{map-append}
use Rattle.yl_text.specs.declared.position.Pos.{Pos}
use Rattle.yl_text.specs.declared.finding.RuleId.TheVariants.{Anchors}
use Rattle.yl_text.specs.Finding.{FindingValue, at_each}
use Rattle.yl_events.specs.Event.{EventAnchorValue, EventKindValue, EventValue, AliasOf}
use Rattle.yl_tree.specs.declared.options.AnchorsOptions.{AnchorsOptions}
use Rattle.yl_tree.specs.Anchors.{anchor_findings, anchors, anchors_at, is_alias_of, is_anchor_of, is_declared, is_used}
use Rattle.yl_tree.specs.Messages.{name_finding}
use Rattle.yl_pieces.specs.References.{DeclaresName, UsesName, alias_of_event, anchor_of_event, references_of_event}
use Rattle.yl_piece_names.specs.Moved.{anchor_moved, event_moved, place_moved, reference_moved}
use Rattle.yl_piece_names.specs.AnchorsPatched.{AreApart, event_of_reference, events_of_references}

-- ---- what is looked at

-- the same names are declared by these events
abbrev pub DeclareAlike : List EventValue → List EventValue → Type 0
DeclareAlike b c = (n : List ℕ) → is_declared b n ≡ is_declared c n

-- the same names are used by these events
abbrev pub UseAlike : List EventValue → List EventValue → Type 0
UseAlike a d = (n : List ℕ) → is_used a n ≡ is_used d n

abbrev pub unused_if : AnchorsOptions → EventAnchorValue → (is_used : Bool) → List FindingValue
unused_if o a is_used = if o.forbid_unused_anchors && not is_used then name_finding Anchors (Some a.place) (codes "found unused anchor \"") a.name (codes "\"") else []

abbrev pub duplicated_if : AnchorsOptions → EventAnchorValue → (is_declared : Bool) → List FindingValue
duplicated_if o a is_declared =
    if o.forbid_duplicated_anchors && is_declared then name_finding Anchors (Some a.place) (codes "found duplicated anchor \"") a.name (codes "\"") else []

abbrev pub undeclared_if : AnchorsOptions → Option Pos → List ℕ → (is_declared : Bool) → List FindingValue
undeclared_if o place name is_declared =
    if o.forbid_undeclared_aliases && not is_declared then name_finding Anchors place (codes "found undeclared alias \"") name (codes "\"") else []

pub anchors_alike : (o : AnchorsOptions) (b c : List EventValue) (a : EventAnchorValue) (x y : List EventValue) → DeclareAlike b c → UseAlike x y
    → anchor_findings o b (Some a) x ≡ anchor_findings o c (Some a) y
anchors_alike o b c a x y declared used = λ i. duplicated_if o a (declared a.name i) ++ unused_if o a (used a.name i)

-- ---- events and their references

abbrev told_of : List EventValue → List EventValue
told_of es = events_of_references (flat_map references_of_event es)

abbrev event : EventKindValue → Option Pos → Option EventAnchorValue → Bool → EventValue
event kind place anchor tagged = record { kind = kind; place = place; anchor = anchor; is_tagged = tagged }

used_by : (kind : EventKindValue) (place : Option Pos) (anchor : Option EventAnchorValue) (tagged : Bool) (es : List EventValue) → AreApart (event kind place anchor tagged ∷ es)
    → (AreApart es → UseAlike es (told_of es)) → UseAlike (event kind place anchor tagged ∷ es) (told_of (event kind place anchor tagged ∷ es))
used_by (AliasOf name) place (Some a) tagged es apart rest n = cc
used_by (AliasOf name) place None tagged es apart rest n = ap (λ b. is_alias_of n (AliasOf name) || b) (rest apart n)
used_by _ place (Some a) tagged es apart rest n = ap (λ b. not (is_anchor_of n (Some a)) && b) (rest apart n)
used_by _ place None tagged es apart rest n = rest apart n

pub used_alike : (es : List EventValue) → AreApart es → UseAlike es (told_of es)
used_alike [] apart n = refl
used_alike (e ∷ es) apart n = used_by e.kind e.place e.anchor e.is_tagged es apart (used_alike es) n

module _ (o : AnchorsOptions) where
  found_by : (kind : EventKindValue) (place : Option Pos) (anchor : Option EventAnchorValue) (tagged : Bool) (es b c : List EventValue) → AreApart (event kind place anchor tagged ∷ es) → DeclareAlike b c
      → ((b c : List EventValue) → AreApart es → DeclareAlike b c → at_each (anchors_at o) b es ≡ at_each (anchors_at o) c (told_of es))
      → at_each (anchors_at o) b (event kind place anchor tagged ∷ es) ≡ at_each (anchors_at o) c (told_of (event kind place anchor tagged ∷ es))
  found_by (AliasOf name) place (Some a) tagged es b c apart declared rest = cc
  found_by (AliasOf name) place None tagged es b c apart declared rest =
      λ i. (undeclared_if o place name (declared name i) ++ [])
      ++ rest (event (AliasOf name) place None tagged ∷ b) (event_of_reference (UsesName name place) ∷ c) apart declared i
  found_by kind place (Some a) tagged es b c apart declared rest =
      λ i. anchors_alike o b c a es (told_of es) declared (used_alike es apart) i
      ++ rest (event kind place (Some a) tagged ∷ b) (event_of_reference (DeclaresName a.name a.place) ∷ c) apart (λ n. ap (λ d. is_anchor_of n (Some a) || d) (declared n)) i
  found_by kind place None tagged es b c apart declared rest = rest (event kind place None tagged ∷ b) c apart declared

  pub found_alike : (es b c : List EventValue) → AreApart es → DeclareAlike b c → at_each (anchors_at o) b es ≡ at_each (anchors_at o) c (told_of es)
  found_alike [] b c apart declared = refl
  found_alike (e ∷ es) b c apart declared = found_by e.kind e.place e.anchor e.is_tagged es b c apart declared (found_alike es)

pub by_references : (o : AnchorsOptions) (es : List EventValue) → AreApart es → anchors o es ≡ anchors o (events_of_references (flat_map references_of_event es))
by_references o es apart = found_alike o es [] [] apart (λ n. refl)

-- ---- moved

module _ (old new : ℕ) where
  alias_moved : (kind : EventKindValue) (place : Option Pos) → alias_of_event kind (option_map (place_moved old new) place) ≡ map (reference_moved old new) (alias_of_event kind place)
  alias_moved (AliasOf name) place = refl
  alias_moved _ place = refl

  anchor_of_moved : (anchor : Option EventAnchorValue) → anchor_of_event (option_map (anchor_moved old new) anchor) ≡ map (reference_moved old new) (anchor_of_event anchor)
  anchor_of_moved None = refl
  anchor_of_moved (Some a) = refl

  pub references_moved : (es : List EventValue) → flat_map references_of_event (map (event_moved old new) es) ≡ map (reference_moved old new) (flat_map references_of_event es)
  references_moved [] = refl
  references_moved (e ∷ es) =
      (λ i. (alias_moved e.kind e.place i ++ anchor_of_moved e.anchor i) ++ references_moved es i)
      ∙ ap (λ rs. rs ++ map (reference_moved old new) (flat_map references_of_event es)) (sym (map-append (reference_moved old new) (alias_of_event e.kind e.place) (anchor_of_event e.anchor)))
      ∙ sym (map-append (reference_moved old new) (references_of_event e) (flat_map references_of_event es))
