-- The anchors and aliases of a document's events are those of its symbols, and with names and places those of its lexemes.
use Rattle.std.specs.Prelude.{ℕ, suc, ◌≡◌, ◌+◌, refl, Bool, true, false, List, [], ◌∷◌, ◌++◌, map, Option, Some, None, option_map, slice_get, if◌then◌else◌}
use Rattle.std.specs.List.{flat_map}
use Rattle.std.proofs.Common.{◌∙◌, ap, append-nil, arith}
use Rattle.std.proofs.lemmas.Grind.{flat_map-append}
use Rattle.std.proofs.lemmas.List.Folds.{flat_map-map}
use Rattle.yl_lexeme.specs.declared.lexeme.Kind.{Kind}
use Rattle.yl_lexeme.specs.Lexeme.{LexemeValue}
use Rattle.yl_marks.specs.declared.symbol.Symbol.{Symbol}
use Rattle.yl_marks.specs.declared.symbol.Symbol.TheVariants.{Close, One}
use Rattle.yl_marks.specs.declared.symbol.KeyedToken.{KeyedToken}
use Rattle.yl_marks.specs.declared.symbol.Marking.{Marking}
use Rattle.yl_marks.specs.declared.symbol.OpenBlock.{OpenBlock}
use Rattle.yl_marks.specs.Keys.{token_of, keyed_token, keyed_tokens}
use Rattle.yl_marks.specs.Marks as k
use Rattle.yl_marks.specs.Marks.{closes_collection, collections_left, closings, closings_of_all, collection_to_open, opening, key_mark, marks_at, marking, marks, symbols_of_lexemes}
use Rattle.yl_events.specs.declared.symbol.Outline.{Outline}
use Rattle.yl_events.specs.declared.symbol.Shape.{Shape}
use Rattle.yl_events.specs.declared.symbol.Shape.TheVariants.{Alias}
use Rattle.yl_events.specs.Trail.{TrailValue, no_trail}
use Rattle.yl_events.specs.DocumentOutcome.{Events, document_outcome}
use Rattle.yl_events.specs.Machine as m
use Rattle.yl_events.specs.Machine.{run, taken_count}
use Rattle.yl_events.specs.SymbolParsing.{symbols_at_start, outcome_of_symbols}
use Rattle.yl_events.specs.Parsing.{start_events}
use Rattle.yl_events.specs.Derives.{Derives}
use Rattle.yl_events.specs.Event.{EventAnchorValue, event_of_outline, kind_of, anchor_of, value_at, start_at, value_of, start_of}
use Rattle.yl_events.proofs.Answered.{complete}
use Rattle.yl_pieces.specs.References.{Reference, Declares, Uses, NamedReference, DeclaresName, UsesName, alias_reference, anchor_reference, reference_of_symbol, alias_of_event, anchor_of_event, references_of_event, named_reference, reference_of_lexeme, anchor_of_alias, ReferencesAreLexemes, AnchorsAreLexemes, AliasesHaveNoAnchors}
use Rattle.yl_pieces.proofs.ReferencesTold.{is_alias, of_anchor, of_kind, of_symbol, events_tell_symbols}

-- ---- by index

abbrev index_declares : ℕ → List Reference
index_declares i = Declares i ∷ []

abbrev index_uses : ℕ → List Reference
index_uses i = Uses i ∷ []

abbrev index_tell : Shape → Option ℕ → Option ℕ → List Reference
index_tell kind place anchor = alias_reference kind place ++ anchor_reference anchor

index_other : (kind : Shape) (place anchor : Option ℕ) → is_alias kind ≡ false → index_tell kind place anchor ≡ of_anchor index_declares anchor
index_other Alias place anchor e = cc
index_other _ place None e = refl
index_other _ place (Some i) e = refl

index_symbol : (w : Symbol) → of_symbol index_declares index_uses w ≡ reference_of_symbol w
index_symbol (One Kind.Anchor i) = refl
index_symbol (One Kind.Alias i) = refl
index_symbol _ = refl

index_symbols : (ws : List Symbol) → flat_map (of_symbol index_declares index_uses) ws ≡ flat_map reference_of_symbol ws
index_symbols [] = refl
index_symbols (w ∷ ws) =
    ap (λ (rs : List Reference). rs ++ flat_map (of_symbol index_declares index_uses) ws) (index_symbol w) ∙ ap (λ (rs : List Reference). reference_of_symbol w ++ rs) (index_symbols ws)

pub references_are_lexemes : ReferencesAreLexemes
references_are_lexemes ws es e = events_tell_symbols index_tell index_declares index_uses (λ i. refl) index_other ws es e ∙ index_symbols ws

-- ---- the symbols of lexemes

module _ {A : Type 0} (declares uses : ℕ → List A) where
  abbrev among : List Symbol → List A
  among ws = flat_map (of_symbol declares uses) ws

  among_none : (ws vs : List Symbol) → among ws ≡ [] → among (ws ++ vs) ≡ among vs
  among_none ws vs e = flat_map-append (of_symbol declares uses) ws vs ∙ ap (λ (rs : List A). rs ++ among vs) e

  closings_none : (n : Marking) (cs : List OpenBlock) → among (closings n cs) ≡ []
  closings_none n [] = refl
  closings_none n (c ∷ cs) = by_case (closes_collection n c) (closings_none n cs)
    where
      by_case : (b : Bool) → among (closings n cs) ≡ [] → among (if b then Close ∷ closings n cs else []) ≡ []
      by_case true h = h
      by_case false h = refl

  opening_none : (new : Option Bool) (i : ℕ) → among (opening new i) ≡ []
  opening_none None i = refl
  opening_none (Some true) i = refl
  opening_none (Some false) i = refl

  key_none : (b : Bool) (i : ℕ) → among (key_mark b i) ≡ []
  key_none true i = refl
  key_none false i = refl

  all_closed_none : (cs : List OpenBlock) → among (closings_of_all cs) ≡ []
  all_closed_none [] = refl
  all_closed_none (c ∷ cs) = all_closed_none cs

  among_marks_at : (n : Marking) (i : ℕ) (cs : List OpenBlock) → among (marks_at n i cs) ≡ of_kind declares uses n.piece.kind i
  among_marks_at n i cs =
      let new = collection_to_open n (collections_left n cs) in
      among_none (closings n cs ++ opening new i ++ key_mark n.begins_key i) (One n.piece.kind i ∷ [])
      (among_none (closings n cs ++ opening new i) (key_mark n.begins_key i) (among_none (closings n cs) (opening new i) (closings_none n cs) ∙ opening_none new i) ∙ key_none n.begins_key i)
      ∙ append-nil (of_kind declares uses n.piece.kind i)

  -- those of lexemes from this index on
  abbrev from_index : ℕ → List KeyedToken → List A
  from_index i [] = []
  from_index i (p ∷ ps) = of_kind declares uses p.kind i ++ from_index (suc i) ps

  among_marks : (all : List KeyedToken) (cs : List OpenBlock) (i : ℕ) (ps : List KeyedToken) → among (marks all cs i ps) ≡ from_index i ps
  among_marks all cs i [] = refl
  among_marks all cs i (p ∷ ps) =
      let n = marking all i p in
      flat_map-append (of_symbol declares uses) (marks_at n i cs) (marks all (k.open_behind n cs) (suc i) ps)
      ∙ ap (λ (rs : List A). rs ++ among (marks all (k.open_behind n cs) (suc i) ps)) (among_marks_at n i cs)
      ∙ ap (λ (rs : List A). of_kind declares uses p.kind i ++ rs) (among_marks all (k.open_behind n cs) (suc i) ps)

  among_symbols : (xs : List LexemeValue) → among (symbols_of_lexemes xs) ≡ from_index 0 (keyed_tokens [] (map token_of xs))
  among_symbols xs =
      let all = keyed_tokens [] (map token_of xs) in
      flat_map-append (of_symbol declares uses) (marks all [] 0 all) (closings_of_all (k.open_behind_all all [] 0 all))
      ∙ ap (λ (rs : List A). among (marks all [] 0 all) ++ rs) (all_closed_none (k.open_behind_all all [] 0 all))
      ∙ append-nil (among (marks all [] 0 all))
      ∙ among_marks all [] 0 all

-- ---- by name and place

derived_outcome : (t : TrailValue) (count place : ℕ) (ws : List Symbol) (r : Option (List Outline)) (es : List Outline) → m.events_with_end r ≡ Some es →
    document_outcome t count place ws r ≡ Events es
derived_outcome t count place ws None es e = cc
derived_outcome t count place ws (Some os) es e = cc

outcome_of_derived : (ws : List Symbol) (es : List Outline) → Derives ws es → outcome_of_symbols symbols_at_start 0 start_events ws ≡ Events es
outcome_of_derived ws es d =
    derived_outcome no_trail 0 (taken_count ws m.goals_of_document start_events) ws (run ws m.goals_of_document start_events) es (complete ws es d)

module _ (xs : List LexemeValue) where
  abbrev name_declares : ℕ → List NamedReference
  name_declares i = DeclaresName (value_at xs i) (start_at xs i) ∷ []

  abbrev name_uses : ℕ → List NamedReference
  name_uses i = UsesName (value_at xs i) (Some (start_at xs i)) ∷ []

  abbrev name_tell : Shape → Option ℕ → Option ℕ → List NamedReference
  name_tell kind place anchor = alias_of_event (kind_of xs kind place) (option_map (start_at xs) place) ++ anchor_of_event (anchor_of xs anchor)

  name_other : (kind : Shape) (place anchor : Option ℕ) → is_alias kind ≡ false → name_tell kind place anchor ≡ of_anchor name_declares anchor
  name_other Alias place anchor e = cc
  name_other _ place None e = refl
  name_other _ place (Some i) e = refl

  kind_named : (kind : Kind) (i : ℕ) → of_kind name_declares name_uses kind i ≡ named_reference kind (value_at xs i) (start_at xs i)
  kind_named Kind.Anchor i = refl
  kind_named Kind.Alias i = refl
  kind_named _ i = refl

  lexemes_named : (before : List KeyedToken) (i : ℕ) (ys : List LexemeValue) → ((j : ℕ) → slice_get xs (i + j) ≡ slice_get ys j) →
      from_index name_declares name_uses i (keyed_tokens before (map token_of ys)) ≡ flat_map reference_of_lexeme ys
  lexemes_named before i [] h = refl
  lexemes_named before i (y ∷ ys) h =
      let here : slice_get xs i ≡ Some y = ap (slice_get xs) {x = i} {y = i + 0} (omega arith) ∙ h 0 in
      let p = keyed_token (token_of y) before in
      ap (λ (rs : List NamedReference). rs ++ from_index name_declares name_uses (suc i) (keyed_tokens (p ∷ before) (map token_of ys)))
      (kind_named y.kind i ∙ ap (λ z. named_reference y.kind (value_of z) (start_of z)) here)
      ∙ ap (λ (rs : List NamedReference). reference_of_lexeme y ++ rs)
      (lexemes_named (p ∷ before) (suc i) ys (λ j. ap (slice_get xs) {x = suc i + j} {y = i + suc j} (omega arith) ∙ h (suc j)))

  abbrev both_tell : Shape → Option ℕ → Option ℕ → List EventAnchorValue
  both_tell kind place anchor = anchor_of_alias (kind_of xs kind place) (anchor_of xs anchor)

  both_other : (kind : Shape) (place anchor : Option ℕ) → is_alias kind ≡ false → both_tell kind place anchor ≡ of_anchor (λ i. []) anchor
  both_other Alias place anchor e = cc
  both_other _ place None e = refl
  both_other _ place (Some i) e = refl

nothing_heard : {A : Type 0} (w : Symbol) → of_symbol {A = A} (λ i. []) (λ i. []) w ≡ []
nothing_heard (One Kind.Anchor i) = refl
nothing_heard (One Kind.Alias i) = refl
nothing_heard _ = refl

nothing_among : {A : Type 0} (ws : List Symbol) → flat_map (of_symbol {A = A} (λ i. []) (λ i. [])) ws ≡ []
nothing_among [] = refl
nothing_among {A = A} (w ∷ ws) = ap (λ (rs : List A). rs ++ flat_map (of_symbol {A = A} (λ i. []) (λ i. [])) ws) (nothing_heard w) ∙ nothing_among ws

pub anchors_are_lexemes : AnchorsAreLexemes
anchors_are_lexemes xs es b =
    let ws = symbols_of_lexemes xs in
    ap (flat_map references_of_event) b.filled
    ∙ flat_map-map references_of_event (event_of_outline xs) b.outlines
    ∙ events_tell_symbols (name_tell xs) (name_declares xs) (name_uses xs) (λ i. refl) (name_other xs) ws b.outlines (outcome_of_derived ws b.outlines b.derived)
    ∙ among_symbols (name_declares xs) (name_uses xs) xs
    ∙ lexemes_named xs [] 0 xs (λ j. ap (slice_get xs) {x = 0 + j} {y = j} (omega arith))

pub aliases_have_no_anchors : AliasesHaveNoAnchors
aliases_have_no_anchors xs es b =
    let ws = symbols_of_lexemes xs in
    ap (flat_map (λ e. anchor_of_alias e.kind e.anchor)) b.filled
    ∙ flat_map-map (λ e. anchor_of_alias e.kind e.anchor) (event_of_outline xs) b.outlines
    ∙ events_tell_symbols (both_tell xs) (λ i. []) (λ i. []) (λ i. refl) (both_other xs) ws b.outlines (outcome_of_derived ws b.outlines b.derived)
    ∙ nothing_among ws
