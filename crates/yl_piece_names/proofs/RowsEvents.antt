-- The events of rows, where they stand, and those of the document's end.
use Rattle.std.proofs.Common.{◌≡◌, ℕ, ◌+◌, ◌-◌, ◌≤◌, ◌<◌, arith, List, [], ◌∷◌, map, length, Option, Some, None, refl, sym, ◌∙◌, ap}
use Rattle.std.specs.Prelude.{IfSome, option_map, slice_get}
use Rattle.std.specs.List.{AllByRecursion}
use Rattle.yl_text.specs.declared.position.Pos.{Pos}
use Rattle.yl_text.proofs.Every.{all_both, all_got}
use Rattle.yl_lexeme.specs.Lexeme.{LexemeValue}
use Rattle.yl_marks.specs.declared.symbol.Symbol.{Symbol}
use Rattle.yl_marks.specs.Marks.{closings_of_all}
use Rattle.yl_events.specs.declared.symbol.Outline.{Outline}
use Rattle.yl_events.specs.DocumentOutcome.{document_outcome}
use Rattle.yl_events.specs.Event.{EventAnchorValue, EventValue, start_of}
use Rattle.yl_events.specs.Machine.{run, taken_count}
use Rattle.yl_events.specs.SymbolParsing.{outcome_of_symbols}
use Rattle.yl_events.specs.Trail.{TrailValue}
use Rattle.yl_events.proofs.Named.{closings_named}
use Rattle.yl_tree.specs.Keys.{name_of}
use Rattle.yl_record.specs.Records.{RecordValue}
use Rattle.yl_sections.specs.Sections.{lexemes_from}
use Rattle.yl_sections.proofs.RowJudging.{some_at}
use Rattle.yl_pieces.specs.State.{DocumentState}
use Rattle.yl_pieces.specs.DuplicatesOfRuns.{anchor_below, event_below, place_below}
use Rattle.yl_pieces.specs.Events.{end_events, event_alone, events_in, outlines_in, outlines_of}
use Rattle.yl_pieces.proofs.EventsBelow.{events_below}
use Rattle.yl_pieces.proofs.EventsNamed.{IsWithin, outlines_run, rows_within, run_within}
use Rattle.yl_pieces.proofs.JoinedLines.{all_above, all_below}
use Rattle.yl_pieces.proofs.PatchedLists.{map_moved}
use Rattle.yl_piece_names.specs.Moved.{IfNamed, IsAbove, IsFrom, IsIn, anchor_moved, event_moved, place_moved}

-- ---- the rows in which they stand

abbrev pub StartsIn : (line rows : ℕ) → LexemeValue → Type 0
StartsIn line rows x = (line ≤ x.start.line) × (x.start.line < line + rows)

both : (line rows : ℕ) (xs : List LexemeValue) → AllByRecursion (λ (x : LexemeValue). line ≤ x.start.line) xs → AllByRecursion (λ (x : LexemeValue). x.start.line < line + rows) xs
    → AllByRecursion (StartsIn line rows) xs
both line rows [] h k = tt
both line rows (x ∷ xs) h k = ((h.0, k.0), both line rows xs h.1 k.1)

pub lexemes_in : (line : ℕ) (rs : List RecordValue) → AllByRecursion (StartsIn line (length rs)) (lexemes_from line rs)
lexemes_in line rs = both line (length rs) (lexemes_from line rs) (all_below line rs) (all_above line rs)

got : (line rows : ℕ) (xs : List LexemeValue) (i : ℕ) → i < length xs → AllByRecursion (StartsIn line rows) xs → IfSome (slice_get xs i) (StartsIn line rows)
got line rows xs i h k = all_got (StartsIn line rows) xs i k

at_lexeme : (line rows : ℕ) (x : LexemeValue) (o : Option LexemeValue) → o ≡ Some x → IfSome o (StartsIn line rows) → IsIn line rows (Some (start_of o))
at_lexeme line rows x None e h = cc
at_lexeme line rows x (Some y) e h = h

module _ (line rows : ℕ) (xs : List LexemeValue) (starts : AllByRecursion (StartsIn line rows) xs) where
  place_in : (place : Option ℕ) → IfSome place (λ i. i < length xs) → IsIn line rows (option_map (λ i. start_of (slice_get xs i)) place)
  place_in None h = tt
  place_in (Some i) h = let x = some_at xs i h in at_lexeme line rows x.0 (slice_get xs i) x.1 (got line rows xs i h starts)

  all_in : (os : List Outline) → AllByRecursion (IsWithin (length xs)) os → AllByRecursion (λ e. IsIn line rows e.place) (map (event_alone xs) os)
  all_in [] h = tt
  all_in (o ∷ os) h = (place_in o.place h.0, all_in os h.1)

pub events_stand : (s : DocumentState) (line : ℕ) (rs : List RecordValue) → AllByRecursion (λ e. IsIn line (length rs) e.place) (events_in s line rs)
events_stand s line rs = all_in line (length rs) (lexemes_from line rs) (lexemes_in line rs) (outlines_in s line rs) (rows_within s line rs)

-- ---- what follows from where a place is

pub in_above : (rows : ℕ) (place : Option Pos) → IsIn 0 rows place → IsAbove rows place
in_above rows None h = tt
in_above rows (Some p) h = let above : p.line < 0 + rows = h.1 in omega (arith, above)

pub in_from : (first rows : ℕ) (place : Option Pos) → IsIn first rows place → IsFrom first place
in_from first rows None h = tt
in_from first rows (Some p) h = h.0

if_named : (P : Option Pos → Type 0) (place : Option Pos) (name : Option (List ℕ)) → P place → IfSome name (λ n. P place)
if_named P place None h = tt
if_named P place (Some name) h = h

pub named_in : (P Q : Option Pos → Type 0) (es : List EventValue) → ((place : Option Pos) → P place → Q place) → AllByRecursion (λ e. P e.place) es → AllByRecursion (IfNamed Q) es
named_in P Q [] each h = tt
named_in P Q (e ∷ es) each h = (if_named Q e.place (name_of e) (each e.place h.0), named_in P Q es each h.1)

-- ---- further down

module _ (old new : ℕ) where
  pub place_onto : (p : Pos) → place_moved old new (place_below old p) ≡ place_below new p
  place_onto p = let sum : old + p.line - old + new ≡ new + p.line = omega arith in ap (λ l. record p { line = l }) sum

  pub places_onto : (place : Option Pos) → option_map (place_moved old new) (option_map (place_below old) place) ≡ option_map (place_below new) place
  places_onto None = refl
  places_onto (Some p) = ap (λ q. Some q) (place_onto p)

  anchors_onto : (anchor : Option EventAnchorValue) → option_map (anchor_moved old new) (option_map (anchor_below old) anchor) ≡ option_map (anchor_below new) anchor
  anchors_onto None = refl
  anchors_onto (Some a) = ap (λ q. Some (record a { place = q })) (place_onto a.place)

  event_onto : (e : EventValue) → event_moved old new (event_below old e) ≡ event_below new e
  event_onto e = λ i. record e { place = places_onto e.place i; anchor = anchors_onto e.anchor i }

  -- rows that stand below others of which so many went and so many came
  pub events_onto : (s : DocumentState) (n : ℕ) (rs : List RecordValue) → 0 < n → map (event_moved old new) (events_in s (n + old) rs) ≡ events_in s (n + new) rs
  events_onto s n rs far =
      let down : n + old ≡ old + n = omega arith in
      let up : n + new ≡ new + n = omega arith in
      ap (λ k. map (event_moved old new) (events_in s k rs)) down
      ∙ ap (map (event_moved old new)) (events_below s old n rs far)
      ∙ map_moved (event_below old) (event_below new) (event_moved old new) event_onto (events_in s n rs)
      ∙ sym (events_below s new n rs far)
      ∙ ap (λ k. events_in s k rs) (sym up)

-- rows told from line 1 on
pub events_from_1 : (s : DocumentState) (line : ℕ) (rs : List RecordValue) → 0 < line → events_in s line rs ≡ map (event_below (line - 1)) (events_in s 1 rs)
events_from_1 s line rs far =
    let there : line ≡ line - 1 + 1 = omega (arith, far) in
    ap (λ k. events_in s k rs) there ∙ events_below s (line - 1) 1 rs (omega arith)

-- ---- the document's end

outcome_within : (t : TrailValue) (count place : ℕ) (ws : List Symbol) (r : Option (List Outline)) → AllByRecursion (IsWithin 0) (outlines_run r)
    → AllByRecursion (IsWithin 0) (outlines_of (document_outcome t count place ws r))
outcome_within t count place ws None h = tt
outcome_within t count place ws (Some es) h = all_both (IsWithin 0) es _ h (tt, tt)

end_within : (s : DocumentState) → AllByRecursion (IsWithin 0) (outlines_of (outcome_of_symbols s.parser 0 [] (closings_of_all s.marker.marks.open_ones)))
end_within s =
    let ws = closings_of_all s.marker.marks.open_ones in
    outcome_within s.parser.trail 0 (taken_count ws s.parser.goals []) ws (run ws s.parser.goals []) (run_within 0 ws s.parser.goals (closings_named (λ i. i < 0) s.marker.marks.open_ones))

no_place : (P : Option Pos → Type 0) (start : ℕ → Pos) (place : Option ℕ) → P None → IfSome place (λ i. i < 0) → P (option_map start place)
no_place P start None h k = h
no_place P start (Some i) h k = absurd (omega (arith, k))

-- no event of it has a place
end_places : (P : Option Pos → Type 0) → P None → (os : List Outline) → AllByRecursion (IsWithin 0) os → AllByRecursion (λ e. P e.place) (map (event_alone []) os)
end_places P h [] k = tt
end_places P h (o ∷ os) k = (no_place P (λ i. start_of (slice_get [] i)) o.place h k.0, end_places P h os k.1)

pub end_stands : (P : Option Pos → Type 0) (s : DocumentState) → P None → AllByRecursion (λ e. P e.place) (end_events s)
end_stands P s h = end_places P h (outlines_of (outcome_of_symbols s.parser 0 [] (closings_of_all s.marker.marks.open_ones))) (end_within s)

one_stays : (old new : ℕ) (start : ℕ → Pos) (place : Option ℕ) → IfSome place (λ i. i < 0) → option_map (place_moved old new) (option_map start place) ≡ option_map start place
one_stays old new start None h = refl
one_stays old new start (Some i) h = absurd (omega (arith, h))

all_stay : (old new : ℕ) (os : List Outline) → AllByRecursion (IsWithin 0) os → map (event_moved old new) (map (event_alone []) os) ≡ map (event_alone []) os
all_stay old new [] h = refl
all_stay old new (o ∷ os) h =
    λ i. record (event_alone [] o) { place = one_stays old new (λ j. start_of (slice_get [] j)) o.place h.0 i } ∷ all_stay old new os h.1 i

-- so it stays where lines move
pub end_stays : (old new : ℕ) (s : DocumentState) → map (event_moved old new) (end_events s) ≡ end_events s
end_stays old new s = all_stay old new (outlines_of (outcome_of_symbols s.parser 0 [] (closings_of_all s.marker.marks.open_ones))) (end_within s)
