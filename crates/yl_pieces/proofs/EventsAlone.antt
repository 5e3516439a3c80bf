-- The events of outlines, read off lexemes: off more of them, off others before them, and off the
-- same ones further down.
use Rattle.std.proofs.Common.{◌≡◌, ◌<◌, ◌+◌, ℕ, zero, suc, Bool, List, [], ◌∷◌, ◌++◌, length, map, Option, Some, None, refl, sym, ◌∙◌, ap, arith}
use Rattle.std.specs.Prelude.{IfSome, option_map, slice_get}
use Rattle.std.specs.List.{AllByRecursion}
use Rattle.std.specs.Option.{option_map_or}
use Rattle.std.proofs.lemmas.Option.{slice_get-map}
use Rattle.yl_text.specs.declared.position.Pos.{Pos}
use Rattle.yl_lexeme.specs.Lexeme.{LexemeValue}
use Rattle.yl_events.specs.declared.symbol.Outline.{Outline}
use Rattle.yl_events.specs.declared.symbol.Shape.{Shape}
use Rattle.yl_events.specs.declared.symbol.Shape.TheVariants as shape
use Rattle.yl_events.specs.Event.{AliasOf, DocumentEnd, DocumentStart, Empty, EventKindValue, EventValue, MappingEnd, MappingStart, ScalarOf, SequenceEnd, SequenceStart, content_value, kind_of, start_at, start_of, value_of}
use Rattle.yl_events.specs.ParsedAlike.{outline_after, outline_shape}
use Rattle.yl_lexeme_rules.specs.LexemesAlike.{lexeme_below}
use Rattle.yl_sections.proofs.Lines.{get_after, get_before}
use Rattle.yl_pieces.specs.DuplicatesOfRuns.{event_below}
use Rattle.yl_pieces.specs.Events.{event_alone}
use Rattle.yl_pieces.proofs.EventsNamed.{IsWithin}

-- ---- an event by the lexeme at its place

-- the lexeme at the place, if there is a place
abbrev pub looked_up : List LexemeValue → Option ℕ → Option (Option LexemeValue)
looked_up xs place = option_map (slice_get xs) place

abbrev pub value_there : Option (Option LexemeValue) → List ℕ
value_there x = option_map_or value_of x []

abbrev pub kind_with : Shape → List ℕ → EventKindValue
kind_with shape.DocumentStart v = DocumentStart
kind_with shape.DocumentEnd v = DocumentEnd
kind_with shape.SequenceStart v = SequenceStart
kind_with shape.SequenceEnd v = SequenceEnd
kind_with shape.MappingStart v = MappingStart
kind_with shape.MappingEnd v = MappingEnd
kind_with shape.Alias v = AliasOf v
kind_with (shape.Scalar style) v = ScalarOf style v
kind_with shape.Empty v = Empty

abbrev pub event_with : EventKindValue → Option Pos → Bool → EventValue
event_with kind place is_tagged = record { kind = kind; place = place; anchor = None; is_tagged = is_tagged }

abbrev pub event_there : Outline → Option (Option LexemeValue) → EventValue
event_there o x = event_with (kind_with o.kind (value_there x)) (option_map start_of x) o.is_tagged

kind_is : (xs : List LexemeValue) (kind : Shape) (place : Option ℕ) → kind_of xs kind place ≡ kind_with kind (content_value xs place)
kind_is xs shape.DocumentStart place = refl
kind_is xs shape.DocumentEnd place = refl
kind_is xs shape.SequenceStart place = refl
kind_is xs shape.SequenceEnd place = refl
kind_is xs shape.MappingStart place = refl
kind_is xs shape.MappingEnd place = refl
kind_is xs shape.Alias place = refl
kind_is xs (shape.Scalar style) place = refl
kind_is xs shape.Empty place = refl

by_place : (xs : List LexemeValue) (kind : Shape) (is_tagged : Bool) (place : Option ℕ)
    → event_with (kind_with kind (content_value xs place)) (option_map (start_at xs) place) is_tagged
    ≡ event_with (kind_with kind (value_there (looked_up xs place))) (option_map start_of (looked_up xs place)) is_tagged
by_place xs kind is_tagged None = refl
by_place xs kind is_tagged (Some i) = refl

pub alone_is : (xs : List LexemeValue) (o : Outline) → event_alone xs o ≡ event_there o (looked_up xs o.place)
alone_is xs o =
    ap (λ (k : EventKindValue). event_with k (option_map (start_at xs) o.place) o.is_tagged) (kind_is xs o.kind o.place) ∙ by_place xs o.kind o.is_tagged o.place

-- ---- off more lexemes

found_front : (xs ys : List LexemeValue) (place : Option ℕ) → IfSome place (λ i. i < length xs) → looked_up (xs ++ ys) place ≡ looked_up xs place
found_front xs ys None h = refl
found_front xs ys (Some i) h = ap (λ (x : Option LexemeValue). Some x) (get_before xs ys i h)

pub alone_front : (xs ys : List LexemeValue) (os : List Outline) → AllByRecursion (IsWithin (length xs)) os → map (event_alone (xs ++ ys)) os ≡ map (event_alone xs) os
alone_front xs ys [] h = refl
alone_front xs ys (o ∷ os) h =
    ap (λ (e : EventValue). e ∷ map (event_alone (xs ++ ys)) os)
    (alone_is (xs ++ ys) o ∙ ap (event_there o) (found_front xs ys o.place h.0) ∙ sym (alone_is xs o))
    ∙ ap (λ (es : List EventValue). event_alone xs o ∷ es) (alone_front xs ys os h.1)

-- ---- off lexemes after others

found_after : (xs ys : List LexemeValue) (place : Option ℕ) → looked_up (xs ++ ys) (option_map (λ i. length xs + i) place) ≡ looked_up ys place
found_after xs ys None = refl
found_after xs ys (Some i) = ap (λ (x : Option LexemeValue). Some x) (get_after xs ys i)

pub alone_after : (xs ys : List LexemeValue) (os : List Outline) → map (event_alone (xs ++ ys)) (map (outline_after (length xs)) (map outline_shape os)) ≡ map (event_alone ys) os
alone_after xs ys [] = refl
alone_after xs ys (o ∷ os) =
    let later = outline_after (length xs) (outline_shape o) in
    ap (λ (e : EventValue). e ∷ map (event_alone (xs ++ ys)) (map (outline_after (length xs)) (map outline_shape os)))
    (alone_is (xs ++ ys) later ∙ ap (event_there o) (found_after xs ys o.place) ∙ sym (alone_is ys o))
    ∙ ap (λ (es : List EventValue). event_alone ys o ∷ es) (alone_after xs ys os)

-- off no lexemes, wherever they begin
found_nowhere : (n : ℕ) (place : Option ℕ) → looked_up [] (option_map (λ i. n + i) place) ≡ looked_up [] place
found_nowhere n None = refl
found_nowhere n (Some i) = refl

pub alone_nowhere : (n : ℕ) (os : List Outline) → map (event_alone []) (map (outline_after n) (map outline_shape os)) ≡ map (event_alone []) os
alone_nowhere n [] = refl
alone_nowhere n (o ∷ os) =
    let later = outline_after n (outline_shape o) in
    ap (λ (e : EventValue). e ∷ map (event_alone []) (map (outline_after n) (map outline_shape os)))
    (alone_is [] later ∙ ap (event_there o) (found_nowhere n o.place) ∙ sym (alone_is [] o))
    ∙ ap (λ (es : List EventValue). event_alone [] o ∷ es) (alone_nowhere n os)

-- ---- off the same lexemes further down

got : (xs : List LexemeValue) (i : ℕ) → i < length xs → (x : LexemeValue) × (slice_get xs i ≡ Some x)
got [] i h = absurd (omega (arith, h))
got (x ∷ xs) zero h = (x, refl)
got (x ∷ xs) (suc i) h = got xs i (omega (arith, h))

below_there : (n : ℕ) (xs : List LexemeValue) (o : Outline) (place : Option ℕ) → IfSome place (λ i. i < length xs)
    → event_there o (looked_up (map (lexeme_below n) xs) place) ≡ event_below n (event_there o (looked_up xs place))
below_there n xs o None h = refl
below_there n xs o (Some i) h =
    let x = got xs i h in
    ap (λ (y : Option LexemeValue). event_there o (Some y)) (slice_get-map (lexeme_below n) xs i ∙ ap (option_map (lexeme_below n)) x.1)
    ∙ sym (ap (λ (y : Option LexemeValue). event_below n (event_there o (Some y))) x.1)

pub alone_below : (n : ℕ) (xs : List LexemeValue) (os : List Outline) → AllByRecursion (IsWithin (length xs)) os
    → map (event_alone (map (lexeme_below n) xs)) os ≡ map (event_below n) (map (event_alone xs) os)
alone_below n xs [] h = refl
alone_below n xs (o ∷ os) h =
    ap (λ (e : EventValue). e ∷ map (event_alone (map (lexeme_below n) xs)) os)
    (alone_is (map (lexeme_below n) xs) o ∙ below_there n xs o o.place h.0 ∙ sym (ap (event_below n) (alone_is xs o)))
    ∙ ap (λ (es : List EventValue). event_below n (event_alone xs o) ∷ es) (alone_below n xs os h.1)
