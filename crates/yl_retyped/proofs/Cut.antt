-- Rows that are alike one by one are cut alike into sections.
use Rattle.std.proofs.Common.{◌≡◌, ℕ, zero, suc, ◌<◌, ◌≤◌, Bool, true, false, List, [], ◌∷◌, length, take, drop, map, Option, Some, None, refl, ap, sym, ◌∙◌, subst, arith}
use Rattle.std.specs.List.{slice_get}
use Rattle.std.specs.Option.{option_map_or}
use Rattle.yl_events.specs.Cut.{is_beginning}
use Rattle.yl_lexeme.specs.declared.lexeme.Kind.{Kind}
use Rattle.yl_lexeme.specs.Lexeme.{LexemeValue}
use Rattle.yl_record.specs.Records.{RecordValue}
use Rattle.yl_sections.specs.Sections.{Parts, is_section_start, last_kind_from, parts, sections, with_row}

-- lists of one length, whose elements are so related one by one
abbrev pub AllRelated : {X : Type 0} → (X → X → Type 0) → List X → List X → Type 0
AllRelated R [] [] = Unit {0}
AllRelated R [] (y ∷ ys) = ⊥
AllRelated R (x ∷ xs) [] = ⊥
AllRelated R (x ∷ xs) (y ∷ ys) = R x y × AllRelated R xs ys

-- rows with lexemes of the same kinds in the same order
abbrev pub SameKinds : RecordValue → RecordValue → Type 0
SameKinds r s = map (λ x. x.kind) r.entry.lexemes ≡ map (λ x. x.kind) s.entry.lexemes

-- ---- by kinds alone

abbrev kinds : List LexemeValue → List Kind
kinds xs = map (λ x. x.kind) xs

abbrev last_of : Option Kind → List Kind → Option Kind
last_of last [] = last
last_of last (k ∷ ks) = last_of (Some k) ks

abbrev starts : Option Kind → List Kind → Bool
starts last [] = false
starts last (k ∷ ks) = option_map_or (λ (l : Kind). is_beginning l k) last false

last_by_kinds : (last : Option Kind) (xs : List LexemeValue) → last_kind_from last xs ≡ last_of last (kinds xs)
last_by_kinds last [] = refl
last_by_kinds last (x ∷ xs) = last_by_kinds (Some x.kind) xs

starts_by_kinds : (last : Option Kind) (xs : List LexemeValue) → is_section_start last xs ≡ starts last (kinds xs)
starts_by_kinds last [] = refl
starts_by_kinds last (x ∷ xs) = refl

same_last : (last : Option Kind) (r s : RecordValue) → SameKinds r s → last_kind_from last r.entry.lexemes ≡ last_kind_from last s.entry.lexemes
same_last last r s e = last_by_kinds last r.entry.lexemes ∙ ap (last_of last) e ∙ sym (last_by_kinds last s.entry.lexemes)

same_start : (last : Option Kind) (r s : RecordValue) → SameKinds r s → is_section_start last r.entry.lexemes ≡ is_section_start last s.entry.lexemes
same_start last r s e = starts_by_kinds last r.entry.lexemes ∙ ap (starts last) e ∙ sym (starts_by_kinds last s.entry.lexemes)

-- ---- any relation

module _ {X : Type 0} (R : X → X → Type 0) where
  pub alike_refl : ((x : X) → R x x) → (xs : List X) → AllRelated R xs xs
  alike_refl same [] = tt
  alike_refl same (x ∷ xs) = (same x, alike_refl same xs)

  -- lists of one length that are the same but from a place on to before another, where their elements are so related
  pub alike_between : ((x : X) → R x x) → (xs ys : List X) (a b : ℕ) → take a xs ≡ take a ys → drop b xs ≡ drop b ys
      → a ≤ b → b ≤ length xs → length xs ≡ length ys
      → ((i : ℕ) → a ≤ i → i < b → (x y : X) → slice_get xs i ≡ Some x → slice_get ys i ≡ Some y → R x y)
      → AllRelated R xs ys
  alike_between same [] [] a b before behind l m n each = tt
  alike_between same [] (y ∷ ys) a b before behind l m n each = absurd (omega (arith, n))
  alike_between same (x ∷ xs) [] a b before behind l m n each = absurd (omega (arith, n))
  alike_between same (x ∷ xs) (y ∷ ys) zero zero before behind l m n each = subst (AllRelated R (x ∷ xs)) behind (alike_refl same (x ∷ xs))
  alike_between same (x ∷ xs) (y ∷ ys) (suc a) zero before behind l m n each = absurd (omega (arith, l))
  alike_between same (x ∷ xs) (y ∷ ys) zero (suc b) before behind l m n each = (
    each 0 (omega arith) (omega arith) x y refl refl,
    alike_between same xs ys zero b refl behind (omega arith) (omega (arith, m)) (omega (arith, n))
        (λ i o p. each (suc i) (omega arith) (omega (arith, p))),
  )
  alike_between same (x ∷ xs) (y ∷ ys) (suc a) (suc b) before behind l m n each =
      let first : x ≡ y = cc in
      let rest : take a xs ≡ take a ys = cc in (
        subst (R x) first (same x),
        alike_between same xs ys a b rest behind (omega (arith, l)) (omega (arith, m)) (omega (arith, n))
            (λ i o p. each (suc i) (omega (arith, o)) (omega (arith, p))),
      )

-- ---- sections

module _ (R : RecordValue → RecordValue → Type 0) (same : (r s : RecordValue) → R r s → SameKinds r s) where
  abbrev PartsAlike : Parts → Parts → Type 0
  PartsAlike p q = AllRelated R p.here q.here × AllRelated (AllRelated R) p.later q.later

  onto_alike : (b : Bool) (r s : RecordValue) (p q : Parts) → R r s → PartsAlike p q → PartsAlike (with_row b r p) (with_row b s q)
  onto_alike true r s p q h g = (tt, ((h, g.0), g.1))
  onto_alike false r s p q h g = ((h, g.0), g.1)

  parts_alike : (last : Option Kind) (rs ss : List RecordValue) → AllRelated R rs ss → PartsAlike (parts last rs) (parts last ss)
  parts_alike last [] [] h = (tt, tt)
  parts_alike last [] (s ∷ ss) h = absurd h
  parts_alike last (r ∷ rs) [] h = absurd h
  parts_alike last (r ∷ rs) (s ∷ ss) h =
      let kinds_same = same r s h.0 in
      let next = last_kind_from last r.entry.lexemes in
      let start = is_section_start last r.entry.lexemes in
      let p = parts next rs in
      let anew = onto_alike start r s p (parts next ss) h.0 (parts_alike next rs ss h.1) in
      let ends = subst (λ k. PartsAlike (with_row start r p) (with_row start s (parts k ss))) (same_last last r s kinds_same) anew in
      subst (λ b. PartsAlike (with_row start r p) (with_row b s (parts (last_kind_from last s.entry.lexemes) ss))) (same_start last r s kinds_same) ends

  pub sections_alike : (rs ss : List RecordValue) → AllRelated R rs ss → AllRelated (AllRelated R) (sections rs) (sections ss)
  sections_alike rs ss h = parts_alike None rs ss h
