-- What looking back over the earlier lexemes finds is what the scanner keeps of them.
use Rattle.std.proofs.Common.{◌≡◌, ℕ, zero, suc, ◌+◌, ◌-◌, Bool, true, false, cond, List, [], ◌∷◌, ◌++◌, map, Option, refl, ap, sym, ◌∙◌, eqb, add-one, sub-one}
use Rattle.std.proofs.Math.Dec.{eqb-suc-zero}
use Rattle.std.specs.Prelude.{option_map, slice_get}
use Rattle.std.specs.Option.{option_map_or}
use Rattle.yl_lexeme.specs.declared.lexeme.Kind.{Kind}
use Rattle.yl_lexeme.specs.Lexeme.{is_document_marker, is_opening, is_closing}
use Rattle.yl_lexeme.specs.Keys.{key_start}
use Rattle.yl_lexeme.specs.Kept.{KeyUnitValue, all_but_first, key_unit_behind, key_unit_of}
use Rattle.yl_lexeme.specs.Past.{PastLexeme, Context, spot, open_brackets, opens_item, asks_behind, levels, levels_with, is_flow, context_from}
use Rattle.yl_lexeme.specs.Known.{context_of, row_start, new_row, own_column, row_unit, brackets_with, surroundings_of}
use Rattle.yl_lexeme.proofs.Units.{without, without-none, without-one, keeps}

same_if : {A : Type 0} (b : Bool) {x x' y y' : A} → x ≡ x' → y ≡ y' → cond b x y ≡ cond b x' y'
same_if true p q = p
same_if false p q = q

-- ---- brackets

skipped : (n : ℕ) (xs : List PastLexeme) → open_brackets n xs ≡ without n (open_brackets 0 xs)
skipped n [] = sym (without-none n)
skipped n (x ∷ xs) = by_case (is_document_marker x.kind) (is_closing x.kind) (is_opening x.kind) n (λ n. skipped n xs)
  where
    by_case : (m c o : Bool) (n : ℕ) → ((n : ℕ) → open_brackets n xs ≡ without n (open_brackets 0 xs)) →
        cond m [] (cond c (open_brackets (n + 1) xs) (cond o (cond (eqb n 0) (x.kind ∷ open_brackets 0 xs) (open_brackets (n - 1) xs)) (open_brackets n xs)))
        ≡ without n (cond m [] (cond c (open_brackets 1 xs) (cond o (x.kind ∷ open_brackets 0 xs) (open_brackets 0 xs))))
    by_case true c o n ih = sym (without-none n)
    by_case false true o n ih = rw add-one (ih (suc n) ∙ without-one n (open_brackets 0 xs) ∙ sym (ap (without n) (ih 1)))
    by_case false false true zero ih = refl
    by_case false false true (suc n) ih = rw (eqb-suc-zero, sub-one) (ih n)
    by_case false false false n ih = ih n

without-popped-one : {A : Type 0} (xs : List A) → without 1 xs ≡ all_but_first xs
without-popped-one [] = refl
without-popped-one (x ∷ xs) = refl

brackets_same : (x : PastLexeme) (xs : List PastLexeme) → open_brackets 0 (x ∷ xs) ≡ brackets_with x.kind (open_brackets 0 xs)
brackets_same x xs =
    same_if (is_document_marker x.kind) refl
    (same_if (is_closing x.kind) (skipped 1 xs ∙ without-popped-one (open_brackets 0 xs)) refl)

known_brackets : (here older : List PastLexeme) → (surroundings_of here older).brackets ≡ open_brackets 0 (here ++ older)
known_brackets [] older = refl
known_brackets (x ∷ here) older = ap (brackets_with x.kind) (known_brackets here older) ∙ sym (brackets_same x (here ++ older))

known_levels : (here older : List PastLexeme) → (surroundings_of here older).levels ≡ levels (here ++ older)
known_levels [] older = refl
known_levels (x ∷ here) older = ap (levels_with x) (known_levels here older)

-- of the latest lexeme
abbrev pub last_kind : List PastLexeme → Option Kind
last_kind xs = option_map (λ x. x.kind) (slice_get xs 0)

abbrev asks_for_node : List PastLexeme → Bool
asks_for_node xs = option_map_or (λ x. asks_behind x.kind x.key) (slice_get xs 0) false

known_last : (here older : List PastLexeme) → (surroundings_of here older).last ≡ last_kind (here ++ older)
known_last [] older = refl
known_last (x ∷ here) older = refl

known_asks : (here older : List PastLexeme) → (surroundings_of here older).asks ≡ asks_for_node here
known_asks [] older = refl
known_asks (x ∷ here) older = refl

known_row : (here older : List PastLexeme) → row_unit (surroundings_of here older) ≡ key_unit_of (map spot here)
known_row [] older = refl
known_row (x ∷ here) older = ap (key_unit_behind x.kind (own_column x)) (known_row here older)

known_unit : (here older : List PastLexeme) → (surroundings_of here older).unit ≡ key_start (map spot here)
known_unit here older = ap (λ (k : KeyUnitValue ℕ). k.unit) (known_row here older) ∙ keeps (map spot here)

-- ---- all of it

abbrev surrounding : List ℕ → List Kind → Option Kind → Bool → Option ℕ → Context
surrounding ls ks last asks start = record { levels = ls; brackets = ks; last = last; behind = cond (is_flow ks) (opens_item last) asks; start = start }

pub looks : (here older : List PastLexeme) → context_of (surroundings_of here older) ≡ context_from here older
looks here older = λ i. surrounding (known_levels here older i) (known_brackets here older i) (known_last here older i) (known_asks here older i) (known_unit here older i)

pub next_row : (here older : List PastLexeme) → new_row (surroundings_of here older) ≡ surroundings_of [] (here ++ older)
next_row here older = λ i. row_start (known_levels here older i) (known_brackets here older i) (known_last here older i)
