-- Lists whose items move down, and symbols that are counted after no lexeme.
use Rattle.std.proofs.Common.{◌≡◌, ◌+◌, ◌-◌, ℕ, List, [], ◌∷◌, map, refl, sym, ◌∙◌, ap, arith, zero-add}
use Rattle.yl_text.specs.Finding.{FindingValue}
use Rattle.yl_marks.specs.declared.symbol.Symbol.{Symbol}
use Rattle.yl_marks.specs.declared.symbol.Symbol.TheVariants.{OpenSequence, OpenMapping, BeginKey, Close, One}
use Rattle.yl_marks.specs.MarksAlike.{symbol_after}
use Rattle.yl_indentation.specs.declared.fact.Fact.{Fact}
use Rattle.yl_indentation.specs.FactsAlike.{fact_below}
use Rattle.yl_lexeme_rules.specs.LexemesAlike.{finding_below}

-- ---- symbols

same_symbol : (w : Symbol) → symbol_after 0 w ≡ w
same_symbol (OpenSequence i) = ap OpenSequence (zero-add i)
same_symbol (OpenMapping i) = ap OpenMapping (zero-add i)
same_symbol (BeginKey i) = ap BeginKey (zero-add i)
same_symbol Close = refl
same_symbol (One kind i) = ap (One kind) (zero-add i)

pub same_symbols : (ws : List Symbol) → map (symbol_after 0) ws ≡ ws
same_symbols [] = refl
same_symbols (w ∷ ws) = ap (λ v. v ∷ map (symbol_after 0) ws) (same_symbol w) ∙ ap (λ vs. w ∷ vs) (same_symbols ws)

pub same_by_count : (vs ws : List Symbol) → map (symbol_after 0) vs ≡ map (symbol_after 0) ws → vs ≡ ws
same_by_count vs ws e = sym (same_symbols vs) ∙ e ∙ same_symbols ws

-- ---- what is told at a line, and at one further down

module _ (A : Type 0) (here there back onto : A → A) (undone : (x : A) → back (here x) ≡ x) (moved : (x : A) → back (there x) ≡ onto x) where
  all_undone : (xs : List A) → map back (map here xs) ≡ xs
  all_undone [] = refl
  all_undone (x ∷ xs) = ap (λ y. y ∷ map back (map here xs)) (undone x) ∙ ap (λ ys. x ∷ ys) (all_undone xs)

  all_moved : (xs : List A) → map back (map there xs) ≡ map onto xs
  all_moved [] = refl
  all_moved (x ∷ xs) = ap (λ y. y ∷ map back (map there xs)) (moved x) ∙ ap (λ ys. onto x ∷ ys) (all_moved xs)

  moved_onto : (xs ys : List A) → map here xs ≡ map there ys → xs ≡ map onto ys
  moved_onto xs ys e = sym (all_undone xs) ∙ ap (map back) e ∙ all_moved ys

module _ (n line : ℕ) where
  back_here : (l : ℕ) → line + l - line ≡ l
  back_here l = omega arith

  back_there : (l : ℕ) → n + line + l - line ≡ n + l
  back_there l = omega arith

  abbrev finding_at : FindingValue → ℕ → FindingValue
  finding_at f l = record f { line = l }

  abbrev fact_at : Fact → ℕ → Fact
  fact_at f l = record { line = l; column = f.column; expectation = f.expectation }

  pub findings_onto : (fs gs : List FindingValue) → map (finding_below line) fs ≡ map (finding_below (n + line)) gs → fs ≡ map (finding_below n) gs
  findings_onto fs gs e =
      moved_onto FindingValue (finding_below line) (finding_below (n + line)) (λ f. finding_at f (f.line - line)) (finding_below n)
      (λ f. ap (finding_at f) (back_here f.line)) (λ f. ap (finding_at f) (back_there f.line)) fs gs e

  pub facts_onto : (fs gs : List Fact) → map (fact_below line) fs ≡ map (fact_below (n + line)) gs → fs ≡ map (fact_below n) gs
  facts_onto fs gs e =
      moved_onto Fact (fact_below line) (fact_below (n + line)) (λ f. fact_at f (f.line - line)) (fact_below n)
      (λ f. ap (fact_at f) (back_here f.line)) (λ f. ap (fact_at f) (back_there f.line)) fs gs e
