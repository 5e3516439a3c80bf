-- Some lines' problems in place of others.
use Rattle.std.proofs.Common.{◌≡◌, ℕ, zero, suc, ◌+◌, ◌-◌, ◌≤◌, Bool, true, false, cond, List, [], ◌∷◌, ◌++◌, map, take, drop, length, refl, ap, sym, ◌∙◌, arith, length-append}
use Rattle.std.specs.List.{AllByRecursion, prefix_len, splice}
use Rattle.std.proofs.lemmas.Bool.{leb-false, leb-true}
use Rattle.std.proofs.lemmas.List.{length-map, length-take-le, length-drop}
use Rattle.yl_report.specs.Report.{ProblemValue}
use Rattle.yl_problem_lists.specs.Order.{IsInOrder}
use Rattle.yl_problem_lists.specs.Parts.{above, behind, is_upto, shifted}
use Rattle.yl_problem_lists.proofs.Ordered.{all_behind}

-- ---- nothing is shifted

pub part : {X : Type 0} (k : ℕ) (xs : List X) → take k xs ++ drop k xs ≡ xs
part zero xs = refl
part (suc k) [] = refl
part (suc k) (x ∷ xs) = ap (λ ys. x ∷ ys) (part k xs)

same_problem : (n : ℕ) (p : ProblemValue) → n ≤ p.line → shifted n n p ≡ p
same_problem n p l = let line : p.line - n + n ≡ p.line = omega (arith, l) in λ i. record { line = line i; column = p.column; level = p.level; rule = p.rule; message = p.message }

pub same_problems : (n : ℕ) (ps : List ProblemValue) → AllByRecursion (λ q. is_upto n q ≡ false) ps → map (shifted n n) ps ≡ ps
same_problems n [] a = refl
same_problems n (p ∷ ps) a =
    let first = same_problem n p (omega (arith, leb-false p.line n a.0)) in let rest = same_problems n ps a.1 in λ i. first i ∷ rest i

-- where those behind the lines stand behind as many
pub not_shifted : (n m : ℕ) (ps : List ProblemValue) → n ≡ m → IsInOrder ps → ps ≡ above n ps ++ map (shifted n m) (behind n ps)
not_shifted n m ps e s =
    sym (part (prefix_len (is_upto n) ps) ps)
    ∙ ap (λ qs. above n ps ++ qs) (sym (ap (λ k. map (shifted n k) (behind n ps)) (sym e) ∙ same_problems n (behind n ps) (all_behind n ps s)))

-- ---- in place of others

front : {X : Type 0} (a b : ℕ) (ps ms : List X) → a ≤ b → b ≤ length ps → take a (take b ps ++ ms) ≡ take a ps
front zero b ps ms l h = refl
front (suc a) zero ps ms l h = absurd (omega (arith, l))
front (suc a) (suc b) [] ms l h = absurd (omega (arith, h))
front (suc a) (suc b) (p ∷ ps) ms l h = ap (λ qs. p ∷ qs) (front a b ps ms (omega (arith, l)) (omega (arith, h)))

back : {X : Type 0} (b : ℕ) (ps ms : List X) → b ≤ length ps → drop b (take b ps ++ ms) ≡ ms
back zero ps ms h = refl
back (suc b) [] ms h = absurd (omega (arith, h))
back (suc b) (p ∷ ps) ms h = back b ps ms (omega (arith, h))

pub spliced : {X : Type 0} (ps ms ns all : List X) (a b : ℕ) → a ≤ b → b ≤ length ps → all ≡ take b ps ++ ms → splice all a b ns ≡ take a ps ++ (ns ++ ms)
spliced ps ms ns all a b l h e =
    ap (λ xs. splice xs a b ns) e ∙ (ap (λ xs. xs ++ (ns ++ drop b (take b ps ++ ms))) (front a b ps ms l h) ∙ ap (λ xs. take a ps ++ (ns ++ xs)) (back b ps ms h))

pub upto_more : (a b : ℕ) (ps : List ProblemValue) → a ≤ b → prefix_len (is_upto a) ps ≤ prefix_len (is_upto b) ps
upto_more a b [] l = omega arith
upto_more a b (p ∷ ps) l = at (is_upto a p) (is_upto b p) refl refl (upto_more a b ps l)
  where
    at : (x y : Bool) → is_upto a p ≡ x → is_upto b p ≡ y → prefix_len (is_upto a) ps ≤ prefix_len (is_upto b) ps → cond x (1 + prefix_len (is_upto a) ps) 0 ≤ cond y (1 + prefix_len (is_upto b) ps) 0
    at true true e d h = omega (arith, h)
    at true false e d h = absurd (omega (arith, leb-true p.line a e, leb-false p.line b d, l))
    at false true e d h = omega arith
    at false false e d h = omega arith

-- how long the list is then
pub length_shifted : {X : Type 0} (s : X → X) (ps all : List X) (b : ℕ) → b ≤ length ps → all ≡ take b ps ++ map s (drop b ps) → length all ≡ length ps
length_shifted s ps all b h e = omega (arith, ap length e, length-append (take b ps) (map s (drop b ps)), length-take-le b ps h, length-map (drop b ps) s, length-drop b ps)

pub length_spliced : {X : Type 0} (s : X → X) (ps ns all : List X) (a b : ℕ) → a ≤ b → b ≤ length ps → all ≡ take a ps ++ (ns ++ map s (drop b ps)) → length all ≤ length ps + length ns
length_spliced s ps ns all a b l h e =
    omega (arith, ap length e, length-append (take a ps) (ns ++ map s (drop b ps)), length-append ns (map s (drop b ps)), length-take-le a ps (omega (arith, l, h)), length-map (drop b ps) s, length-drop b ps)
