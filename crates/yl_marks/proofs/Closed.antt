-- Closing collections needs no order.
use Rattle.std.proofs.Common.{◌≡◌, ◌<◌, ◌≤◌, ℕ, zero, suc, length, drop, sym, append_assoc, append-nil, arith, List, [], ◌∷◌, ◌++◌, reverse, refl, ◌∙◌, ap}
use Rattle.std.proofs.lemmas.List.{drop_all, reverse-append}
use Rattle.yl_marks.specs.declared.symbol.Symbol.{Symbol}
use Rattle.yl_marks.specs.declared.symbol.Symbol.TheVariants.{Close}
use Rattle.yl_marks.specs.declared.symbol.OpenBlock.{OpenBlock}
use Rattle.yl_marks.specs.Marks.{closings_of_all}

one_more : (xs : List OpenBlock) (x : OpenBlock) → closings_of_all (xs ++ x ∷ []) ≡ Close ∷ closings_of_all xs
one_more [] x = refl
one_more (y ∷ xs) x = ap (λ ws. Close ∷ ws) (one_more xs x)

pub all_closed-reverse : (xs : List OpenBlock) → closings_of_all (reverse xs) ≡ closings_of_all xs
all_closed-reverse [] = refl
all_closed-reverse (x ∷ xs) = ap closings_of_all (reverse-append (x ∷ []) xs) ∙ one_more (reverse xs) x ∙ ap (λ ws. Close ∷ ws) (all_closed-reverse xs)

closed_next : (cs : List OpenBlock) (i j : ℕ) → j ≡ suc i → i < length cs → closings_of_all (drop i cs) ≡ Close ∷ closings_of_all (drop j cs)
closed_next [] i j e h = absurd (omega arith)
closed_next (c ∷ cs) zero j e h = ap (λ n. Close ∷ closings_of_all (drop n (c ∷ cs))) (sym e)
closed_next (c ∷ cs) (suc i) j e h = closed_next cs i (suc i) refl (omega arith) ∙ ap (λ n. Close ∷ closings_of_all (drop n (c ∷ cs))) (sym e)

pub closed_step : (ws vs all : List Symbol) (cs : List OpenBlock) (i j : ℕ) → j ≡ suc i → i < length cs → ws ++ closings_of_all (drop i cs) ≡ all → vs ≡ ws ++ Close ∷ [] →
    vs ++ closings_of_all (drop j cs) ≡ all
closed_step ws vs all cs i j e h g v =
    ap (λ us. us ++ closings_of_all (drop j cs)) v ∙ append_assoc ws (Close ∷ []) (closings_of_all (drop j cs)) ∙ ap (λ us. ws ++ us) (sym (closed_next cs i j e h)) ∙ g

pub closed_end : (ws old : List Symbol) (cs : List OpenBlock) (i : ℕ) → length cs ≤ i → ws ++ closings_of_all (drop i cs) ≡ old ++ closings_of_all cs → ws ≡ old ++ closings_of_all (reverse cs)
closed_end ws old cs i h g =
    sym (append-nil ws) ∙ sym (ap (λ l. ws ++ closings_of_all l) (drop_all i cs h)) ∙ g ∙ ap (λ us. old ++ us) (sym (all_closed-reverse cs))
