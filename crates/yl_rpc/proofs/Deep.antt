-- Laws of brackets that are counted byte by byte.
use Rattle.std.proofs.Common.{◌≡◌, ℕ, ◌+◌, ◌<◌, ◌≤◌, ◌∙◌, List, length, drop, get_or, true, false, ap, sym, arith}
use Rattle.std.specs.Prelude.{◌||◌, nat_lt}
use Rattle.std.proofs.lemmas.Bool.Decides.{nat_tests}
use Rattle.std.proofs.lemmas.List.{at_drop_all, at_drop_more}
use Rattle.yl_rpc.specs.declared.depth.Stand.{Stand}
use Rattle.yl_rpc.specs.Depth.{goes_deep, next_stand, open_after}

byte_counted : (stand : Stand) (levels : ℕ) (body : List ℕ) (i d : ℕ) → i < length body
    → goes_deep stand levels (drop i body) ≡ (nat_lt 128 (open_after stand levels (get_or body i d)) || goes_deep (next_stand stand (get_or body i d)) (open_after stand levels (get_or body i d)) (drop (i + 1) body))
unfolding goes_deep
byte_counted stand levels body i d h = at_drop_more (goes_deep stand levels) body i d h

-- too many are open after this byte
pub found_deep : (stand : Stand) (levels : ℕ) (body : List ℕ) (i d n : ℕ) → i < length body → n ≡ open_after stand levels (get_or body i d) → 128 < n → goes_deep stand levels (drop i body) ≡ true
found_deep stand levels body i d n h e over =
    let x = get_or body i d in
    let rest = goes_deep (next_stand stand x) (open_after stand levels x) (drop (i + 1) body) in
    let many : nat_lt 128 n ≡ true = grind (arith, nat_tests) in
    byte_counted stand levels body i d h ∙ ap (λ b. b || rest) (ap (nat_lt 128) (sym e) ∙ many)

-- few enough are open after this byte
pub byte_passed : (stand next : Stand) (levels : ℕ) (body : List ℕ) (i d n : ℕ) → i < length body → next ≡ next_stand stand (get_or body i d) → n ≡ open_after stand levels (get_or body i d)
    → n ≤ 128 → goes_deep next n (drop (i + 1) body) ≡ goes_deep stand levels (drop i body)
byte_passed stand next levels body i d n h p e under =
    let x = get_or body i d in
    let rest = goes_deep (next_stand stand x) (open_after stand levels x) (drop (i + 1) body) in
    let few : nat_lt 128 n ≡ false = grind (arith, nat_tests) in
    ap (λ s. goes_deep s n (drop (i + 1) body)) p ∙ ap (λ k. goes_deep (next_stand stand x) k (drop (i + 1) body)) e
    ∙ sym (byte_counted stand levels body i d h ∙ ap (λ b. b || rest) (ap (nat_lt 128) (sym e) ∙ few))

pub none_deep : (stand : Stand) (levels : ℕ) (body : List ℕ) (i : ℕ) → length body ≤ i → goes_deep stand levels (drop i body) ≡ false
unfolding goes_deep
none_deep stand levels body i h = at_drop_all (goes_deep stand levels) body i h
