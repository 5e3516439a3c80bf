-- What the lanes of `special_lanes` tell of the bytes.
use Rattle.std.proofs.Common.{◌≡◌, ℕ, ◌+◌, ◌-◌, ◌%◌, ◌^◌, ◌<◌, ◌≤◌, Bool, true, false, cond, leb, List, [], ◌∷◌, length, map, take, drop, get_or, refl, ap, sym, ◌∙◌, arith, w8, Fits, not, ◌++◌, ◌≢◌, slice_range, inl, inr}
use Rattle.std.proofs.lemmas.Bool.{cases_lt}
use Rattle.std.proofs.lemmas.Bool.Decides.{nat_tests}
use Rattle.std.specs.List.{prefix_len}
use Rattle.std.proofs.lemmas.List.{drop-drop, length-take-le, length-drop, take-append-drop, length-take, get_or-take, get_or-drop}
use Rattle.std.proofs.lemmas.List.Folds.{prefix_len-append}
use Rattle.std.proofs.lemmas.List.Sums.{prefix_len-le-length, prefix_len_passes}
use Rattle.std.proofs.lemmas.Simd.{length-chunk, leading_from_mask_l, trailing_mask_l}
use Rattle.std.specs.Simd.Lanes.{mask_l, Each1}
use lib.Count.{count_trailing_zeros}
use Rattle.yl_text.specs.Lines.{HasNoBreak}
use Rattle.yl_text.specs.Special.{is_printable_ascii, is_special, special_place}

abbrev pub moved : ℕ → ℕ
moved x = (x + (2 ^ 8 - 127)) % 2 ^ 8

pub moved_tells : (x : ℕ) → x < 256 → leb (moved x) 160 ≡ is_special x
moved_tells x l = grind (arith, nat_tests)

pub flags_tell : (xs : List ℕ) → Each1 (Fits w8) xs → map (λ x. leb (moved x) 160) xs ≡ map is_special xs
flags_tell [] h = refl
flags_tell (x ∷ xs) h = λ i. moved_tells x h.0.fits i ∷ flags_tell xs h.1 i

same_test : (b : Bool) → not (not b) ≡ b
same_test true = refl
same_test false = refl

-- the lanes before the first that is special are the printable bytes that the bytes begin with
pub first_lane : (xs : List ℕ) → prefix_len (λ x. not (is_special x)) xs ≡ special_place xs
first_lane [] = refl
first_lane (x ∷ xs) = λ i. cond (same_test (is_printable_ascii x) i) (1 + first_lane xs i) 0

-- one step past bytes that are printable
pub place_more : (xs : List ℕ) (at n r : ℕ) → at + n ≤ length xs → r ≡ special_place (take n (drop at xs)) → special_place xs ≡ at + special_place (drop at xs)
    → (r < n → at + r ≡ special_place xs) × (n ≤ r → special_place xs ≡ at + n + special_place (drop (at + n) xs))
place_more xs at n r room is so =
    let parts : drop at xs ≡ take n (drop at xs) ++ drop n (drop at xs) = sym (take-append-drop n (drop at xs)) in
    let joined = ap special_place parts ∙ prefix_len-append is_printable_ascii (take n (drop at xs)) (drop n (drop at xs)) in
    let later : drop n (drop at xs) ≡ drop (at + n) xs = drop-drop n at xs in
    let long : length (take n (drop at xs)) ≡ n = length-take-le n (drop at xs) (omega (arith, length-drop at xs)) in
    let most = prefix_len-le-length is_printable_ascii (take n (drop at xs)) in
    let same = ap special_place later in
    (λ l. grind (arith, nat_tests), λ l. grind (arith, nat_tests))

-- what the lowest bit that is set says, where a bit stands for each of 32 bytes
pub lanes_tell : (xs : List ℕ) (at m : ℕ) → at + 32 ≤ length xs → m ≡ mask_l (map is_special (slice_range xs at (at + 32)))
    → (m ≡ 0 → 32 ≡ special_place (slice_range xs at (at + 32))) × (m ≢ 0 → count_trailing_zeros 64 m ≡ special_place (slice_range xs at (at + 32)))
lanes_tell xs at m room is =
    let s = slice_range xs at (at + 32) in
    let width : (at + 32) - at ≡ 32 = omega arith in
    let long : length s ≡ 32 = rw width (length-chunk at 32 xs room) in (
      λ none. sym (sym (first_lane s) ∙ leading_from_mask_l is_special s (sym is ∙ none) ∙ long),
      λ some. ap (count_trailing_zeros 64) is ∙ trailing_mask_l is_special 64 s (omega arith) (omega arith) ∙ first_lane s,
    )

printable_bounds : (b : ℕ) → is_printable_ascii b ≡ true → (0x20 ≤ b) × (b ≤ 0x7E)
printable_bounds b h = (grind (arith, nat_tests), grind (arith, nat_tests))

-- printable ASCII has no break, so there is none before the first break behind it
pub no_break_before : (t : List ℕ) (s r : ℕ) → s ≡ special_place t → HasNoBreak (take r (drop s t)) → HasNoBreak (take (s + r) t)
no_break_before t s r is behind k d l =
    let within : k < s + r = omega (arith, length-take (s + r) t) in
    let inside : k < length t = omega (arith, length-take (s + r) t) in
    let same : get_or (take (s + r) t) k d ≡ get_or t k d = get_or-take (s + r) t k d within in
    elim (cases_lt k s) [
      | inl below ↦
          let tells = printable_bounds (get_or t k d) (prefix_len_passes is_printable_ascii t k d (omega (arith, is))) in
          (λ e. omega (arith, sym same ∙ e), λ e. omega (arith, sym same ∙ e))
      | inr above ↦
          let i = k - s in
          let at : get_or (take r (drop s t)) i d ≡ get_or (take (s + r) t) k d = get_or-take r (drop s t) i d (omega arith) ∙ get_or-drop s t i d ∙ ap (λ (j : ℕ). get_or t j d) (omega arith) ∙ sym same in
          let h = behind i d (omega (arith, length-take r (drop s t), length-drop s t)) in
          (λ e. h.0 (at ∙ e), λ e. h.1 (at ∙ e))
    ]

-- a byte is within the text
pub place_within : (t : List ℕ) (s : ℕ) → s ≡ special_place t → s ≤ length t
place_within t s is = omega (arith, prefix_len-le-length is_printable_ascii t)
