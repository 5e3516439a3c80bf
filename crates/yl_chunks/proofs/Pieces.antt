-- Pieces of a list, one after another: what the first of them make, and what a change of one changes.
use Rattle.std.proofs.Common.{◌≡◌, ℕ, ◌+◌, ◌-◌, ◌*◌, ◌/◌, ◌%◌, ◌^◌, ◌<◌, ◌≤◌, List, [], ◌∷◌, ◌++◌, length, take, drop, set, get_or, refl, ap, sym, ◌∙◌, arith, append_assoc, rules, subst, inl, inr, All, slice_get, Some}
use Rattle.std.proofs.lemmas.List.{same_lists, places, drop-take, take_more, drop_more, append-nil, length-take, length-drop, length-append, take-append-drop, drop-drop, drop-set, take-set, length-set, take_all, take-take, get_or-take, get_or-drop, get_or_append_left, get_or_push, length-take-le, drop-set-lt, take_more_set, take-set-le, drop-append-le}
use Rattle.std.proofs.lemmas.Bool.{cases_lt}
use Rattle.std.proofs.lemmas.List.Elements.{All-get_or, All-same, All-cons}
use Rattle.std.proofs.Math.Nat.{mul-le-mul_left}
use Rattle.std.proofs.Math.Seq.{drop-append-add, take-append_seam}
use Rattle.std.proofs.lemmas.List.Concat.{flat_map-append, get_or-flat_map}
use Rattle.std.proofs.lemmas.Option.{slice_get-get_or}
use Rattle.std.specs.List.{flat_map, splice}

-- one piece more
pub part_more : {X T : Type 0} (f : X → List T) (xs : List X) (i : ℕ) (d : X) → i < length xs → flat_map f (take (i + 1) xs) ≡ flat_map f (take i xs) ++ f (get_or xs i d)
part_more f xs i d l = ap (flat_map f) (take_more xs i d l) ∙ flat_map-append f (take i xs) (get_or xs i d ∷ []) ∙ ap (λ u. flat_map f (take i xs) ++ u) (append-nil (f (get_or xs i d)))

-- the pieces from there on
pub part_from : {X T : Type 0} (f : X → List T) (xs : List X) (i : ℕ) (d : X) → i < length xs → flat_map f (drop i xs) ≡ f (get_or xs i d) ++ flat_map f (drop (i + 1) xs)
part_from f xs i d l = ap (flat_map f) (drop_more xs i d l)

-- the pieces before and those from there on
pub in_two : {X T : Type 0} (f : X → List T) (xs : List X) (i : ℕ) → flat_map f xs ≡ flat_map f (take i xs) ++ flat_map f (drop i xs)
in_two f xs i = ap (flat_map f) (sym (take-append-drop i xs)) ∙ flat_map-append f (take i xs) (drop i xs)

-- and no more items than all
pub part_le : {X T : Type 0} (f : X → List T) (xs : List X) (i : ℕ) → length (flat_map f (take i xs)) ≤ length (flat_map f xs)
part_le f xs i = omega (arith, ap length (in_two f xs i), length-append (flat_map f (take i xs)) (flat_map f (drop i xs)))

-- one piece more is counted
pub counted_more : {X T : Type 0} (f : X → List T) (xs : List X) (i : ℕ) (x : X) (n start : ℕ) → i < length xs → x ≡ get_or xs i x → n ≡ length (f x) → start ≡ length (flat_map f (take i xs))
    → (start + n ≡ length (flat_map f (take (i + 1) xs))) × (start + n ≤ length (flat_map f xs))
counted_more f xs i x n start l is size at =
    let more = ap length (part_more f xs i x l) ∙ length-append (flat_map f (take i xs)) (f (get_or xs i x)) in
    let item = ap (λ u. length (f u)) is in
    (omega (arith, more, item, size, at), omega (arith, more, item, size, at, part_le f xs (i + 1)))

pub each_more : (starts : List ℕ) (F : ℕ → ℕ) (i start : ℕ) → length starts ≡ i → start ≡ F i → ((k : ℕ) → k < i → get_or starts k 0 ≡ F k)
    → (k : ℕ) → k < i + 1 → get_or (starts ++ start ∷ []) k 0 ≡ F k
each_more starts F i start long is each k l =
    elim (cases_lt k i) [
      | inl below ↦ get_or_append_left starts (start ∷ []) 0 k (omega arith) ∙ each k below
      | inr above ↦ let e : k ≡ i = omega arith in get_or_push starts start 0 k (omega arith) ∙ is ∙ ap F (sym e)
    ]

-- the first of what stands from there on
rest_first : {X : Type 0} (xs : List X) (j : ℕ) (x : X) → get_or (drop j xs) 0 x ≡ get_or xs j x
rest_first xs j x = get_or-drop j xs 0 x ∙ ap (λ (k : ℕ). get_or xs k x) (omega arith)

-- the piece at j behind those from p on
pub gathered : {X T : Type 0} (f : X → List T) (cs now : List X) (p q j full : ℕ) (x : X) (old items : List T) → p ≤ j → j < q → q ≤ length cs → drop j now ≡ drop j cs → x ≡ get_or now j x
    → items ≡ old ++ flat_map f (take (j - p) (drop p cs)) → length old + length (flat_map f (take (q - p) (drop p cs))) ≤ full
    → (items ++ f x ≡ old ++ flat_map f (take (j + 1 - p) (drop p cs))) × (length items + length (f x) ≤ full)
gathered f cs now p q j full x old items le l within same is so room =
    let d = drop p cs in
    let at : get_or d (j - p) x ≡ x = get_or-drop p cs (j - p) x ∙ ap (λ (k : ℕ). get_or cs k x) (omega arith) ∙ sym (rest_first cs j x) ∙ ap (λ u. get_or u 0 x) (sym same) ∙ rest_first now j x ∙ sym is in
    let more : flat_map f (take (j + 1 - p) d) ≡ flat_map f (take (j - p) d) ++ f x = ap (λ (k : ℕ). flat_map f (take k d)) (omega arith) ∙ part_more f d (j - p) x (omega (arith, length-drop p cs)) ∙ ap (λ u. flat_map f (take (j - p) d) ++ f u) at in
    let eq : items ++ f x ≡ old ++ flat_map f (take (j + 1 - p) d) = ap (λ u. u ++ f x) so ∙ append_assoc old (flat_map f (take (j - p) d)) (f x) ∙ ap (λ u. old ++ u) (sym more) in
    let most = part_le f (take (q - p) d) (j + 1 - p) in
    let inner = ap (λ u. length (flat_map f u)) (take-take (j + 1 - p) (q - p) d (omega arith)) in
    (eq, omega (arith, ap length eq, length-append items (f x), length-append old (flat_map f (take (j + 1 - p) d)), most, inner, room))

-- a share of n among k + 1
share : (n k s r : ℕ) → n ≡ (k + 1) * s + r → r < k + 1 → k + 1 ≤ n → n ≤ 256 * (k + 1) → (0 < s) × (s ≤ 256) × (s ≤ n) × (k ≤ n - s) × (n - s ≤ 256 * k)
share n k s r is small enough few =
    let some : 0 < s = elim (cases_lt 0 s) [ inl h ↦ h | inr none ↦ let z : s ≡ 0 = omega arith in absurd (omega (arith, is ∙ ap (λ (t : ℕ). (k + 1) * t + r) z)) ] in
    let most : s ≤ 256 = elim (cases_lt 256 s) [ inl h ↦ absurd (omega (arith, mul-le-mul_left (k + 1) h)) | inr h ↦ h ] in (
      some,
      most,
      omega arith,
      omega (arith, mul-le-mul_left k some),
      elim (cases_lt s 256) [
        | inl h ↦ let b : s ≤ 255 = omega arith in omega (arith, mul-le-mul_left k b)
        | inr h ↦ let z : s ≡ 256 = omega arith in omega (arith, ap (λ (t : ℕ). (k + 1) * t + r) z, ap (λ (t : ℕ). k * t) z)
      ],
    )

pub shares : (n m : ℕ) → 0 < m → m ≤ n → n ≤ 256 * m → (0 < n / m) × (n / m ≤ 256) × (n / m ≤ n) × (m - 1 ≤ n - n / m) × (n - n / m ≤ 256 * (m - 1))
shares n m some enough few =
    let whole : m ≡ m - 1 + 1 = omega arith in
    share n (m - 1) (n / m) (n % m) (sym (omega arith) ∙ ap (λ (t : ℕ). t * (n / m) + n % m) whole) (omega arith) (omega arith) (omega arith)

-- what is told of each item of one list is told of those that another has in common with it
pub told_in_front : {X : Type 0} (P : X → Type 0) (now first : List X) (left j : ℕ) (x : X) → take left now ≡ take left first → j < left → left ≤ length first → All P first → x ≡ get_or now j x → P x
told_in_front P now first left j x same l within all is =
    subst P (sym (is ∙ sym (get_or-take left now j x l) ∙ ap (λ u. get_or u j x) same ∙ get_or-take left first j x l)) (All-get_or P first j x (omega arith) all)

-- a share is cut off the end of the items for one chunk more
pub cut_more : {X T : Type 0} (f : X → List T) (cs : List X) (items rest all : List T) (left n : ℕ) (y : X) → n ≡ length items → 0 < left → left ≤ length cs → left ≤ n → n ≤ 256 * left
    → items ++ flat_map f (drop left cs) ≡ all → rest ≡ take (n - n / left) items → f y ≡ drop (n - n / left) items
    → (left - 1 ≤ length rest) × (length rest ≤ 256 * (left - 1)) × (rest ++ flat_map f (drop (left - 1) (set cs (left - 1) y)) ≡ all) × (0 < length (f y)) × (length (f y) ≤ 256)
cut_more f cs items rest all left n y size some within enough few joined is moved =
    let h = shares n left some enough few in
    let front : length rest ≡ n - n / left = ap length is ∙ length-take-le (n - n / left) items (omega (arith, h.2)) in
    let back : length (f y) ≡ n / left = ap length moved ∙ length-drop (n - n / left) items ∙ omega (arith, h.2, size) in
    let at : drop (left - 1) (set cs (left - 1) y) ≡ y ∷ drop left cs = drop-set cs (left - 1) y (omega arith) ∙ ap (λ (k : ℕ). y ∷ drop k cs) (omega arith) in
    let whole : rest ++ f y ≡ items = (λ i. is i ++ moved i) ∙ take-append-drop (n - n / left) items in (
      omega (arith, front, h.3),
      omega (arith, front, h.4),
      ap (λ u. rest ++ flat_map f u) at ∙ sym (append_assoc rest (f y) (flat_map f (drop left cs))) ∙ ap (λ u. u ++ flat_map f (drop left cs)) whole ∙ joined,
      omega (arith, back, h.0),
      omega (arith, back, h.1),
    )

pub All_more : {X : Type 0} (P : X → Type 0) (cs : List X) (left : ℕ) (y : X) → 0 < left → left ≤ length cs → All P (drop left cs) → P y → All P (drop (left - 1) (set cs (left - 1) y))
All_more P cs left y some within all here =
    All-same P _ _ (drop-set cs (left - 1) y (omega arith) ∙ ap (λ (k : ℕ). y ∷ drop k cs) (omega arith)) (All-cons P y (drop left cs) here all)

pub front_less : {X : Type 0} (now first : List X) (left : ℕ) (y : X) → take left now ≡ take left first → take (left - 1) (set now (left - 1) y) ≡ take (left - 1) first
front_less now first left y same = take-set now (left - 1) y ∙ sym (take-take (left - 1) left now (omega arith)) ∙ ap (take (left - 1)) same ∙ take-take (left - 1) left first (omega arith)

-- what stands behind the next is the same too
pub behind_more : {X : Type 0} (now first : List X) (j : ℕ) (y : X) → drop j now ≡ drop j first → drop (j + 1) (set now j y) ≡ drop (j + 1) first
behind_more now first j y same = drop-set-lt (j + 1) now j y (omega arith) ∙ sym (drop-drop 1 j now) ∙ ap (drop 1) same ∙ drop-drop 1 j first

-- items put in place of others in the part F, G, H of a list between F and H
put_in_middle : {T : Type 0} (F G H new : List T) (a b s : ℕ) → s ≡ length F → a ≤ b → b ≤ length G → splice (F ++ (G ++ H)) (s + a) (s + b) new ≡ F ++ (splice G a b new ++ H)
put_in_middle F G H new a b s e le within = same_lists _ _ (search (rules, places)) (λ k d h. grind (arith, places))

-- the pieces p to q made anew, with items put in place of others in them
pub spread_lists : {X T : Type 0} (f : X → List T) (cs mid out fresh : List X) (p q a b : ℕ) (new : List T) → p ≤ q → q ≤ length cs → length mid ≡ length cs → take p mid ≡ take p cs → drop q mid ≡ drop q cs
    → out ≡ splice mid p q fresh → a ≤ b → b ≤ length (flat_map f (take (q - p) (drop p cs))) → flat_map f fresh ≡ splice (flat_map f (take (q - p) (drop p cs))) a b new
    → (out ≡ take p cs ++ (fresh ++ drop q cs)) × (flat_map f out ≡ splice (flat_map f cs) (length (flat_map f (take p cs)) + a) (length (flat_map f (take p cs)) + b) new)
spread_lists f cs mid out fresh p q a b new le within same before behind is ordered inside made =
    let F = flat_map f (take p cs) in
    let G = flat_map f (take (q - p) (drop p cs)) in
    let H = flat_map f (drop q cs) in
    let later : drop (q - p) (drop p cs) ≡ drop q cs = drop-drop (q - p) p cs ∙ ap (λ (k : ℕ). drop k cs) (omega arith) in
    let whole : flat_map f cs ≡ F ++ (G ++ H) = in_two f cs p ∙ ap (λ u. F ++ u) (in_two f (drop p cs) (q - p) ∙ ap (λ u. G ++ flat_map f u) later) in
    let parts : out ≡ take p cs ++ (fresh ++ drop q cs) = is ∙ (λ i. before i ++ (fresh ++ behind i)) in (
      parts,
      ap (flat_map f) parts ∙ flat_map-append f (take p cs) (fresh ++ drop q cs) ∙ ap (λ u. F ++ u) (flat_map-append f fresh (drop q cs) ∙ ap (λ u. u ++ H) made)
          ∙ sym (ap (λ u. splice u (length F + a) (length F + b) new) whole ∙ put_in_middle F G H new a b (length F) refl ordered inside),
    )

-- the pieces to j have no fewer items than those to i before it
pub part_rises : {X T : Type 0} (f : X → List T) (xs : List X) (i j : ℕ) → i ≤ j → length (flat_map f (take i xs)) ≤ length (flat_map f (take j xs))
part_rises f xs i j le = omega (arith, part_le f (take j xs) i, ap (λ u. length (flat_map f u)) (take-take i j xs le))

-- the pieces to p and those from there to q are those to q
pub part_between : {X T : Type 0} (f : X → List T) (xs : List X) (p q : ℕ) → p ≤ q → length (flat_map f (take p xs)) + length (flat_map f (take (q - p) (drop p xs))) ≡ length (flat_map f (take q xs))
part_between f xs p q le =
    let behind : drop p (take q xs) ≡ take (q - p) (drop p xs) = ap (λ (n : ℕ). drop p (take n xs)) (omega arith) ∙ drop-take p (q - p) xs in
    let parts = ap length (in_two f (take q xs) p) ∙ length-append (flat_map f (take p (take q xs))) (flat_map f (drop p (take q xs))) in
    omega (arith, parts, ap (λ u. length (flat_map f u)) (take-take p q xs le), ap (λ u. length (flat_map f u)) behind)

pub splice_len : {T : Type 0} (xs ys : List T) (a b : ℕ) → a ≤ b → b ≤ length xs → length (splice xs a b ys) ≡ length xs - (b - a) + length ys
splice_len xs ys a b le within = omega (arith, length-append (take a xs) (ys ++ drop b xs), length-append ys (drop b xs), length-take a xs, length-drop b xs)

-- the chunks that were found, and those beside them, hold the items a to b
pub place_facts : {X T : Type 0} (f : X → List T) (cs : List X) (a b first end first' end' : ℕ) → a ≤ b → b ≤ length (flat_map f cs) → first < end → end ≤ length cs
    → length (flat_map f (take first cs)) ≤ a → (end < length cs → b ≤ length (flat_map f (take end cs))) → first' ≤ first → end ≤ end'
    → (length (flat_map f (take first' cs)) ≤ a) × (b ≤ length (flat_map f (take end' cs))) × (length (flat_map f (take first' cs)) ≤ length (flat_map f (take end' cs)))
place_facts f cs a b first end first' end' le within some inside from to before behind =
    let low = part_rises f cs first' first before in
    let high = part_rises f cs end end' behind in
    let low' : length (flat_map f (take first' cs)) ≤ a = omega (arith, from, low) in
    let high' : b ≤ length (flat_map f (take end' cs)) =
    elim (cases_lt end (length cs)) [
      | inl h ↦ omega (arith, to h, high)
      | inr h ↦ omega (arith, ap (λ u. length (flat_map f u)) (take_all end cs h), within, high)
    ] in
    (low', high', omega (arith, low', high', le))

-- an item of a piece is the item of the list that stands as far behind the pieces before
pub item_of_piece : {X T : Type 0} (f : X → List T) (xs : List X) (j : ℕ) (c : X) (i s : ℕ) (x : T) → j < length xs → c ≡ get_or xs j c → s ≡ length (flat_map f (take j xs)) → s ≤ i → i - s < length (f c)
    → x ≡ get_or (f c) (i - s) x → i < length (flat_map f xs) → slice_get (flat_map f xs) i ≡ Some x
item_of_piece f xs j c i s x l is start le within read inside =
    let same : f (get_or xs j c) ≡ f c = ap f (sym is) in
    let at : get_or (flat_map f xs) i x ≡ x =
    ap (λ (k : ℕ). get_or (flat_map f xs) k x) (omega (arith, start))
    ∙ get_or-flat_map f xs j (i - s) c x l (omega (arith, ap length same)) ∙ ap (λ u. get_or u (i - s) x) same ∙ sym read in
    slice_get-get_or (flat_map f xs) i x inside ∙ ap Some at

-- what is left of a piece behind an item's place stands in the list from there on
pub rest_of_piece : {X T : Type 0} (f : X → List T) (xs : List X) (j : ℕ) (c : X) (i s : ℕ) → j < length xs → c ≡ get_or xs j c → s ≡ length (flat_map f (take j xs)) → s ≤ i → i - s ≤ length (f c)
    → take (length (drop (i - s) (f c))) (drop i (flat_map f xs)) ≡ drop (i - s) (f c)
rest_of_piece f xs j c i s l is start le within =
    let F = flat_map f (take j xs) in
    let H = flat_map f (drop (j + 1) xs) in
    let whole : flat_map f xs ≡ F ++ (f c ++ H) = in_two f xs j ∙ ap (λ u. F ++ u) (part_from f xs j c l ∙ ap (λ u. f u ++ H) (sym is)) in
    let at : i ≡ length F + (i - s) = omega (arith, start, le) in
    let rest : drop i (flat_map f xs) ≡ drop (i - s) (f c) ++ H = ap (drop i) whole ∙ ap (λ (k : ℕ). drop k (F ++ (f c ++ H))) at ∙ drop-append-add F (f c ++ H) (i - s) ∙ drop-append-le (i - s) (f c) H within in
    ap (take (length (drop (i - s) (f c)))) rest ∙ take-append_seam (drop (i - s) (f c)) H

-- the piece that is found for an item is the one that holds it
pub in_found_piece : {X T : Type 0} (f : X → List T) (cs : List X) (i j : ℕ) (d : X) → j < length cs → (j + 1 < length cs → i < length (flat_map f (take (j + 1) cs))) → i < length (flat_map f cs)
    → i < length (flat_map f (take j cs)) + length (f (get_or cs j d))
in_found_piece f cs i j d l most inside =
    let more = ap length (part_more f cs j d l) ∙ length-append (flat_map f (take j cs)) (f (get_or cs j d)) in
    elim (cases_lt (j + 1) (length cs)) [
      | inl h ↦ omega (arith, most h, more)
      | inr h ↦ omega (arith, ap (λ u. length (flat_map f u)) (take_all (j + 1) cs h), inside, more)
    ]

-- one piece made anew, with items put in place of others in it
pub one_put : {X T : Type 0} (f : X → List T) (cs : List X) (p a b : ℕ) (x y : X) (new : List T) → p < length cs → x ≡ get_or cs p x → a ≤ b → b ≤ length (f x) → f y ≡ splice (f x) a b new
    → flat_map f (set cs p y) ≡ splice (flat_map f cs) (length (flat_map f (take p cs)) + a) (length (flat_map f (take p cs)) + b) new
one_put f cs p a b x y new l is le within made =
    let F = flat_map f (take p cs) in
    let H = flat_map f (drop (p + 1) cs) in
    let old : flat_map f cs ≡ F ++ (f x ++ H) = in_two f cs p ∙ ap (λ u. F ++ u) (part_from f cs p x l ∙ ap (λ u. f u ++ H) (sym is)) in
    let front : flat_map f (take p (set cs p y)) ≡ F = ap (flat_map f) (take-set cs p y) in
    let back : flat_map f (drop p (set cs p y)) ≡ f y ++ H = ap (flat_map f) (drop-set cs p y l) in
    in_two f (set cs p y) p ∙ (λ i. front i ++ back i) ∙ ap (λ u. F ++ (u ++ H)) made
    ∙ sym (ap (λ u. splice u (length F + a) (length F + b) new) old ∙ put_in_middle F (f x) H new a b (length F) refl le within)

-- the pieces before another stay as many as they were with one of them made anew, but for what that has more or less
pub one_counted : {X T : Type 0} (f : X → List T) (cs : List X) (p j : ℕ) (x y : X) → p < length cs → x ≡ get_or cs p x → p < j
    → length (flat_map f (take j (set cs p y))) + length (f x) ≡ length (flat_map f (take j cs)) + length (f y)
one_counted f cs p j x y l is later =
    let X' = set cs p y in
    let old = part_between f cs (p + 1) j (omega arith) in
    let now = part_between f X' (p + 1) j (omega arith) in
    let behind : drop (p + 1) X' ≡ drop (p + 1) cs = drop-set-lt (p + 1) cs p y (omega arith) in
    let same = ap (λ u. length (flat_map f (take (j - (p + 1)) u))) behind in
    let old_piece = ap length (part_more f cs p x l) ∙ length-append (flat_map f (take p cs)) (f (get_or cs p x)) in
    let old_is = ap (λ u. length (f u)) is in
    let now_piece = ap length (ap (flat_map f) (take_more_set cs p y l) ∙ flat_map-append f (take p cs) (y ∷ [])) ∙ length-append (flat_map f (take p cs)) (flat_map f (y ∷ [])) in
    let now_is = ap length (append-nil (f y)) in
    omega (arith, old, now, same, old_piece, old_is, now_piece, now_is)

-- no piece has more items than stand before a later one
pub piece_within : {X T : Type 0} (f : X → List T) (cs : List X) (p j : ℕ) (x : X) → p < length cs → x ≡ get_or cs p x → p < j → length (f x) ≤ length (flat_map f (take j cs))
piece_within f cs p j x l is later =
    let piece = ap length (part_more f cs p x l) ∙ length-append (flat_map f (take p cs)) (f (get_or cs p x)) in
    omega (arith, piece, ap (λ u. length (f u)) is, part_rises f cs (p + 1) j (omega arith))

-- one piece made anew with the same items
pub one_same : {X T : Type 0} (f : X → List T) (cs : List X) (p : ℕ) (x y : X) → p < length cs → x ≡ get_or cs p x → f y ≡ f x → flat_map f (set cs p y) ≡ flat_map f cs
one_same f cs p x y l is same =
    let F = flat_map f (take p cs) in
    let H = flat_map f (drop (p + 1) cs) in
    let old : flat_map f cs ≡ F ++ (f x ++ H) = in_two f cs p ∙ ap (λ u. F ++ u) (part_from f cs p x l ∙ ap (λ u. f u ++ H) (sym is)) in
    let front : flat_map f (take p (set cs p y)) ≡ F = ap (flat_map f) (take-set cs p y) in
    let back : flat_map f (drop p (set cs p y)) ≡ f y ++ H = ap (flat_map f) (drop-set cs p y l) in
    in_two f (set cs p y) p ∙ (λ i. front i ++ back i) ∙ ap (λ u. F ++ (u ++ H)) same ∙ sym old

-- where the pieces up to one that is made anew begin, and how many items stand behind the others
pub one_moved : {X T : Type 0} (f : X → List T) (cs : List X) (places : List ℕ) (p len now removed added : ℕ) (x y : X)
    → ((j : ℕ) → j < length cs → j < p + 1 → get_or places j 0 ≡ length (flat_map f (take j cs)))
    → ((j : ℕ) → j < length cs → p + 1 ≤ j → get_or places j 0 + length (flat_map f (take j cs)) ≡ len)
    → p < length cs → x ≡ get_or cs p x → removed ≤ length (f x) → length (f y) ≡ length (f x) - removed + added → now ≡ len - removed + added → (j : ℕ) → j < length (set cs p y)
    → (j < p + 1 → get_or places j 0 ≡ length (flat_map f (take j (set cs p y)))) × (p + 1 ≤ j → get_or places j 0 + length (flat_map f (take j (set cs p y))) ≡ now)
one_moved f cs places p len now removed added x y before behind l is fewer size total j inside =
    let within : j < length cs = omega (arith, inside, length-set cs p y) in (
      λ h. before j within h ∙ ap (λ u. length (flat_map f u)) (sym (take-set-le j cs p y (omega arith))),
      λ h. omega (arith, behind j within h, one_counted f cs p j x y l is (omega arith), piece_within f cs p j x l is (omega arith), size, total, fewer),
    )

-- how many items there are with one piece made anew
pub one_total : {X T : Type 0} (f : X → List T) (cs : List X) (p len now removed added : ℕ) (x y : X) → len ≡ length (flat_map f cs) → p < length cs → x ≡ get_or cs p x → removed ≤ length (f x)
    → length (f y) ≡ length (f x) - removed + added → now ≡ len - removed + added → now ≡ length (flat_map f (set cs p y))
one_total f cs p len now removed added x y whole l is fewer size total =
    let old = ap (λ u. length (flat_map f u)) (take_all (length cs) cs (omega arith)) in
    let new = ap (λ u. length (flat_map f u)) (take_all (length cs) (set cs p y) (omega (arith, length-set cs p y))) in
    omega (arith, one_counted f cs p (length cs) x y l is l, piece_within f cs p (length cs) x l is l, size, total, fewer, whole, old, new)

-- with as many items as that more a part of them is few enough
pub part_few : {X T : Type 0} (f : X → List T) (cs : List X) (p q count n : ℕ) → length (flat_map f (take p cs)) + count ≡ length (flat_map f (take q cs)) → length (flat_map f cs) + n < 2 ^ 64 → count + n < 2 ^ 64
part_few f cs p q count n is few = omega (arith, part_le f cs q, is, few)
