-- The keys of open collections after a run of events.
use Rattle.std.specs.Prelude.{if◌then◌else◌, min, nat_le}
use Rattle.std.proofs.Common.{◌≡◌, ℕ, suc, ◌≤◌, ◌<◌, arith, List, [], ◌∷◌, ◌++◌, length, map, reverse, Bool, true, false, not, ◌&&◌, ◌||◌, refl, sym, ◌∙◌, ap, append_assoc, Option}
use Rattle.std.specs.Option.{option_to_list}
use Rattle.std.specs.List.{list_any}
use Rattle.std.proofs.Math.Nat.{min-le_left, min-le_right, le-min, min-eq_right}
use Rattle.std.proofs.lemmas.Bool.{leb-true, leb-false, le-leb, lt-leb, eq-eqb, ne_eqb}
use Rattle.std.proofs.lemmas.List.{length-map, reverse-append}
use Rattle.std.proofs.lemmas.List.Folds.{list_any-append}
use Rattle.yl_events.specs.Event.{EventValue}
use Rattle.yl_tree.specs.Keys.{is_collection_start, is_collection_end, is_mapping_start, name_of, earlier_keys}
use Rattle.yl_tree.specs.OpenNodes.{OpenCollection, OpenNodes, new_collection, with_node, first_or_new, without_first, with_node_in, closed, opened, with_event, collections_behind, keys_if_next}
use Rattle.yl_tree.proofs.Keys.{earlier}
use Rattle.yl_open_collections.specs.Counted.{after_events}
use Rattle.yl_open_collections.specs.OpenBy.{keyless, without_keys}
use Rattle.yl_pieces.specs.KeysOfRuns.{is_before_key, height, staying, lowest, all_open, keys_at, lasting_keys, with_more_keys, all_with_earlier, with_earlier_keys, run_alone, KeysOfRuns}

-- ---- the least of numbers

least_of_three : (a b c : ℕ) → min (min a b) c ≡ min a (min b c)
least_of_three a b c = omega arith

fits_least : (low n h : ℕ) → h ≤ n → (b : Bool) → nat_le h low ≡ b → b ≡ nat_le h (min low n)
fits_least low n h within true is = sym (le-leb h (min low n) (le-min (leb-true h low is) within))
fits_least low n h within false is =
    let above : low < h = leb-false h low is in
    let no_more : min low n ≤ low = min-le_left low n in
    sym (lt-leb h (min low n) (omega (arith, above, no_more)))

-- ---- keys from before a run, where fewer collections stay

module _ (s : OpenNodes) (low n : ℕ) where
  lasting_below : (h : ℕ) → h ≤ n → lasting_keys low h s ≡ lasting_keys (min low n) h s
  lasting_below h within = ap (λ (b : Bool). if b then keys_at h (all_open s) else []) (fits_least low n h within (nat_le h low) refl)

  earlier_below : (o : OpenCollection) (h : ℕ) → h ≤ n → with_more_keys (lasting_keys low h s) o ≡ with_more_keys (lasting_keys (min low n) h s) o
  earlier_below o h within = ap (λ (ks : List (List ℕ)). with_more_keys ks o) (lasting_below h within)

  all_below : (os : List OpenCollection) → length os ≤ n → all_with_earlier low os s ≡ all_with_earlier (min low n) os s
  all_below [] within = refl
  all_below (o ∷ os) within =
      let rest : length os ≤ n = omega (arith, within) in
      ap (λ (c : OpenCollection). c ∷ all_with_earlier low os s) (earlier_below o (suc (length os)) within)
      ∙ ap (λ (cs : List OpenCollection). with_more_keys (lasting_keys (min low n) (suc (length os)) s) o ∷ cs) (all_below os rest)

  none_above : (h : ℕ) → n < h → lasting_keys (min low n) h s ≡ []
  none_above h above =
      let no_more : min low n ≤ n = min-le_right low n in
      ap (λ (b : Bool). if b then keys_at h (all_open s) else []) (lt-leb h (min low n) (omega (arith, above, no_more)))

  new_above : (m : Bool) (h : ℕ) → n < h → new_collection m ≡ with_more_keys (lasting_keys (min low n) h s) (new_collection m)
  new_above m h above = sym (ap (λ (ks : List (List ℕ)). with_more_keys ks (new_collection m)) (none_above h above))

-- ---- one event more

-- an event, by what it does
node_event : (e : EventValue) (s : OpenNodes) → is_collection_end e.kind ≡ false → is_collection_start e.kind ≡ false → with_event e s ≡ with_node_in (name_of e) s
node_event e s off none = rw (off, none) refl

start_event : (e : EventValue) (s : OpenNodes) → is_collection_end e.kind ≡ false → is_collection_start e.kind ≡ true
    → with_event e s ≡ opened (is_mapping_start e.kind) (with_node_in (name_of e) s)
start_event e s off on = rw (off, on) refl

end_event : (e : EventValue) (s : OpenNodes) → is_collection_end e.kind ≡ true → with_event e s ≡ closed s
end_event e s on = rw on refl

key_more : (name : Option (List ℕ)) (own more : List (List ℕ)) (b : Bool)
    → (if b then option_to_list name ++ (own ++ more) else own ++ more) ≡ (if b then option_to_list name ++ own else own) ++ more
key_more name own more true = sym (append_assoc (option_to_list name) own more)
key_more name own more false = refl

node_more : (name : Option (List ℕ)) (more : List (List ℕ)) (o : OpenCollection) → with_node name (with_more_keys more o) ≡ with_more_keys more (with_node name o)
node_more name more o = λ i. record { is_mapping = o.is_mapping; is_key_next = not o.is_key_next; keys = key_more name o.keys more (o.is_mapping && o.is_key_next) i }

module _ (s : OpenNodes) (low : ℕ) where
  -- a node in the innermost collection
  node_in : (t : OpenNodes) (name : Option (List ℕ)) → with_node name (with_more_keys (lasting_keys low (height t) s) t.innermost)
      ≡ with_more_keys (lasting_keys (min low (height t)) (height t) s) (with_node name t.innermost)
  node_in t name =
      let within : height t ≤ height t = omega arith in
      node_more name (lasting_keys low (height t) s) t.innermost ∙ earlier_below s low (height t) (with_node name t.innermost) (height t) within

  around : (t : OpenNodes) → all_with_earlier low t.outer s ≡ all_with_earlier (min low (height t)) t.outer s
  around t =
      let within : length t.outer ≤ height t = omega arith in
      all_below s low (height t) t.outer within

  told : (e : EventValue) (t x : OpenNodes) (n : ℕ) → n ≡ staying e t → x ≡ with_event e t
      → with_earlier_keys (min low n) x s ≡ with_earlier_keys (min low (staying e t)) (with_event e t) s
  told e t x n n_is x_is = λ i. with_earlier_keys (min low (n_is i)) (x_is i) s

  stood : (e : EventValue) (t : OpenNodes) → is_collection_end e.kind ≡ false → is_collection_start e.kind ≡ false
      → with_event e (with_earlier_keys low t s) ≡ with_earlier_keys (min low (staying e t)) (with_event e t) s
  stood e t off none =
      let here : with_node_in (name_of e) (with_earlier_keys low t s) ≡ with_earlier_keys (min low (height t)) (with_node_in (name_of e) t) s =
      λ i. record { innermost = node_in t (name_of e) i; outer = around t i } in
      node_event e (with_earlier_keys low t s) off none ∙ here ∙ told e t (with_node_in (name_of e) t) (height t) (rw off refl) (sym (node_event e t off none))

  started : (e : EventValue) (t : OpenNodes) → is_collection_end e.kind ≡ false → is_collection_start e.kind ≡ true
      → with_event e (with_earlier_keys low t s) ≡ with_earlier_keys (min low (staying e t)) (with_event e t) s
  started e t off on =
      let above : height t < suc (height t) = omega arith in
      let here : opened (is_mapping_start e.kind) (with_node_in (name_of e) (with_earlier_keys low t s)) ≡ with_earlier_keys (min low (height t)) (opened (is_mapping_start e.kind) (with_node_in (name_of e) t)) s =
      λ i. record { innermost = new_above s low (height t) (is_mapping_start e.kind) (suc (height t)) above i; outer = node_in t (name_of e) i ∷ around t i } in
      start_event e (with_earlier_keys low t s) off on ∙ here ∙ told e t (opened (is_mapping_start e.kind) (with_node_in (name_of e) t)) (height t) (rw off refl) (sym (start_event e t off on))

  popped : (os : List OpenCollection) → record { innermost = first_or_new (all_with_earlier low os s); outer = without_first (all_with_earlier low os s) }
      ≡ with_earlier_keys (min low (length os)) (record { innermost = first_or_new os; outer = without_first os }) s
  popped [] =
      let above : 0 < 1 = omega arith in
      λ i. record { innermost = new_above s low 0 false 1 above i; outer = [] }
  popped (o ∷ os) =
      let within : suc (length os) ≤ suc (length os) = omega arith in
      let rest : length os ≤ suc (length os) = omega arith in
      λ i. record { innermost = earlier_below s low (suc (length os)) o (suc (length os)) within i; outer = all_below s low (suc (length os)) os rest i }

  ended : (e : EventValue) (t : OpenNodes) → is_collection_end e.kind ≡ true
      → with_event e (with_earlier_keys low t s) ≡ with_earlier_keys (min low (staying e t)) (with_event e t) s
  ended e t on =
      end_event e (with_earlier_keys low t s) on ∙ popped t.outer ∙ told e t (closed t) (length t.outer) (rw on refl) (sym (end_event e t on))

  by_kind : (e : EventValue) (t : OpenNodes) (b c : Bool) → is_collection_end e.kind ≡ b → is_collection_start e.kind ≡ c
      → with_event e (with_earlier_keys low t s) ≡ with_earlier_keys (min low (staying e t)) (with_event e t) s
  by_kind e t true c on _ = ended e t on
  by_kind e t false true off on = started e t off on
  by_kind e t false false off none = stood e t off none

one_more : (s : OpenNodes) (low : ℕ) (e : EventValue) (t : OpenNodes)
    → with_event e (with_earlier_keys low t s) ≡ with_earlier_keys (min low (staying e t)) (with_event e t) s
one_more s low e t = by_kind s low e t (is_collection_end e.kind) (is_collection_start e.kind) refl refl

-- ---- a run

goes_on : (s : OpenNodes) (es : List EventValue) (low : ℕ) (t u : OpenNodes) → u ≡ with_earlier_keys low t s
    → after_events u es ≡ with_earlier_keys (min low (lowest t es)) (after_events t es) s
goes_on s [] low t u is =
    let within : height t ≤ height t = omega arith in
    is ∙ (λ i. record { innermost = earlier_below s low (height t) t.innermost (height t) within i; outer = around s low t i })
goes_on s (e ∷ es) low t u is =
    goes_on s es (min low (staying e t)) (with_event e t) (with_event e u) (ap (with_event e) is ∙ one_more s low e t)
    ∙ ap (λ (n : ℕ). with_earlier_keys n (after_events t (e ∷ es)) s) (least_of_three low (staying e t) (lowest (with_event e t) es))

-- ---- how low a run goes

length_without_first : (os ps : List OpenCollection) → length os ≡ length ps → length (without_first os) ≡ length (without_first ps)
length_without_first [] [] e = refl
length_without_first [] (p ∷ ps) e = cc
length_without_first (o ∷ os) [] e = cc
length_without_first (o ∷ os) (p ∷ ps) e = omega (arith, e)

module _ (s t : OpenNodes) (same : length s.outer ≡ length t.outer) (e : EventValue) where
  same_staying : staying e s ≡ staying e t
  same_staying = ap (λ (n : ℕ). if is_collection_end e.kind then n else suc n) same

  same_outer : (b c : Bool) → is_collection_end e.kind ≡ b → is_collection_start e.kind ≡ c → length (with_event e s).outer ≡ length (with_event e t).outer
  same_outer true c on _ = rw on (length_without_first s.outer t.outer same)
  same_outer false true off on = rw (off, on) (ap suc same)
  same_outer false false off none = rw (off, none) same

pub same_lowest : (es : List EventValue) (s t : OpenNodes) → length s.outer ≡ length t.outer → lowest s es ≡ lowest t es
same_lowest [] s t same = ap suc same
same_lowest (e ∷ es) s t same =
    ap (λ (n : ℕ). min n (lowest (with_event e s) es)) (same_staying s t same e)
    ∙ ap (min (staying e t)) (same_lowest es (with_event e s) (with_event e t) (same_outer s t same e (is_collection_end e.kind) (is_collection_start e.kind) refl refl))

lowest_alone : (s : OpenNodes) (es : List EventValue) → lowest (without_keys s) es ≡ lowest s es
lowest_alone s es = same_lowest es (without_keys s) s (length-map s.outer keyless)

stay_at_most : (s : OpenNodes) (e : EventValue) (b : Bool) → (if b then length s.outer else height s) ≤ height s
stay_at_most s e true = omega arith
stay_at_most s e false = omega arith

at_most : (s : OpenNodes) (es : List EventValue) → lowest s es ≤ height s
at_most s [] = omega arith
at_most s (e ∷ es) =
    let least : lowest s (e ∷ es) ≤ staying e s = min-le_left (staying e s) (lowest (with_event e s) es) in
    let most : staying e s ≤ height s = stay_at_most s e (is_collection_end e.kind) in
    omega (arith, least, most)

-- ---- before a run

restored : (s : OpenNodes) (low : ℕ) (os : List OpenCollection) → ((h : ℕ) → h ≤ length os → lasting_keys low h s ≡ keys_at h os)
    → all_with_earlier low (map keyless os) s ≡ os
restored s low [] are = refl
restored s low (o ∷ os) are =
    λ i. record { is_mapping = o.is_mapping; is_key_next = o.is_key_next; keys = own i } ∷ restored s low os rest i
  where
    own : lasting_keys low (suc (length (map keyless os))) s ≡ o.keys
    own =
        let within : suc (length os) ≤ suc (length os) = omega arith in
        ap (λ (n : ℕ). lasting_keys low (suc n) s) (length-map os keyless) ∙ are (suc (length os)) within ∙ here (suc (length os)) refl
      where
        here : (h : ℕ) → h ≡ suc (length os) → keys_at h (o ∷ os) ≡ o.keys
        here h is = ap (λ (b : Bool). if b then o.keys else keys_at h os) (eq-eqb h (suc (length os)) is)

    rest : (h : ℕ) → h ≤ length os → lasting_keys low h s ≡ keys_at h os
    rest h within =
        let more : h ≤ suc (length os) = omega (arith, within) in
        are h more ∙ ap (λ (b : Bool). if b then o.keys else keys_at h os) (ne_eqb h (suc (length os)) (λ e. omega (arith, e, within)))

all_last : (s : OpenNodes) (h : ℕ) → h ≤ length (all_open s) → lasting_keys (height s) h s ≡ keys_at h (all_open s)
all_last s h within = ap (λ (b : Bool). if b then keys_at h (all_open s) else []) (le-leb h (height s) within)

has_its_own : (s : OpenNodes) → s ≡ with_earlier_keys (height s) (without_keys s) s
has_its_own s = sym (ap (λ (os : List OpenCollection). record { innermost = first_or_new os; outer = without_first os }) (restored s (height s) (all_open s) (all_last s)))

-- ---- the law

run : (s : OpenNodes) (es : List EventValue) → after_events s es ≡ with_earlier_keys (lowest s es) (run_alone s es) s
run s es =
    goes_on s es (height s) (without_keys s) s (has_its_own s)
    ∙ ap (λ (n : ℕ). with_earlier_keys n (run_alone s es) s) (ap (min (height s)) (lowest_alone s es) ∙ min-eq_right (at_most s es))

next_more : (own more : List (List ℕ)) (b : Bool) → (if b then own ++ more else []) ≡ (if b then own else []) ++ (if b then more else [])
next_more own more true = refl
next_more own more false = refl

earlier_keys_of_run : (s : OpenNodes) (front : List EventValue)
    → keys_if_next (after_events s front).innermost
    ≡ keys_if_next (run_alone s front).innermost
    ++ (if is_before_key (run_alone s front) then lasting_keys (lowest s front) (height (run_alone s front)) s else [])
earlier_keys_of_run s front =
    ap (λ (u : OpenNodes). keys_if_next u.innermost) (run s front)
    ∙ next_more (run_alone s front).innermost.keys (lasting_keys (lowest s front) (height (run_alone s front)) s) (is_before_key (run_alone s front))

any_if : (test : List ℕ → Bool) (ks : List (List ℕ)) (b c : Bool) → list_any test (if b then (if c then ks else []) else []) ≡ (b && (c && list_any test ks))
any_if test ks true true = refl
any_if test ks true false = refl
any_if test ks false c = refl

duplicates_of_run : (test : List ℕ → Bool) (s : OpenNodes) (front : List EventValue)
    → list_any test (keys_if_next (after_events s front).innermost)
    ≡ (list_any test (keys_if_next (run_alone s front).innermost)
    || (is_before_key (run_alone s front) && (nat_le (height (run_alone s front)) (lowest s front) && list_any test (keys_at (height (run_alone s front)) (all_open s)))))
duplicates_of_run test s front =
    ap (list_any test) (earlier_keys_of_run s front)
    ∙ list_any-append test (keys_if_next (run_alone s front).innermost) (if is_before_key (run_alone s front) then lasting_keys (lowest s front) (height (run_alone s front)) s else [])
    ∙ ap (λ (b : Bool). list_any test (keys_if_next (run_alone s front).innermost) || b)
    (any_if test (keys_at (height (run_alone s front)) (all_open s)) (is_before_key (run_alone s front)) (nat_le (height (run_alone s front)) (lowest s front)))

after_reversed : (front before : List EventValue) → after_events (collections_behind before) front ≡ collections_behind (reverse front ++ before)
after_reversed [] before = refl
after_reversed (e ∷ es) before =
    after_reversed es (e ∷ before)
    ∙ ap collections_behind (sym (append_assoc (reverse es) (e ∷ []) before) ∙ ap (λ (xs : List EventValue). xs ++ before) (sym (reverse-append (e ∷ []) es)))

meant : (before front : List EventValue) → earlier_keys (reverse front ++ before) ≡ keys_if_next (after_events (collections_behind before) front).innermost
meant before front = earlier (reverse front ++ before) ∙ ap (λ (s : OpenNodes). keys_if_next s.innermost) (sym (after_reversed front before))

pub keys_of_runs : KeysOfRuns
keys_of_runs = record { run = run; low = lowest_alone; earlier = earlier_keys_of_run; duplicates = duplicates_of_run; meant = meant }
