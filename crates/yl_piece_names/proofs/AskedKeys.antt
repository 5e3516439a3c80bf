-- The keys of a run in a mapping that was open before it are those that ask.
use Rattle.std.specs.Prelude.{if◌then◌else◌, min, nat_le, ◌==◌}
use Rattle.std.proofs.Common.{◌≡◌, ℕ, suc, ◌≤◌, arith, List, [], ◌∷◌, ◌++◌, length, map, Bool, true, false, ◌&&◌, refl, sym, ◌∙◌, ap, Option, Some, None}
use Rattle.std.specs.Option.{option_to_list}
use Rattle.std.proofs.Math.Nat.{min-le_left, min-le_right, min-eq_right}
use Rattle.std.proofs.lemmas.Bool.{le-leb, eqb-true, ne_eqb}
use Rattle.yl_events.specs.Event.{EventValue, EventKindValue, SequenceStart, SequenceEnd, MappingStart, MappingEnd}
use Rattle.yl_tree.specs.Keys.{is_collection_start, is_collection_end, is_mapping_start, compared_value, name_of}
use Rattle.yl_tree.specs.OpenNodes.{OpenCollection, OpenNodes, new_collection, with_node, first_or_new, without_first, with_event}
use Rattle.yl_open_collections.specs.Counted.{after_events}
use Rattle.yl_open_collections.specs.OpenBy.{keyless, without_keys}
use Rattle.yl_pieces.specs.KeysOfRuns.{all_open, height, is_before_key, keys_at, lowest, run_alone, staying}
use Rattle.yl_pieces.proofs.KeysOfRuns.{keys_of_runs}
use Rattle.yl_pieces.proofs.KeyFindings.{after_both}
use Rattle.yl_piece_names.specs.Asked.{AskedName, asked_by}

-- ---- the names at a height

abbrev pub names_at : ℕ → List AskedName → List (List ℕ)
names_at h [] = []
names_at h (a ∷ xs) = if h == a.height then a.name ∷ names_at h xs else names_at h xs

-- what a key asks for after a run alone that goes so low
abbrev pub asked_one : OpenNodes → (low : ℕ) → Option (List ℕ) → List AskedName
asked_one t low None = []
asked_one t low (Some name) = if is_before_key t && nat_le (height t) low then record { height = height t; name = name } ∷ [] else []

-- ---- one event more

end_unnamed : (k : EventKindValue) → is_collection_end k ≡ true → compared_value k ≡ None
end_unnamed SequenceEnd h = refl
end_unnamed MappingEnd h = refl
end_unnamed k h = absurd cc

start_unnamed : (k : EventKindValue) → is_collection_start k ≡ true → compared_value k ≡ None
start_unnamed SequenceStart h = refl
start_unnamed MappingStart h = refl
start_unnamed k h = absurd cc

-- the keys below the innermost collection of these
keys_below : (h : ℕ) (o : OpenCollection) (os : List OpenCollection) → h ≤ length os → keys_at h (o ∷ os) ≡ keys_at h os
keys_below h o os within =
    ap (λ (b : Bool). if b then o.keys else keys_at h os) (ne_eqb h (suc (length os)) (λ e. omega (arith, e, within)))

same_keys : (b : Bool) (ks : List (List ℕ)) → (if b then option_to_list None ++ ks else ks) ≡ ks
same_keys true ks = refl
same_keys false ks = refl

module _ (t : OpenNodes) (low h : ℕ) where
  abbrev here : OpenCollection → List (List ℕ)
  here o = keys_at h (o ∷ t.outer)

  unnamed : here (with_node None t.innermost) ≡ here t.innermost
  unnamed = ap (λ (ks : List (List ℕ)). if h == suc (length t.outer) then ks else keys_at h t.outer) (same_keys (t.innermost.is_mapping && t.innermost.is_key_next) t.innermost.keys)

  popped : (os : List OpenCollection) → h ≤ length os → keys_at h (first_or_new os ∷ without_first os) ≡ keys_at h (t.innermost ∷ os)
  popped [] within = keys_below h (new_collection false) [] within ∙ sym (keys_below h t.innermost [] within)
  popped (o ∷ os) within = sym (keys_below h t.innermost (o ∷ os) within)

  at_height : (name : List ℕ) (same key fits : Bool) → (same ≡ true → fits ≡ true) → (ks rest : List (List ℕ))
      → (if same then (if key then name ∷ ks else ks) else rest)
      ≡ (if key && fits then (if same then name ∷ [] else []) else []) ++ (if same then ks else rest)
  at_height name true true true fit ks rest = refl
  at_height name true true false fit ks rest = let no : false ≡ true = fit refl in cc
  at_height name true false fits fit ks rest = refl
  at_height name false true true fit ks rest = refl
  at_height name false true false fit ks rest = refl
  at_height name false false fits fit ks rest = refl

  listed_if : (b : Bool) (name : List ℕ) → (if b then (if h == height t then name ∷ [] else []) else []) ≡ names_at h (if b then record { height = height t; name = name } ∷ [] else [])
  listed_if true name = refl
  listed_if false name = refl

  named : (name : Option (List ℕ)) → h ≤ low → here (with_node name t.innermost) ≡ names_at h (asked_one t low name) ++ here t.innermost
  named None lasts = unnamed
  named (Some name) lasts =
      at_height name (h == height t) (is_before_key t) (nat_le (height t) low)
      (λ e. le-leb (height t) low (let same : h ≡ height t = eqb-true h (height t) e in omega (arith, same, lasts))) t.innermost.keys (keys_at h t.outer)
      ∙ ap (λ (ns : List (List ℕ)). ns ++ here t.innermost) (listed_if (is_before_key t && nat_le (height t) low) name)

  -- what is asked by an event without a name
  nothing : (name : Option (List ℕ)) → name ≡ None → here t.innermost ≡ names_at h (asked_one t low name) ++ here t.innermost
  nothing name e = ap (λ n. names_at h (asked_one t low n) ++ here t.innermost) (sym e)

  by_kind : (e : EventValue) (b c : Bool) → is_collection_end e.kind ≡ b → is_collection_start e.kind ≡ c → h ≤ low → h ≤ (if b then length t.outer else height t)
      → keys_at h (all_open (with_event e t)) ≡ names_at h (asked_one t low (name_of e)) ++ here t.innermost
  by_kind e true c on _ lasts within = rw on (popped t.outer within ∙ nothing (name_of e) (end_unnamed e.kind on))
  by_kind e false true off on lasts within =
      rw (off, on)
      (keys_below h (new_collection (is_mapping_start e.kind)) (with_node (name_of e) t.innermost ∷ t.outer) within
      ∙ ap (λ n. here (with_node n t.innermost)) (start_unnamed e.kind on)
      ∙ unnamed
      ∙ nothing (name_of e) (start_unnamed e.kind on))
  by_kind e false false off none lasts within = rw (off, none) (named (name_of e) lasts)

  one_more : (e : EventValue) → h ≤ low → h ≤ staying e t → keys_at h (all_open (with_event e t)) ≡ names_at h (asked_one t low (name_of e)) ++ keys_at h (all_open t)
  one_more e lasts within = by_kind e (is_collection_end e.kind) (is_collection_start e.kind) refl refl lasts within

-- ---- how low a run goes

stay_at_most : (s : OpenNodes) (e : EventValue) (b : Bool) → (if b then length s.outer else height s) ≤ height s
stay_at_most s e true = omega arith
stay_at_most s e false = omega arith

at_most : (s : OpenNodes) (es : List EventValue) → lowest s es ≤ height s
at_most s [] = omega arith
at_most s (e ∷ es) =
    let least : lowest s (e ∷ es) ≤ staying e s = min-le_left (staying e s) (lowest (with_event e s) es) in
    let most : staying e s ≤ height s = stay_at_most s e (is_collection_end e.kind) in
    omega (arith, least, most)

least_of_three : (a b c : ℕ) → min a (min b c) ≡ min (min a b) c
least_of_three a b c = omega arith

pub lowest_of_both : (s : OpenNodes) (es fs : List EventValue) → lowest s (es ++ fs) ≡ min (lowest s es) (lowest (after_events s es) fs)
lowest_of_both s [] fs = sym (min-eq_right (at_most s fs))
lowest_of_both s (e ∷ es) fs =
    ap (min (staying e s)) (lowest_of_both (with_event e s) es fs)
    ∙ least_of_three (staying e s) (lowest (with_event e s) es) (lowest (after_events (with_event e s) es) fs)

-- ---- a run

-- these are what the run asked for, the latest first
pub record AreAsked (s : OpenNodes) (front : List EventValue) (earlier : List AskedName) : Type 0 where
  pub keys : (h : ℕ) → h ≤ lowest s front → keys_at h (all_open (run_alone s front)) ≡ names_at h earlier

names_of_both : (h : ℕ) (xs ys : List AskedName) → names_at h (xs ++ ys) ≡ names_at h xs ++ names_at h ys
names_of_both h [] ys = refl
names_of_both h (a ∷ xs) ys = by_test (h == a.height) (names_of_both h xs ys)
  where
    by_test : (b : Bool) → names_at h (xs ++ ys) ≡ names_at h xs ++ names_at h ys
        → (if b then a.name ∷ names_at h (xs ++ ys) else names_at h (xs ++ ys)) ≡ (if b then a.name ∷ names_at h xs else names_at h xs) ++ names_at h ys
    by_test true e = ap (λ ns. a.name ∷ ns) e
    by_test false e = e

pub asked_more : (s : OpenNodes) (front : List EventValue) (e : EventValue) (earlier : List AskedName) → AreAsked s front earlier
    → AreAsked s (front ++ e ∷ []) (asked_by s front (name_of e) ++ earlier)
asked_more s front e earlier are = record { keys = more }
  where
    more : (h : ℕ) → h ≤ lowest s (front ++ e ∷ []) → keys_at h (all_open (run_alone s (front ++ e ∷ []))) ≡ names_at h (asked_by s front (name_of e) ++ earlier)
    more h within =
        let t = run_alone s front in
        let low : lowest s (front ++ e ∷ []) ≡ min (lowest (without_keys s) front) (lowest t (e ∷ [])) =
        sym (keys_of_runs.low s (front ++ e ∷ [])) ∙ lowest_of_both (without_keys s) front (e ∷ []) in
        let same : lowest (without_keys s) front ≡ lowest s front = keys_of_runs.low s front in
        let first : min (lowest (without_keys s) front) (lowest t (e ∷ [])) ≤ lowest (without_keys s) front = min-le_left (lowest (without_keys s) front) (lowest t (e ∷ [])) in
        let second : min (lowest (without_keys s) front) (lowest t (e ∷ [])) ≤ lowest t (e ∷ []) = min-le_right (lowest (without_keys s) front) (lowest t (e ∷ [])) in
        let third : lowest t (e ∷ []) ≤ staying e t = min-le_left (staying e t) (height (with_event e t)) in
        let lasts : h ≤ lowest s front = omega (arith, within, low, same, first) in
        let stays : h ≤ staying e t = omega (arith, within, low, second, third) in
        ap (λ u. keys_at h (all_open u)) (after_both (without_keys s) front (e ∷ []))
        ∙ one_more t (lowest s front) h e lasts stays
        ∙ ap (λ ns. names_at h (asked_by s front (name_of e)) ++ ns) (are.keys h lasts)
        ∙ sym (names_of_both h (asked_by s front (name_of e)) earlier)

none_kept : (h : ℕ) (os : List OpenCollection) → keys_at h (map keyless os) ≡ []
none_kept h [] = refl
none_kept h (o ∷ os) = by_test (h == suc (length (map keyless os))) (none_kept h os)
  where
    by_test : (b : Bool) → keys_at h (map keyless os) ≡ [] → (if b then [] else keys_at h (map keyless os)) ≡ []
    by_test true e = refl
    by_test false e = e

-- open collections without keys have none
pub no_keys : (s : OpenNodes) (h : ℕ) → keys_at h (all_open (without_keys s)) ≡ []
no_keys s h = none_kept h (all_open s)

pub asked_first : (s : OpenNodes) → AreAsked s [] []
asked_first s = record { keys = λ h within. no_keys s h }
