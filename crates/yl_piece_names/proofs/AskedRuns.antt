-- The names that a run asks for, and then those that the run after it asks for.
use Rattle.std.specs.Prelude.{if◌then◌else◌, min, nat_le}
use Rattle.std.proofs.Common.{◌≡◌, ℕ, suc, ◌≤◌, ◌<◌, arith, List, [], ◌∷◌, ◌++◌, map, Bool, true, false, ◌&&◌, refl, sym, ◌∙◌, ap, append_assoc, append-nil, Option, Some, None}
use Rattle.std.specs.List.{filter}
use Rattle.std.proofs.Math.Nat.{min-le_left, min-le_right, le-min}
use Rattle.std.proofs.lemmas.Bool.{leb-true, leb-false, le-leb, lt-leb}
use Rattle.std.proofs.lemmas.List.{length-map}
use Rattle.std.proofs.lemmas.List.Elements.{filter-append}
use Rattle.yl_events.specs.Event.{EventValue}
use Rattle.yl_tree.specs.Keys.{name_of}
use Rattle.yl_tree.specs.OpenNodes.{OpenCollection, OpenNodes}
use Rattle.yl_open_collections.specs.Counted.{after_events}
use Rattle.yl_open_collections.specs.OpenBy.{keyless, without_keys}
use Rattle.yl_pieces.specs.KeysOfRuns.{all_with_earlier, height, is_before_key, lowest, run_alone, with_earlier_keys}
use Rattle.yl_pieces.proofs.KeysOfRuns.{keys_of_runs}
use Rattle.yl_pieces.proofs.KeyFindings.{after_both}
use Rattle.yl_piece_names.specs.Asked.{AskedName, asked_by, asked_names}
use Rattle.yl_piece_names.proofs.AskedKeys.{asked_one, lowest_of_both}
use Rattle.yl_piece_names.proofs.AskedList.{asked_after, asked_is, asked_of_both}

-- ---- without keys

all_keyless : (low : ℕ) (s : OpenNodes) (os : List OpenCollection) → map keyless (all_with_earlier low os s) ≡ map keyless os
all_keyless low s [] = refl
all_keyless low s (o ∷ os) = ap (λ xs. keyless o ∷ xs) (all_keyless low s os)

more_keyless : (low : ℕ) (t s : OpenNodes) → without_keys (with_earlier_keys low t s) ≡ without_keys t
more_keyless low t s = ap (λ os. record { innermost = keyless t.innermost; outer = os }) (all_keyless low s t.outer)

-- without keys the open collections after a run are those of the run alone
pub keyless_run : (s : OpenNodes) (es : List EventValue) → without_keys (after_events s es) ≡ without_keys (run_alone s es)
keyless_run s es = ap without_keys (keys_of_runs.run s es) ∙ more_keyless (lowest s es) (run_alone s es) s

keyless_both : (s : OpenNodes) (es front : List EventValue) → without_keys (run_alone s (es ++ front)) ≡ without_keys (run_alone (after_events s es) front)
keyless_both s es front =
    ap without_keys (after_both (without_keys s) es front)
    ∙ keyless_run (run_alone s es) front
    ∙ ap (λ t. without_keys (after_events t front)) (sym (keyless_run s es))

same_height : (t : OpenNodes) → height (without_keys t) ≡ height t
same_height t = ap suc (length-map t.outer keyless)

-- ---- what one event asks for

within_least : (h low m : ℕ) (b c : Bool) → nat_le h low ≡ b → nat_le h m ≡ c → nat_le h (min low m) ≡ (c && b)
within_least h low m true true is so = le-leb h (min low m) (le-min (leb-true h low is) (leb-true h m so))
within_least h low m false true is so =
    let above : low < h = leb-false h low is in
    let least : min low m ≤ low = min-le_left low m in
    lt-leb h (min low m) (omega (arith, above, least))
within_least h low m b false is so =
    let above : m < h = leb-false h m so in
    let least : min low m ≤ m = min-le_right low m in
    lt-leb h (min low m) (omega (arith, above, least))

abbrev fits : ℕ → AskedName → Bool
fits low a = nat_le a.height low

kept_if : (low : ℕ) (a : AskedName) (key within : Bool) → (if key && (within && fits low a) then a ∷ [] else []) ≡ filter (fits low) (if key && within then a ∷ [] else [])
kept_if low a true true = by_test (fits low a)
  where
    by_test : (b : Bool) → (if b then a ∷ [] else []) ≡ (if b then a ∷ [] else [])
    by_test b = refl
kept_if low a true false = refl
kept_if low a false within = refl

one_kept : (t : OpenNodes) (low m : ℕ) (name : Option (List ℕ)) → asked_one t (min low m) name ≡ filter (fits low) (asked_one t m name)
one_kept t low m None = refl
one_kept t low m (Some name) =
    ap (λ (b : Bool). if is_before_key t && b then record { height = height t; name = name } ∷ [] else []) (within_least (height t) low m (nat_le (height t) low) (nat_le (height t) m) refl refl)
    ∙ kept_if low (record { height = height t; name = name }) (is_before_key t) (nat_le (height t) m)

one_keyless : (t : OpenNodes) (low : ℕ) (name : Option (List ℕ)) → asked_one (without_keys t) low name ≡ asked_one t low name
one_keyless t low None = refl
one_keyless t low (Some name) = ap (λ h. if is_before_key t && nat_le h low then record { height = h; name = name } ∷ [] else []) (same_height t)

module _ (s : OpenNodes) (es : List EventValue) where
  asked_there : (front : List EventValue) (name : Option (List ℕ)) → asked_by s (es ++ front) name ≡ filter (fits (lowest s es)) (asked_by (after_events s es) front name)
  asked_there front name =
      sym (one_keyless (run_alone s (es ++ front)) (lowest s (es ++ front)) name)
      ∙ (λ i. asked_one (keyless_both s es front i) (lowest_of_both s es front i) name)
      ∙ one_keyless (run_alone (after_events s es) front) (min (lowest s es) (lowest (after_events s es) front)) name
      ∙ one_kept (run_alone (after_events s es) front) (lowest s es) (lowest (after_events s es) front) name

  all_there : (front back : List EventValue) → asked_after s (es ++ front) back ≡ filter (fits (lowest s es)) (asked_after (after_events s es) front back)
  all_there front [] = refl
  all_there front (e ∷ back) =
      (λ i. asked_there front (name_of e) i ++ (ap (λ gs. asked_after s gs back) (append_assoc es front (e ∷ [])) ∙ all_there (front ++ e ∷ []) back) i)
      ∙ sym (filter-append (fits (lowest s es)) (asked_by (after_events s es) front (name_of e)) (asked_after (after_events s es) (front ++ e ∷ []) back))

pub asked_of_runs : (s : OpenNodes) (es fs : List EventValue) → asked_names s (es ++ fs) ≡ asked_names s es ++ filter (fits (lowest s es)) (asked_names (after_events s es) fs)
asked_of_runs s es fs =
    asked_is s (es ++ fs)
    ∙ asked_of_both s [] es fs
    ∙ (λ i. sym (asked_is s es) i
    ++ (ap (λ gs. asked_after s gs fs) (sym (append-nil es)) ∙ all_there s es [] fs ∙ ap (filter (fits (lowest s es))) (sym (asked_is (after_events s es) fs))) i)
