-- Runs that ask for the same names are found against by the keys from before them alike.
use Rattle.std.specs.Prelude.{Contains, ◌==◌}
use Rattle.std.proofs.Common.{◌≡◌, inl, inr, ℕ, List, [], ◌∷◌, ◌++◌, length, map, get_or, Bool, true, false, not, ◌&&◌, ◌||◌, refl, sym, ◌∙◌, ap, codes, Option}
use Rattle.std.specs.List.{AllByRecursion, list_any}
use Rattle.std.specs.Str.{bytes_eq}
use Rattle.std.proofs.lemmas.Bool.{and_from, and_parts, eqb-true, or_cases, or_parts}
use Rattle.std.proofs.lemmas.List.Elements.{All-contains, All-from_recursion, Contains-get_or, recursion_from_All}
use Rattle.std.proofs.lemmas.List.{map-append}
use Rattle.std.proofs.lemmas.Slice.Eq.{bytes_eq-Decides}
use Rattle.yl_text.specs.declared.finding.RuleId.{RuleId}
use Rattle.yl_text.specs.declared.finding.RuleId.TheVariants.{KeyDuplicates, KeyOrdering}
use Rattle.yl_text.proofs.Every.{all_then}
use Rattle.yl_events.specs.Event.{EventValue}
use Rattle.yl_lexeme_rules.specs.LexemesAlike.{finding_below}
use Rattle.yl_tree.specs.declared.options.KeyDuplicatesOptions.{KeyDuplicatesOptions}
use Rattle.yl_tree.specs.KeyRules.{is_duplicate, is_greater}
use Rattle.yl_tree.specs.Greatest.{is_greater_among}
use Rattle.yl_tree.specs.Keys.{name_of}
use Rattle.yl_tree.specs.OpenNodes.{OpenNodes}
use Rattle.yl_open_collections.specs.Counted.{key_findings_after, what_counts}
use Rattle.yl_open_collections.specs.OpenBy.{without_keys}
use Rattle.yl_pieces.specs.KeysOfRuns.{all_open, keys_at}
use Rattle.yl_pieces.specs.DuplicatesOfRuns.{event_below}
use Rattle.yl_pieces.proofs.KeyFindings.{after_below, all_moved, same_found as found_alike}
use Rattle.yl_piece_names.specs.Asked.{AskedName, AskedNames, HasPlace, asked_by, asked_names}
use Rattle.yl_piece_names.proofs.AskedKeys.{asked_first, asked_one}
use Rattle.yl_piece_names.proofs.AskedList.{asked_after, asked_is, list_tells}
use Rattle.yl_piece_names.proofs.Mappings.{found_by_mappings}
use Rattle.yl_piece_names.proofs.OtherKeys.{same_keys, same_mappings, same_without_keys, with_other_keys}
use Rattle.yl_piece_names.proofs.SameNames.{lowest_below}
use Rattle.yl_piece_names.proofs.AskedRuns.{asked_of_runs, keyless_run}
use Rattle.yl_piece_names.proofs.AskedQuiet.{all_back, all_is, all_same, alone_is, is_against, is_quiet, quiet_is, quiet_one}

not_or : (b c : Bool) → b ≡ false → (not b || c) ≡ true
not_or true c e = cc
not_or false c e = refl

module _ (speaks : List ℕ → Bool) (against : List ℕ → List ℕ → Bool) (s : OpenNodes) where
  -- a key from before speaks against the name, and the rule speaks of it
  abbrev is_found : AskedName → Bool
  is_found a = speaks a.name && list_any (λ key. against key a.name) (keys_at a.height (all_open s))

  abbrev NoneFound : List AskedName → Type 0
  NoneFound xs = AllByRecursion (λ a. is_found a ≡ false) xs

  none_quiet : (earlier xs : List AskedName) → NoneFound xs → is_quiet speaks against s earlier xs ≡ true
  none_quiet earlier [] h = refl
  none_quiet earlier (a ∷ xs) h =
      and_from (quiet_one speaks against s earlier a) (is_quiet speaks against s (a ∷ earlier) xs)
      (not_or (is_found a) (list_any (is_against speaks against a) earlier) h.0) (none_quiet (a ∷ earlier) xs h.1)

  unspoken : (b c : Bool) → c ≡ false → (b && c) ≡ false
  unspoken true c e = e
  unspoken false c e = refl

  none_found : (xs : List AskedName) → list_any (λ a. list_any (λ key. against key a.name) (keys_at a.height (all_open s))) xs ≡ false → NoneFound xs
  none_found [] h = tt
  none_found (a ∷ xs) h =
      let parts = or_parts (list_any (λ key. against key a.name) (keys_at a.height (all_open s))) (list_any (λ b. list_any (λ key. against key b.name) (keys_at b.height (all_open s))) xs) h in
      (unspoken (speaks a.name) (list_any (λ key. against key a.name) (keys_at a.height (all_open s))) parts.0, none_found xs parts.1)

  module _ (rule : RuleId) (words : List ℕ) where
    abbrev test_of : List (List ℕ) → List ℕ → Bool
    test_of earlier name = speaks name && list_any (λ key. against key name) earlier

    abbrev Alone : List EventValue → Type 0
    Alone es = key_findings_after test_of rule words s es ≡ key_findings_after test_of rule words (without_keys s) es

    alone_if : (es : List EventValue) → is_quiet speaks against s [] (asked_names s es) ≡ true → Alone es
    alone_if es quiet =
        all_is speaks against s rule words [] es
        ∙ all_same speaks against s rule words [] es (quiet_is speaks against s [] es [] (asked_first s) ∙ ap (is_quiet speaks against s []) (sym (asked_is s es)) ∙ quiet)
        ∙ sym (alone_is speaks against s rule words [] es)

    quiet_if : (es : List EventValue) → AllByRecursion HasPlace es → Alone es → is_quiet speaks against s [] (asked_names s es) ≡ true
    quiet_if es placed alone =
        ap (is_quiet speaks against s []) (asked_is s es)
        ∙ sym (quiet_is speaks against s [] es [] (asked_first s))
        ∙ all_back speaks against s rule words [] es placed (ap length (sym (alone_is speaks against s rule words [] es) ∙ sym alone ∙ all_is speaks against s rule words [] es))

    pub alone_by_names : (es : List EventValue) → list_any (λ a. list_any (λ key. against key a.name) (keys_at a.height (all_open s))) (asked_names s es) ≡ false → Alone es
    alone_by_names es h = alone_if es (none_quiet [] (asked_names s es) (none_found (asked_names s es) h))

    pub alone_alike : (old new : List EventValue) → AllByRecursion HasPlace old → asked_names s old ≡ asked_names s new → Alone old → Alone new
    alone_alike old new placed same alone = alone_if new (ap (is_quiet speaks against s []) (sym same) ∙ quiet_if old placed alone)

-- ---- equal names

module _ (speaks : List ℕ → Bool) (s : OpenNodes) where
  abbrev equal : List ℕ → List ℕ → Bool
  equal key name = bytes_eq key name

  same_found : (a b : AskedName) → is_against speaks equal a b ≡ true → is_found speaks equal s a ≡ is_found speaks equal s b
  same_found a b h =
      let parts = and_parts (a.height == b.height) (bytes_eq b.name a.name) h in
      let heights : a.height ≡ b.height = eqb-true a.height b.height parts.0 in
      let names : a.name ≡ b.name = sym ((bytes_eq-Decides b.name a.name).0 parts.1) in
      λ i. is_found speaks equal s (record { height = heights i; name = names i })

  matched : (a : AskedName) (earlier : List AskedName) → NoneFound speaks equal s earlier → list_any (is_against speaks equal a) earlier ≡ true → is_found speaks equal s a ≡ false
  matched a [] none h = cc
  matched a (b ∷ earlier) none h =
      elim (or_cases (is_against speaks equal a b) (list_any (is_against speaks equal a) earlier) h) [
        | inl k ↦ same_found a b k ∙ none.0
        | inr k ↦ matched a earlier none.1 k
      ]

  one_unfound : (a : AskedName) (earlier : List AskedName) (b : Bool) → is_found speaks equal s a ≡ b → NoneFound speaks equal s earlier → quiet_one speaks equal s earlier a ≡ true
      → is_found speaks equal s a ≡ false
  one_unfound a earlier false is none quiet = is
  one_unfound a earlier true is none quiet =
      matched a earlier none (sym (ap (λ (b : Bool). not b || list_any (is_against speaks equal a) earlier) is) ∙ quiet)

  unfound : (earlier xs : List AskedName) → NoneFound speaks equal s earlier → is_quiet speaks equal s earlier xs ≡ true → NoneFound speaks equal s xs
  unfound earlier [] none h = tt
  unfound earlier (a ∷ xs) none h =
      let parts = and_parts (quiet_one speaks equal s earlier a) (is_quiet speaks equal s (a ∷ earlier) xs) h in
      let here : is_found speaks equal s a ≡ false = one_unfound a earlier (is_found speaks equal s a) refl none parts.0 in
      (here, unfound (a ∷ earlier) xs (here, none) parts.1)

  abbrev Unfound : AskedName → Type 0
  Unfound a = is_found speaks equal s a ≡ false

  fewer_unfound : (xs ys : List AskedName) → ((a : AskedName) → Contains ys a → Contains xs a) → NoneFound speaks equal s xs → NoneFound speaks equal s ys
  fewer_unfound xs ys fewer none =
      recursion_from_All Unfound ys (λ k d l. All-contains Unfound xs (get_or ys k d) (All-from_recursion Unfound xs none) (fewer (get_or ys k d) (Contains-get_or ys k d l)))

  pub alone_by_fewer : (rule : RuleId) (words : List ℕ) (old new : List EventValue) → AllByRecursion HasPlace old → ((a : AskedName) → Contains (asked_names s new) a → Contains (asked_names s old) a)
      → Alone speaks equal s rule words old → Alone speaks equal s rule words new
  alone_by_fewer rule words old new placed fewer alone =
      alone_if speaks equal s rule words new
      (none_quiet speaks equal s [] (asked_names s new)
      (fewer_unfound (asked_names s old) (asked_names s new) fewer (unfound [] (asked_names s old) tt (quiet_if speaks equal s rule words old placed alone))))

-- ---- other keys

module _ (s t : OpenNodes) (same : what_counts (without_keys s) ≡ what_counts (without_keys t)) (speaks : List ℕ → Bool) (against : List ℕ → List ℕ → Bool) (rule : RuleId) (words : List ℕ) where
  abbrev any_at : OpenNodes → AskedName → Bool
  any_at u a = list_any (λ key. against key a.name) (keys_at a.height (all_open u))

  -- the collections of the one, with the keys of the other
  abbrev mixed : OpenNodes
  mixed = with_other_keys s t

  abbrev Answered : AskedName → Type 0
  Answered a = any_at s a ≡ any_at mixed a

  answered_alike : (es : List EventValue) → AllByRecursion (λ a. any_at s a ≡ any_at t a) (asked_names s es)
      → key_findings_after (test_of speaks against s rule words) rule words s es ≡ key_findings_after (test_of speaks against s rule words) rule words t es
  answered_alike es h =
      let all : AllByRecursion Answered (asked_names s es) =
      all_then (λ a. any_at s a ≡ any_at t a) Answered (asked_names s es) (λ a e. e ∙ sym (ap (list_any (λ key. against key a.name)) (same_keys s t same a.height))) h in
      found_alike s mixed (sym (same_without_keys s t)) speaks against rule words es
      (λ height name asks. All-contains Answered (asked_names s es) (record { height = height; name = name }) (All-from_recursion Answered (asked_names s es) all)
      ((list_tells s es height name).0 asks))
      ∙ found_by_mappings (test_of speaks against s rule words) rule words mixed t es (same_mappings s t same)

-- ---- further down

module _ (n : ℕ) (s : OpenNodes) where
  asked_here_below : (front : List EventValue) (name : Option (List ℕ)) → asked_by s (map (event_below n) front) name ≡ asked_by s front name
  asked_here_below front name =
      λ i. asked_one (after_below n (without_keys s) front i) (lowest_below n s front i) name

  asked_below : (front back : List EventValue) → asked_after s (map (event_below n) front) (map (event_below n) back) ≡ asked_after s front back
  asked_below front [] = refl
  asked_below front (e ∷ back) =
      ap (λ xs. xs ++ asked_after s (map (event_below n) front ++ event_below n e ∷ []) (map (event_below n) back)) (asked_here_below front (name_of e))
      ∙ ap (λ xs. asked_by s front (name_of e) ++ xs)
      (ap (λ es. asked_after s es (map (event_below n) back)) (sym (map-append (event_below n) front (e ∷ []))) ∙ asked_below (front ++ e ∷ []) back)

  names_below : (es : List EventValue) → asked_names s (map (event_below n) es) ≡ asked_names s es
  names_below es = asked_is s (map (event_below n) es) ∙ asked_below [] es ∙ sym (asked_is s es)

  alone_below : (test : List (List ℕ) → List ℕ → Bool) (rule : RuleId) (words : List ℕ) (es : List EventValue)
      → key_findings_after test rule words s es ≡ key_findings_after test rule words (without_keys s) es
      → key_findings_after test rule words s (map (event_below n) es) ≡ key_findings_after test rule words (without_keys s) (map (event_below n) es)
  alone_below test rule words es alone = all_moved test rule words n s es ∙ ap (map (finding_below n)) alone ∙ sym (all_moved test rule words n (without_keys s) es)

-- ---- the law

abbrev speaks_of : KeyDuplicatesOptions → List ℕ → Bool
speaks_of o name = o.forbid_duplicated_merge_keys || not (bytes_eq name (codes "<<"))

pub names_asked : AskedNames
names_asked = record {
  told = list_tells;
  runs = asked_of_runs;
  keyless = keyless_run;
  duplicates = λ o s es h. alone_by_names (speaks_of o) (λ key name. bytes_eq key name) s KeyDuplicates (codes "duplication of key \"") es h;
  ordering = λ s es h. alone_by_names (λ name. true) is_greater s KeyOrdering (codes "wrong ordering of key \"") es h;
  alike_duplicates = λ o s t es same h. answered_alike s t same (speaks_of o) (λ key name. bytes_eq key name) KeyDuplicates (codes "duplication of key \"") es h;
  alike_ordering = λ s t es same h. answered_alike s t same (λ name. true) is_greater KeyOrdering (codes "wrong ordering of key \"") es h;
  same_duplicates = λ o s old new placed same alone. alone_alike (speaks_of o) (λ key name. bytes_eq key name) s KeyDuplicates (codes "duplication of key \"") old new placed same alone;
  same_ordering = λ s old new placed same alone. alone_alike (λ name. true) is_greater s KeyOrdering (codes "wrong ordering of key \"") old new placed same alone;
  fewer_duplicates = λ o s old new placed fewer alone. alone_by_fewer (speaks_of o) s KeyDuplicates (codes "duplication of key \"") old new placed fewer alone;
  below = names_below;
  duplicates_below = λ o n s es alone. alone_below n s (is_duplicate o) KeyDuplicates (codes "duplication of key \"") es alone;
  ordering_below = λ n s es alone. alone_below n s is_greater_among KeyOrdering (codes "wrong ordering of key \"") es alone;
}
