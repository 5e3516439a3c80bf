-- What a rule on keys finds at the events of a run.
use Rattle.std.specs.Prelude.{if◌then◌else◌, nat_le}
use Rattle.std.proofs.Common.{◌≡◌, ℕ, ◌+◌, ◌≤◌, arith, List, [], ◌∷◌, ◌++◌, map, Bool, true, false, ◌&&◌, ◌||◌, refl, sym, ◌∙◌, ap, append_assoc, codes, Option, Some, None, option_map}
use Rattle.std.specs.List.{flat_map, list_any}
use Rattle.std.specs.Str.{chars}
use Rattle.std.proofs.lemmas.Bool.{leb-true}
use Rattle.std.proofs.lemmas.List.{map-append}
use Rattle.yl_text.specs.declared.position.Pos.{Pos}
use Rattle.yl_text.specs.declared.finding.RuleId.{RuleId}
use Rattle.yl_text.specs.Finding.{FindingValue, at_each, one_finding}
use Rattle.yl_events.specs.Event.{EventValue}
use Rattle.yl_lexeme_rules.specs.LexemesAlike.{finding_below}
use Rattle.yl_tree.specs.Keys.{name_of}
use Rattle.yl_tree.specs.KeyRules.{key_finding}
use Rattle.yl_tree.specs.Messages.{name_finding, printed_character}
use Rattle.yl_tree.specs.OpenNodes.{OpenNodes, with_event, collections_behind, keys_if_next}
use Rattle.yl_tree.proofs.Keys.{earlier}
use Rattle.yl_open_collections.specs.Counted.{after_events, finding_among, key_findings_after}
use Rattle.yl_open_collections.specs.OpenBy.{without_keys}
use Rattle.yl_pieces.specs.KeysOfRuns.{all_open, height, is_before_key, keys_at, lowest, run_alone}
use Rattle.yl_pieces.specs.DuplicatesOfRuns.{AsksFor, event_below, place_below}
use Rattle.yl_pieces.proofs.KeysOfRuns.{keys_of_runs}

-- ---- runs after one another

pub after_both : (s : OpenNodes) (es fs : List EventValue) → after_events s (es ++ fs) ≡ after_events (after_events s es) fs
after_both s [] fs = refl
after_both s (e ∷ es) fs = after_both (with_event e s) es fs

-- lines have no part in it
pub after_below : (n : ℕ) (s : OpenNodes) (es : List EventValue) → after_events s (map (event_below n) es) ≡ after_events s es
after_below n s [] = refl
after_below n s (e ∷ es) = after_below n (with_event e s) es

module _ (test : List (List ℕ) → List ℕ → Bool) (rule : RuleId) (words : List ℕ) where
  abbrev at : List (List ℕ) → EventValue → Option (List ℕ) → List FindingValue
  at = finding_among test rule words

  abbrev all : OpenNodes → List EventValue → List FindingValue
  all = key_findings_after test rule words

  pub both : (s : OpenNodes) (es fs : List EventValue) → all s (es ++ fs) ≡ all s es ++ all (after_events s es) fs
  both s [] fs = refl
  both s (e ∷ es) fs =
      ap (λ gs. at (keys_if_next s.innermost) e (name_of e) ++ gs) (both (with_event e s) es fs)
      ∙ sym (append_assoc (at (keys_if_next s.innermost) e (name_of e)) (all (with_event e s) es) (all (after_events s (e ∷ es)) fs))

  -- ---- a whole document

  one_found : (before : List EventValue) (e : EventValue) (name : Option (List ℕ))
      → key_finding test rule words before e name ≡ at (keys_if_next (collections_behind before).innermost) e name
  one_found before e None = refl
  one_found before e (Some name) = ap (λ ks. if test ks name then name_finding rule e.place words name (codes "\" in mapping") else []) (earlier before)

  pub all_found : (before es : List EventValue)
      → at_each (λ front e back. key_finding test rule words front e (name_of e)) before es ≡ all (collections_behind before) es
  all_found before [] = refl
  all_found before (e ∷ es) =
      ap (λ fs. fs ++ at_each (λ front f back. key_finding test rule words front f (name_of f)) (e ∷ before) es) (one_found before e (name_of e))
      ∙ ap (λ fs. at (keys_if_next (collections_behind before).innermost) e (name_of e) ++ fs) (all_found (e ∷ before) es)

  -- ---- further down

  module _ (n : ℕ) where
    line_moved : (line column : ℕ) (message : List ℕ) → one_finding rule (n + line + 1) column message ≡ map (finding_below n) (one_finding rule (line + 1) column message)
    line_moved line column message =
        let sum : n + line + 1 ≡ n + (line + 1) = omega arith in
        ap (λ l. one_finding rule l column message) sum

    place_moved : (place : Option Pos) (name : List ℕ)
        → name_finding rule (option_map (place_below n) place) words name (codes "\" in mapping")
        ≡ map (finding_below n) (name_finding rule place words name (codes "\" in mapping"))
    place_moved None name = refl
    place_moved (Some p) name = line_moved p.line (p.col + 1) (words ++ (flat_map printed_character (chars name) ++ codes "\" in mapping"))

    moved_if : (b : Bool) (fs gs : List FindingValue) → fs ≡ map (finding_below n) gs → (if b then fs else []) ≡ map (finding_below n) (if b then gs else [])
    moved_if true fs gs e = e
    moved_if false fs gs e = refl

    one_moved : (e : EventValue) (keys : List (List ℕ)) (name : Option (List ℕ)) → at keys (event_below n e) name ≡ map (finding_below n) (at keys e name)
    one_moved e keys None = refl
    one_moved e keys (Some name) =
        moved_if (test keys name) (name_finding rule (option_map (place_below n) e.place) words name (codes "\" in mapping"))
        (name_finding rule e.place words name (codes "\" in mapping")) (place_moved e.place name)

    pub all_moved : (s : OpenNodes) (es : List EventValue) → all s (map (event_below n) es) ≡ map (finding_below n) (all s es)
    all_moved s [] = refl
    all_moved s (e ∷ es) =
        ap (λ fs. fs ++ all (with_event e s) (map (event_below n) es)) (one_moved e (keys_if_next s.innermost) (name_of e))
        ∙ ap (λ gs. map (finding_below n) (at (keys_if_next s.innermost) e (name_of e)) ++ gs) (all_moved (with_event e s) es)
        ∙ sym (map-append (finding_below n) (at (keys_if_next s.innermost) e (name_of e)) (all (with_event e s) es))

-- ---- keys from before a run

guarded : (b c x y : Bool) → (b ≡ true → c ≡ true → x ≡ y) → (b && (c && x)) ≡ (b && (c && y))
guarded true true x y h = h refl refl
guarded true false x y h = refl
guarded false c x y h = refl

-- whether an earlier key passes a test: one of these, or one from before the run
abbrev passed : (List ℕ → Bool) → OpenNodes → (low : ℕ) → OpenNodes → Bool
passed test alone low s =
    list_any test (keys_if_next alone.innermost) || (is_before_key alone && (nat_le (height alone) low && list_any test (keys_at (height alone) (all_open s))))

module _ (s t : OpenNodes) (same : without_keys s ≡ without_keys t) where
  same_low : (es : List EventValue) → lowest s es ≡ lowest t es
  same_low es = sym (keys_of_runs.low s es) ∙ ap (λ u. lowest u es) same ∙ keys_of_runs.low t es

  same_passed : (test : List ℕ → Bool) (front : List EventValue)
      → (is_before_key (run_alone s front) ≡ true → height (run_alone s front) ≤ lowest s front
      → list_any test (keys_at (height (run_alone s front)) (all_open s)) ≡ list_any test (keys_at (height (run_alone s front)) (all_open t)))
      → list_any test (keys_if_next (after_events s front).innermost) ≡ list_any test (keys_if_next (after_events t front).innermost)
  same_passed test front agree =
      keys_of_runs.duplicates test s front
      ∙ ap (λ (b : Bool). list_any test (keys_if_next (run_alone s front).innermost) || b)
      (guarded (is_before_key (run_alone s front)) (nat_le (height (run_alone s front)) (lowest s front))
      (list_any test (keys_at (height (run_alone s front)) (all_open s))) (list_any test (keys_at (height (run_alone s front)) (all_open t)))
      (λ k l. agree k (leb-true (height (run_alone s front)) (lowest s front) l)))
      ∙ (λ i. passed test (after_events (same i) front) (same_low front i) t)
      ∙ sym (keys_of_runs.duplicates test t front)

  -- a key is found by its name, if the name is one that the rule speaks of and an earlier key
  -- speaks against it
  module _ (speaks : List ℕ → Bool) (against : List ℕ → List ℕ → Bool) (rule : RuleId) (words : List ℕ) where
    abbrev test_of : List (List ℕ) → List ℕ → Bool
    test_of earlier name = speaks name && list_any (λ key. against key name) earlier

    module _ (es : List EventValue)
        (agree : (h : ℕ) (name : List ℕ) → AsksFor s es h name
        → list_any (λ key. against key name) (keys_at h (all_open s)) ≡ list_any (λ key. against key name) (keys_at h (all_open t))) where
      same_one : (front : List EventValue) (e : EventValue) (back : List EventValue) (name : Option (List ℕ)) → es ≡ front ++ e ∷ back → name_of e ≡ name
          → finding_among test_of rule words (keys_if_next (after_events s front).innermost) e name
          ≡ finding_among test_of rule words (keys_if_next (after_events t front).innermost) e name
      same_one front e back None is named = refl
      same_one front e back (Some name) is named =
          ap (λ (b : Bool). if speaks name && b then name_finding rule e.place words name (codes "\" in mapping") else [])
          (same_passed (λ key. against key name) front
          (λ k l. agree (height (run_alone s front)) name
          (record { front = front; key = e; back = back; is_run = is; is_named = named; is_key = k; is_within = refl; lasts = l })))

      same_rest : (front back : List EventValue) → es ≡ front ++ back
          → key_findings_after test_of rule words (after_events s front) back ≡ key_findings_after test_of rule words (after_events t front) back
      same_rest front [] is = refl
      same_rest front (e ∷ back) is =
          ap (λ fs. fs ++ key_findings_after test_of rule words (with_event e (after_events s front)) back) (same_one front e back (name_of e) is refl)
          ∙ ap (λ gs. finding_among test_of rule words (keys_if_next (after_events t front).innermost) e (name_of e) ++ gs)
          (ap (λ u. key_findings_after test_of rule words u back) (sym (after_both s front (e ∷ [])))
          ∙ same_rest (front ++ e ∷ []) back (is ∙ sym (append_assoc front (e ∷ []) back))
          ∙ ap (λ u. key_findings_after test_of rule words u back) (after_both t front (e ∷ [])))

      pub same_found : key_findings_after test_of rule words s es ≡ key_findings_after test_of rule words t es
      same_found = same_rest [] es refl
