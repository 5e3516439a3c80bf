-- Where a rule on keys finds nothing at a run, it finds nothing at the run alone: fewer keys, fewer findings.
use Rattle.std.specs.Prelude.{if◌then◌else◌, nat_le}
use Rattle.std.proofs.Common.{◌≡◌, ℕ, List, [], ◌∷◌, ◌++◌, map, Bool, true, false, ◌&&◌, ◌||◌, refl, sym, ◌∙◌, ap, codes, Option, Some, None}
use Rattle.std.specs.List.{list_any}
use Rattle.yl_text.specs.declared.finding.RuleId.{RuleId}
use Rattle.yl_text.specs.Finding.{FindingValue}
use Rattle.yl_events.specs.Event.{EventValue}
use Rattle.yl_tree.specs.Keys.{name_of}
use Rattle.yl_tree.specs.Messages.{name_finding}
use Rattle.yl_tree.specs.OpenNodes.{OpenNodes, keys_if_next, with_event}
use Rattle.yl_open_collections.specs.Counted.{after_events, finding_among, key_findings_after}
use Rattle.yl_open_collections.specs.OpenBy.{without_keys}
use Rattle.yl_pieces.specs.KeysOfRuns.{all_open, height, is_before_key, keys_at, lowest, run_alone}
use Rattle.yl_pieces.proofs.KeyFindings.{after_both}
use Rattle.yl_pieces.proofs.KeysOfRuns.{keys_of_runs}

-- ---- lists without members

pub front_none : {X : Type 0} (xs ys : List X) → xs ++ ys ≡ [] → xs ≡ []
front_none [] ys e = refl
front_none (x ∷ xs) ys e = cc

pub back_none : {X : Type 0} (xs ys : List X) → xs ++ ys ≡ [] → ys ≡ []
back_none [] ys e = e
back_none (x ∷ xs) ys e = cc

pub both_none : {X : Type 0} (xs ys : List X) → xs ≡ [] → ys ≡ [] → xs ++ ys ≡ []
both_none xs ys e f = λ i. e i ++ f i

pub none_mapped : {X Y : Type 0} (f : X → Y) (xs : List X) → map f xs ≡ [] → xs ≡ []
none_mapped f [] e = refl
none_mapped f (x ∷ xs) e = cc

-- ---- a rule on keys

fewer : (a b c : Bool) (fs : List FindingValue) → (if a && (b || c) then fs else []) ≡ [] → (if a && b then fs else []) ≡ []
fewer true true c fs h = h
fewer true false c fs h = refl
fewer false b c fs h = refl

-- a key is found by its name, if the name is one that the rule speaks of and an earlier key speaks against it
module _ (speaks : List ℕ → Bool) (against : List ℕ → List ℕ → Bool) (rule : RuleId) (words : List ℕ) (s : OpenNodes) where
  abbrev test_of : List (List ℕ) → List ℕ → Bool
  test_of earlier name = speaks name && list_any (λ key. against key name) earlier

  abbrev at : OpenNodes → EventValue → Option (List ℕ) → List FindingValue
  at t e name = finding_among test_of rule words (keys_if_next t.innermost) e name

  abbrev found : OpenNodes → List EventValue → List FindingValue
  found t es = key_findings_after test_of rule words t es

  one_alone : (front : List EventValue) (e : EventValue) (name : Option (List ℕ)) → at (after_events s front) e name ≡ []
      → at (run_alone s front) e name ≡ []
  one_alone front e None h = refl
  one_alone front e (Some name) h =
      let alone = run_alone s front in
      let fs = name_finding rule e.place words name (codes "\" in mapping") in
      let from_before =
      is_before_key alone && (nat_le (height alone) (lowest s front) && list_any (λ key. against key name) (keys_at (height alone) (all_open s))) in
      fewer (speaks name) (list_any (λ key. against key name) (keys_if_next alone.innermost)) from_before fs
      (sym (ap (λ (b : Bool). if speaks name && b then fs else []) (keys_of_runs.duplicates (λ key. against key name) s front)) ∙ h)

  rest_alone : (front back : List EventValue) → found (after_events s front) back ≡ [] → found (run_alone s front) back ≡ []
  rest_alone front [] h = refl
  rest_alone front (e ∷ back) h =
      let one = at (after_events s front) e (name_of e) in
      let more = found (with_event e (after_events s front)) back in
      both_none (at (run_alone s front) e (name_of e)) (found (with_event e (run_alone s front)) back)
      (one_alone front e (name_of e) (front_none one more h))
      (ap (λ (t : OpenNodes). found t back) (sym (after_both (without_keys s) front (e ∷ [])))
      ∙ rest_alone (front ++ e ∷ []) back (ap (λ (t : OpenNodes). found t back) (after_both s front (e ∷ [])) ∙ back_none one more h))

  pub none_alone : (es : List EventValue) → found s es ≡ [] → found (without_keys s) es ≡ []
  none_alone es h = rest_alone [] es h
