-- Whether keys from before a run have a part in what is found at it, by the names that it asks for.
use Rattle.std.specs.Prelude.{if◌then◌else◌, nat_le, ◌==◌, is_some, IfSome}
use Rattle.std.proofs.Common.{◌≡◌, ℕ, ◌+◌, ◌≤◌, arith, List, [], ◌∷◌, ◌++◌, length, Bool, true, false, not, ◌&&◌, ◌||◌, refl, sym, ◌∙◌, ap, codes, Option, Some, None}
use Rattle.std.specs.List.{AllByRecursion, list_any}
use Rattle.std.proofs.lemmas.Bool.{and_from, and_parts, eq-eqb, leb-true}
use Rattle.std.proofs.lemmas.List.{length-append}
use Rattle.yl_text.specs.declared.position.Pos.{Pos}
use Rattle.yl_text.specs.declared.finding.RuleId.{RuleId}
use Rattle.yl_text.specs.Finding.{FindingValue}
use Rattle.yl_events.specs.Event.{EventValue}
use Rattle.yl_tree.specs.Keys.{name_of}
use Rattle.yl_tree.specs.Messages.{name_finding}
use Rattle.yl_tree.specs.OpenNodes.{OpenNodes, with_event, keys_if_next}
use Rattle.yl_open_collections.specs.Counted.{after_events, finding_among, key_findings_after}
use Rattle.yl_open_collections.specs.OpenBy.{without_keys}
use Rattle.yl_pieces.specs.KeysOfRuns.{all_open, height, is_before_key, keys_at, lowest, run_alone}
use Rattle.yl_pieces.proofs.KeysOfRuns.{keys_of_runs}
use Rattle.yl_pieces.proofs.KeyFindings.{after_both}
use Rattle.yl_piece_names.specs.Asked.{AskedName, HasPlace, asked_by, is_asking}
use Rattle.yl_piece_names.proofs.AskedKeys.{AreAsked, asked_more, names_at}
use Rattle.yl_piece_names.proofs.AskedList.{asked_after}

-- ---- tests

-- a key from before has no part where there is none, where the rule doesn't speak of the name, or
-- where a key of the run speaks against it
same_test : (speaks own more : Bool) → (not (speaks && more) || own) ≡ true → (speaks && (own || more)) ≡ (speaks && own)
same_test false own more e = refl
same_test true true more e = refl
same_test true false false e = refl
same_test true false true e = cc

nothing : (b own : Bool) → (not (b && false) || own) ≡ true
nothing true own = refl
nothing false own = refl

same_number : (n : ℕ) → (n == n) ≡ true
same_number n = eq-eqb n n refl

module _ (speaks : List ℕ → Bool) (against : List ℕ → List ℕ → Bool) where
  abbrev any : List ℕ → List (List ℕ) → Bool
  any name keys = list_any (λ key. against key name) keys

  -- the first name was asked for in the same mapping, and speaks against the second
  abbrev pub is_against : AskedName → AskedName → Bool
  is_against a b = a.height == b.height && against b.name a.name

  abbrev pub quiet_one : OpenNodes → List AskedName → AskedName → Bool
  quiet_one s earlier a = not (speaks a.name && any a.name (keys_at a.height (all_open s))) || list_any (is_against a) earlier

  -- keys from before have no part at these names, asked for after others, of which the latest is
  -- the first
  abbrev pub is_quiet : OpenNodes → List AskedName → List AskedName → Bool
  is_quiet s earlier [] = true
  is_quiet s earlier (a ∷ rest) = quiet_one s earlier a && is_quiet s (a ∷ earlier) rest

  names_any : (h : ℕ) (name : List ℕ) (xs : List AskedName) → any name (names_at h xs) ≡ list_any (is_against (record { height = h; name = name })) xs
  names_any h name [] = refl
  names_any h name (a ∷ xs) = by_test (h == a.height) (names_any h name xs)
    where
      by_test : (b : Bool) → any name (names_at h xs) ≡ list_any (is_against (record { height = h; name = name })) xs
          → any name (if b then a.name ∷ names_at h xs else names_at h xs) ≡ (b && against a.name name || list_any (is_against (record { height = h; name = name })) xs)
      by_test true e = ap (λ c. against a.name name || c) e
      by_test false e = e

  module _ (s : OpenNodes) where
    -- ---- by the events

    abbrev own : List EventValue → List ℕ → Bool
    own front name = any name (keys_if_next (run_alone s front).innermost)

    abbrev more : List EventValue → List ℕ → Bool
    more front name =
        is_before_key (run_alone s front) && (nat_le (height (run_alone s front)) (lowest s front) && any name (keys_at (height (run_alone s front)) (all_open s)))

    abbrev quiet_at : List EventValue → Option (List ℕ) → Bool
    quiet_at front None = true
    quiet_at front (Some name) = not (speaks name && more front name) || own front name

    abbrev quiet_from : List EventValue → List EventValue → Bool
    quiet_from front [] = true
    quiet_from front (e ∷ back) = quiet_at front (name_of e) && quiet_from (front ++ e ∷ []) back

    -- ---- it is the same by the names that are asked for

    own_keys : (front : List EventValue) (earlier : List AskedName) (name : List ℕ) → AreAsked s front earlier → is_before_key (run_alone s front) ≡ true
        → nat_le (height (run_alone s front)) (lowest s front) ≡ true → own front name ≡ list_any (is_against (record { height = height (run_alone s front); name = name })) earlier
    own_keys front earlier name are key fits =
        let t = run_alone s front in
        ap (λ (b : Bool). any name (if b then t.innermost.keys else [])) key
        ∙ sym (ap (λ (b : Bool). any name (if b then t.innermost.keys else keys_at (height t) t.outer)) (same_number (height t)))
        ∙ ap (any name) (are.keys (height t) (leb-true (height t) (lowest s front) fits))
        ∙ names_any (height t) name earlier

    quiet_by : (front : List EventValue) (name : List ℕ) (earlier rest : List AskedName) (left : Bool) (b : Bool) → AreAsked s front earlier → is_asking s front ≡ b
        → left ≡ is_quiet s ((if b then record { height = height (run_alone s front); name = name } ∷ [] else []) ++ earlier) rest
        → (quiet_at front (Some name) && left) ≡ is_quiet s earlier ((if b then record { height = height (run_alone s front); name = name } ∷ [] else []) ++ rest)
    quiet_by front name earlier rest left true are asks e =
        let t = run_alone s front in
        let parts = and_parts (is_before_key t) (nat_le (height t) (lowest s front)) asks in
        (λ i. (not (speaks name && (parts.0 i && (parts.1 i && any name (keys_at (height t) (all_open s))))) || own_keys front earlier name are parts.0 parts.1 i) && e i)
    quiet_by front name earlier rest left false are asks e = ap (λ (b : Bool). b && left) (unasked (is_before_key (run_alone s front)) (nat_le (height (run_alone s front)) (lowest s front)) asks) ∙ e
      where
        unasked : (c d : Bool) → (c && d) ≡ false → (not (speaks name && (c && (d && any name (keys_at (height (run_alone s front)) (all_open s))))) || own front name) ≡ true
        unasked true true off = cc
        unasked true false off = nothing (speaks name) (own front name)
        unasked false d off = nothing (speaks name) (own front name)

    quiet_named : (front : List EventValue) (name : Option (List ℕ)) (earlier rest : List AskedName) (left : Bool) → AreAsked s front earlier
        → left ≡ is_quiet s (asked_by s front name ++ earlier) rest → (quiet_at front name && left) ≡ is_quiet s earlier (asked_by s front name ++ rest)
    quiet_named front None earlier rest left are e = e
    quiet_named front (Some name) earlier rest left are e = quiet_by front name earlier rest left (is_asking s front) are refl e

    pub quiet_is : (front back : List EventValue) (earlier : List AskedName) → AreAsked s front earlier → quiet_from front back ≡ is_quiet s earlier (asked_after s front back)
    quiet_is front [] earlier are = refl
    quiet_is front (e ∷ back) earlier are =
        quiet_named front (name_of e) earlier (asked_after s (front ++ e ∷ []) back) (quiet_from (front ++ e ∷ []) back) are
        (quiet_is (front ++ e ∷ []) back (asked_by s front (name_of e) ++ earlier) (asked_more s front e earlier are))

    -- ---- what is found

    module _ (rule : RuleId) (words : List ℕ) where
      abbrev test_of : List (List ℕ) → List ℕ → Bool
      test_of earlier name = speaks name && list_any (λ key. against key name) earlier

      abbrev found : EventValue → List ℕ → Bool → List FindingValue
      found e name b = if b then name_finding rule e.place words name (codes "\" in mapping") else []

      abbrev at_all : List EventValue → EventValue → Option (List ℕ) → List FindingValue
      at_all front e None = []
      at_all front e (Some name) = found e name (speaks name && (own front name || more front name))

      abbrev at_own : List EventValue → EventValue → Option (List ℕ) → List FindingValue
      at_own front e None = []
      at_own front e (Some name) = found e name (speaks name && own front name)

      abbrev all : List EventValue → List EventValue → List FindingValue
      all front [] = []
      all front (e ∷ back) = at_all front e (name_of e) ++ all (front ++ e ∷ []) back

      abbrev alone : List EventValue → List EventValue → List FindingValue
      alone front [] = []
      alone front (e ∷ back) = at_own front e (name_of e) ++ alone (front ++ e ∷ []) back

      one_of_all : (front : List EventValue) (e : EventValue) (name : Option (List ℕ)) → finding_among test_of rule words (keys_if_next (after_events s front).innermost) e name ≡ at_all front e name
      one_of_all front e None = refl
      one_of_all front e (Some name) = ap (λ b. found e name (speaks name && b)) (keys_of_runs.duplicates (λ key. against key name) s front)

      one_of_own : (front : List EventValue) (e : EventValue) (name : Option (List ℕ)) → finding_among test_of rule words (keys_if_next (run_alone s front).innermost) e name ≡ at_own front e name
      one_of_own front e None = refl
      one_of_own front e (Some name) = refl

      pub all_is : (front back : List EventValue) → key_findings_after test_of rule words (after_events s front) back ≡ all front back
      all_is front [] = refl
      all_is front (e ∷ back) =
          ap (λ fs. fs ++ key_findings_after test_of rule words (with_event e (after_events s front)) back) (one_of_all front e (name_of e))
          ∙ ap (λ fs. at_all front e (name_of e) ++ fs) (ap (λ u. key_findings_after test_of rule words u back) (sym (after_both s front (e ∷ []))) ∙ all_is (front ++ e ∷ []) back)

      pub alone_is : (front back : List EventValue) → key_findings_after test_of rule words (run_alone s front) back ≡ alone front back
      alone_is front [] = refl
      alone_is front (e ∷ back) =
          ap (λ fs. fs ++ key_findings_after test_of rule words (with_event e (run_alone s front)) back) (one_of_own front e (name_of e))
          ∙ ap (λ fs. at_own front e (name_of e) ++ fs) (ap (λ u. key_findings_after test_of rule words u back) (sym (after_both (without_keys s) front (e ∷ []))) ∙ alone_is (front ++ e ∷ []) back)

      -- ---- where keys from before have no part, the same is found

      one_same : (front : List EventValue) (e : EventValue) (name : Option (List ℕ)) → quiet_at front name ≡ true → at_all front e name ≡ at_own front e name
      one_same front e None h = refl
      one_same front e (Some name) h = ap (found e name) (same_test (speaks name) (own front name) (more front name) h)

      pub all_same : (front back : List EventValue) → quiet_from front back ≡ true → all front back ≡ alone front back
      all_same front [] h = refl
      all_same front (e ∷ back) h =
          let parts = and_parts (quiet_at front (name_of e)) (quiet_from (front ++ e ∷ []) back) h in
          ap (λ fs. fs ++ all (front ++ e ∷ []) back) (one_same front e (name_of e) parts.0) ∙ ap (λ fs. at_own front e (name_of e) ++ fs) (all_same (front ++ e ∷ []) back parts.1)

      -- ---- and where the same is found, they have none

      found_at : (e : EventValue) (name : List ℕ) → is_some e.place ≡ true → length (name_finding rule e.place words name (codes "\" in mapping")) ≡ 1
      found_at e name placed = by_place e.place placed
        where
          by_place : (place : Option Pos) → is_some place ≡ true → length (name_finding rule place words name (codes "\" in mapping")) ≡ 1
          by_place (Some p) h = refl
          by_place None h = cc

      fewer_if : (fs : List FindingValue) (speaks own more : Bool) → length (if speaks && own then fs else []) ≤ length (if speaks && (own || more) then fs else [])
      fewer_if fs false own more = omega arith
      fewer_if fs true true more = omega arith
      fewer_if fs true false more = omega arith

      one_fewer : (front : List EventValue) (e : EventValue) (name : Option (List ℕ)) → length (at_own front e name) ≤ length (at_all front e name)
      one_fewer front e None = omega arith
      one_fewer front e (Some name) = fewer_if (name_finding rule e.place words name (codes "\" in mapping")) (speaks name) (own front name) (more front name)

      fewer : (front back : List EventValue) → length (alone front back) ≤ length (all front back)
      fewer front [] = omega arith
      fewer front (e ∷ back) =
          let first : length (at_own front e (name_of e)) ≤ length (at_all front e (name_of e)) = one_fewer front e (name_of e) in
          let rest : length (alone (front ++ e ∷ []) back) ≤ length (all (front ++ e ∷ []) back) = fewer (front ++ e ∷ []) back in
          let one : length (alone front (e ∷ back)) ≡ length (at_own front e (name_of e)) + length (alone (front ++ e ∷ []) back) = length-append (at_own front e (name_of e)) (alone (front ++ e ∷ []) back) in
          let other : length (all front (e ∷ back)) ≡ length (at_all front e (name_of e)) + length (all (front ++ e ∷ []) back) = length-append (at_all front e (name_of e)) (all (front ++ e ∷ []) back) in
          omega (arith, first, rest, one, other)

      back_if : (fs : List FindingValue) (speaks own more : Bool) → length fs ≡ 1 → length (if speaks && own then fs else []) ≡ length (if speaks && (own || more) then fs else [])
          → (not (speaks && more) || own) ≡ true
      back_if fs false own more one e = refl
      back_if fs true true more one e = not_or more
        where
          not_or : (b : Bool) → (not b || true) ≡ true
          not_or true = refl
          not_or false = refl
      back_if fs true false false one e = refl
      back_if fs true false true one e = let none : 0 ≡ length fs = e in absurd (omega (arith, none, one))

      one_back : (front : List EventValue) (e : EventValue) (name : Option (List ℕ)) → IfSome name (λ n. is_some e.place ≡ true) → length (at_own front e name) ≡ length (at_all front e name)
          → quiet_at front name ≡ true
      one_back front e None placed h = refl
      one_back front e (Some name) placed h = back_if (name_finding rule e.place words name (codes "\" in mapping")) (speaks name) (own front name) (more front name) (found_at e name placed) h

      pub all_back : (front back : List EventValue) → AllByRecursion HasPlace back → length (alone front back) ≡ length (all front back) → quiet_from front back ≡ true
      all_back front [] placed h = refl
      all_back front (e ∷ back) placed h =
          let first : length (at_own front e (name_of e)) ≤ length (at_all front e (name_of e)) = one_fewer front e (name_of e) in
          let rest : length (alone (front ++ e ∷ []) back) ≤ length (all (front ++ e ∷ []) back) = fewer (front ++ e ∷ []) back in
          let one : length (alone front (e ∷ back)) ≡ length (at_own front e (name_of e)) + length (alone (front ++ e ∷ []) back) = length-append (at_own front e (name_of e)) (alone (front ++ e ∷ []) back) in
          let other : length (all front (e ∷ back)) ≡ length (at_all front e (name_of e)) + length (all (front ++ e ∷ []) back) = length-append (at_all front e (name_of e)) (all (front ++ e ∷ []) back) in
          let both : length (alone front (e ∷ back)) ≡ length (all front (e ∷ back)) = h in
          and_from (quiet_at front (name_of e)) (quiet_from (front ++ e ∷ []) back)
          (one_back front e (name_of e) placed.0 (omega (arith, first, rest, one, other, both)))
          (all_back (front ++ e ∷ []) back placed.1 (omega (arith, first, rest, one, other, both)))
