-- What the rule anchors finds where rows come in place of others.
use Rattle.std.specs.Prelude.{if◌then◌else◌, IfSome}
use Rattle.std.proofs.Common.{◌≡◌, ℕ, ◌+◌, ◌-◌, ◌≤◌, ◌<◌, arith, List, [], ◌∷◌, ◌++◌, map, reverse, Bool, true, false, not, ◌&&◌, ◌||◌, refl, sym, ◌∙◌, ap, subst, append_assoc, append-nil, codes, Option, Some, None, option_map}
use Rattle.std.specs.List.{AllByRecursion}
use Rattle.std.proofs.lemmas.List.{map-append, reverse-append}
use Rattle.yl_text.specs.declared.position.Pos.{Pos}
use Rattle.yl_text.specs.declared.finding.RuleId.{RuleId}
use Rattle.yl_text.specs.declared.finding.RuleId.TheVariants.{Anchors}
use Rattle.yl_text.specs.Finding.{FindingValue, at_each}
use Rattle.yl_text.proofs.Every.{all_both, all_if, all_then}
use Rattle.yl_events.specs.Event.{EventValue}
use Rattle.yl_lexeme_rules.specs.LexemesAlike.{finding_below}
use Rattle.yl_tree.specs.declared.options.AnchorsOptions.{AnchorsOptions}
use Rattle.yl_tree.specs.Anchors.{anchors, anchors_at, is_alias_of, is_anchor_of, is_declared, is_used}
use Rattle.yl_tree.specs.Messages.{name_finding}
use Rattle.yl_pieces.specs.DuplicatesOfRuns.{place_below}
use Rattle.yl_pieces.specs.References.{NamedReference, DeclaresName, UsesName}
use Rattle.yl_pieces.specs.Patched.{finding_moved, list_patched, row_of}
use Rattle.yl_pieces.proofs.PatchedLists.{parts_patched}
use Rattle.yl_piece_names.specs.Moved.{IsFrom, place_moved, place_of_reference, reference_at, reference_below, reference_moved}
use Rattle.yl_piece_names.specs.AnchorsPatched.{AnchorsArePatched, ReferenceParts, ReferencesEdit, anchors_between, event_of_reference, events_of_references, placeless}
use Rattle.yl_piece_names.proofs.MovedFindings.{name_below, name_moved}
use Rattle.yl_piece_names.proofs.AnchorsByReference.{DeclareAlike, UseAlike, anchors_alike, by_references, duplicated_if, references_moved, undeclared_if, unused_if}

-- ---- a walk over a list, in parts

-- the items that come before, where these were passed too
abbrev pub onto : {X : Type 0} → List X → List X → List X
onto [] before = before
onto (x ∷ xs) before = onto xs (x ∷ before)

onto_is : {X : Type 0} (xs before : List X) → onto xs before ≡ reverse xs ++ before
onto_is [] before = refl
onto_is (x ∷ xs) before =
    onto_is xs (x ∷ before) ∙ sym (append_assoc (reverse xs) (x ∷ []) before) ∙ ap (λ ys. ys ++ before) (sym (reverse-append (x ∷ []) xs))

module _ {X Y : Type 0} (f : List X → X → List X → List Y) where
  at_both : (before xs ys : List X) → at_each f before (xs ++ ys) ≡ at_each (λ b x a. f b x (a ++ ys)) before xs ++ at_each f (onto xs before) ys
  at_both before [] ys = refl
  at_both before (x ∷ xs) ys =
      ap (λ zs. f before x (xs ++ ys) ++ zs) (at_both (x ∷ before) xs ys)
      ∙ sym (append_assoc (f before x (xs ++ ys)) (at_each (λ b x a. f b x (a ++ ys)) (x ∷ before) xs) (at_each f (onto xs (x ∷ before)) ys))

  at_onto : (more before xs : List X) → at_each (λ b x a. f (b ++ more) x a) before xs ≡ at_each f (before ++ more) xs
  at_onto more before [] = refl
  at_onto more before (x ∷ xs) = ap (λ zs. f (before ++ more) x xs ++ zs) (at_onto more (x ∷ before) xs)

-- ---- the names of references

declares_more : (r q : NamedReference) (b c : List EventValue) → placeless r ≡ placeless q → DeclareAlike b c → DeclareAlike (event_of_reference r ∷ b) (event_of_reference q ∷ c)
declares_more r q b c same declared n = by_place r b ∙ (λ i. is_declared (event_of_reference (same i) ∷ []) n || declared n i) ∙ sym (by_place q c)
  where
    by_place : (r : NamedReference) (b : List EventValue) → is_declared (event_of_reference r ∷ b) n ≡ (is_declared (event_of_reference (placeless r) ∷ []) n || is_declared b n)
    by_place (DeclaresName name place) b = or_false (is_anchor_of n (Some (record { name = name; place = place }))) (is_declared b n)
      where
        or_false : (x y : Bool) → (x || y) ≡ ((x || false) || y)
        or_false true y = refl
        or_false false y = refl
    by_place (UsesName name place) b = refl

uses_more : (r q : NamedReference) (x y : List EventValue) → placeless r ≡ placeless q → UseAlike x y → UseAlike (event_of_reference r ∷ x) (event_of_reference q ∷ y)
uses_more r q x y same used n = by_place r x ∙ (λ i. not (is_anchor_of n (event_of_reference (same i)).anchor) && (is_alias_of n (event_of_reference (same i)).kind || used n i)) ∙ sym (by_place q y)
  where
    by_place : (r : NamedReference) (x : List EventValue)
        → is_used (event_of_reference r ∷ x) n ≡ (not (is_anchor_of n (event_of_reference (placeless r)).anchor) && (is_alias_of n (event_of_reference (placeless r)).kind || is_used x n))
    by_place (DeclaresName name place) x = refl
    by_place (UsesName name place) x = refl

declares_onto : (rs qs : List NamedReference) (b c : List EventValue) → map placeless rs ≡ map placeless qs → DeclareAlike b c
    → DeclareAlike (onto (events_of_references rs) b) (onto (events_of_references qs) c)
declares_onto [] [] b c same declared = declared
declares_onto [] (q ∷ qs) b c same declared = cc
declares_onto (r ∷ rs) [] b c same declared = cc
declares_onto (r ∷ rs) (q ∷ qs) b c same declared =
    let first : placeless r ≡ placeless q = cc in
    let rest : map placeless rs ≡ map placeless qs = cc in
    declares_onto rs qs (event_of_reference r ∷ b) (event_of_reference q ∷ c) rest (declares_more r q b c first declared)

uses_both : (rs qs : List NamedReference) (x y : List EventValue) → map placeless rs ≡ map placeless qs → UseAlike x y
    → UseAlike (events_of_references rs ++ x) (events_of_references qs ++ y)
uses_both [] [] x y same used = used
uses_both [] (q ∷ qs) x y same used = cc
uses_both (r ∷ rs) [] x y same used = cc
uses_both (r ∷ rs) (q ∷ qs) x y same used =
    let first : placeless r ≡ placeless q = cc in
    let rest : map placeless rs ≡ map placeless qs = cc in
    uses_more r q (events_of_references rs ++ x) (events_of_references qs ++ y) first (uses_both rs qs x y rest used)

one_placeless : (change : Pos → Pos) (r : NamedReference) → placeless (reference_at change r) ≡ placeless r
one_placeless change (DeclaresName name place) = refl
one_placeless change (UsesName name place) = refl

pub placeless_at : (change : Pos → Pos) (rs : List NamedReference) → map placeless (map (reference_at change) rs) ≡ map placeless rs
placeless_at change [] = refl
placeless_at change (r ∷ rs) = λ i. one_placeless change r i ∷ placeless_at change rs i

-- references that are moved are used alike
moved_used : (old new : ℕ) (rs : List NamedReference) → UseAlike (events_of_references (map (reference_moved old new) rs)) (events_of_references rs)
moved_used old new rs n =
    ap (λ es. is_used es n) (sym (append-nil (events_of_references (map (reference_moved old new) rs))))
    ∙ uses_both (map (reference_moved old new) rs) rs [] [] (placeless_at (place_moved old new) rs) (λ m. refl) n
    ∙ ap (λ es. is_used es n) (append-nil (events_of_references rs))

-- ---- what is found

module _ (o : AnchorsOptions) where
  -- at references above others that are used alike
  one_above : (r : NamedReference) (b x y : List EventValue) → UseAlike x y → anchors_at o b (event_of_reference r) x ≡ anchors_at o b (event_of_reference r) y
  one_above (DeclaresName name place) b x y used = anchors_alike o b b (record { name = name; place = place }) x y (λ n. refl) used
  one_above (UsesName name place) b x y used = refl

  found_above : (rs : List NamedReference) (b x y : List EventValue) → UseAlike x y
      → at_each (λ b e a. anchors_at o b e (a ++ x)) b (events_of_references rs) ≡ at_each (λ b e a. anchors_at o b e (a ++ y)) b (events_of_references rs)
  found_above [] b x y used = refl
  found_above (r ∷ rs) b x y used =
      λ i. one_above r b (events_of_references rs ++ x) (events_of_references rs ++ y) (uses_both rs rs x y refl used) i
      ++ found_above rs (event_of_reference r ∷ b) x y used i

  -- at references whose places change, which changes the findings so
  module _ (place_change : Pos → Pos) (change : FindingValue → FindingValue) (IsOk : Option Pos → Type 0)
      (changes : (place : Option Pos) (front name back : List ℕ) → IsOk place
      → name_finding Anchors (option_map place_change place) front name back ≡ map change (name_finding Anchors place front name back)) where
    changed_if : (b : Bool) (place : Option Pos) (front name back : List ℕ) → IsOk place
        → (if b then name_finding Anchors (option_map place_change place) front name back else []) ≡ map change (if b then name_finding Anchors place front name back else [])
    changed_if true place front name back ok = changes place front name back ok
    changed_if false place front name back ok = refl

    -- below others that declare alike, and above others that are used alike
    one_changed : (r : NamedReference) (b c x y : List EventValue) → DeclareAlike b c → UseAlike x y → IsOk (place_of_reference r)
        → anchors_at o b (event_of_reference (reference_at place_change r)) x ≡ map change (anchors_at o c (event_of_reference r) y)
    one_changed (DeclaresName name place) b c x y declared used ok =
        (λ i. duplicated_if o (record { name = name; place = place_change place }) (declared name i) ++ unused_if o (record { name = name; place = place_change place }) (used name i))
        ∙ (λ i. changed_if (o.forbid_duplicated_anchors && is_declared c name) (Some place) (codes "found duplicated anchor \"") name (codes "\"") ok i
        ++ changed_if (o.forbid_unused_anchors && not (is_used y name)) (Some place) (codes "found unused anchor \"") name (codes "\"") ok i)
        ∙ sym (map-append change (duplicated_if o (record { name = name; place = place }) (is_declared c name)) (unused_if o (record { name = name; place = place }) (is_used y name)))
    one_changed (UsesName name place) b c x y declared used ok =
        ap (λ d. undeclared_if o (option_map place_change place) name d ++ []) (declared name)
        ∙ ap (λ fs. fs ++ []) (changed_if (o.forbid_undeclared_aliases && not (is_declared c name)) place (codes "found undeclared alias \"") name (codes "\"") ok)
        ∙ sym (map-append change (undeclared_if o place name (is_declared c name)) [])

    found_changed : (rs : List NamedReference) (b c x y : List EventValue) → DeclareAlike b c → UseAlike x y → AllByRecursion (λ r. IsOk (place_of_reference r)) rs
        → at_each (λ b e a. anchors_at o b e (a ++ x)) b (events_of_references (map (reference_at place_change) rs))
        ≡ map change (at_each (λ b e a. anchors_at o b e (a ++ y)) c (events_of_references rs))
    found_changed [] b c x y declared used ok = refl
    found_changed (r ∷ rs) b c x y declared used ok =
        (λ i. one_changed r b c (events_of_references (map (reference_at place_change) rs) ++ x) (events_of_references rs ++ y) declared
        (uses_both (map (reference_at place_change) rs) rs x y (placeless_at place_change rs) used) ok.0 i
        ++ found_changed rs (event_of_reference (reference_at place_change r) ∷ b) (event_of_reference r ∷ c) x y
        (declares_more (reference_at place_change r) r b c (one_placeless place_change r) declared) used ok.1 i)
        ∙ sym (map-append change (anchors_at o c (event_of_reference r) (events_of_references rs ++ y))
        (at_each (λ b e a. anchors_at o b e (a ++ y)) (event_of_reference r ∷ c) (events_of_references rs)))

  nothing_after : (b : List EventValue) (es : List EventValue) → at_each (λ b e a. anchors_at o b e (a ++ [])) b es ≡ at_each (anchors_at o) b es
  nothing_after b [] = refl
  nothing_after b (e ∷ es) = λ i. anchors_at o b e (append-nil es i) ++ nothing_after (e ∷ b) es i

  found_below : (old new : ℕ) (rs : List NamedReference) (b c : List EventValue) → DeclareAlike b c → AllByRecursion (λ r. IsFrom old (place_of_reference r)) rs
      → at_each (anchors_at o) b (events_of_references (map (reference_moved old new) rs)) ≡ map (finding_moved old new) (at_each (anchors_at o) c (events_of_references rs))
  found_below old new rs b c declared from =
      sym (nothing_after b (events_of_references (map (reference_moved old new) rs)))
      ∙ found_changed (place_moved old new) (finding_moved old new) (IsFrom old) (λ place front name back h. name_moved Anchors old new place front name back h)
      rs b c [] [] declared (λ n. refl) from
      ∙ ap (map (finding_moved old new)) (nothing_after c (events_of_references rs))

  all_fine : (rs : List NamedReference) → AllByRecursion (λ r. Unit {0}) rs
  all_fine [] = tt
  all_fine (r ∷ rs) = (tt, all_fine rs)

  pub further_down : (n : ℕ) (above here rest : List NamedReference) → anchors_between o above (map (reference_below n) here) rest ≡ map (finding_below n) (anchors_between o above here rest)
  further_down n above here rest =
      let g : List EventValue → EventValue → List EventValue → List FindingValue = λ b e a. anchors_at o b e (a ++ events_of_references rest) in
      let before = reverse (events_of_references above) in
      at_onto g before [] (events_of_references (map (reference_below n) here))
      ∙ found_changed (place_below n) (finding_below n) (λ place. Unit {0}) (λ place front name back h. name_below Anchors n place front name back)
      here before before (events_of_references rest) (events_of_references rest) (λ m. refl) (λ m. refl) (all_fine here)
      ∙ ap (map (finding_below n)) (sym (at_onto g before [] (events_of_references here)))

-- ---- the rows in which it stands

module _ (Q : ℕ → Type 0) where
  abbrev InRow : FindingValue → Type 0
  InRow f = Q (row_of f)

  abbrev Refers : NamedReference → Type 0
  Refers r = IfSome (place_of_reference r) (λ p. Q p.line)

  pub name_rows : (rule : RuleId) (place : Option Pos) (front name back : List ℕ) → IfSome place (λ p. Q p.line) → AllByRecursion InRow (name_finding rule place front name back)
  name_rows rule None front name back h = tt
  name_rows rule (Some p) front name back h = let same : p.line ≡ p.line + 1 - 1 = omega arith in (subst Q same h, tt)

  anchor_rows : (o : AnchorsOptions) (b : List EventValue) (r : NamedReference) (a : List EventValue) → Refers r → AllByRecursion InRow (anchors_at o b (event_of_reference r) a)
  anchor_rows o b (DeclaresName name place) a h =
      all_both InRow (duplicated_if o (record { name = name; place = place }) (is_declared b name)) (unused_if o (record { name = name; place = place }) (is_used a name))
      (all_if InRow (o.forbid_duplicated_anchors && is_declared b name) (name_finding Anchors (Some place) (codes "found duplicated anchor \"") name (codes "\""))
      (name_rows Anchors (Some place) (codes "found duplicated anchor \"") name (codes "\"") h))
      (all_if InRow (o.forbid_unused_anchors && not (is_used a name)) (name_finding Anchors (Some place) (codes "found unused anchor \"") name (codes "\""))
      (name_rows Anchors (Some place) (codes "found unused anchor \"") name (codes "\"") h))
  anchor_rows o b (UsesName name place) a h =
      all_both InRow (undeclared_if o place name (is_declared b name)) []
      (all_if InRow (o.forbid_undeclared_aliases && not (is_declared b name)) (name_finding Anchors place (codes "found undeclared alias \"") name (codes "\""))
      (name_rows Anchors place (codes "found undeclared alias \"") name (codes "\"") h))
      tt

  walk_rows : (f : List EventValue → EventValue → List EventValue → List FindingValue)
      → ((b : List EventValue) (r : NamedReference) (a : List EventValue) → Refers r → AllByRecursion InRow (f b (event_of_reference r) a))
      → (b : List EventValue) (rs : List NamedReference) → AllByRecursion Refers rs → AllByRecursion InRow (at_each f b (events_of_references rs))
  walk_rows f each b [] h = tt
  walk_rows f each b (r ∷ rs) h =
      all_both InRow (f b (event_of_reference r) (events_of_references rs)) (at_each f (event_of_reference r ∷ b) (events_of_references rs))
      (each b r (events_of_references rs) h.0) (walk_rows f each (event_of_reference r ∷ b) rs h.1)

-- ---- the three parts

parts_of : (rs qs ps : List NamedReference) → events_of_references (rs ++ (qs ++ ps)) ≡ events_of_references rs ++ (events_of_references qs ++ events_of_references ps)
parts_of rs qs ps = map-append event_of_reference rs (qs ++ ps) ∙ ap (λ es. events_of_references rs ++ es) (map-append event_of_reference qs ps)

module _ (o : AnchorsOptions) where
  -- what is found at references, the first, the second and the third
  abbrev in_first_of : (rs qs ps : List NamedReference) → List FindingValue
  in_first_of rs qs ps = at_each (λ b e a. anchors_at o b e (a ++ (events_of_references qs ++ events_of_references ps))) [] (events_of_references rs)

  abbrev in_second_of : (rs qs ps : List NamedReference) → List FindingValue
  in_second_of rs qs ps = at_each (λ b e a. anchors_at o b e (a ++ events_of_references ps)) (onto (events_of_references rs) []) (events_of_references qs)

  abbrev in_third_of : (rs qs ps : List NamedReference) → List FindingValue
  in_third_of rs qs ps = at_each (anchors_at o) (onto (events_of_references qs) (onto (events_of_references rs) [])) (events_of_references ps)

  in_parts : (rs qs ps : List NamedReference) → anchors o (events_of_references (rs ++ (qs ++ ps))) ≡ in_first_of rs qs ps ++ (in_second_of rs qs ps ++ in_third_of rs qs ps)
  in_parts rs qs ps =
      ap (anchors o) (parts_of rs qs ps)
      ∙ at_both (anchors_at o) [] (events_of_references rs) (events_of_references qs ++ events_of_references ps)
      ∙ ap (λ fs. in_first_of rs qs ps ++ fs) (at_both (anchors_at o) (onto (events_of_references rs) []) (events_of_references qs) (events_of_references ps))

  between_is : (rs qs ps : List NamedReference) → in_second_of rs qs ps ≡ anchors_between o rs qs ps
  between_is rs qs ps =
      ap (λ b. at_each (λ b e a. anchors_at o b e (a ++ events_of_references ps)) b (events_of_references qs)) (onto_is (events_of_references rs) [] ∙ append-nil (reverse (events_of_references rs)))
      ∙ sym (at_onto (λ b e a. anchors_at o b e (a ++ events_of_references ps)) (reverse (events_of_references rs)) [] (events_of_references qs))

  module _ (rows old new : ℕ) (p : ReferenceParts) (was now : List EventValue) (e : ReferencesEdit rows old new p was now) where
    abbrev below : List NamedReference
    below = map (reference_moved old new) p.below

    was_found : anchors o was ≡ in_first_of p.above p.went p.below ++ (in_second_of p.above p.went p.below ++ in_third_of p.above p.went p.below)
    was_found = by_references o was e.was_apart ∙ ap (λ rs. anchors o (events_of_references rs)) e.was_has ∙ in_parts p.above p.went p.below

    now_found : anchors o now ≡ in_first_of p.above p.came below ++ (in_second_of p.above p.came below ++ in_third_of p.above p.came below)
    now_found = by_references o now e.now_apart ∙ ap (λ rs. anchors o (events_of_references rs)) e.now_has ∙ in_parts p.above p.came below

    same_below : UseAlike (events_of_references below) (events_of_references p.below)
    same_below = moved_used old new p.below

    same_first : in_first_of p.above p.came below ≡ in_first_of p.above p.went p.below
    same_first =
        found_above o p.above [] (events_of_references p.came ++ events_of_references below) (events_of_references p.went ++ events_of_references p.below)
        (uses_both p.came p.went (events_of_references below) (events_of_references p.below) (sym e.same_names) same_below)

    same_second : in_second_of p.above p.came below ≡ anchors_between o p.above p.came p.below
    same_second =
        found_above o p.came (onto (events_of_references p.above) []) (events_of_references below) (events_of_references p.below) same_below
        ∙ between_is p.above p.came p.below

    from_old : (rs : List NamedReference) → AllByRecursion (λ r. IsFrom (rows + old) (place_of_reference r)) rs → AllByRecursion (λ r. IsFrom old (place_of_reference r)) rs
    from_old rs h = all_then (λ r. IsFrom (rows + old) (place_of_reference r)) (λ r. IsFrom old (place_of_reference r)) rs (λ r k. lower (place_of_reference r) k) h
      where
        lower : (place : Option Pos) → IsFrom (rows + old) place → IsFrom old place
        lower None k = tt
        lower (Some p) k = let from : rows + old ≤ p.line = k in omega (arith, from)

    same_third : in_third_of p.above p.came below ≡ map (finding_moved old new) (in_third_of p.above p.went p.below)
    same_third =
        found_below o old new p.below (onto (events_of_references p.came) (onto (events_of_references p.above) [])) (onto (events_of_references p.went) (onto (events_of_references p.above) []))
        (declares_onto p.came p.went (onto (events_of_references p.above) []) (onto (events_of_references p.above) []) (sym e.same_names) (λ n. refl))
        (from_old p.below e.stand_below)

    cut : (found : List FindingValue) → list_patched row_of (finding_moved old new) rows old (anchors o was) found
        ≡ in_first_of p.above p.went p.below ++ (found ++ map (finding_moved old new) (in_third_of p.above p.went p.below))
    cut found =
        ap (λ fs. list_patched row_of (finding_moved old new) rows old fs found) was_found
        ∙ parts_patched row_of rows old (in_first_of p.above p.went p.below) (in_second_of p.above p.went p.below) (in_third_of p.above p.went p.below)
        (walk_rows (λ l. l < rows) (λ b x a. anchors_at o b x (a ++ (events_of_references p.went ++ events_of_references p.below)))
        (λ b r a h. anchor_rows (λ l. l < rows) o b r (a ++ (events_of_references p.went ++ events_of_references p.below)) h) [] p.above e.stand_above)
        (walk_rows (λ l. (rows ≤ l) × (l < rows + old)) (λ b x a. anchors_at o b x (a ++ events_of_references p.below))
        (λ b r a h. anchor_rows (λ l. (rows ≤ l) × (l < rows + old)) o b r (a ++ events_of_references p.below) h) (onto (events_of_references p.above) []) p.went e.stand_in)
        (walk_rows (λ l. rows + old ≤ l) (anchors_at o) (λ b r a h. anchor_rows (λ l. rows + old ≤ l) o b r a h) (onto (events_of_references p.went) (onto (events_of_references p.above) [])) p.below e.stand_below)
        (finding_moved old new) found (map (finding_moved old new) (in_third_of p.above p.went p.below)) refl

    pub patched : anchors o now ≡ list_patched row_of (finding_moved old new) rows old (anchors o was) (anchors_between o p.above p.came p.below)
    patched = now_found ∙ (λ i. same_first i ++ (same_second i ++ same_third i)) ∙ sym (cut (anchors_between o p.above p.came p.below))

    pub none_patched : p.came ≡ [] → anchors o now ≡ list_patched row_of (finding_moved old new) rows old (anchors o was) []
    none_patched none = patched ∙ ap (λ rs. list_patched row_of (finding_moved old new) rows old (anchors o was) (anchors_between o p.above rs p.below)) none

pub anchors_patched : AnchorsArePatched
anchors_patched = record { by_references = by_references; moved = references_moved; patched = patched; none = none_patched; below = further_down }
