-- What the rules on keys and anchors find where rows come in place of others.
use Rattle.std.specs.Prelude.{if◌then◌else◌, nat_lt, IfSome, IsPermutation}
use Rattle.std.proofs.Common.{◌≡◌, ℕ, ◌+◌, ◌≤◌, ◌<◌, arith, List, [], ◌∷◌, ◌++◌, map, Bool, true, false, not, refl, sym, ◌∙◌, ap, subst, append_assoc, codes, Option, Some, None}
use Rattle.std.specs.List.{AllByRecursion}
use Rattle.std.specs.Option.{option_map_or}
use Rattle.std.proofs.lemmas.List.{map-append}
use Rattle.std.proofs.lemmas.List.Elements.{filter-append}
use Rattle.std.proofs.lemmas.List.Sorted.{IsPermutation-append_comm, IsPermutation-append_left, IsPermutation-append_right, IsPermutation-trans}
use Rattle.yl_text.specs.declared.position.Pos.{Pos}
use Rattle.yl_text.specs.declared.finding.RuleId.{RuleId}
use Rattle.yl_text.specs.declared.finding.RuleId.TheVariants.{KeyDuplicates, KeyOrdering}
use Rattle.yl_text.specs.Finding.{FindingValue}
use Rattle.yl_text.proofs.Every.{all_both, all_if, all_then}
use Rattle.yl_events.specs.Event.{EventValue}
use Rattle.yl_lexeme_rules.specs.LexemesAlike.{finding_below}
use Rattle.yl_tree.specs.declared.options.AnchorsOptions.{AnchorsOptions}
use Rattle.yl_tree.specs.declared.options.KeyDuplicatesOptions.{KeyDuplicatesOptions}
use Rattle.yl_tree.specs.declared.options.TreeOptions.{TreeOptions}
use Rattle.yl_tree.specs.Anchors.{anchors}
use Rattle.yl_tree.specs.Greatest.{is_greater_among}
use Rattle.yl_tree.specs.Keys.{name_of}
use Rattle.yl_tree.specs.KeyRules.{is_duplicate, key_duplicates, key_ordering}
use Rattle.yl_tree.specs.Messages.{name_finding}
use Rattle.yl_tree.specs.OpenNodes.{OpenNodes, collections_behind, keys_if_next, with_event}
use Rattle.yl_tree.specs.Tree.{tree_findings}
use Rattle.yl_open_collections.specs.OpenBy.{without_keys}
use Rattle.yl_open_collections.specs.Counted.{after_events, finding_among, key_findings_after}
use Rattle.yl_pieces.specs.DuplicatesOfRuns.{duplicates_after, event_below}
use Rattle.yl_pieces.specs.OrderingOfRuns.{ordering_after}
use Rattle.yl_pieces.specs.Events.{without_anchor}
use Rattle.yl_pieces.specs.Patched.{below_first, finding_moved, in_first, list_patched, row_of}
use Rattle.yl_pieces.specs.References.{NamedReference}
use Rattle.yl_pieces.proofs.KeyFindings.{all_found, all_moved, both}
use Rattle.yl_pieces.proofs.PatchedLists.{parts_patched}
use Rattle.yl_piece_names.specs.Moved.{IfNamed, IsFrom, event_moved, reference_below}
use Rattle.yl_piece_names.specs.SameNames.{LeaveSameKeys}
use Rattle.yl_piece_names.specs.Asked.{DuplicatesAlone, OrderingAlone}
use Rattle.yl_piece_names.specs.AnchorsPatched.{ReferenceParts, ReferencesEdit, anchors_between}
use Rattle.yl_piece_names.specs.TreePatched.{AreFoundAlike, AreFoundAlone, EventParts, EventsEdit, IsFoundBelow, NamesStay, TreeIsPatched, open_after, tree_findings_after}
use Rattle.yl_piece_names.proofs.MovedFindings.{keys_moved}
use Rattle.yl_piece_names.proofs.SameNames.{same_names}
use Rattle.yl_piece_names.proofs.AskedNames.{names_asked}
use Rattle.yl_piece_names.proofs.AnchorsPatched.{anchors_patched, name_rows}

-- ---- a rule on keys

module _ (test : List (List ℕ) → List ℕ → Bool) (rule : RuleId) (words : List ℕ) where
  abbrev found : OpenNodes → List EventValue → List FindingValue
  found = key_findings_after test rule words

  -- it looks at no anchor
  one_bare : (keys : List (List ℕ)) (e : EventValue) (name : Option (List ℕ)) → finding_among test rule words keys e name ≡ finding_among test rule words keys (without_anchor e) name
  one_bare keys e None = refl
  one_bare keys e (Some name) = refl

  found_bare : (s : OpenNodes) (es : List EventValue) → found s es ≡ found s (map without_anchor es)
  found_bare s [] = refl
  found_bare s (e ∷ es) = λ i. one_bare (keys_if_next s.innermost) e (name_of e) i ++ found_bare (with_event e s) es i

  -- what it finds stands where the events stand
  module _ (Q : ℕ → Type 0) where
    abbrev InRow : FindingValue → Type 0
    InRow f = Q (row_of f)

    abbrev Stands : Option Pos → Type 0
    Stands place = IfSome place (λ p. Q p.line)

    one_rows : (keys : List (List ℕ)) (e : EventValue) (name : Option (List ℕ)) → IfSome name (λ n. Stands e.place) → AllByRecursion InRow (finding_among test rule words keys e name)
    one_rows keys e None h = tt
    one_rows keys e (Some name) h =
        all_if InRow (test keys name) (name_finding rule e.place words name (codes "\" in mapping")) (name_rows Q rule e.place words name (codes "\" in mapping") h)

    found_rows : (s : OpenNodes) (es : List EventValue) → AllByRecursion (IfNamed Stands) es → AllByRecursion InRow (found s es)
    found_rows s [] h = tt
    found_rows s (e ∷ es) h =
        all_both InRow (finding_among test rule words (keys_if_next s.innermost) e (name_of e)) (found (with_event e s) es)
        (one_rows (keys_if_next s.innermost) e (name_of e) h.0) (found_rows (with_event e s) es h.1)

  lower : (rows old : ℕ) (place : Option Pos) → IsFrom (rows + old) place → IsFrom old place
  lower rows old None h = tt
  lower rows old (Some p) h = let from : rows + old ≤ p.line = h in omega (arith, from)

  lower_named : (rows old : ℕ) (place : Option Pos) (name : Option (List ℕ)) → IfSome name (λ n. IsFrom (rows + old) place) → IfSome name (λ n. IsFrom old place)
  lower_named rows old place None h = tt
  lower_named rows old place (Some name) h = lower rows old place h

  module _ (rows old new : ℕ) (p : EventParts) (was now : List EventValue) (e : EventsEdit rows old new p was now)
      (same : found (after_events (open_after p.above) p.went) p.below ≡ found (after_events (open_after p.above) p.came) p.below) where
    abbrev none : OpenNodes
    none = collections_behind []

    abbrev open_above : OpenNodes
    open_above = open_after p.above

    was_found : found none was ≡ found none p.above ++ (found open_above p.went ++ found (after_events open_above p.went) p.below)
    was_found =
        found_bare none was
        ∙ ap (found none) e.was_is
        ∙ both test rule words none p.above (p.went ++ p.below)
        ∙ ap (λ fs. found none p.above ++ fs) (both test rule words open_above p.went p.below)

    now_found : found none now ≡ found none p.above ++ (found open_above p.came ++ map (finding_moved old new) (found (after_events open_above p.went) p.below))
    now_found =
        found_bare none now
        ∙ ap (found none) e.now_is
        ∙ both test rule words none p.above (p.came ++ map (event_moved old new) p.below)
        ∙ ap (λ fs. found none p.above ++ fs)
        (both test rule words open_above p.came (map (event_moved old new) p.below)
        ∙ ap (λ fs. found open_above p.came ++ fs)
        (keys_moved test rule words old new (after_events open_above p.came) p.below
        (all_then (IfNamed (IsFrom (rows + old))) (IfNamed (IsFrom old)) p.below (λ x h. lower_named rows old x.place (name_of x) h) e.stand_below)
        ∙ ap (map (finding_moved old new)) (sym same)))

    pub found_patched : found none now ≡ list_patched row_of (finding_moved old new) rows old (found none was) (found open_above p.came)
    found_patched =
        now_found
        ∙ sym (ap (λ fs. list_patched row_of (finding_moved old new) rows old fs (found open_above p.came)) was_found
        ∙ parts_patched row_of rows old (found none p.above) (found open_above p.went) (found (after_events open_above p.went) p.below)
        (found_rows (λ l. l < rows) none p.above e.stand_above)
        (found_rows (λ l. (rows ≤ l) × (l < rows + old)) open_above p.went e.stand_in)
        (found_rows (λ l. rows + old ≤ l) (after_events open_above p.went) p.below e.stand_below)
        (finding_moved old new) (found open_above p.came) (map (finding_moved old new) (found (after_events open_above p.went) p.below)) refl)

module _ (rows old new : ℕ) (p : EventParts) (was now : List EventValue) (e : EventsEdit rows old new p was now) where
  abbrev patched : List FindingValue → List FindingValue → List FindingValue
  patched was found = list_patched row_of (finding_moved old new) rows old was found

  abbrev before : OpenNodes
  before = open_after p.above

  abbrev behind_old : OpenNodes
  behind_old = after_events before p.went

  abbrev behind_new : OpenNodes
  behind_new = after_events before p.came

  duplicates_patched : (d : KeyDuplicatesOptions) → duplicates_after d behind_old p.below ≡ duplicates_after d behind_new p.below
      → key_duplicates d now ≡ patched (key_duplicates d was) (duplicates_after d before p.came)
  duplicates_patched d same =
      all_found (is_duplicate d) KeyDuplicates (codes "duplication of key \"") [] now
      ∙ found_patched (is_duplicate d) KeyDuplicates (codes "duplication of key \"") rows old new p was now e same
      ∙ ap (λ fs. patched fs (duplicates_after d before p.came)) (sym (all_found (is_duplicate d) KeyDuplicates (codes "duplication of key \"") [] was))

  ordering_patched : ordering_after behind_old p.below ≡ ordering_after behind_new p.below → key_ordering now ≡ patched (key_ordering was) (ordering_after before p.came)
  ordering_patched same =
      all_found is_greater_among KeyOrdering (codes "wrong ordering of key \"") [] now
      ∙ found_patched is_greater_among KeyOrdering (codes "wrong ordering of key \"") rows old new p was now e same
      ∙ ap (λ fs. patched fs (ordering_after before p.came)) (sym (all_found is_greater_among KeyOrdering (codes "wrong ordering of key \"") [] was))

  -- ---- all rules, as far as they are on

  duplicates_if : (d : Option KeyDuplicatesOptions) → IfSome d (λ d. duplicates_after d behind_old p.below ≡ duplicates_after d behind_new p.below)
      → option_map_or (λ d. key_duplicates d now) d [] ≡ patched (option_map_or (λ d. key_duplicates d was) d []) (option_map_or (λ d. duplicates_after d before p.came) d [])
  duplicates_if None same = refl
  duplicates_if (Some d) same = duplicates_patched d same

  ordering_if : (on : Bool) → (on ≡ true → ordering_after behind_old p.below ≡ ordering_after behind_new p.below)
      → (if on then key_ordering now else []) ≡ patched (if on then key_ordering was else []) (if on then ordering_after before p.came else [])
  ordering_if false same = refl
  ordering_if true same = ordering_patched (same refl)

  anchors_if : (r : ReferenceParts) (g : ReferencesEdit rows old new r was now) (a : Option AnchorsOptions) → option_map_or (λ a. anchors a now) a []
      ≡ patched (option_map_or (λ a. anchors a was) a []) (option_map_or (λ a. anchors_between a r.above r.came r.below) a [])
  anchors_if r g None = refl
  anchors_if r g (Some a) = anchors_patched.patched a rows old new r was now g

-- ---- lists one after another, patched

along : {X : Type 0} (ws xs ys zs : List X) → ws ≡ xs → ys ≡ zs → IsPermutation xs zs → IsPermutation ws ys
along ws xs ys zs e f p = subst (λ us. IsPermutation us ys) (sym e) (subst (λ us. IsPermutation xs us) (sym f) p)

exchanged : {X : Type 0} (xs ys us vs : List X) → IsPermutation ((xs ++ ys) ++ (us ++ vs)) ((xs ++ us) ++ (ys ++ vs))
exchanged xs ys us vs =
    along ((xs ++ ys) ++ (us ++ vs)) (xs ++ ((ys ++ us) ++ vs)) ((xs ++ us) ++ (ys ++ vs)) (xs ++ ((us ++ ys) ++ vs))
    (append_assoc xs ys (us ++ vs) ∙ ap (λ zs. xs ++ zs) (sym (append_assoc ys us vs)))
    (append_assoc xs us (ys ++ vs) ∙ ap (λ zs. xs ++ zs) (sym (append_assoc us ys vs)))
    (IsPermutation-append_right xs ((ys ++ us) ++ vs) ((us ++ ys) ++ vs) (IsPermutation-append_left vs (ys ++ us) (us ++ ys) (IsPermutation-append_comm ys us)))

module _ {X : Type 0} (row : X → ℕ) (moved : X → X) (rows old : ℕ) where
  abbrev cut : List X → List X → List X
  cut xs new = list_patched row moved rows old xs new

  abbrev first_of : List X → List X
  first_of xs = in_first row rows xs

  abbrev rest_of : List X → List X
  rest_of xs = map moved (below_first row (rows + old) xs)

  cut_both : (xs ys new more : List X) → cut (xs ++ ys) (new ++ more) ≡ (first_of xs ++ first_of ys) ++ ((new ++ more) ++ (rest_of xs ++ rest_of ys))
  cut_both xs ys new more =
      λ i. filter-append (λ x. nat_lt (row x) rows) xs ys i
      ++ ((new ++ more) ++ (ap (map moved) (filter-append (λ x. not (nat_lt (row x) (rows + old))) xs ys) ∙ map-append moved (below_first row (rows + old) xs) (below_first row (rows + old) ys)) i)

  both_patched : (xs ys new more : List X) → IsPermutation (cut xs new ++ cut ys more) (cut (xs ++ ys) (new ++ more))
  both_patched xs ys new more =
      subst (λ zs. IsPermutation (cut xs new ++ cut ys more) zs) (sym (cut_both xs ys new more))
      (IsPermutation-trans (cut xs new ++ cut ys more) ((first_of xs ++ first_of ys) ++ ((new ++ rest_of xs) ++ (more ++ rest_of ys)))
      ((first_of xs ++ first_of ys) ++ ((new ++ more) ++ (rest_of xs ++ rest_of ys)))
      (exchanged (first_of xs) (new ++ rest_of xs) (first_of ys) (more ++ rest_of ys))
      (IsPermutation-append_right (first_of xs ++ first_of ys) ((new ++ rest_of xs) ++ (more ++ rest_of ys)) ((new ++ more) ++ (rest_of xs ++ rest_of ys))
      (exchanged new (rest_of xs) more (rest_of ys))))

  three_patched : (xs ys zs new more last : List X) → IsPermutation (cut xs new ++ (cut ys more ++ cut zs last)) (cut (xs ++ (ys ++ zs)) (new ++ (more ++ last)))
  three_patched xs ys zs new more last =
      IsPermutation-trans (cut xs new ++ (cut ys more ++ cut zs last)) (cut xs new ++ cut (ys ++ zs) (more ++ last)) (cut (xs ++ (ys ++ zs)) (new ++ (more ++ last)))
      (IsPermutation-append_right (cut xs new) (cut ys more ++ cut zs last) (cut (ys ++ zs) (more ++ last)) (both_patched ys zs more last))
      (both_patched xs (ys ++ zs) new (more ++ last))

-- ---- all rules together

all_patched : (o : TreeOptions) (rows old new : ℕ) (p : EventParts) (r : ReferenceParts) (was now : List EventValue) → EventsEdit rows old new p was now → ReferencesEdit rows old new r was now → IsFoundBelow o p
    → IsPermutation (tree_findings o now)
    (list_patched row_of (finding_moved old new) rows old (tree_findings o was) (tree_findings_after o (open_after p.above) p.came r.above r.came r.below))
all_patched o rows old new p r was now e g same =
    let d : List EventValue → List FindingValue = λ es. option_map_or (λ d. key_duplicates d es) o.key_duplicates [] in
    let k : List EventValue → List FindingValue = λ es. if o.key_ordering then key_ordering es else [] in
    let a : List EventValue → List FindingValue = λ es. option_map_or (λ a. anchors a es) o.anchors [] in
    subst (λ fs. IsPermutation fs (list_patched row_of (finding_moved old new) rows old (tree_findings o was) (tree_findings_after o (open_after p.above) p.came r.above r.came r.below)))
    (sym (λ i. duplicates_if rows old new p was now e o.key_duplicates same.duplicates i
    ++ (ordering_if rows old new p was now e o.key_ordering same.ordering i ++ anchors_if rows old new p was now e r g o.anchors i)))
    (three_patched row_of (finding_moved old new) rows old (d was) (k was) (a was)
    (option_map_or (λ d. duplicates_after d (open_after p.above) p.came) o.key_duplicates []) (if o.key_ordering then ordering_after (open_after p.above) p.came else [])
    (option_map_or (λ a. anchors_between a r.above r.came r.below) o.anchors []))

-- ---- where the same keys are left

module _ (s : OpenNodes) (old new rest : List EventValue) (same : LeaveSameKeys s old new) where
  same_duplicates : (d : Option KeyDuplicatesOptions) → IfSome d (λ d. duplicates_after d (after_events s old) rest ≡ duplicates_after d (after_events s new) rest)
  same_duplicates None = tt
  same_duplicates (Some d) = same_names.same_duplicates d (after_events s old) (after_events s new) rest (same_names.state s old new same)

  same_found : (o : TreeOptions) → AreFoundAlike o (after_events s old) (after_events s new) rest
  same_found o = record { duplicates = same_duplicates o.key_duplicates; ordering = λ on. same_names.same_ordering (after_events s old) (after_events s new) rest (same_names.state s old new same) }

-- ---- where the names stay

module _ (s : OpenNodes) (old new : List EventValue) where
  still_duplicates : (o : TreeOptions) → NamesStay o s old new → (d : Option KeyDuplicatesOptions) → IfSome d (λ d. DuplicatesAlone d s old) → IfSome d (λ d. DuplicatesAlone d s new)
  still_duplicates o stay None h = tt
  still_duplicates o stay (Some d) h = names_asked.same_duplicates d s old new stay.placed stay.asked h

  still_alone : (o : TreeOptions) → NamesStay o s old new → AreFoundAlone o s new
  still_alone o stay = record {
    duplicates = still_duplicates o stay o.key_duplicates stay.alone.duplicates;
    ordering = λ on. names_asked.same_ordering s old new stay.placed stay.asked (stay.alone.ordering on);
  }

module _ (s : OpenNodes) (es : List EventValue) where
  duplicates_alone : (d : Option KeyDuplicatesOptions) → IfSome d (λ d. DuplicatesAlone d s es)
      → option_map_or (λ d. duplicates_after d s es) d [] ≡ option_map_or (λ d. duplicates_after d (without_keys s) es) d []
  duplicates_alone None h = refl
  duplicates_alone (Some d) h = h

  ordering_alone : (on : Bool) → (on ≡ true → OrderingAlone s es) → (if on then ordering_after s es else []) ≡ (if on then ordering_after (without_keys s) es else [])
  ordering_alone false h = refl
  ordering_alone true h = h refl

  pub found_alone : (o : TreeOptions) (above here below : List NamedReference) → AreFoundAlone o s es
      → tree_findings_after o s es above here below ≡ tree_findings_after o (without_keys s) es above here below
  found_alone o above here below alone =
      λ i. duplicates_alone o.key_duplicates alone.duplicates i
      ++ (ordering_alone o.key_ordering alone.ordering i ++ option_map_or (λ a. anchors_between a above here below) o.anchors [])

alone_patched : (o : TreeOptions) (rows old new : ℕ) (p : EventParts) (r : ReferenceParts) (was now : List EventValue) → EventsEdit rows old new p was now → ReferencesEdit rows old new r was now
    → NamesStay o (open_after p.above) p.went p.came
    → IsPermutation (tree_findings o now)
    (list_patched row_of (finding_moved old new) rows old (tree_findings o was) (tree_findings_after o (without_keys (open_after p.above)) p.came r.above r.came r.below))
alone_patched o rows old new p r was now e g stay =
    subst (λ fs. IsPermutation (tree_findings o now) (list_patched row_of (finding_moved old new) rows old (tree_findings o was) fs))
    (found_alone (open_after p.above) p.came o r.above r.came r.below (still_alone (open_after p.above) p.went p.came o stay))
    (all_patched o rows old new p r was now e g (same_found (open_after p.above) p.went p.came p.below stay.keys o))

-- ---- further down

module _ (n : ℕ) (s : OpenNodes) (es : List EventValue) where
  duplicates_below : (d : Option KeyDuplicatesOptions) → option_map_or (λ d. duplicates_after d s (map (event_below n) es)) d [] ≡ map (finding_below n) (option_map_or (λ d. duplicates_after d s es) d [])
  duplicates_below None = refl
  duplicates_below (Some d) = all_moved (is_duplicate d) KeyDuplicates (codes "duplication of key \"") n s es

  ordering_below : (on : Bool) → (if on then ordering_after s (map (event_below n) es) else []) ≡ map (finding_below n) (if on then ordering_after s es else [])
  ordering_below false = refl
  ordering_below true = all_moved is_greater_among KeyOrdering (codes "wrong ordering of key \"") n s es

  anchors_below : (above here rest : List NamedReference) (a : Option AnchorsOptions)
      → option_map_or (λ a. anchors_between a above (map (reference_below n) here) rest) a [] ≡ map (finding_below n) (option_map_or (λ a. anchors_between a above here rest) a [])
  anchors_below above here rest None = refl
  anchors_below above here rest (Some a) = anchors_patched.below a n above here rest

  findings_below : (o : TreeOptions) (above here rest : List NamedReference)
      → tree_findings_after o s (map (event_below n) es) above (map (reference_below n) here) rest ≡ map (finding_below n) (tree_findings_after o s es above here rest)
  findings_below o above here rest =
      let ds = option_map_or (λ d. duplicates_after d s es) o.key_duplicates [] in
      let ks = if o.key_ordering then ordering_after s es else [] in
      let rs = option_map_or (λ a. anchors_between a above here rest) o.anchors [] in
      (λ i. duplicates_below o.key_duplicates i ++ (ordering_below o.key_ordering i ++ anchors_below above here rest o.anchors i))
      ∙ ap (λ fs. map (finding_below n) ds ++ fs) (sym (map-append (finding_below n) ks rs))
      ∙ sym (map-append (finding_below n) ds (ks ++ rs))

  still_there : (d : Option KeyDuplicatesOptions) → IfSome d (λ d. DuplicatesAlone d s es) → IfSome d (λ d. DuplicatesAlone d s (map (event_below n) es))
  still_there None h = tt
  still_there (Some d) h = names_asked.duplicates_below d n s es h

  still_found : (o : TreeOptions) → AreFoundAlone o s es → AreFoundAlone o s (map (event_below n) es)
  still_found o alone = record {
    duplicates = still_there o.key_duplicates alone.duplicates;
    ordering = λ on. names_asked.ordering_below n s es (alone.ordering on);
  }

pub tree_patched : TreeIsPatched
tree_patched = record {
  below = λ o n s es above here rest. findings_below n s es o above here rest;
  alone_below = λ o n s es alone. still_found n s es o alone;
  duplicates = λ d rows old new p was now e same. duplicates_patched rows old new p was now e d same;
  ordering = λ rows old new p was now e same. ordering_patched rows old new p was now e same;
  all = all_patched;
  same = λ o s old new rest same. same_found s old new rest same o;
  stay = λ o s old new stay. still_alone s old new o stay;
  alone = alone_patched;
}
