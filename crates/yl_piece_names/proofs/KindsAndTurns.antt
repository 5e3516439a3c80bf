-- What counts of the collections that are open before a run is enough.
use Rattle.std.specs.Prelude.{if◌then◌else◌, nat_le, IfSome}
use Rattle.std.specs.Option.{option_map_or}
use Rattle.std.proofs.Common.{◌≡◌, ℕ, suc, List, [], ◌∷◌, ◌++◌, length, map, Bool, true, false, ◌&&◌, refl, sym, ◌∙◌, ap, codes, Option, Some, None}
use Rattle.std.proofs.lemmas.List.{length-map}
use Rattle.yl_text.specs.declared.finding.RuleId.{RuleId}
use Rattle.yl_text.specs.declared.finding.RuleId.TheVariants.{KeyDuplicates, KeyOrdering}
use Rattle.yl_events.specs.Event.{EventValue}
use Rattle.yl_tree.specs.declared.options.KeyDuplicatesOptions.{KeyDuplicatesOptions}
use Rattle.yl_tree.specs.declared.options.TreeOptions.{TreeOptions}
use Rattle.yl_tree.specs.Greatest.{is_greater_among}
use Rattle.yl_tree.specs.Keys.{name_of}
use Rattle.yl_tree.specs.KeyRules.{is_duplicate}
use Rattle.yl_tree.specs.OpenNodes.{OpenCollection, OpenNodes}
use Rattle.yl_open_collections.specs.Counted.{key_findings_after, what_counts, what_counts_of}
use Rattle.yl_open_collections.specs.OpenBy.{keyless, kinds_and_turns, without_keys}
use Rattle.yl_open_collections.proofs.Counted.{collection, mappings_count}
use Rattle.yl_pieces.specs.KeysOfRuns.{height, is_before_key, lowest, run_alone}
use Rattle.yl_pieces.specs.DuplicatesOfRuns.{duplicates_after}
use Rattle.yl_pieces.specs.OrderingOfRuns.{ordering_after}
use Rattle.yl_pieces.specs.References.{NamedReference}
use Rattle.yl_pieces.proofs.KeysOfRuns.{same_lowest}
use Rattle.yl_piece_names.specs.SameNames.{LeaveSameKeys}
use Rattle.yl_piece_names.specs.Asked.{DuplicatesAlone, OrderingAlone, asked_by, asked_names}
use Rattle.yl_piece_names.specs.AnchorsPatched.{anchors_between}
use Rattle.yl_piece_names.specs.TreePatched.{AreFoundAlone, NamesStay, tree_findings_after}
use Rattle.yl_piece_names.specs.KindsAndTurns.{KindsAndTurns}
use Rattle.yl_piece_names.proofs.AskedKeys.{asked_one}
use Rattle.yl_piece_names.proofs.AskedList.{asked_after, asked_is}

-- ---- what counts without keys

keyless_of : (m n : Bool) (ks : List (List ℕ)) → what_counts_of (keyless (collection m n ks)) ≡ keyless (what_counts_of (collection m n ks))
keyless_of true n ks = refl
keyless_of false n ks = refl

keyless_all : (os : List OpenCollection) → map what_counts_of (map keyless os) ≡ map keyless (map what_counts_of os)
keyless_all [] = refl
keyless_all (o ∷ os) = λ i. keyless_of o.is_mapping o.is_key_next o.keys i ∷ keyless_all os i

pub counts_keyless : (s : OpenNodes) → what_counts (without_keys s) ≡ kinds_and_turns s
counts_keyless s = λ i. record { innermost = keyless_of s.innermost.is_mapping s.innermost.is_key_next s.innermost.keys i; outer = keyless_all s.outer i }

once_of : (m n : Bool) (ks : List (List ℕ)) → what_counts_of (what_counts_of (collection m n ks)) ≡ what_counts_of (collection m n ks)
once_of true n ks = refl
once_of false n ks = refl

once_all : (os : List OpenCollection) → map what_counts_of (map what_counts_of os) ≡ map what_counts_of os
once_all [] = refl
once_all (o ∷ os) = λ i. once_of o.is_mapping o.is_key_next o.keys i ∷ once_all os i

pub counts_once : (s : OpenNodes) → what_counts (what_counts s) ≡ what_counts s
counts_once s = λ i. record { innermost = once_of s.innermost.is_mapping s.innermost.is_key_next s.innermost.keys i; outer = once_all s.outer i }

-- kinds and turns are what counts of them
pub kinds_count : (s : OpenNodes) → what_counts (kinds_and_turns s) ≡ kinds_and_turns s
kinds_count s = ap what_counts (sym (counts_keyless s)) ∙ counts_once (without_keys s) ∙ counts_keyless s

-- ---- heights

pub counted_outer : (s : OpenNodes) → length (what_counts s).outer ≡ length s.outer
counted_outer s = length-map s.outer what_counts_of

pub kept_outer : (s : OpenNodes) → length (kinds_and_turns s).outer ≡ length s.outer
kept_outer s = length-map (map what_counts_of s.outer) keyless ∙ counted_outer s

-- ---- names

before_key : (m n : Bool) (ks : List (List ℕ)) → ((what_counts_of (collection m n ks)).is_mapping && (what_counts_of (collection m n ks)).is_key_next) ≡ (m && n)
before_key true n ks = refl
before_key false n ks = refl

pub counted_key : (t : OpenNodes) → is_before_key (what_counts t) ≡ is_before_key t
counted_key t = before_key t.innermost.is_mapping t.innermost.is_key_next t.innermost.keys

pub asked_counted : (t : OpenNodes) (low : ℕ) (name : Option (List ℕ)) → asked_one (what_counts t) low name ≡ asked_one t low name
asked_counted t low None = refl
asked_counted t low (Some name) =
    λ i. if counted_key t i && nat_le (suc (counted_outer t i)) low then record { height = suc (counted_outer t i); name = name } ∷ [] else []

module _ (s t : OpenNodes) (same : kinds_and_turns s ≡ kinds_and_turns t) where
  same_alone : (es : List EventValue) → what_counts (run_alone s es) ≡ what_counts (run_alone t es)
  same_alone es = mappings_count.same_after (without_keys s) (without_keys t) es (counts_keyless s ∙ same ∙ sym (counts_keyless t))

  same_low : (es : List EventValue) → lowest s es ≡ lowest t es
  same_low es = same_lowest es s t (sym (kept_outer s) ∙ ap (λ (u : OpenNodes). length u.outer) same ∙ kept_outer t)

  asked_here : (front : List EventValue) (name : Option (List ℕ)) → asked_by s front name ≡ asked_by t front name
  asked_here front name =
      sym (asked_counted (run_alone s front) (lowest s front) name)
      ∙ (λ i. asked_one (same_alone front i) (same_low front i) name)
      ∙ asked_counted (run_alone t front) (lowest t front) name

  asked_there : (front back : List EventValue) → asked_after s front back ≡ asked_after t front back
  asked_there front [] = refl
  asked_there front (e ∷ back) = λ i. asked_here front (name_of e) i ++ asked_there (front ++ e ∷ []) back i

  same_asked : (es : List EventValue) → asked_names s es ≡ asked_names t es
  same_asked es = asked_is s es ∙ asked_there [] es ∙ sym (asked_is t es)

  still_leave : (old new : List EventValue) → LeaveSameKeys s old new → LeaveSameKeys t old new
  still_leave old new leave = record {
    alone = sym (same_alone old) ∙ leave.alone ∙ same_alone new;
    low = sym (same_low old) ∙ leave.low ∙ same_low new;
  }

-- ---- what is found

-- rule by rule
module _ (s t : OpenNodes) (same : what_counts s ≡ what_counts t) (es : List EventValue) where
  found_if : (d : Option KeyDuplicatesOptions) → option_map_or (λ d. duplicates_after d s es) d [] ≡ option_map_or (λ d. duplicates_after d t es) d []
  found_if None = refl
  found_if (Some d) = mappings_count.same_found (is_duplicate d) KeyDuplicates (codes "duplication of key \"") s t es same

  pub findings_alike : (o : TreeOptions) (above here below : List NamedReference) → tree_findings_after o s es above here below ≡ tree_findings_after o t es above here below
  findings_alike o above here below =
      λ i. found_if o.key_duplicates i
      ++ ((if o.key_ordering then mappings_count.same_found is_greater_among KeyOrdering (codes "wrong ordering of key \"") s t es same i else [])
      ++ option_map_or (λ a. anchors_between a above here below) o.anchors [])

alone_found : (o : TreeOptions) (s : OpenNodes) (es : List EventValue) (above here below : List NamedReference)
    → tree_findings_after o (without_keys s) es above here below ≡ tree_findings_after o (kinds_and_turns s) es above here below
alone_found o s es above here below = findings_alike (without_keys s) (kinds_and_turns s) (counts_keyless s ∙ sym (kinds_count s)) es o above here below

module _ (s t : OpenNodes) (same : what_counts s ≡ what_counts t) where
  keyless_alike : what_counts (without_keys s) ≡ what_counts (without_keys t)
  keyless_alike = counts_keyless s ∙ ap without_keys same ∙ sym (counts_keyless t)

  still_alone : (test : List (List ℕ) → List ℕ → Bool) (rule : RuleId) (words : List ℕ) (es : List EventValue)
      → key_findings_after test rule words s es ≡ key_findings_after test rule words (without_keys s) es
      → key_findings_after test rule words t es ≡ key_findings_after test rule words (without_keys t) es
  still_alone test rule words es alone =
      sym (mappings_count.same_found test rule words s t es same)
      ∙ alone
      ∙ mappings_count.same_found test rule words (without_keys s) (without_keys t) es keyless_alike

  still_duplicates : (o : KeyDuplicatesOptions) (es : List EventValue) → DuplicatesAlone o s es → DuplicatesAlone o t es
  still_duplicates o es alone = still_alone (is_duplicate o) KeyDuplicates (codes "duplication of key \"") es alone

  still_ordering : (es : List EventValue) → OrderingAlone s es → OrderingAlone t es
  still_ordering es alone = still_alone is_greater_among KeyOrdering (codes "wrong ordering of key \"") es alone

  duplicates_if : (es : List EventValue) (d : Option KeyDuplicatesOptions) → IfSome d (λ d. DuplicatesAlone d s es) → IfSome d (λ d. DuplicatesAlone d t es)
  duplicates_if es None h = tt
  duplicates_if es (Some d) h = still_duplicates d es h

  still_found : (o : TreeOptions) (es : List EventValue) → AreFoundAlone o s es → AreFoundAlone o t es
  still_found o es alone = record {
    duplicates = duplicates_if es o.key_duplicates alone.duplicates;
    ordering = λ on. still_ordering es (alone.ordering on);
  }

  still_stay : (o : TreeOptions) (old new : List EventValue) → NamesStay o s old new → NamesStay o t old new
  still_stay o old new stay = record {
    keys = still_leave s t (ap without_keys same) old new stay.keys;
    asked = sym (same_asked s t (ap without_keys same) old) ∙ stay.asked ∙ same_asked s t (ap without_keys same) new;
    placed = stay.placed;
    alone = still_found o old stay.alone;
  }

-- ---- the law

pub kinds_and_turns_suffice : KindsAndTurns
kinds_and_turns_suffice = record {
  alone = λ s t es same. same_alone s t same es;
  low = λ s t es same. same_low s t same es;
  asked = λ s t es same. same_asked s t same es;
  leave = λ s t old new same leave. still_leave s t same old new leave;
  found = alone_found;
  duplicates = λ o s t es same alone. still_duplicates s t same o es alone;
  ordering = λ s t es same alone. still_ordering s t same es alone;
  found_alone = λ o s t es same alone. still_found s t same o es alone;
  stay = λ o s t old new same stay. still_stay s t same o old new stay;
}
