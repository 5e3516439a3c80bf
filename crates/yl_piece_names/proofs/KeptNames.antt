-- What is kept of a run of events, and of one event more.
use Rattle.std.specs.Prelude.{if◌then◌else◌, min, is_some}
use Rattle.std.proofs.Common.{◌≡◌, ℕ, suc, ◌≤◌, arith, List, [], ◌∷◌, ◌++◌, length, map, Bool, true, false, ◌||◌, refl, sym, ◌∙◌, ap, append-nil, Option, Some, None}
use Rattle.std.specs.List.{AllByRecursion, flat_map, list_any}
use Rattle.std.proofs.lemmas.Bool.{or_parts}
use Rattle.std.proofs.lemmas.List.Folds.{list_any-append}
use Rattle.yl_text.specs.declared.position.Pos.{Pos}
use Rattle.yl_events.specs.Event.{EventAnchorValue, EventKindValue, EventValue, AliasOf}
use Rattle.yl_tree.specs.declared.options.TreeOptions.{TreeOptions}
use Rattle.yl_tree.specs.Anchors.{is_alias_event}
use Rattle.yl_tree.specs.Keys.{is_collection_end, is_collection_start, is_mapping_start, name_of}
use Rattle.yl_tree.specs.OpenNodes.{OpenCollection, OpenNodes, closed, first_or_new, new_collection, opened, with_event, with_node, with_node_in, without_first}
use Rattle.yl_tree.specs.References.{is_reference}
use Rattle.yl_open_collections.specs.Counted.{what_counts, what_counts_of}
use Rattle.yl_open_collections.specs.OpenBy.{kinds_and_turns, without_keys}
use Rattle.yl_open_collections.proofs.Counted.{collection}
use Rattle.yl_pieces.specs.KeysOfRuns.{height, lowest, run_alone, staying}
use Rattle.yl_pieces.specs.References.{alias_of_event, anchor_of_event, references_of_event}
use Rattle.yl_pieces.proofs.KeysOfRuns.{keys_of_runs}
use Rattle.yl_pieces.proofs.KeyFindings.{after_both}
use Rattle.yl_piece_names.specs.SameNames.{LeaveSameKeys}
use Rattle.yl_piece_names.specs.Asked.{AskedName, HasPlace, asked_by, asked_names}
use Rattle.yl_piece_names.specs.TreePatched.{AreFoundAlone, NamesStay}
use Rattle.yl_piece_names.specs.KeptNames.{NamesOfRuns, RunNamesValue, asked_next, names_of_run, with_counted_node}
use Rattle.yl_piece_names.proofs.AskedKeys.{lowest_of_both}
use Rattle.yl_piece_names.proofs.AskedList.{asked_is, asked_of_both}
use Rattle.yl_piece_names.proofs.KindsAndTurns.{asked_counted, counted_outer, counts_keyless, kept_outer, kinds_and_turns_suffice}

-- ---- one event more in what counts

node_of : (name : Option (List ℕ)) (m n : Bool) (ks : List (List ℕ)) → with_counted_node name (what_counts_of (collection m n ks)) ≡ what_counts_of (with_node name (collection m n ks))
node_of name true n ks = refl
node_of name false n ks = refl

abbrev counted_node_in : Option (List ℕ) → OpenNodes → OpenNodes
counted_node_in name s = record s { innermost = with_counted_node name s.innermost }

node_counts : (name : Option (List ℕ)) (s : OpenNodes) → counted_node_in name (what_counts s) ≡ what_counts (with_node_in name s)
node_counts name s = λ i. record { innermost = node_of name s.innermost.is_mapping s.innermost.is_key_next s.innermost.keys i; outer = map what_counts_of s.outer }

new_of : (m : Bool) → new_collection m ≡ what_counts_of (new_collection m)
new_of true = refl
new_of false = refl

opened_counts : (m : Bool) (s : OpenNodes) → opened m (what_counts s) ≡ what_counts (opened m s)
opened_counts m s = λ i. record { innermost = new_of m i; outer = what_counts_of s.innermost ∷ map what_counts_of s.outer }

closed_to : (os : List OpenCollection) → record { innermost = first_or_new (map what_counts_of os); outer = without_first (map what_counts_of os) }
    ≡ what_counts (record { innermost = first_or_new os; outer = without_first os })
closed_to [] = refl
closed_to (o ∷ os) = refl

closed_counts : (s : OpenNodes) → closed (what_counts s) ≡ what_counts (closed s)
closed_counts s = closed_to s.outer

module _ (e : EventValue) where
  node_event : (s : OpenNodes) → is_collection_end e.kind ≡ false → is_collection_start e.kind ≡ false → with_event e s ≡ with_node_in (name_of e) s
  node_event s off none = rw (off, none) refl

  start_event : (s : OpenNodes) → is_collection_end e.kind ≡ false → is_collection_start e.kind ≡ true → with_event e s ≡ opened (is_mapping_start e.kind) (with_node_in (name_of e) s)
  start_event s off on = rw (off, on) refl

  end_event : (s : OpenNodes) → is_collection_end e.kind ≡ true → with_event e s ≡ closed s
  end_event s on = rw on refl

  module _ (s old : OpenNodes) (is : old ≡ what_counts s) where
    pub at_end : (new : OpenNodes) → new ≡ closed old → is_collection_end e.kind ≡ true → new ≡ what_counts (with_event e s)
    at_end new so on = so ∙ ap closed is ∙ closed_counts s ∙ ap what_counts (sym (end_event s on))

    behind_node : (name : Option (List ℕ)) (new : OpenNodes) → new ≡ record old { innermost = with_counted_node name old.innermost } → name ≡ name_of e
        → new ≡ what_counts (with_node_in (name_of e) s)
    behind_node name new so named = so ∙ ap (counted_node_in name) is ∙ node_counts name s ∙ ap (λ n. what_counts (with_node_in n s)) named

    pub at_node : (name : Option (List ℕ)) (new : OpenNodes) → new ≡ record old { innermost = with_counted_node name old.innermost } → name ≡ name_of e
        → is_collection_end e.kind ≡ false → is_collection_start e.kind ≡ false → new ≡ what_counts (with_event e s)
    at_node name new so named off none = behind_node name new so named ∙ ap what_counts (sym (node_event s off none))

    pub at_start : (name : Option (List ℕ)) (between new : OpenNodes) (m : Bool) → between ≡ record old { innermost = with_counted_node name old.innermost } → name ≡ name_of e
        → is_collection_end e.kind ≡ false → is_collection_start e.kind ≡ true → new ≡ opened m between → m ≡ is_mapping_start e.kind → new ≡ what_counts (with_event e s)
    at_start name between new m so named off on opens is_mapping =
        opens
        ∙ (λ i. opened (is_mapping i) (behind_node name between so named i))
        ∙ opened_counts (is_mapping_start e.kind) (with_node_in (name_of e) s)
        ∙ ap what_counts (sym (start_event s off on))

-- ---- how low a run goes with one event more

least_left : (a b : ℕ) → a ≤ b → min a b ≡ a
least_left a b h = omega arith

rest_length : (os : List OpenCollection) → length os ≤ suc (length (without_first os))
rest_length [] = omega arith
rest_length (o ∷ os) = omega arith

stay_open : (e : EventValue) (t : OpenNodes) (b c : Bool) → is_collection_end e.kind ≡ b → is_collection_start e.kind ≡ c → staying e t ≤ height (with_event e t)
stay_open e t true c on _ = rw on (rest_length t.outer)
stay_open e t false true off on = rw (off, on) (omega arith)
stay_open e t false false off none = rw (off, none) (omega arith)

one_lowest : (e : EventValue) (t : OpenNodes) → lowest t (e ∷ []) ≡ staying e (what_counts t)
one_lowest e t =
    least_left (staying e t) (height (with_event e t)) (stay_open e t (is_collection_end e.kind) (is_collection_start e.kind) refl refl)
    ∙ ap (λ n. if is_collection_end e.kind then n else suc n) (sym (counted_outer t))

or_nothing : (b : Bool) → (b || false) ≡ b
or_nothing true = refl
or_nothing false = refl

module _ (s : OpenNodes) (es : List EventValue) (e : EventValue) where
  more_collections : what_counts (run_alone s (es ++ e ∷ [])) ≡ what_counts (with_event e (run_alone s es))
  more_collections = ap what_counts (after_both (without_keys s) es (e ∷ []))

  more_low : lowest s (es ++ e ∷ []) ≡ min (lowest s es) (staying e (what_counts (run_alone s es)))
  more_low =
      sym (keys_of_runs.low s (es ++ e ∷ []))
      ∙ lowest_of_both (without_keys s) es (e ∷ [])
      ∙ (λ i. min (keys_of_runs.low s es i) (one_lowest e (run_alone s es) i))

  more_asked : asked_names s (es ++ e ∷ []) ≡ asked_names s es ++ asked_next (what_counts (run_alone s es)) (lowest s es) (name_of e)
  more_asked =
      asked_is s (es ++ e ∷ [])
      ∙ asked_of_both s [] es (e ∷ [])
      ∙ (λ i. sym (asked_is s es) i ++ (append-nil (asked_by s es (name_of e)) ∙ sym (asked_counted (run_alone s es) (lowest s es) (name_of e))) i)

  more_references : list_any is_reference (es ++ e ∷ []) ≡ (list_any is_reference es || is_reference e)
  more_references = list_any-append is_reference es (e ∷ []) ∙ ap (λ (b : Bool). list_any is_reference es || b) (or_nothing (is_reference e))

  -- where this was kept, one event more
  pub pushed : (old new : RunNamesValue) → old ≡ names_of_run s es
      → new.collections ≡ what_counts (with_event e (run_alone s es))
      → new.low ≡ min old.low (staying e old.collections)
      → new.asked ≡ old.asked ++ asked_next old.collections old.low (name_of e)
      → new.has_references ≡ (old.has_references || is_reference e)
      → new ≡ names_of_run s (es ++ e ∷ [])
  pushed old new was collections low asked references = λ i. record {
    collections = (collections ∙ sym more_collections) i;
    low = (low ∙ (λ j. min (was j).low (staying e (was j).collections)) ∙ sym more_low) i;
    asked = (asked ∙ (λ j. (was j).asked ++ asked_next (was j).collections (was j).low (name_of e)) ∙ sym more_asked) i;
    has_references = (references ∙ (λ j. (was j).has_references || is_reference e) ∙ sym more_references) i;
  }

-- ---- the start of a run

pub begun : (s u : OpenNodes) (new : RunNamesValue) → kinds_and_turns s ≡ u → new ≡ record { collections = u; low = height u; asked = []; has_references = false } → new ≡ names_of_run s []
begun s u new same is =
    is
    ∙ (λ i. record { collections = sym same i; low = height (sym same i); asked = []; has_references = false })
    ∙ (λ i. record { collections = sym (counts_keyless s) i; low = suc (kept_outer s i); asked = []; has_references = false })

-- ---- references

alias_none : (k : EventKindValue) (place : Option Pos) → is_alias_event k ≡ false → alias_of_event k place ≡ []
alias_none (AliasOf name) place h = cc
alias_none k place h = refl

anchor_none : (a : Option EventAnchorValue) → is_some a ≡ false → anchor_of_event a ≡ []
anchor_none None h = refl
anchor_none (Some a) h = cc

none_there : (es : List EventValue) → list_any is_reference es ≡ false → flat_map references_of_event es ≡ []
none_there [] h = refl
none_there (e ∷ es) h =
    let parts = or_parts (is_reference e) (list_any is_reference es) h in
    let own = or_parts (is_some e.anchor) (is_alias_event e.kind) parts.0 in
    λ i. (alias_none e.kind e.place own.1 i ++ anchor_none e.anchor own.0 i) ++ none_there es parts.1 i

-- ---- the law

module _ (s : OpenNodes) (old new : List EventValue) (same : names_of_run s old ≡ names_of_run s new) where
  leave_same : LeaveSameKeys s old new
  leave_same = record { alone = ap (λ (v : RunNamesValue). v.collections) same; low = ap (λ (v : RunNamesValue). v.low) same }

  ask_same : asked_names s old ≡ asked_names s new
  ask_same = ap (λ (v : RunNamesValue). v.asked) same

  names_stay : (o : TreeOptions) → AllByRecursion HasPlace old → AreFoundAlone o s old → NamesStay o s old new
  names_stay o placed alone = record { keys = leave_same; asked = ask_same; placed = placed; alone = alone }

same_kinds : (s t : OpenNodes) (es : List EventValue) → kinds_and_turns s ≡ kinds_and_turns t → names_of_run s es ≡ names_of_run t es
same_kinds s t es same = λ i. record {
  collections = kinds_and_turns_suffice.alone s t es same i;
  low = kinds_and_turns_suffice.low s t es same i;
  asked = kinds_and_turns_suffice.asked s t es same i;
  has_references = list_any is_reference es;
}

pub names_of_runs : NamesOfRuns
names_of_runs = record {
  by_kinds = same_kinds;
  keys = leave_same;
  asked = ask_same;
  stay = λ o s old new same placed alone. names_stay s old new same o placed alone;
  none = λ s es h. none_there es h;
}
