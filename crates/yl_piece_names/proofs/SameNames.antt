-- Two runs of events that leave the same keys.
use Rattle.std.proofs.Common.{◌≡◌, ℕ, List, [], ◌∷◌, ◌++◌, map, Bool, refl, sym, ◌∙◌, ap, codes}
use Rattle.std.specs.Prelude.{min}
use Rattle.std.specs.List.{AllByRecursion}
use Rattle.yl_text.specs.declared.finding.RuleId.{RuleId}
use Rattle.yl_text.specs.declared.finding.RuleId.TheVariants.{KeyDuplicates, KeyOrdering}
use Rattle.yl_events.specs.Event.{EventValue}
use Rattle.yl_tree.specs.Greatest.{is_greater_among}
use Rattle.yl_tree.specs.KeyRules.{is_duplicate}
use Rattle.yl_tree.specs.OpenNodes.{OpenNodes, with_event}
use Rattle.yl_open_collections.specs.OpenBy.{without_keys}
use Rattle.yl_open_collections.specs.Counted.{after_events, key_findings_after, what_counts}
use Rattle.yl_pieces.specs.KeysOfRuns.{lowest, run_alone, staying, with_earlier_keys}
use Rattle.yl_pieces.specs.DuplicatesOfRuns.{event_below}
use Rattle.yl_pieces.specs.Patched.{finding_moved}
use Rattle.yl_pieces.proofs.KeysOfRuns.{keys_of_runs}
use Rattle.yl_pieces.proofs.KeyFindings.{after_below, both}
use Rattle.yl_piece_names.specs.Moved.{IfNamed, IsFrom, event_moved}
use Rattle.yl_piece_names.specs.SameNames.{LeaveSameKeys, SameNames}
use Rattle.yl_piece_names.proofs.Mappings.{earlier_by_mappings, found_by_mappings}
use Rattle.yl_piece_names.proofs.MovedFindings.{keys_moved}

pub same_state : (s : OpenNodes) (old new : List EventValue) → LeaveSameKeys s old new → what_counts (after_events s old) ≡ what_counts (after_events s new)
same_state s old new same =
    ap what_counts (keys_of_runs.run s old)
    ∙ earlier_by_mappings (lowest s old) s (run_alone s old)
    ∙ (λ i. what_counts (with_earlier_keys (same.low i) (same.alone i) s))
    ∙ sym (ap what_counts (keys_of_runs.run s new) ∙ earlier_by_mappings (lowest s new) s (run_alone s new))

module _ (test : List (List ℕ) → List ℕ → Bool) (rule : RuleId) (words : List ℕ) where
  pub found_behind : (s : OpenNodes) (old new rest : List EventValue) (gone come : ℕ) → LeaveSameKeys s old new → AllByRecursion (IfNamed (IsFrom gone)) rest
      → key_findings_after test rule words s (new ++ map (event_moved gone come) rest)
      ≡ key_findings_after test rule words s new ++ map (finding_moved gone come) (key_findings_after test rule words (after_events s old) rest)
  found_behind s old new rest gone come same from =
      both test rule words s new (map (event_moved gone come) rest)
      ∙ ap (λ fs. key_findings_after test rule words s new ++ fs)
      (keys_moved test rule words gone come (after_events s new) rest from
      ∙ ap (map (finding_moved gone come)) (sym (found_by_mappings test rule words (after_events s old) (after_events s new) rest (same_state s old new same))))

pub lowest_below : (n : ℕ) (s : OpenNodes) (es : List EventValue) → lowest s (map (event_below n) es) ≡ lowest s es
lowest_below n s [] = refl
lowest_below n s (e ∷ es) = ap (min (staying e s)) (lowest_below n (with_event e s) es)

same_below : (n : ℕ) (s : OpenNodes) (old new : List EventValue) → LeaveSameKeys s old new → LeaveSameKeys s (map (event_below n) old) (map (event_below n) new)
same_below n s old new same = record {
  alone = ap what_counts (after_below n (without_keys s) old) ∙ same.alone ∙ sym (ap what_counts (after_below n (without_keys s) new));
  low = lowest_below n s old ∙ same.low ∙ sym (lowest_below n s new);
}

pub same_names : SameNames
same_names = record {
  below = same_below;
  state = same_state;
  same_duplicates = λ o s t es same. found_by_mappings (is_duplicate o) KeyDuplicates (codes "duplication of key \"") s t es same;
  same_ordering = λ s t es same. found_by_mappings is_greater_among KeyOrdering (codes "wrong ordering of key \"") s t es same;
  duplicates = λ o s old new rest gone come same from. found_behind (is_duplicate o) KeyDuplicates (codes "duplication of key \"") s old new rest gone come same from;
  ordering = λ s old new rest gone come same from. found_behind is_greater_among KeyOrdering (codes "wrong ordering of key \"") s old new rest gone come same from;
}
