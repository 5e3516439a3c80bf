-- Bridge: what counts of open collections: of a mapping its keys and whether a key comes next in
-- it, of any other collection only that it is open.
use Rattle.std.specs.Prelude.{ℕ, ◌≡◌, Bool, false, if◌then◌else◌, List, [], ◌∷◌, ◌++◌, map, codes, Option, Some, None}
use Rattle.yl_text.specs.declared.finding.RuleId.{RuleId}
use Rattle.yl_text.specs.Finding.{FindingValue}
use Rattle.yl_events.specs.Event.{EventValue}
use Rattle.yl_tree.specs.Keys.{name_of}
use Rattle.yl_tree.specs.Messages.{name_finding}
use Rattle.yl_tree.specs.OpenNodes.{OpenCollection, OpenNodes, new_collection, with_event, keys_if_next}

-- ---- runs

-- the open collections after these events, in their order, after these
abbrev pub after_events : OpenNodes → List EventValue → OpenNodes
after_events s [] = s
after_events s (e ∷ es) = after_events (with_event e s) es

-- the finding at an event that has a name, if the test is true for these keys and the name
abbrev pub finding_among : (List (List ℕ) → List ℕ → Bool) → RuleId → List ℕ → List (List ℕ) → EventValue → Option (List ℕ)
    → List FindingValue
finding_among test rule words earlier e None = []
finding_among test rule words earlier e (Some name) = if test earlier name then name_finding rule e.place words name (codes "\" in mapping") else []

-- what a rule on keys finds at the events of a run, where these collections are open before it: at
-- each key, by the earlier keys of its mapping
abbrev pub key_findings_after : (List (List ℕ) → List ℕ → Bool) → RuleId → List ℕ → OpenNodes → List EventValue → List FindingValue
key_findings_after test rule words s [] = []
key_findings_after test rule words s (e ∷ es) =
    finding_among test rule words (keys_if_next s.innermost) e (name_of e) ++ key_findings_after test rule words (with_event e s) es

-- ---- what counts

-- a mapping as it is, and any other collection as if it were new
abbrev pub what_counts_of : OpenCollection → OpenCollection
what_counts_of o = if o.is_mapping then o else new_collection false

abbrev pub what_counts : OpenNodes → OpenNodes
what_counts s = record { innermost = what_counts_of s.innermost; outer = map what_counts_of s.outer }

-- ---- the law

pub record MappingsCount : Type 0 where
  -- what counts after an event is determined by what counts before it
  pub event : (e : EventValue) (s : OpenNodes) → what_counts (with_event e s) ≡ what_counts (with_event e (what_counts s))
  -- the same of a run
  pub run : (s : OpenNodes) (es : List EventValue) → what_counts (after_events s es) ≡ what_counts (after_events (what_counts s) es)
  -- the earlier keys of the event that comes next
  pub keys : (s : OpenNodes) → keys_if_next s.innermost ≡ keys_if_next (what_counts s).innermost
  -- what a rule on keys finds at a run, whatever it asks of the earlier keys
  pub found : (test : List (List ℕ) → List ℕ → Bool) (rule : RuleId) (words : List ℕ) (s : OpenNodes) (es : List EventValue)
      → key_findings_after test rule words s es ≡ key_findings_after test rule words (what_counts s) es
  -- so where the same counts before a run, the same is found at it, and the same counts after it
  pub same_found : (test : List (List ℕ) → List ℕ → Bool) (rule : RuleId) (words : List ℕ) (s t : OpenNodes) (es : List EventValue)
      → what_counts s ≡ what_counts t → key_findings_after test rule words s es ≡ key_findings_after test rule words t es
  pub same_after : (s t : OpenNodes) (es : List EventValue) → what_counts s ≡ what_counts t → what_counts (after_events s es) ≡ what_counts (after_events t es)
