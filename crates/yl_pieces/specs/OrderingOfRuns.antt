-- Bridge: what key-ordering finds at the events of a run, by the collections that are open before
-- it. Of the keys of each the greatest is enough.
use Rattle.std.specs.Prelude.{ℕ, ◌≡◌, if◌then◌else◌, List, [], ◌∷◌, ◌++◌, map, codes, Option, Some, None}
use Rattle.std.specs.Option.{option_to_list}
use Rattle.yl_text.specs.declared.finding.RuleId.TheVariants.{KeyOrdering}
use Rattle.yl_text.specs.Finding.{FindingValue}
use Rattle.yl_events.specs.Event.{EventValue}
use Rattle.yl_lexeme_rules.specs.LexemesAlike.{finding_below}
use Rattle.yl_tree.specs.Greatest.{is_greater_among}
use Rattle.yl_tree.specs.KeyRules.{is_greater, key_ordering}
use Rattle.yl_tree.specs.OpenNodes.{OpenCollection, OpenNodes, collections_behind}
use Rattle.yl_open_collections.specs.Counted.{after_events, key_findings_after}
use Rattle.yl_open_collections.specs.OpenBy.{without_keys}
use Rattle.yl_pieces.specs.KeysOfRuns.{all_open, keys_at}
use Rattle.yl_pieces.specs.DuplicatesOfRuns.{AsksFor, event_below}

-- what key-ordering finds at the events of a run, where these collections are open before it
abbrev pub ordering_after : OpenNodes → List EventValue → List FindingValue
ordering_after s es = key_findings_after is_greater_among KeyOrdering (codes "wrong ordering of key \"") s es

-- ---- the greatest key

-- the greater of a key and the greatest of others, if there are others
abbrev pub greater_of : List ℕ → Option (List ℕ) → List ℕ
greater_of key None = key
greater_of key (Some other) = if is_greater other key then other else key

-- the greatest of these keys, by code points
abbrev pub greatest : List (List ℕ) → Option (List ℕ)
greatest [] = None
greatest (key ∷ keys) = Some (greater_of key (greatest keys))

-- the same collection with its greatest key alone
abbrev pub with_greatest_key : OpenCollection → OpenCollection
with_greatest_key o = record { is_mapping = o.is_mapping; is_key_next = o.is_key_next; keys = option_to_list (greatest o.keys) }

-- the same open collections, each with its greatest key alone
abbrev pub with_greatest_keys : OpenNodes → OpenNodes
with_greatest_keys s = record { innermost = with_greatest_key s.innermost; outer = map with_greatest_key s.outer }

-- ---- the law

-- for each key of the run that asks for earlier keys from before it: both have a greater one or
-- neither has
abbrev pub HaveGreaterNames : OpenNodes → OpenNodes → List EventValue → Type 0
HaveGreaterNames s t es = (h : ℕ) (name : List ℕ) → AsksFor s es h name → is_greater_among (keys_at h (all_open s)) name ≡ is_greater_among (keys_at h (all_open t)) name

pub record OrderingOfRuns : Type 0 where
  -- what the rule finds in a document is what it finds after nothing
  pub whole : (es : List EventValue) → key_ordering es ≡ ordering_after (collections_behind []) es
  -- one run after another
  pub runs : (s : OpenNodes) (es fs : List EventValue)
      → ordering_after s (es ++ fs) ≡ ordering_after s es ++ ordering_after (after_events s es) fs
  -- of the keys from before a run no more matters than whether one is greater than the names that
  -- it asks for
  pub lasting : (s t : OpenNodes) (es : List EventValue) → without_keys s ≡ without_keys t → HaveGreaterNames s t es
      → ordering_after s es ≡ ordering_after t es
  -- the same events further down
  pub below : (n : ℕ) (s : OpenNodes) (es : List EventValue)
      → ordering_after s (map (event_below n) es) ≡ map (finding_below n) (ordering_after s es)
  -- the greatest keys before a run are enough for what is found at it
  pub found : (s t : OpenNodes) (es : List EventValue) → with_greatest_keys s ≡ with_greatest_keys t → ordering_after s es ≡ ordering_after t es
  -- and for the greatest keys after it
  pub state : (s t : OpenNodes) (es : List EventValue) → with_greatest_keys s ≡ with_greatest_keys t
      → with_greatest_keys (after_events s es) ≡ with_greatest_keys (after_events t es)
  -- the greatest key alone says all that the keys say: whether one is greater than a name
  pub greatest_tells : (keys : List (List ℕ)) (name : List ℕ) → is_greater_among keys name ≡ is_greater_among (option_to_list (greatest keys)) name
