-- Bridge: what the rules on keys find at the events of a run, by the collections that are open
-- before it.
use Rattle.std.specs.Prelude.{ℕ, ◌≡◌, ◌≤◌, ◌+◌, Bool, true, List, [], ◌∷◌, ◌++◌, map, codes, bytes_eq, Some, option_map}
use Rattle.std.specs.List.{list_any}
use Rattle.yl_text.specs.declared.position.Pos.{Pos}
use Rattle.yl_text.specs.declared.finding.RuleId.TheVariants.{KeyDuplicates}
use Rattle.yl_text.specs.Finding.{FindingValue}
use Rattle.yl_events.specs.Event.{EventAnchorValue, EventValue}
use Rattle.yl_lexeme_rules.specs.LexemesAlike.{finding_below}
use Rattle.yl_tree.specs.declared.options.KeyDuplicatesOptions.{KeyDuplicatesOptions}
use Rattle.yl_tree.specs.Keys.{name_of}
use Rattle.yl_tree.specs.KeyRules.{is_duplicate, key_duplicates}
use Rattle.yl_tree.specs.OpenNodes.{OpenNodes, collections_behind}
use Rattle.yl_open_collections.specs.Counted.{after_events, key_findings_after}
use Rattle.yl_open_collections.specs.OpenBy.{without_keys}
use Rattle.yl_pieces.specs.KeysOfRuns.{all_open, height, is_before_key, keys_at, lowest, run_alone}

-- ---- what is found at a run

-- what key-duplicates finds
abbrev pub duplicates_after : KeyDuplicatesOptions → OpenNodes → List EventValue → List FindingValue
duplicates_after o s es = key_findings_after (is_duplicate o) KeyDuplicates (codes "duplication of key \"") s es

-- ---- keys from before a run

-- a key with this name comes in the run, in a mapping of this height that was open before the run
-- and was not closed in it so far. It may be closed later in the run
pub record AsksFor (s : OpenNodes) (es : List EventValue) (h : ℕ) (name : List ℕ) : Type 0 where
  pub front : List EventValue
  pub key : EventValue
  pub back : List EventValue
  pub is_run : es ≡ front ++ key ∷ back
  pub is_named : name_of key ≡ Some name
  pub is_key : is_before_key (run_alone s front) ≡ true
  pub is_within : height (run_alone s front) ≡ h
  pub lasts : h ≤ lowest s front

-- one of these keys has the name
abbrev pub has_name : List ℕ → List (List ℕ) → Bool
has_name name keys = list_any (λ key. bytes_eq key name) keys

-- for each key of the run that asks for earlier keys from before it: both have its name or neither
-- has
abbrev pub HaveSameNames : OpenNodes → OpenNodes → List EventValue → Type 0
HaveSameNames s t es = (h : ℕ) (name : List ℕ) → AsksFor s es h name → has_name name (keys_at h (all_open s)) ≡ has_name name (keys_at h (all_open t))

-- ---- so many lines below

abbrev pub place_below : ℕ → Pos → Pos
place_below n p = record p { line = n + p.line }

abbrev pub anchor_below : ℕ → EventAnchorValue → EventAnchorValue
anchor_below n a = record a { place = place_below n a.place }

-- the event with its places so many lines below
abbrev pub event_below : ℕ → EventValue → EventValue
event_below n e = record e { place = option_map (place_below n) e.place; anchor = option_map (anchor_below n) e.anchor }

-- ---- the law

pub record DuplicatesOfRuns (o : KeyDuplicatesOptions) : Type 0 where
  -- what the rule finds in a document is what it finds after nothing
  pub whole : (es : List EventValue) → key_duplicates o es ≡ duplicates_after o (collections_behind []) es
  -- one run after another
  pub runs : (s : OpenNodes) (es fs : List EventValue)
      → duplicates_after o s (es ++ fs) ≡ duplicates_after o s es ++ duplicates_after o (after_events s es) fs
  -- of the keys from before a run no more matters than whether they have the names that it asks for
  pub lasting : (s t : OpenNodes) (es : List EventValue) → without_keys s ≡ without_keys t → HaveSameNames s t es
      → duplicates_after o s es ≡ duplicates_after o t es
  -- the same events further down
  pub below : (n : ℕ) (s : OpenNodes) (es : List EventValue)
      → duplicates_after o s (map (event_below n) es) ≡ map (finding_below n) (duplicates_after o s es)
