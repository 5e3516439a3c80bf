-- Bridge: the keys of open collections after a run of events: those of the run alone, and those
-- that were there before the run.
use Rattle.std.specs.Prelude.{ℕ, suc, ◌≡◌, min, nat_le, ◌==◌, Bool, ◌&&◌, ◌||◌, if◌then◌else◌, List, [], ◌∷◌, ◌++◌, length, reverse}
use Rattle.std.specs.List.{list_any}
use Rattle.yl_events.specs.Event.{EventValue}
use Rattle.yl_tree.specs.Keys.{is_collection_end, earlier_keys}
use Rattle.yl_tree.specs.OpenNodes.{OpenCollection, OpenNodes, with_event, collections_behind, keys_if_next}
use Rattle.yl_open_collections.specs.Counted.{after_events}
use Rattle.yl_open_collections.specs.OpenBy.{without_keys}

-- ---- runs

-- a key comes next in the innermost collection
abbrev pub is_before_key : OpenNodes → Bool
is_before_key s = s.innermost.is_mapping && s.innermost.is_key_next

-- ---- heights: the outermost collection has the height 1

-- how many collections are open, which is the height of the innermost one
abbrev pub height : OpenNodes → ℕ
height s = suc (length s.outer)

-- how many of them stay open at this event: none where it closes the outermost one, though a new
-- collection takes its place
abbrev pub staying : EventValue → OpenNodes → ℕ
staying e s = if is_collection_end e.kind then length s.outer else height s

-- the least height before, between and after these events. So many of the collections that were
-- open before are never closed, the outermost ones; one that opens where another was closed is not
-- taken for it
abbrev pub lowest : OpenNodes → List EventValue → ℕ
lowest s [] = height s
lowest s (e ∷ es) = min (staying e s) (lowest (with_event e s) es)

-- all open collections, the innermost first
abbrev pub all_open : OpenNodes → List OpenCollection
all_open s = s.innermost ∷ s.outer

-- the keys of the collection of this height among these, the innermost first; none if there is no
-- such collection
abbrev pub keys_at : ℕ → List OpenCollection → List (List ℕ)
keys_at h [] = []
keys_at h (o ∷ os) = if h == suc (length os) then o.keys else keys_at h os

-- ---- keys from before a run

-- the keys of the collection of height h, if that height is at most `low`
abbrev pub lasting_keys : (low h : ℕ) → OpenNodes → List (List ℕ)
lasting_keys low h s = if nat_le h low then keys_at h (all_open s) else []

-- the collection with these keys after its own
abbrev pub with_more_keys : List (List ℕ) → OpenCollection → OpenCollection
with_more_keys more o = record { is_mapping = o.is_mapping; is_key_next = o.is_key_next; keys = o.keys ++ more }

-- each of these collections, the innermost first, with the keys that the other has at the same
-- height, if that height is at most `low`
abbrev pub all_with_earlier : (low : ℕ) → List OpenCollection → OpenNodes → List OpenCollection
all_with_earlier low [] s = []
all_with_earlier low (o ∷ os) s = with_more_keys (lasting_keys low (suc (length os)) s) o ∷ all_with_earlier low os s

-- the same for open collections: those of a height that is at most `low` have the keys of the
-- other's collections of the same height after their own
abbrev pub with_earlier_keys : (low : ℕ) → OpenNodes → OpenNodes → OpenNodes
with_earlier_keys low t s = record {
  innermost = with_more_keys (lasting_keys low (height t) s) t.innermost;
  outer = all_with_earlier low t.outer s;
}

-- ---- the law

-- the open collections that the run alone gives: no keys are known before it
abbrev pub run_alone : OpenNodes → List EventValue → OpenNodes
run_alone s es = after_events (without_keys s) es

pub record KeysOfRuns : Type 0 where
  -- the open collections after a run are those of the run alone, of which those that were never
  -- closed have the keys from before the run after their own
  pub run : (s : OpenNodes) (es : List EventValue) → after_events s es ≡ with_earlier_keys (lowest s es) (run_alone s es) s
  -- how low a run goes does not depend on keys
  pub low : (s : OpenNodes) (es : List EventValue) → lowest (without_keys s) es ≡ lowest s es
  -- the earlier keys of the event after the first events of a run: those of the run alone, and if
  -- it is a key, those that its collection had before the run, if that was never closed
  pub earlier : (s : OpenNodes) (front : List EventValue)
      → keys_if_next (after_events s front).innermost
      ≡ keys_if_next (run_alone s front).innermost
      ++ (if is_before_key (run_alone s front) then lasting_keys (lowest s front) (height (run_alone s front)) s else [])
  -- an earlier key passes a test, as that it is equal to a name, exactly if one of the run alone
  -- does, or one that the collection had before the run, under the same conditions
  pub duplicates : (test : List ℕ → Bool) (s : OpenNodes) (front : List EventValue)
      → list_any test (keys_if_next (after_events s front).innermost)
      ≡ (list_any test (keys_if_next (run_alone s front).innermost)
      || (is_before_key (run_alone s front) && (nat_le (height (run_alone s front)) (lowest s front) && list_any test (keys_at (height (run_alone s front)) (all_open s)))))
  -- these are the earlier keys that the rules on keys speak of, in a document that has the events
  -- `before`, the latest first, before the run
  pub meant : (before front : List EventValue)
      → earlier_keys (reverse front ++ before) ≡ keys_if_next (after_events (collections_behind before) front).innermost
