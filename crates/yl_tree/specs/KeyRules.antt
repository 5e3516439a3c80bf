-- Meaning: the findings of yamllint's rules key-duplicates and key-ordering in the events of a
-- document.
use Rattle.std.specs.Prelude.{ℕ, Bool, not, ◌&&◌, ◌||◌, if◌then◌else◌, List, [], codes, Option, Some, None, bytes_eq}
use Rattle.std.specs.List.{list_any}
use Rattle.std.specs.Ordering.{is_gt, nat_cmp}
use Rattle.std.specs.Cmp.Lexicographic.{slice_cmp}
use Rattle.std.specs.Str.{chars}
use Rattle.yl_text.specs.declared.finding.RuleId.{RuleId}
use Rattle.yl_text.specs.declared.finding.RuleId.TheVariants.{KeyDuplicates, KeyOrdering}
use Rattle.yl_text.specs.Finding.{FindingValue, at_each}
use Rattle.yl_events.specs.Event.{EventValue}
use Rattle.yl_tree.specs.declared.options.KeyDuplicatesOptions.{KeyDuplicatesOptions}
use Rattle.yl_tree.specs.Messages.{name_finding}
use Rattle.yl_tree.specs.Keys.{name_of, earlier_keys}

-- the finding at an event that has a name, if the test is true for the earlier keys of its mapping
-- and the name
abbrev pub key_finding : (List (List ℕ) → List ℕ → Bool) → RuleId → List ℕ → List EventValue
    → EventValue → Option (List ℕ) → List FindingValue
key_finding test rule front before e None = []
key_finding test rule front before e (Some name) =
    if test (earlier_keys before) name then name_finding rule e.place front name (codes "\" in mapping") else []

-- an earlier key is equal; merge keys may repeat unless that is forbidden
abbrev pub is_duplicate : KeyDuplicatesOptions → List (List ℕ) → List ℕ → Bool
is_duplicate o earlier name = (o.forbid_duplicated_merge_keys || not (bytes_eq name (codes "<<")))
    && list_any (λ key. bytes_eq key name) earlier

abbrev pub duplicate_at : KeyDuplicatesOptions → List EventValue → EventValue → List EventValue → List FindingValue
duplicate_at o before e after =
    key_finding (is_duplicate o) KeyDuplicates (codes "duplication of key \"") before e (name_of e)

abbrev pub key_duplicates : KeyDuplicatesOptions → List EventValue → List FindingValue
key_duplicates o events = at_each (duplicate_at o) [] events

-- by code points: at the first one that differs, or by length
abbrev pub is_greater : List ℕ → List ℕ → Bool
is_greater a b = is_gt (slice_cmp nat_cmp (chars a) (chars b))

-- an earlier key is greater
abbrev pub misplaced_at : List EventValue → EventValue → List EventValue → List FindingValue
misplaced_at before e after = key_finding (λ earlier name. list_any (λ key. is_greater key name) earlier)
    KeyOrdering (codes "wrong ordering of key \"") before e (name_of e)

abbrev pub key_ordering : List EventValue → List FindingValue
key_ordering events = at_each misplaced_at [] events
