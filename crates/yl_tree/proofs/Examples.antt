-- Worked rows of the tree rules.
use Rattle.std.proofs.Common.{ℕ, ◌≡◌, refl, List, [], ◌∷◌, ◌++◌, Bool, false, true, Some, None}
use Rattle.std.specs.Prelude.{codes}
use Rattle.std.specs.Str.{chars}
use Rattle.yl_text.specs.declared.finding.RuleId.TheVariants.{Anchors, KeyDuplicates, KeyOrdering}
use Rattle.yl_text.specs.Finding.{FindingValue, one_finding}
use Rattle.yl_lexeme.specs.declared.lexeme.Style.TheVariants.{Plain, Double}
use Rattle.yl_events.specs.Event.{EventValue, EventKindValue, DocumentStart, DocumentEnd, SequenceStart, SequenceEnd, MappingStart, MappingEnd, AliasOf, ScalarOf}
use Rattle.yl_tree.specs.declared.options.KeyDuplicatesOptions.{KeyDuplicatesOptions}
use Rattle.yl_tree.specs.declared.options.AnchorsOptions.{AnchorsOptions}
use Rattle.yl_tree.specs.KeyRules.{key_duplicates, key_ordering}
use Rattle.yl_tree.specs.Anchors.{anchors}

abbrev merge_keys : Bool → KeyDuplicatesOptions
merge_keys forbidden = record { forbid_duplicated_merge_keys = forbidden }

abbrev event : EventKindValue → ℕ → ℕ → EventValue
event k l c = record { kind = k; place = Some (record { line = l; col = c }); anchor = None; is_tagged = false }

abbrev plain : List ℕ → ℕ → ℕ → EventValue
plain v l c = event (ScalarOf Plain v) l c

abbrev anchored : List ℕ → ℕ → ℕ → EventValue → EventValue
anchored name line column e = record e { anchor = Some (record { name = name; place = record { line = line; col = column } }) }

abbrev document : List EventValue → List EventValue
document es = event DocumentStart 0 0 ∷ es ++ event DocumentEnd 0 0 ∷ []

-- k: 1, k: 2, k: 3
abbrev three : List EventValue
three = document (event MappingStart 1 0 ∷ plain (codes "k") 1 0 ∷ plain (codes "1") 1 3 ∷ plain (codes "k") 2 0 ∷ plain (codes "2") 2 3 ∷ plain (codes "k") 3 0 ∷ plain (codes "3") 3 3 ∷ event MappingEnd 4 0 ∷ [])

abbrev twice : ℕ → List ℕ → List FindingValue
twice l k = one_finding KeyDuplicates l 1 (codes "duplication of key \"" ++ k ++ codes "\" in mapping")

pub three_keys : key_duplicates (merge_keys false) three ≡ twice 3 (codes "k") ++ twice 4 (codes "k")
unfolding chars lib.Utf8.encode
three_keys = refl

-- "\a": 1, "\x07": 2
pub control_character : key_duplicates (merge_keys false) (document (event MappingStart 1 0 ∷ event (ScalarOf Double (7 ∷ [])) 1 0 ∷ plain (codes "1") 1 6 ∷ event (ScalarOf Double (7 ∷ [])) 2 0 ∷ plain (codes "2") 2 8 ∷ event MappingEnd 3 0 ∷ [])) ≡ twice 3 (codes "\\x07")
unfolding chars lib.Utf8.encode
control_character = refl

-- b: &x {k: 1}, c: &y {l: 1}, d: {<<: *x, <<: *y}
abbrev merged : List EventValue
merged = document (event MappingStart 1 0
    ∷ plain (codes "b") 1 0 ∷ anchored (codes "x") 1 3 (event MappingStart 1 6) ∷ plain (codes "k") 1 7 ∷ plain (codes "1") 1 10 ∷ event MappingEnd 1 11
    ∷ plain (codes "c") 2 0 ∷ anchored (codes "y") 2 3 (event MappingStart 2 6) ∷ plain (codes "l") 2 7 ∷ plain (codes "1") 2 10 ∷ event MappingEnd 2 11
    ∷ plain (codes "d") 3 0 ∷ event MappingStart 4 2 ∷ plain (codes "<<") 4 2 ∷ event (AliasOf (codes "x")) 4 6 ∷ plain (codes "<<") 5 2 ∷ event (AliasOf (codes "y")) 5 6 ∷ event MappingEnd 6 0
    ∷ event MappingEnd 6 0 ∷ [])

pub merge_keys_free : key_duplicates (merge_keys false) merged ≡ []
unfolding chars lib.Utf8.encode
merge_keys_free = refl

pub merge_keys_forbidden : key_duplicates (merge_keys true) merged ≡ one_finding KeyDuplicates 6 3 (codes "duplication of key \"<<\" in mapping")
unfolding chars lib.Utf8.encode
merge_keys_forbidden = refl

abbrev pair : List ℕ → ℕ → List EventValue
pair k l = plain k l 0 ∷ plain (codes "1") l 3 ∷ []

abbrev wrong : List ℕ → ℕ → List FindingValue
wrong k l = one_finding KeyOrdering l 1 (codes "wrong ordering of key \"" ++ k ++ codes "\" in mapping")

pub ordering : key_ordering (document (event MappingStart 1 0 ∷ pair (codes "b") 1 ++ pair (codes "a") 2 ++ pair (codes "c") 3 ++ pair (codes "B") 4 ++ event MappingEnd 5 0 ∷ [])) ≡ wrong (codes "a") 3 ++ wrong (codes "B") 5
unfolding chars lib.Utf8.encode
ordering = refl

abbrev all_forbidden : AnchorsOptions
all_forbidden = record { forbid_undeclared_aliases = true; forbid_duplicated_anchors = true; forbid_unused_anchors = true }

-- - &x 1, - &x 2, - *x
pub two_anchors : anchors all_forbidden (document (event SequenceStart 1 0 ∷ anchored (codes "x") 1 2 (plain (codes "1") 1 5) ∷ anchored (codes "x") 2 2 (plain (codes "2") 2 5) ∷ event (AliasOf (codes "x")) 3 2 ∷ event SequenceEnd 4 0 ∷ []))
    ≡ one_finding Anchors 2 3 (codes "found unused anchor \"x\"") ++ one_finding Anchors 3 3 (codes "found duplicated anchor \"x\"")
unfolding chars lib.Utf8.encode
two_anchors = refl

pub earlier_document : anchors (record { forbid_undeclared_aliases = true; forbid_duplicated_anchors = false; forbid_unused_anchors = false }) (document (event MappingStart 3 0 ∷ plain (codes "b") 3 0 ∷ event (AliasOf (codes "x")) 3 3 ∷ event MappingEnd 4 0 ∷ []))
    ≡ one_finding Anchors 4 4 (codes "found undeclared alias \"x\"")
unfolding chars lib.Utf8.encode
earlier_document = refl
