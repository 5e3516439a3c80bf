-- Worked rows. Lexemes go by their index.
use Rattle.std.specs.Prelude.{ℕ, ◌≡◌, refl, Bool, true, false, List, [], ◌∷◌, Option, Some, None, option_map}
use Rattle.yl_lexeme.specs.declared.lexeme.Kind.TheVariants.{Entry, Key, Value, Comma, SeqOpen, MapOpen, Anchor, Scalar}
use Rattle.yl_lexeme.specs.declared.lexeme.Style.TheVariants.{Plain}
use Rattle.yl_marks.specs.declared.symbol.Symbol.{Symbol}
use Rattle.yl_marks.specs.declared.symbol.Symbol.TheVariants.{OpenSequence, OpenMapping, BeginKey, One}
use Rattle.yl_events.specs.declared.symbol.Shape.TheVariants.{DocumentStart}
use Rattle.yl_events.specs.Outlines.{bare_event}
use Rattle.yl_events.specs.Machine.{goals_of_document}
use Rattle.yl_events.specs.DocumentOutcome.{steps}
use Rattle.yl_events.specs.Event as event
use Rattle.yl_events.specs.Event.{EventKindValue, EventValue}
use Rattle.yl_tree.specs.OpenNodes.{OpenCollection, OpenNodes, new_collection, collections_behind}
use Rattle.yl_open_collections.specs.Counted.{what_counts}
use Rattle.yl_open_collections.specs.OpenBy.{open_by}

-- ---- what counts

abbrev plain : List ℕ → EventValue
plain name = record { kind = event.ScalarOf Plain name; place = None; anchor = None; is_tagged = false }

abbrev sequence_start : EventValue
sequence_start = record { kind = event.SequenceStart; place = None; anchor = None; is_tagged = false }

-- `- a` and `- a`, `- b`
pub one_item_more : what_counts (collections_behind (plain (98 ∷ []) ∷ plain (97 ∷ []) ∷ sequence_start ∷ [])) ≡ what_counts (collections_behind (plain (97 ∷ []) ∷ sequence_start ∷ []))
one_item_more = refl

-- ---- by goals

-- the collections that are open after the first symbols of a document
abbrev open_after : List Symbol → Option OpenNodes
open_after ws = option_map (λ t. open_by t.goals) (steps ws goals_of_document (bare_event DocumentStart None ∷ []))

-- the innermost one, and those around it up to the document
abbrev within : OpenCollection → List OpenCollection → Option OpenNodes
within innermost outer = Some (record { innermost = innermost; outer = outer })

abbrev document : OpenCollection
document = new_collection false

abbrev sequence : OpenCollection
sequence = new_collection false

abbrev mapping : (is_key_next : Bool) → OpenCollection
mapping is_key_next = record { is_mapping = true; is_key_next = is_key_next; keys = [] }

-- nothing
pub start_row : open_after [] ≡ within document []
start_row = refl

-- `- a`
pub sequence_row : open_after (OpenSequence 0 ∷ One Entry 0 ∷ One (Scalar Plain) 1 ∷ []) ≡ within sequence (document ∷ [])
sequence_row = refl

-- `k:`
pub key_row : open_after (OpenMapping 0 ∷ BeginKey 0 ∷ One (Scalar Plain) 0 ∷ One Value 1 ∷ []) ≡ within (mapping false) (document ∷ [])
key_row = refl

-- `k: &a`
pub anchor_row : open_after (OpenMapping 0 ∷ BeginKey 0 ∷ One (Scalar Plain) 0 ∷ One Value 1 ∷ One Anchor 2 ∷ []) ≡ within (mapping false) (document ∷ [])
anchor_row = refl

-- `k: v`
pub pair_row : open_after (OpenMapping 0 ∷ BeginKey 0 ∷ One (Scalar Plain) 0 ∷ One Value 1 ∷ One (Scalar Plain) 2 ∷ []) ≡ within (mapping true) (document ∷ [])
pair_row = refl

-- `? k`
pub marked_key_row : open_after (OpenMapping 0 ∷ One Key 0 ∷ One (Scalar Plain) 1 ∷ []) ≡ within (mapping false) (document ∷ [])
marked_key_row = refl

-- `k:`, `- a`
pub indentless_row : open_after (OpenMapping 0 ∷ BeginKey 0 ∷ One (Scalar Plain) 0 ∷ One Value 1 ∷ One Entry 2 ∷ One (Scalar Plain) 3 ∷ []) ≡ within sequence (mapping true ∷ document ∷ [])
indentless_row = refl

-- `k: [a, {b`, where b is a key
pub braces_row : open_after (OpenMapping 0 ∷ BeginKey 0 ∷ One (Scalar Plain) 0 ∷ One Value 1 ∷ One SeqOpen 2 ∷ One (Scalar Plain) 3 ∷ One Comma 4 ∷ One MapOpen 5 ∷ One (Scalar Plain) 6 ∷ [])
    ≡ within (mapping false) (sequence ∷ mapping true ∷ document ∷ [])
braces_row = refl

-- `{: v`
pub no_key_row : open_after (One MapOpen 0 ∷ One Value 1 ∷ One (Scalar Plain) 2 ∷ []) ≡ within (mapping true) (document ∷ [])
no_key_row = refl

-- `[k: v`, where the pair is a mapping of its own
pub single_pair_row : open_after (One SeqOpen 0 ∷ BeginKey 1 ∷ One (Scalar Plain) 1 ∷ One Value 2 ∷ One (Scalar Plain) 3 ∷ []) ≡ within (mapping true) (sequence ∷ document ∷ [])
single_pair_row = refl
