-- Meaning: the misfits of a configuration, and the first of them.
use Rattle.std.specs.Prelude.{ℕ, Bool, ◌&&◌, ◌||◌, ◌==◌, nat_lt, if◌then◌else◌, List, [], ◌∷◌, Option, Some, None, codes, bytes_eq, is_some, unwrap_or, find}
use Rattle.std.specs.List.{flat_map}
use Rattle.yl_text.specs.declared.position.Pos.{Pos}
use Rattle.yl_text.specs.declared.finding.RuleId.{RuleId}
use Rattle.yl_text.specs.declared.finding.RuleId.TheVariants.{Anchors, Braces, Brackets, Colons, Commas, Comments, DocumentStart, EmptyLines, Hyphens, Indentation, KeyDuplicates, KeyOrdering, LineLength, NewLineAtEndOfFile, NewLines, QuotedStrings, TrailingSpaces, Truthy}
use Rattle.yl_text.specs.Finding.{rule_name}
use Rattle.yl_events.specs.Event.{EventKindValue}
use Rattle.yl_config.specs.declared.misfit.Misfit.{Misfit}
use Rattle.yl_config.specs.declared.misfit.MisfitKind.{MisfitKind}
use Rattle.yl_config.specs.declared.misfit.MisfitKind.TheVariants.{NotAMapping, UnknownKey, UnknownRule, UnknownOption, BadValue, BadLevel, UnknownExtends}
use Rattle.yl_config.specs.Syntax.{stands_before}
use Rattle.yl_settings.specs.declared.table.Answer.{Answer}
use Rattle.yl_settings.specs.declared.table.Answer.TheVariants.{UnknownName, WrongValue, Taken}
use Rattle.yl_tree.specs.Anchors.{is_alias_event}
use Rattle.yl_settings.specs.Nodes.{Nodes, ItemValue, EntryValue, entries_of, starts_mapping}
use Rattle.yl_settings.specs.Options.{option_of}
use Rattle.yl_settings.specs.Values.{level_in}
use Rattle.yl_settings.specs.Words.{is_one_of, plain_word, word, true_words, false_words}

-- ---- the first of several

-- of two misfits at one position, the one of the lower rank comes first
abbrev pub rank : MisfitKind → ℕ
rank NotAMapping = 3
rank UnknownKey = 4
rank UnknownRule = 5
rank UnknownOption = 6
rank BadValue = 7
rank BadLevel = 8
rank UnknownExtends = 9

abbrev pub is_same_place : Pos → Pos → Bool
is_same_place p q = p.line == q.line && p.col == q.col

abbrev pub comes_before : Misfit → Misfit → Bool
comes_before f g = stands_before f.place g.place || (is_same_place f.place g.place && nat_lt (rank f.kind) (rank g.kind))

abbrev pub earlier : Option Misfit → Misfit → Misfit
earlier None f = f
earlier (Some e) f = if comes_before f e then f else e

-- the first in the text of `first` and these misfits; at one position, the one of the lower rank
unfoldable pub earliest : Option Misfit → List Misfit → Option Misfit
earliest first [] = first
earliest first (f ∷ fs) = earliest (Some (earlier first f)) fs

-- ---- positions

-- the position of a key, or of the mapping if the key is missing; of a value, or of its key
abbrev pub place_or : Pos → Option Pos → Pos
place_or other place = unwrap_or place other

abbrev pub at_key : MisfitKind → Pos → List Misfit
at_key kind place = record { kind = kind; place = place } ∷ []

-- a misfit at a value; an alias is always a BadValue
abbrev pub at_value : MisfitKind → Pos → EventKindValue → Option Pos → List Misfit
at_value misfit key kind place = record { kind = if is_alias_event kind then BadValue else misfit; place = place_or key place } ∷ []

-- ---- the options of a rule

abbrev pub is_free_option : List ℕ → Bool
is_free_option name = is_one_of (codes "ignore" ∷ codes "ignore-from-file" ∷ []) name

abbrev pub answer_misfits : Answer → Pos → EventKindValue → Option Pos → List Misfit
answer_misfits UnknownName key kind place = at_key UnknownOption key
answer_misfits WrongValue key kind place = at_value BadValue key kind place
answer_misfits Taken key kind place = []

abbrev pub level_misfits : Pos → EventKindValue → Option Pos → List Misfit
level_misfits key kind place = if is_some (level_in kind) then [] else at_value BadLevel key kind place

abbrev pub option_misfits : RuleId → Pos → EntryValue → List Misfit
option_misfits rule mapping e =
    if is_free_option (word e.key) then []
    else if bytes_eq (word e.key) (codes "level") then level_misfits (place_or mapping e.key_place) e.value.kind e.value.place
    else answer_misfits (option_of rule (word e.key) e.value).answer (place_or mapping e.key_place) e.value.kind e.value.place

-- ---- the rules

abbrev pub checked_rules : List RuleId
checked_rules =
    Anchors ∷ Braces ∷ Brackets ∷ Colons ∷ Commas ∷ Comments ∷ DocumentStart ∷ EmptyLines ∷ Hyphens ∷ Indentation ∷ KeyDuplicates ∷ KeyOrdering
    ∷ LineLength ∷ NewLineAtEndOfFile ∷ NewLines ∷ QuotedStrings ∷ TrailingSpaces ∷ Truthy ∷ []

-- the rule with this name, if it is one that is checked
abbrev pub rule_named : List ℕ → Option RuleId
rule_named name = find (λ rule. bytes_eq name (rule_name rule)) checked_rules

-- a rule that a configuration may name and that is not checked
abbrev pub is_unchecked_rule : List ℕ → Bool
is_unchecked_rule name =
    is_one_of (codes "comments-indentation" ∷ codes "document-end" ∷ codes "empty-values" ∷ codes "float-values" ∷ codes "octal-values" ∷ []) name

abbrev pub turns_on : EventKindValue → Bool
turns_on kind = bytes_eq (word kind) (codes "enable") || is_one_of true_words (plain_word kind)

abbrev pub turns_off : EventKindValue → Bool
turns_off kind = bytes_eq (word kind) (codes "disable") || is_one_of false_words (plain_word kind)

-- the entries in the mapping of an unchecked rule are skipped
abbrev pub options_misfits : Option RuleId → Pos → Nodes → List Misfit
options_misfits None mapping inside = []
options_misfits (Some rule) mapping inside = flat_map (option_misfits rule mapping) (entries_of inside)

abbrev pub rule_value_misfits : Option RuleId → Pos → ItemValue → List Misfit
rule_value_misfits rule key item =
    if turns_on item.kind || turns_off item.kind then []
    else if starts_mapping item.kind then options_misfits rule (place_or key item.place) item.inside
    else at_value BadValue key item.kind item.place

abbrev pub rule_misfits : Pos → EntryValue → List Misfit
rule_misfits mapping e =
    if is_some (rule_named (word e.key)) || is_unchecked_rule (word e.key)
    then rule_value_misfits (rule_named (word e.key)) (place_or mapping e.key_place) e.value
    else at_key UnknownRule (place_or mapping e.key_place)

-- ---- the root

abbrev pub is_ignored_key : List ℕ → Bool
is_ignored_key name = is_one_of (codes "ignore" ∷ codes "ignore-from-file" ∷ codes "yaml-files" ∷ []) name

abbrev pub extends_misfits : Pos → EventKindValue → Option Pos → List Misfit
extends_misfits key kind place = if bytes_eq (word kind) (codes "default") then [] else at_value UnknownExtends key kind place

abbrev pub rules_misfits : Pos → ItemValue → List Misfit
rules_misfits key item =
    if starts_mapping item.kind then flat_map (rule_misfits (place_or key item.place)) (entries_of item.inside)
    else at_value BadValue key item.kind item.place

abbrev pub root_entry_misfits : Pos → EntryValue → List Misfit
root_entry_misfits mapping e =
    if is_ignored_key (word e.key) then []
    else if bytes_eq (word e.key) (codes "extends") then extends_misfits (place_or mapping e.key_place) e.value.kind e.value.place
    else if bytes_eq (word e.key) (codes "rules") then rules_misfits (place_or mapping e.key_place) e.value
    else at_key UnknownKey (place_or mapping e.key_place)

abbrev pub origin : Pos
origin = record { line = 0; col = 0 }

-- the misfits of a document with this root
abbrev pub root_misfits : ItemValue → List Misfit
root_misfits root =
    if starts_mapping root.kind then flat_map (root_entry_misfits (place_or origin root.place)) (entries_of root.inside)
    else at_key NotAMapping (place_or origin root.place)
