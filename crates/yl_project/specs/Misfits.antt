-- Meaning: what does not fit in a project's configuration.
use Rattle.std.specs.Prelude.{ℕ, Bool, true, false, not, ◌&&◌, ◌||◌, nat_lt, length, if◌then◌else◌, List, [], ◌++◌, ◌∷◌, Option, Some, codes, bytes_eq, is_some}
use Rattle.std.specs.List.{flat_map}
use Rattle.yl_text.specs.declared.position.Pos.{Pos}
use Rattle.yl_text.specs.Lines.{RowValue}
use Rattle.yl_events.specs.Event.{EventKindValue, ScalarOf}
use Rattle.yl_settings.specs.Nodes.{Nodes, NoNode, Node, ItemValue, EntryValue, entries_of, starts_mapping, starts_sequence}
use Rattle.yl_settings.specs.Words.{word}
use Rattle.yl_config.specs.declared.misfit.Misfit.{Misfit}
use Rattle.yl_config.specs.declared.misfit.MisfitKind.{MisfitKind}
use Rattle.yl_config.specs.declared.misfit.MisfitKind.TheVariants.{NotAMapping, UnknownKey, BadValue, UnknownExtends}
use Rattle.yl_config.specs.Misfits.{at_key, at_value, origin, place_or, rule_named, rules_misfits}
use Rattle.yl_project.specs.Texts.{patterns_in, with_text}

abbrev pub unless : Bool → List Misfit → List Misfit
unless fits misfits = if fits then [] else misfits

abbrev pub is_key : List ℕ → EntryValue → Bool
is_key name e = bytes_eq (word e.key) name

-- ---- patterns

-- of a node that is to be a text with a pattern in each line
abbrev pub text_misfits : List RowValue → ℕ → Pos → EventKindValue → Option Pos → List Misfit
text_misfits lines column key kind place = unless (is_some (with_text lines column kind place [])) (at_value BadValue key kind place)

unfoldable pub texts_misfits : List RowValue → ℕ → Pos → Nodes → List Misfit
texts_misfits lines column key NoNode = []
texts_misfits lines column key (Node kind place inside more) = text_misfits lines column key kind place ++ texts_misfits lines column key more

-- of a sequence of such nodes
abbrev pub sequence_misfits : List RowValue → Pos → ItemValue → List Misfit
sequence_misfits lines key item = texts_misfits lines (place_or key item.place).col (place_or key item.place) item.inside

-- of a value that is to be a text or a sequence of texts, in what begins at this place
abbrev pub patterns_misfits : List RowValue → Pos → Pos → ItemValue → List Misfit
patterns_misfits lines holder key item =
    if starts_sequence item.kind then sequence_misfits lines key item else text_misfits lines holder.col key item.kind item.place

-- of a value that is to be a sequence of texts
abbrev pub yaml_files_misfits : List RowValue → Pos → ItemValue → List Misfit
yaml_files_misfits lines key item =
    if starts_sequence item.kind then sequence_misfits lines key item else at_value BadValue key item.kind item.place

-- ---- `ignore` of rules

abbrev pub option_misfits : List RowValue → Pos → EntryValue → List Misfit
option_misfits lines mapping e =
    if is_key (codes "ignore") e then patterns_misfits lines mapping (place_or mapping e.key_place) e.value else []

-- nothing in the mapping of an unchecked rule is looked at
abbrev pub rule_ignore_misfits : List RowValue → Pos → EntryValue → List Misfit
rule_ignore_misfits lines mapping e =
    if is_some (rule_named (word e.key)) && starts_mapping e.value.kind
    then flat_map (option_misfits lines (place_or (place_or mapping e.key_place) e.value.place)) (entries_of e.value.inside)
    else []

abbrev pub rules_ignore_misfits : List RowValue → Pos → ItemValue → List Misfit
rules_ignore_misfits lines key item =
    if starts_mapping item.kind then flat_map (rule_ignore_misfits lines (place_or key item.place)) (entries_of item.inside) else []

-- ---- names of files

abbrev pub is_name : EventKindValue → Bool
is_name kind = nat_lt 0 (length (word kind))

abbrev pub name_misfits : MisfitKind → Pos → EventKindValue → Option Pos → List Misfit
name_misfits misfit key kind place = unless (is_name kind) (at_value misfit key kind place)

unfoldable pub each_name_misfits : Pos → Nodes → List Misfit
each_name_misfits key NoNode = []
each_name_misfits key (Node kind place inside more) = name_misfits BadValue key kind place ++ each_name_misfits key more

-- of a value that is to be a name or a sequence of names
abbrev pub names_misfits : Pos → ItemValue → List Misfit
names_misfits key item =
    if starts_sequence item.kind then each_name_misfits (place_or key item.place) item.inside else name_misfits BadValue key item.kind item.place

-- ---- the root

abbrev pub is_scalar : EventKindValue → Bool
is_scalar (ScalarOf style value) = true
is_scalar _ = false

-- of an entry of the root, where the lines of the files that it names are patterns or not
abbrev pub root_entry_misfits : List RowValue → Bool → Pos → EntryValue → List Misfit
root_entry_misfits lines are_patterns mapping e =
    let key = place_or mapping e.key_place in
    if is_key (codes "extends") e then name_misfits UnknownExtends key e.value.kind e.value.place
    else if is_key (codes "rules") e then rules_misfits key e.value ++ rules_ignore_misfits lines key e.value
    else if is_key (codes "ignore") e then patterns_misfits lines mapping key e.value
    else if is_key (codes "ignore-from-file") e then names_misfits key e.value ++ unless are_patterns (at_value BadValue key e.value.kind e.value.place)
    else if is_key (codes "yaml-files") e then yaml_files_misfits lines key e.value
    else if is_key (codes "locale") e then unless (is_scalar e.value.kind) (at_value BadValue key e.value.kind e.value.place)
    else at_key UnknownKey key

-- `ignore` does not stand beside `ignore-from-file`: of the entries after some among which is one of these keys, the other key
unfoldable pub beside_misfits : Pos → Bool → Bool → List EntryValue → List Misfit
beside_misfits mapping ignores names [] = []
beside_misfits mapping ignores names (e ∷ es) =
    unless (not ((is_key (codes "ignore") e && names) || (is_key (codes "ignore-from-file") e && ignores))) (at_key BadValue (place_or mapping e.key_place))
    ++ beside_misfits mapping (ignores || is_key (codes "ignore") e) (names || is_key (codes "ignore-from-file") e) es

abbrev pub entries_misfits : List RowValue → Bool → Pos → List EntryValue → List Misfit
entries_misfits lines are_patterns mapping es =
    flat_map (root_entry_misfits lines are_patterns mapping) es ++ beside_misfits mapping false false es

-- of the root of a document
abbrev pub root_misfits : List RowValue → Bool → ItemValue → List Misfit
root_misfits lines are_patterns root =
    if starts_mapping root.kind then entries_misfits lines are_patterns (place_or origin root.place) (entries_of root.inside)
    else at_key NotAMapping (place_or origin root.place)
