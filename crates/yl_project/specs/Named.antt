-- Meaning: the files that a configuration names.
use Rattle.std.specs.Prelude.{ℕ, List, [], ◌∷◌, ◌++◌, if◌then◌else◌, Option, Some, None, codes}
use Rattle.yl_events.specs.Event.{EventKindValue}
use Rattle.yl_settings.specs.Nodes.{Nodes, NoNode, Node, ItemValue, entries_of, starts_sequence}
use Rattle.yl_settings.specs.Words.{word}
use Rattle.yl_project.specs.Misfits.{is_name}
use Rattle.yl_project.specs.Said.{value_of}

-- what is extended, and the files whose lines are patterns
pub record NamedValue : Type 0 where
  pub extends : Option (List ℕ)
  pub ignore_from : List (List ℕ)

-- the name that a value is, if it is one
abbrev pub name_of : EventKindValue → Option (List ℕ)
name_of kind = if is_name kind then Some (word kind) else None

abbrev pub with_name : List (List ℕ) → EventKindValue → List (List ℕ)
with_name names kind = if is_name kind then names ++ word kind ∷ [] else names

-- names with those of nodes after them
unfoldable pub with_names : List (List ℕ) → Nodes → List (List ℕ)
with_names names NoNode = names
with_names names (Node kind place inside more) = with_names (with_name names kind) more

abbrev pub extends_of : Option ItemValue → Option (List ℕ)
extends_of None = None
extends_of (Some item) = name_of item.kind

-- of a name, or of a sequence of names
abbrev pub names_of : Option ItemValue → List (List ℕ)
names_of None = []
names_of (Some item) = if starts_sequence item.kind then with_names [] item.inside else with_name [] item.kind

-- of the root of a document
abbrev pub named_of : ItemValue → NamedValue
named_of root = record {
  extends = extends_of (value_of (codes "extends") (entries_of root.inside));
  ignore_from = names_of (value_of (codes "ignore-from-file") (entries_of root.inside));
}
