-- Bridge: the bytes of a name, wherever they are stored.
use Rattle.std.specs.Prelude.{ℕ, List, string_bytes}
use Rattle.yl_tree.specs.declared.name.Storage.{Storage}
use Rattle.yl_tree.specs.declared.name.Storage.TheVariants.{Short, Long}

abbrev pub bytes_of : {A : Type 0} → Storage A → List ℕ
bytes_of (Short name) = name
bytes_of (Long text) = string_bytes text
