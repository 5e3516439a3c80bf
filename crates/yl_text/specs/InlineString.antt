-- Bridge: the characters of a string, wherever they are stored.
use Rattle.std.specs.Prelude.{ℕ, List, string_bytes}
use Rattle.std.specs.Str.{chars}
use Rattle.yl_text.specs.declared.inline_string.Storage.{Storage}
use Rattle.yl_text.specs.declared.inline_string.Storage.TheVariants.{Short, Long}

abbrev pub characters_of : {A : Type 0} → Storage A → List ℕ
characters_of (Short short) = short
characters_of (Long text) = chars (string_bytes text)
