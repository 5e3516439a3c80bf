-- Meaning: what is printed of a line's state.
use Rattle.std.specs.Prelude.{ℕ, List, [], ◌∷◌, ◌++◌, codes, decimal, reverse, Option, Some, None}
use Rattle.std.specs.List.{flat_map}
use Rattle.yl_lexeme.specs.declared.lexeme.Kind.{Kind}
use Rattle.yl_lexeme.specs.declared.lexeme.Kind.TheVariants.{MapOpen}
use Rattle.yl_row.specs.Entries.{LineStateValue, Stopped, Stands}
use Rattle.yl_dump.specs.Names.{kind_name}

-- a column behind another one
abbrev pub next_column : ℕ → List ℕ
next_column column = codes "," ++ decimal column

-- columns with commas between them
abbrev pub columns_text : List ℕ → List ℕ
columns_text [] = codes "[" ++ codes "]"
columns_text (column ∷ columns) = codes "[" ++ decimal column ++ flat_map next_column columns ++ codes "]"

abbrev pub bracket_sign : Kind → List ℕ
bracket_sign MapOpen = codes "{"
bracket_sign _ = codes "["

abbrev pub brackets_text : List Kind → List ℕ
brackets_text [] = codes "-"
brackets_text (bracket ∷ brackets) = flat_map bracket_sign (bracket ∷ brackets)

abbrev pub last_text : Option Kind → List ℕ
last_text None = codes "-"
last_text (Some kind) = kind_name kind

abbrev pub state_text : List ℕ → List Kind → Option Kind → List ℕ
state_text columns brackets last = codes " sound " ++ columns_text columns ++ codes " " ++ brackets_text brackets ++ codes " " ++ last_text last

-- the columns and the brackets from the outermost on
abbrev pub line_text : Option LineStateValue → List ℕ
line_text None = codes " not-sound"
line_text (Some Stopped) = codes " stopped"
line_text (Some (Stands levels brackets last)) = state_text (reverse levels) (reverse brackets) last
