-- Meaning: line folding: YAML 1.2.2, 6.5.
use Rattle.std.specs.Prelude.{ℕ, ◌&&◌, ◌==◌, if◌then◌else◌, List, [], ◌∷◌, replicate, Option, is_none}
use Prim.Native.Char.{code}

-- a break is a space (b-as-space), and a break with k blank lines after it is k line feeds
-- (b-l-trimmed). If a backslash is before it (s-double-escaped), the break itself is nothing
abbrev pub joint : Option ℕ → ℕ → List ℕ
joint backslash blanks = if is_none backslash && blanks == 0 then code " " ∷ [] else replicate blanks (code "\n")
