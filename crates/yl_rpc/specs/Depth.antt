-- Meaning: bodies that nest too deep. RFC 8259 (chapter 9) lets a reader set a limit. Here at most 128 arrays and objects are open at once.
use Rattle.std.specs.Prelude.{ℕ, suc, ◌-◌, ◌||◌, ◌==◌, nat_lt, if◌then◌else◌, Bool, false, List, [], ◌∷◌}
use Prim.Native.Char.{code}
use Rattle.yl_rpc.specs.declared.depth.Stand.{Stand}
use Rattle.yl_rpc.specs.declared.depth.Stand.TheVariants.{Outside, InString, InEscape}

abbrev pub most_open : ℕ
most_open = 128

-- where the byte after this one stands
abbrev pub next_stand : Stand → ℕ → Stand
next_stand Outside x = if x == code "\"" then InString else Outside
next_stand InString x = if x == code "\"" then Outside else (if x == code "\\" then InEscape else InString)
next_stand InEscape x = InString

-- how many brackets are open after a byte, of which so many before it. Those in strings do not count
abbrev pub open_after : Stand → ℕ → ℕ → ℕ
open_after Outside levels x =
    if (x == code "[") || (x == code "{") then suc levels else (if (x == code "]") || (x == code "}") then levels - 1 else levels)
open_after InString levels x = levels
open_after InEscape levels x = levels

-- more brackets are open somewhere in these bytes than are read, of which so many before them
unfoldable pub goes_deep : Stand → ℕ → List ℕ → Bool
goes_deep stand levels [] = false
goes_deep stand levels (x ∷ rest) = nat_lt most_open (open_after stand levels x) || goes_deep (next_stand stand x) (open_after stand levels x) rest

abbrev pub is_too_deep : List ℕ → Bool
is_too_deep = goes_deep Outside 0
