-- Meaning: a number and a place, as they are printed.
use Rattle.std.specs.Prelude.{ℕ, ◌+◌, ◌-◌, ◌^◌, min, List, ◌++◌, codes, decimal}
use Rattle.yl_dump.specs.declared.fault.TextPlace.{TextPlace}

-- counted from 1 what was counted from 0, as far as 64 bits count
abbrev pub from_one : ℕ → ℕ
from_one n = min (n + 1) (2 ^ 64 - 1)

-- a place as `LINE:COLUMN`, counted from 1
abbrev pub place_text : TextPlace → List ℕ
place_text place = decimal (from_one place.line) ++ codes ":" ++ decimal (from_one place.column)
