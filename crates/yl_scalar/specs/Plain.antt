-- Meaning: plain scalars: YAML 1.2.2, 7.3.3.
use Rattle.std.specs.Prelude.{ℕ, Bool, true, not, ◌&&◌, ◌||◌, ◌==◌, nat_lt, nat_le, if◌then◌else◌, List, [], ◌∷◌, ◌+◌, take, length}
use Prim.Native.Char.{code}
use Rattle.yl_text.specs.Character.{is_white, is_flow_indicator, is_plain_safe, starts_by, indentation, is_marker, without_front, without_end}

-- the number of characters of a line that a plain scalar takes at the most, where behind_space says
-- whether white space or the start of the line is before them: up to a `:` that no plain-safe
-- character follows, a `#` after white space, or, in flow, a flow indicator (ns-plain-char,
-- nb-ns-plain-in-line)
abbrev pub stop : Bool → Bool → List ℕ → ℕ
stop flow behind_space [] = 0
stop flow behind_space (c ∷ cs) =
    if (c == code ":" && not (starts_by (is_plain_safe flow) cs)) || (c == code "#" && behind_space)
    || (flow && is_flow_indicator c) then 0 else 1 + stop flow (is_white c) cs

-- the scalar reaches the end of the line, so that a later line may continue it
abbrev pub reaches_end : Bool → Bool → List ℕ → Bool
reaches_end flow behind_space line = stop flow behind_space line == length line

-- the part of a line that belongs to the scalar
abbrev pub part : Bool → Bool → List ℕ → List ℕ
part flow behind_space line = without_end (take (stop flow behind_space line) line)

-- a line that is not blank continues a scalar whose lines have this indentation at the least
-- (s-ns-plain-next-line)
abbrev pub continues : Bool → ℕ → List ℕ → Bool
continues flow least line =
    not (is_marker line) && (flow || nat_le least (indentation line)) && nat_lt 0 (stop flow true (without_front line))
