-- Bridge: the bytes of a text that JSON escapes.
use Rattle.std.specs.Prelude.{ℕ, ◌||◌, ◌==◌, nat_lt, Bool}

-- a byte that does not stand for itself in a JSON text
abbrev pub is_special : ℕ → Bool
is_special x = nat_lt x 32 || (x == 34) || (x == 92)
