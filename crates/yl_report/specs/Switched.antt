-- Bridge: from which line on a rule is off and on.
use Rattle.std.specs.Prelude.{ℕ, Bool, false, nat_le, List, Option, Some, None}
use Rattle.std.specs.List.{filter, last_or}
use Rattle.yl_report.specs.declared.marks.Switch.{Switch}

abbrev pub is_off_by : Option Switch → Bool
is_off_by None = false
is_off_by (Some w) = w.is_off

-- the last switch at or before the line is off
abbrev pub is_off_at : List Switch → ℕ → Bool
is_off_at ws line = is_off_by (last_or None (filter (λ w. nat_le w.line line) ws))
