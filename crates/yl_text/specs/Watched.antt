-- Bridge: the device of a watched device, and its number of failures.
use Rattle.std.specs.Prelude.{ℕ}
use Rattle.yl_text.specs.declared.device.Watched.{Watched}

-- the reader or the writer
abbrev pub device_of : {D : Type 0} → Watched D → D
device_of w = w.device

-- the number of failures so far
abbrev pub failures_of : {D : Type 0} → Watched D → ℕ
failures_of w = w.failures
