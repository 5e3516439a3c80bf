-- Bridge: the value of a state.
use Rattle.std.specs.Prelude.{Option, Some, None}
use Rattle.std.specs.declared.rc.Rc.{Rc}
use Rattle.yl_scan.specs.declared.state.Standing.{Standing}
use Rattle.yl_row.specs.Entries.{LineStateValue, Stopped, Stands}

abbrev pub state_seen : {A B : Type 0} → Option (Rc (Standing A) B) → LineStateValue
state_seen None = Stopped
state_seen (Some rc) = Stands rc.value.levels rc.value.brackets rc.value.last
