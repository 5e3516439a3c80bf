use Rattle.std.proofs.Common.{append_assoc}
use Rattle.yl_devices.proofs.saying.placed_parts_of.Goals as goal

pub returns : goal.returns
returns c = rw (c.as_bytes.ensures.value, c.as_bytes-2.ensures.value, c.as_bytes-3.ensures.value) (simp append_assoc)
