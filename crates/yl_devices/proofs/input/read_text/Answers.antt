use Rattle.std.proofs.Common.{◌++◌, take, arith, length-append, length-take}
use Rattle.std.proofs.KnownBytes.{Consumes-trans}
use Rattle.yl_devices.proofs.input.read_text.Goals as goal

pub returns-in_err-extend_from_slice-in-Ok-clause-most : goal.returns-in_err-extend_from_slice-in-Ok-clause-most
returns-in_err-extend_from_slice-in-Ok-clause-most g c = record {
  taken = c.loop-buffer.text.items ++ take c.in-Ok.n c.read.new.buf;
  bound = rw length-append (omega (arith, c.in-Ok.ensures.bound.0, c.in-Ok.ensures.bound.1, length-take c.min-room.result c.loop-buffer.buffer));
  consumed = Consumes-trans _ _ _ _ _ c.loop-buffer.invariant.taken c.in-Ok.ensures.bytes.0;
}
