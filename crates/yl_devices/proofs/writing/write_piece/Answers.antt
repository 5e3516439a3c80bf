use Rattle.std.proofs.Common.{rules}
use Rattle.std.proofs.lemmas.List.{take_rest}
use Rattle.yl_devices.proofs.Pieces.{front_at, front_after_none, take_go_on}
use Rattle.yl_devices.proofs.writing.write_piece.Goals as goal

pub returns-in-Ok-eq0-clause-err : goal.returns-in-Ok-eq0-clause-err
returns-in-Ok-eq0-clause-err g c =
    front_after_none _ _ _ _ _ c.loop-done.done _ c.loop-done.invariant.written (search rules) c.in-Ok-eq0.ensures.bytes

pub loop-done-preserved : goal.loop-done-preserved
loop-done-preserved g c = record {
  within = search rules;
  quiet = search rules;
  written = take_go_on _ _ _ c.args.piece.now c.loop-done.done c.in-Ok.n c.loop-done.invariant.written (rw (take_rest c.args.piece.now c.loop-done.done) at c.in-Ok.ensures.bytes);
}

pub returns-in-Err-clause-err : goal.returns-in-Err-clause-err
returns-in-Err-clause-err g c = front_at _ _ _ _ c.loop-done.done c.loop-done.invariant.written c.in-Err.ensures.bytes
