use Rattle.std.proofs.Common.{◌≡◌, length, take}
use Rattle.std.specs.Vec.{vec_len, vec_capacity}
use Rattle.yl_session.specs.Runs.{Replayed}
use Rattle.yl_session.proofs.replaying.replay.Given as goal

abbrev pub invariant-loop-edit : goal.invariant-loop-edit
invariant-loop-edit g l = record {
  room : vec_capacity l.answers ≡ length l.edits;
  len : vec_len l.answers ≡ l.edit-index;
  run : Replayed l.fn.config l.fn.bytes (take l.edit-index l.edits) l.answers.items l.session;
}
