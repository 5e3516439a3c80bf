use Rattle.yl_chunks.proofs.Pieces.{part_few}
use Rattle.yl_chunks.proofs.room.prepare_fresh.Goals as goal

pub overflow_add-place : goal.overflow_add-place
overflow_add-place g c = record { fits = part_few (λ v. v.items) c.args.chunks.now.items c.args.place.first c.args.place.end c.args.place.count c.args.count c.requires.place.count c.requires.few }

pub left-left-requires-clause-few : goal.left-left-requires-clause-few
left-left-requires-clause-few g c = part_few (λ v. v.items) c.args.chunks.now.items c.args.place.first c.args.place.end c.args.place.count c.args.count c.requires.place.count c.requires.few
