use Rattle.std.proofs.Common.{◌≡◌, length, take}
use Rattle.yl_piece_names.proofs.named_collection.are_same_collections.Given as goal

abbrev pub invariant-loop-collection : goal.invariant-loop-collection
invariant-loop-collection g l = take (length l.yielded) l.one ≡ take (length l.yielded) l.other
