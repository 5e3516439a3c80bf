use Rattle.std.proofs.Common.{◌≡◌, drop}
use Rattle.yl_piece_names.specs.OpeningEvents.{opened_by, opened_from}
use Rattle.yl_piece_names.proofs.run_names.open_collections.Given as goal

abbrev pub invariant-loop-opening : goal.invariant-loop-opening
invariant-loop-opening g l = opened_from l.collections (drop l.opening-index l.openings) ≡ opened_by l.openings
