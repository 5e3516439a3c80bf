use Rattle.std.proofs.Common.{◌≡◌, map, take}
use Rattle.yl_piece_names.specs.OpeningEvents.{opening_of}
use Rattle.yl_section_pieces.proofs.openings.openings_of_all.Given as goal

abbrev pub invariant-loop-goal : goal.invariant-loop-goal
invariant-loop-goal g l = l.openings.items ≡ map opening_of (take l.goal-index l.goals)
