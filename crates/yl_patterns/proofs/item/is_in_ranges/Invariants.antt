use Rattle.std.proofs.Common.{◌≡◌, drop}
use Rattle.yl_patterns.specs.Fits.{is_in_ranges}
use Rattle.yl_patterns.proofs.item.is_in_ranges.Given as goal

abbrev pub invariant-loop-item : goal.invariant-loop-item
invariant-loop-item l = is_in_ranges (drop l.item-index l.items) l.c ≡ is_in_ranges l.items l.c
