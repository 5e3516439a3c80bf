-- The lines of an edit are few.
use Rattle.std.proofs.Common.{◌<◌, ◌≤◌, ◌^◌, ◌++◌, ℕ, List, length, take, drop, length-append, arith}
use Rattle.std.specs.List.{splice}
use Rattle.yl_text.specs.Lines.{RowValue}
use Rattle.yl_text.specs.Store.{AreLines}
use Rattle.yl_text.proofs.Edited.{length-lines}

new_within : (ps ns : List RowValue) (a b : ℕ) → length ns ≤ length (splice ps a b ns)
new_within ps ns a b = omega (arith, length-append (take a ps) (ns ++ drop b ps), length-append ns (drop b ps))

pub few_lines : (ps : List RowValue) → AreLines ps → length ps < 2 ^ 30
few_lines ps h = omega (arith, length-lines ps h.lines.ended, h.short)

pub few_new : (ps ns : List RowValue) (a b : ℕ) → AreLines (splice ps a b ns) → length ns < 2 ^ 30
few_new ps ns a b h = omega (arith, new_within ps ns a b, few_lines (splice ps a b ns) h)
