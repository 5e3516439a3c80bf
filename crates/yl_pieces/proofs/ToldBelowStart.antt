-- The rows at a document's start, further down.
use Rattle.std.proofs.Common.{◌+◌, ℕ}
use Rattle.yl_pieces.specs.State.{start_state}
use Rattle.yl_pieces.specs.StartBelow.{StartIsToldBelow}
use Rattle.yl_pieces.proofs.ToldBelow.{AreAbove, are_told}

start_above : (line : ℕ) → AreAbove start_state line
start_above line = record { marker = tt; context = tt; lexemes = tt }

pub start_told_below : StartIsToldBelow
start_told_below = λ config n line rs. are_told config start_state n line rs (start_above (n + line)) (start_above line)
