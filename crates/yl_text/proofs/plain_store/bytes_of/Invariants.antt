use Rattle.std.proofs.Common.{◌≡◌, length, take}
use Rattle.yl_text.specs.Lines.{text_of}
use Rattle.yl_text.proofs.plain_store.bytes_of.Given as goal

abbrev pub invariant-loop-row : goal.invariant-loop-row
invariant-loop-row g l = l.sum ≡ length (text_of (take l.row-index l.rows))
