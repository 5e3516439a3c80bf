use Rattle.std.proofs.Common.{◌≡◌, ◌+◌, length, take}
use Rattle.yl_text.specs.Lines.{text_of}
use Rattle.yl_text.proofs.edit.bytes_between.Given as goal

abbrev pub invariant-loop-i : goal.invariant-loop-i
invariant-loop-i g l = length (text_of (take l.a (g.S.Lines.rows l.lines))) + l.sum ≡ length (text_of (take l.i (g.S.Lines.rows l.lines)))
