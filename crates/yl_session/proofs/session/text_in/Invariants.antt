use Rattle.std.proofs.Common.{◌≡◌, ◌++◌, drop}
use Rattle.yl_text.specs.Lines.{text_of}
use Rattle.yl_session.proofs.session.text_in.Given as goal

abbrev pub invariant-loop-i : goal.invariant-loop-i
invariant-loop-i g l = l.text.items ++ text_of (drop l.i (g.S.Lines.rows l.store)) ≡ text_of (g.S.Lines.rows l.store)
