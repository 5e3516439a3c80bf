use Rattle.std.proofs.Common.{◌∙◌, sym, arith}
use Rattle.std.proofs.lemmas.Grind.{common_steps}
use Rattle.std.proofs.lemmas.Iterator.{YieldsList-from_chars}
use Rattle.std.proofs.lemmas.Iterator.Consumers.{YieldsList-end}
use Rattle.std.proofs.lemmas.List.{map-id}
use Rattle.std.proofs.lemmas.Str.{chars-IsAscii}
use Rattle.yl_text.proofs.decode.characters_of.Goals as goal

pub returns-then-are_ascii-clause-ok : goal.returns-then-are_ascii-clause-ok
returns-then-are_ascii-clause-ok g c = grind (arith, common_steps, chars-IsAscii)

pub returns-clause-ok : goal.returns-clause-ok
returns-clause-ok g c =
    let t = YieldsList-end (YieldsList-from_chars c.args.text.now c.utf8.text cc) c.loop-c.yielded _ c.loop-c.yielded_by _ _ c.in-None.is c.next.ensures.steps in
    c.loop-c.invariant.0 ∙ sym (map-id c.loop-c.yielded) ∙ t.0
