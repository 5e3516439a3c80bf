use Rattle.std.proofs.Common.{sym, ◌∙◌}
use Rattle.yl_tree.proofs.Frames.{no_key_next, key_next}
use Rattle.yl_tree.proofs.walk.is_spoken_against.Goals as goal

pub returns-then-not-is_key_next : goal.returns-then-not-is_key_next
returns-then-not-is_key_next g c = λ before b.
    no_key_next g.M.KeyMemory.speaks_against c.args.name.now before c.args.walk.now.innermost.is_mapping c.args.walk.now.innermost.is_key_next b.innermost.mapping b.innermost.next
    (sym c.is_key_next.ensures ∙ c.if-not-is_key_next.true)

pub returns : goal.returns
returns g c = λ before b.
    key_next g.M.KeyMemory.speaks_against c.args.name.now before c.args.walk.now.innermost.is_mapping c.args.walk.now.innermost.is_key_next b.innermost.mapping b.innermost.next
    c.is_against.result (sym c.is_key_next.ensures ∙ c.if-not-is_key_next.false) (c.is_against.ensures ∙ b.memory 0 c.args.name.now)
