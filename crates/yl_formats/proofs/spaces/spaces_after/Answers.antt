use Rattle.std.proofs.Common.{rules, ◌≡◌, ◌∙◌, ap, arith, ◌-◌, length, replicate, ℕ, List, take}
use Rattle.std.specs.List.{flat_map}
use Rattle.std.proofs.lemmas.List.{take-replicate, take_all}
use Rattle.yl_formats.proofs.spaces.spaces_after.Goals as goal

pub returns : goal.returns
returns c =
    take-replicate c.loop-part.left 38 32 (omega (arith, c.loop-part.invariant, c.requires))
    ∙ ap (λ (n : ℕ). replicate n 32)
    (c.loop-part.invariant
    ∙ ap (λ parts. c.args.width - length (flat_map (λ part. part.now) parts)) (take_all c.loop-part.part-index c.args.parts.now (omega (arith, c.loop-part.auto.part-index-end))))
