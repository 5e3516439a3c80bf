use Rattle.std.proofs.Common.{◌++◌, List, ℕ, ap, ◌∙◌, sym}
use Rattle.std.specs.Prelude.{string_bytes}
use Rattle.std.specs.List.{flat_map}
use Rattle.std.proofs.lemmas.Iterator.{YieldsList-from_chars}
use Rattle.std.proofs.lemmas.Iterator.Consumers.{YieldsList-end}
use Rattle.std.proofs.lemmas.List.{map-id}
use Rattle.yl_tree.specs.Messages.{printed_character}
use Rattle.yl_tree.proofs.messages.push_name.Goals as goal

pub returns : goal.returns
returns g c =
    let t = YieldsList-end (YieldsList-from_chars c.args.name.now c.utf8.name cc) c.loop-c.yielded _ c.loop-c.yielded_by _ _ c.in-None.is c.next.ensures.steps in
    c.loop-c.invariant ∙ ap (λ (cs : List ℕ). string_bytes c.args.text.now ++ flat_map printed_character cs) (sym (map-id c.loop-c.yielded) ∙ t.0)
