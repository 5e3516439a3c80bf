use Rattle.std.proofs.Common.{◌≡◌, true, ◌++◌, List, ℕ, ap, ◌∙◌, sym}
use Rattle.std.specs.List.{flat_map, list_all}
use Rattle.std.proofs.lemmas.Iterator.{YieldsList-from_chars}
use Rattle.std.proofs.lemmas.Iterator.Consumers.{YieldsList-end}
use Rattle.std.proofs.lemmas.List.{map-id}
use Rattle.yl_dump.specs.Quoting.{stands_for_itself, escaped_character}
use Rattle.yl_dump.proofs.Plain.{plain_text}
use Rattle.yl_dump.proofs.quoting.print_escaped.Goals as goal

pub returns-then-is_plain_text : goal.returns-then-is_plain_text
returns-then-is_plain_text g c =
    let plain : list_all stands_for_itself c.args.text.now ≡ true = cc in
    rw (plain_text c.args.text.now plain) c.text.ensures

pub returns : goal.returns
returns g c =
    let t = YieldsList-end (YieldsList-from_chars c.args.text.now c.utf8.text cc) c.loop-c.yielded _ c.loop-c.yielded_by _ _ c.in-None.is c.next.ensures.steps in
    c.loop-c.invariant ∙ ap (λ (cs : List ℕ). c.args.page.now ++ flat_map escaped_character cs) (sym (map-id c.loop-c.yielded) ∙ t.0)
