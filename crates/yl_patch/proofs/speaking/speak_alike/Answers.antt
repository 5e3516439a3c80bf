use Rattle.std.proofs.Common.{◌-◌, take, drop, sym, ◌∙◌}
use Rattle.yl_found.proofs.Given.{then_ok}
use Rattle.yl_patch.proofs.Shown.{silent_alike, sound_alike}
use Rattle.yl_patch.proofs.speaking.speak_alike.Goals as goal

pub returns-then-is_silent : goal.returns-then-is_silent
returns-then-is_silent g c = λ e.
    let edit = c.args.edit.now in
    let gone = take (edit.end - edit.from) (drop edit.from edit.sections.now.items) in
    silent_alike gone edit.kept.now (c.is_silent-then-is_silent.ensures gone c.requires.gone e) (c.is_silent.ensures edit.kept.now c.requires.come c.if-is_silent.true)

pub returns : goal.returns
returns g c =
    let edit = c.args.edit.now in
    let gone = take (edit.end - edit.from) (drop edit.from edit.sections.now.items) in
    then_ok c.all_speak_alike.result c.all_speak_alike.ensures (λ b alike e.
    sound_alike gone edit.kept.now (sym (c.has_fault-was_faulty.ensures gone c.requires.gone) ∙ c.if-was_faulty.false) (sym (c.has_fault-comes_faulty.ensures edit.kept.now c.requires.come) ∙ c.if-comes_faulty.false) (alike e).old (alike e).new (alike e).switches)
