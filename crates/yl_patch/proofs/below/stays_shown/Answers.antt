use Rattle.std.proofs.Common.{◌-◌, take, drop, ap, sym, ◌∙◌}
use Rattle.yl_report.specs.Directive.{disables_file}
use Rattle.yl_found.proofs.Given.{never, then_ok}
use Rattle.yl_patch.proofs.Given.{same_bool}
use Rattle.yl_patch.proofs.below.stays_shown.Goals as goal

pub returns-then-has_fault : goal.returns-then-has_fault
returns-then-has_fault g c = λ _.
    let edit = c.args.edit.now in
    let hidden = sym (c.has_fault.ensures (take edit.from edit.sections.now.items) c.requires.above) ∙ c.if-has_fault.true in record {
      file =
          sym (c.disables_file.ensures ∙ ap disables_file c.first_text.ensures)
          ∙ (same_bool c.disables_file.result c.disables_file-2.result c.if-disables_file.false ∙ (c.disables_file-2.ensures ∙ ap disables_file c.first_text-2.ensures));
      faults = λ h. never (sym h ∙ hidden);
      comments = λ h. never (sym h ∙ hidden);
    }

pub returns : goal.returns
returns g c =
    let edit = c.args.edit.now in
    let gone = c.has_fault-2.ensures (take (edit.end - edit.from) (drop edit.from edit.sections.now.items)) c.requires.gone in
    let come = c.has_fault-3.ensures edit.kept.now c.requires.come in
    then_ok c.speak_alike.result c.speak_alike.ensures (λ b alike e. record {
      file =
          sym (c.disables_file.ensures ∙ ap disables_file c.first_text.ensures)
          ∙ (same_bool c.disables_file.result c.disables_file-2.result c.if-disables_file.false ∙ (c.disables_file-2.ensures ∙ ap disables_file c.first_text-2.ensures));
      faults = λ h. sym gone ∙ (same_bool c.has_fault-2.result c.has_fault-3.result c.if-has_fault-2.false ∙ come);
      comments = λ h. alike e;
    })
