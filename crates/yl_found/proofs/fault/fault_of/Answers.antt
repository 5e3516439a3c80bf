use Rattle.std.proofs.Common.{◌≡◌, ◌≤◌, ◌∙◌, List, length, None, ap, sym, subst, rules}
use Rattle.std.specs.Prelude.{Bool, slice_get}
use Rattle.yl_text.specs.Store.{end_of_lines}
use Rattle.yl_rules.specs.LevelOf.{level_of}
use Rattle.yl_config.specs.Config.{levels_of}
use Rattle.yl_report.specs.Directive.{disables_file}
use Rattle.yl_report.specs.Heard.{nothing_silenced}
use Rattle.yl_report.specs.Report.{ProblemValue, report_of}
use Rattle.yl_report.specs.Silence.{is_file_silenced_by, is_silenced_at}
use Rattle.yl_lint.specs.TextReport.{fault_in_sections, first_text}
use Rattle.yl_found.proofs.FaultFound.{fault_few, popped, told_as, told_few}
use Rattle.yl_found.proofs.fault.fault_of.Goals as goal

pub returns : goal.returns
returns g c =
    let rows = g.L.Lines.rows c.args.lines.now in
    let ks = c.args.survey.now.sections in
    let l = levels_of c.args.config.now in
    let fs = fault_in_sections 0 (end_of_lines rows) ks in
    let s = c.none.result in
    let loud : disables_file (first_text rows) ≡ _ = sym (c.disables_file.ensures ∙ ap disables_file c.first_text.ensures) ∙ c.if-disables_file.false in
    let told = c.in_ok-told.ensures ∙ told_as (level_of c.levels.result.now) l (is_file_silenced_by s) (is_silenced_at s) c.in_ok-found.found.items fs c.levels.ensures c.none.ensures.file c.none.ensures.lines c.in_ok-found.ensures in
    let few = subst (λ (ps : List ProblemValue). length ps ≤ 1) (sym told) (told_few l fs (fault_few 0 (end_of_lines rows) ks)) in
    let none : c.pop.result ≡ None → length c.in_ok-told.told.items ≡ 0 = λ e. let empty = rw e at c.pop.ensures.cases in search (rules, empty) in
    popped c.in_ok-told.told.items c.pop.new.self.items c.pop.result few none c.pop.ensures.items
    ∙ (ap (λ (ps : List ProblemValue). slice_get ps 0) told ∙ ap (λ (b : Bool). slice_get (report_of l b nothing_silenced fs) 0) (sym loud))
