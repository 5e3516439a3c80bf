use Rattle.std.proofs.Common.{◌∙◌, ap, arith, List}
use Rattle.std.specs.Prelude.{Bool, Option}
use Rattle.yl_report.specs.Report.{ProblemValue}
use Rattle.yl_problem_lists.specs.Parts.{PartsValue, parted, with_fault}
use Rattle.yl_found.specs.Found.{is_shown, parts_of}
use Rattle.yl_found.proofs.Shows.{upto_all}
use Rattle.yl_found.proofs.found.found_problems.Goals as goal

pub returns : goal.returns
returns g c =
    let rows = g.L.Lines.rows c.args.lines.now in
    let ks = c.args.survey.now.sections in
    let config = c.args.config.now in
    let shows = c.in_ok-showing.ensures ∙ upto_all c.len.result rows ks (omega (arith, c.len.ensures)) in
    let parts =
    c.in_ok-parts.ensures
    ∙ (ap (λ (f : ProblemValue → Bool). parted f c.in_ok-found.found.items) shows ∙ ap (λ (ps : List ProblemValue). parted (is_shown rows ks) ps) c.in_ok-found.ensures) in
    c.in_ok-add_fault.ensures.put
    ∙ (ap (λ (ps : PartsValue). with_fault c.in_ok-fault.fault ps) parts ∙ ap (λ (o : Option ProblemValue). with_fault o (parts_of config rows ks)) c.in_ok-fault.ensures)
