use Rattle.std.proofs.Common.{◌≡◌, ℕ, List, ◌-◌, ◌==◌, length, min, true, rules, refl, ap, ◌∙◌, subst}
use Rattle.yl_devices.proofs.Pieces.{on_err}
use Rattle.yl_frames.proofs.Outcomes.{fault_then, ok_then}
use Rattle.yl_lsp.specs.Reports.{ReportValue, more_diagnostics, report_diagnostics}
use Rattle.yl_lsp.specs.Texts.{diagnostics_text}
use Rattle.yl_lsp.proofs.Reported.{report_put}
use Rattle.yl_lsp.proofs.report.put_report.Goals as goal

pub returns-in_err-put_problems-clause-err : goal.returns-in_err-put_problems-clause-err
returns-in_err-put_problems-clause-err g c =
    let r : ReportValue = record { how = c.report.inside.how; rows = g.S.Lines.rows c.report.inside.lines.now; problems = c.report.inside.problems.now } in
    let shown = c.min-shown.result in
    let hidden = length r.problems - shown in
    let least : shown ≡ min r.how.most (length r.problems) = search rules in
    let same : r ≡ c.args.report.now = c.report.view_is in
    on_err c.from_residual.result (subst (λ (l : List ℕ). g.P.Pieces.breaks c.args.to.now l c.put_problems.new.to) (report_put r shown hidden least refl ∙ ap (λ v. diagnostics_text true (report_diagnostics v)) same)
    (g.met.P.Pieces.broken_before _ _ _ (diagnostics_text (shown == 0) (more_diagnostics hidden)) c.in_err-put_problems.ensures.err))

pub returns-clause-ok : goal.returns-clause-ok
returns-clause-ok g c =
    let r : ReportValue = record { how = c.report.inside.how; rows = g.S.Lines.rows c.report.inside.lines.now; problems = c.report.inside.problems.now } in
    let shown = c.min-shown.result in
    let hidden = length r.problems - shown in
    let least : shown ≡ min r.how.most (length r.problems) = search rules in
    let same : r ≡ c.args.report.now = c.report.view_is in
    ok_then c.put_more.result c.put_more.ensures.ok (λ q. subst (λ (l : List ℕ). g.P.Pieces.puts c.args.to.now l c.put_more.new.to)
    (report_put r shown hidden least refl ∙ ap (λ v. diagnostics_text true (report_diagnostics v)) same) (g.met.P.Pieces.joined _ _ _ _ _ c.in_ok-put_problems.ensures.ok q))

pub returns-clause-err : goal.returns-clause-err
returns-clause-err g c =
    let r : ReportValue = record { how = c.report.inside.how; rows = g.S.Lines.rows c.report.inside.lines.now; problems = c.report.inside.problems.now } in
    let shown = c.min-shown.result in
    let hidden = length r.problems - shown in
    let least : shown ≡ min r.how.most (length r.problems) = search rules in
    let same : r ≡ c.args.report.now = c.report.view_is in
    fault_then c.put_more.result c.put_more.ensures.err (λ q. subst (λ (l : List ℕ). g.P.Pieces.breaks c.args.to.now l c.put_more.new.to)
    (report_put r shown hidden least refl ∙ ap (λ v. diagnostics_text true (report_diagnostics v)) same) (g.met.P.Pieces.broken_after _ _ _ _ _ c.in_ok-put_problems.ensures.ok q))
