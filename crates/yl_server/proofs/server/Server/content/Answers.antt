use Rattle.std.proofs.Common.{◌∙◌, ap, sym}
use Rattle.yl_lsp.specs.Reports.{lost_diagnostics}
use Rattle.yl_server.proofs.Replied.{followed_shown, ignored_shown, lost_shown, report_value}
use Rattle.yl_server.proofs.server.Server.content.Goals as goal

pub returns-then-is_ignored : goal.returns-then-is_ignored
returns-then-is_ignored g c = ignored_shown c.args.self.now.how c.args.document.now (sym c.is_ignored.ensures ∙ c.if-is_ignored.true)

pub returns-in-Ok : goal.returns-in-Ok
returns-in-Ok g c =
    followed_shown c.one_report.ensures.one c.one_report.ensures.computed c.args.self.now.how c.args.document.now c.in-Ok.session.now c.new-report.result (sym c.is_ignored.ensures ∙ c.if-is_ignored.false) c.in-Ok.ensures
    (report_value _ _ _ _ _ _ _ c.new-report.ensures c.how.ensures c.lines.ensures.rows c.problems.ensures.shown)

pub returns-in-Err : goal.returns-in-Err
returns-in-Err g c = ap lost_diagnostics c.lost_words.ensures ∙ lost_shown c.args.self.now.how c.args.document.now c.in-Err.cause (sym c.is_ignored.ensures ∙ c.if-is_ignored.false) c.in-Err.ensures
