use Rattle.yl_report.proofs.Heard.{heard_report}
use Rattle.yl_report.proofs.hearing.heard_reports.Goals as goal

pub returns : goal.returns
returns c = heard_report
