use Rattle.std.proofs.Common.{◌∙◌}
use Rattle.yl_report.proofs.HasLine.{has_line}
use Rattle.yl_report.proofs.marks.has_line.Goals as goal

pub returns : goal.returns
returns c = c.is_ok.ensures.value ∙ has_line c.args.lines.now c.args.line c.binary_search.result c.binary_search.ensures.position c.requires
