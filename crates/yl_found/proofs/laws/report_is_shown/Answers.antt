use Rattle.std.proofs.Common.{map, refl}
use Rattle.yl_sections.specs.Judge.{kept_of_section}
use Rattle.yl_found.proofs.ReportShown.{report_shown}
use Rattle.yl_found.proofs.SectionsPlain.{kept_plain}
use Rattle.yl_found.proofs.laws.report_is_shown.Goals as goal

pub returns : goal.returns
returns c = λ config rows ss. let ks = map (kept_of_section config) ss in report_shown config rows ks (kept_plain config ss ks refl)
