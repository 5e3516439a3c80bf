use Rattle.std.proofs.Common.{rules}
use Rattle.yl_report.specs.Silence.{is_file_silenced_by, is_silenced_at}
use Rattle.yl_report.proofs.silence.Silences.none.Goals as goal

pub returns : goal.returns
unfolding is_file_silenced_by is_silenced_at
returns g c = search rules
