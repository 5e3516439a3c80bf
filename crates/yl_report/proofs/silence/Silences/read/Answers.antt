use Rattle.yl_report.specs.Silence.{is_file_silenced_by, is_silenced_at}
use Rattle.yl_report.proofs.silence.Silences.read.Goals as goal

pub returns-clause-file : goal.returns-clause-file
unfolding is_file_silenced_by
returns-clause-file g c = c.disables_file.ensures

pub returns-clause-lines : goal.returns-clause-lines
unfolding is_silenced_at
returns-clause-lines g c = λ i rule line. c.in_ok-rules.ensures rule line i
