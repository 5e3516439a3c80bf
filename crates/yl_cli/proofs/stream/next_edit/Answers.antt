use Rattle.std.proofs.Common.{rules, ◌∙◌, sym}
use Rattle.yl_cli.proofs.Cut.{cut_in_payload}
use Rattle.yl_cli.proofs.stream.next_edit.Goals as goal

pub returns-in_err-bytes-clause-cut : goal.returns-in_err-bytes-clause-cut
returns-in_err-bytes-clause-cut g c = λ is. cut_in_payload _ _ _ c.read_line.new.line.items c.in-Some.asked (search rules) (search rules) (c.in_err-bytes.ensures.cut (search rules))
