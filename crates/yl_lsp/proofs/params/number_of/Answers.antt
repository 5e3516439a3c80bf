use Rattle.yl_lsp.proofs.Numbers.{read_number, no_number}
use Rattle.yl_lsp.proofs.params.number_of.Goals as goal

pub returns-in-Ok : goal.returns-in-Ok
returns-in-Ok c = read_number c.args.digits.now c.in-Ok.number c.requires c.in-Ok.ensures.value.0

pub returns-in-Err : goal.returns-in-Err
returns-in-Err c = no_number c.args.digits.now c.requires c.in-Err.ensures.value.0
