use Rattle.std.proofs.Common.{arith}
use Rattle.std.proofs.lemmas.Grind.{common_steps}
use Rattle.yl_text.proofs.Computed.{IsLines-same}
use Rattle.yl_text.proofs.splitting.split.Goals as goal

pub returns-clause-lines : goal.returns-clause-lines
returns-clause-lines g c = grind (arith, common_steps, IsLines-same)
