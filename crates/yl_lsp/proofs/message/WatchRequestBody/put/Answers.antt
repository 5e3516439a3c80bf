use Rattle.std.proofs.Common.{ℕ, List, subst}
use Rattle.yl_frames.proofs.Outcomes.{fault_then, ok_then}
use Rattle.yl_lsp.proofs.Written.{watch_written}
use Rattle.yl_lsp.proofs.message.WatchRequestBody.put.Goals as goal

pub returns-clause-ok : goal.returns-clause-ok
returns-clause-ok g c = ok_then c.put.result c.put.ensures.ok (subst (λ (l : List ℕ). g.P.Pieces.puts c.args.to.now l c.put.new.self) watch_written)

pub returns-clause-err : goal.returns-clause-err
returns-clause-err g c = fault_then c.put.result c.put.ensures.err (subst (λ (l : List ℕ). g.P.Pieces.breaks c.args.to.now l c.put.new.self) watch_written)
