use Rattle.std.proofs.Common.{map, take}
use Rattle.yl_server.specs.Messages.{Published, Shown}
use Rattle.yl_server.specs.Steps.{AreSent, sink}
use Rattle.yl_server.proofs.server.Server.tell_of_all.Given as goal

abbrev pub invariant-loop-document : goal.invariant-loop-document
invariant-loop-document g l = AreSent (sink g.W.Write.contents l.fn.out l.out) (map (λ d. Published d.uri (Shown l.fn.self.how d)) (take l.document-index l.fn.self.documents))
