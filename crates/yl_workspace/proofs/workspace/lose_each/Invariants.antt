use Rattle.std.proofs.Common.{◌≡◌, ◌++◌, take, drop}
use Rattle.yl_workspace.specs.Documents.{all_lost}
use Rattle.yl_workspace.proofs.workspace.lose_each.Given as goal

-- those so far as they are, and the rest lost, are all lost
abbrev pub invariant-loop-document : goal.invariant-loop-document
invariant-loop-document g l = take l.document-index l.document-items ++ all_lost l.cause (drop l.document-index l.document-items) ≡ all_lost l.cause l.fn.documents
