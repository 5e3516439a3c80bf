use Rattle.std.proofs.Common.{◌≡◌, Bool, List, ◌++◌, take, drop}
use Rattle.yl_workspace.specs.Documents.{configured}
use Rattle.yl_workspace.proofs.workspace.configure_each.Given as goal

-- whatever memory the rest are granted, those so far as they are, and the rest judged anew, are all judged anew with some grants
abbrev pub invariant-loop-document : goal.invariant-loop-document
invariant-loop-document g l = (rest : List Bool) → (grants : List Bool) × (take l.document-index l.document-items ++ configured l.config rest (drop l.document-index l.document-items) ≡ configured l.config grants l.fn.documents)
