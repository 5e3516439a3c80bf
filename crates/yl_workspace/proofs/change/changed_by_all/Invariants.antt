use Rattle.std.proofs.Common.{◌≡◌, Bool, List, drop, map, IfOk}
use Rattle.yl_text.specs.Lines.{text_of}
use Rattle.yl_lsp.specs.Read.{change_value}
use Rattle.yl_session.specs.State.{Shows}
use Rattle.yl_workspace.specs.Changes.{text_after_changes}
use Rattle.yl_workspace.specs.Shown.{text_value}
use Rattle.yl_workspace.proofs.change.changed_by_all.Given as goal

-- whatever memory the changes that are left are granted, they leave what all leave with some grants
abbrev pub invariant-loop-change : goal.invariant-loop-change
invariant-loop-change g l = record {
  shown : IfOk l.text (λ s. Shows l.config (text_of s.rows) s);
  made : (rest : List Bool) → (grants : List Bool) × (text_after_changes l.encoding rest (text_value l.text) (drop l.change-index (map change_value l.changes)) ≡ text_after_changes l.encoding grants (text_value l.fn.text) (map change_value l.changes));
}
