use Rattle.std.proofs.Common.{arith}
use Rattle.yl_edited_lines.proofs.FewLines.{few_lines, few_new}
use Rattle.yl_edited_lines.proofs.edit.TextEdit.edited.Goals as goal

pub new-requires-clause-few : goal.new-requires-clause-few
new-requires-clause-few g c =
    let text = c.args.self.now in
    omega (arith, few_lines (g.S.Lines.rows text.store.now) c.requires.old, few_new (g.S.Lines.rows text.store.now) text.rows.now text.a text.b c.requires.new)
