use Rattle.std.proofs.Common.{◌∙◌, ◌++◌, ap, reverse, sym}
use Rattle.yl_marks.specs.ByLine.{marks_of_line}
use Rattle.yl_marks.specs.FactsByLine.{behind_keyed_line, facts_of_line}
use Rattle.yl_marks.proofs.SingleKeys.{single_marks, single_facts, single_open, single_said, single_latest, same_behind}
use Rattle.yl_marks.proofs.key_marker.KeyMarker.read_single_keys.Goals as goal

pub returns-clause-marks : goal.returns-clause-marks
returns-clause-marks g c =
    let e = c.self.inside.earlier in
    let xs = c.args.line.now in
    c.in_ok-passed.ensures.marks
    ∙ ap (λ ws. c.args.symbols.now.items ++ ws) (sym (single_marks e.count e.depth e.latest xs c.requires.single (reverse c.self.inside.collections.items)))
    ∙ ap (λ v. c.args.symbols.now.items ++ marks_of_line v.marks xs) c.self.view_is

pub returns-clause-keys : goal.returns-clause-keys
returns-clause-keys g c =
    let e = c.self.inside.earlier in
    let xs = c.args.line.now in
    c.in_ok-passed.ensures.facts
    ∙ ap (λ fs. c.args.keys.now.items ++ fs) (sym (single_facts e.count e.depth e.latest xs c.requires.single c.self.inside.ahead))
    ∙ ap (λ v. c.args.keys.now.items ++ facts_of_line v xs) c.self.view_is

pub returns-clause-behind : goal.returns-clause-behind
returns-clause-behind g c =
    let e = c.self.inside.earlier in
    let xs = c.args.line.now in
    let behind = c.in_ok-passed.ensures.behind in
    same_behind behind.count behind.depth
    (behind.latest ∙ sym (single_latest e.count e.depth e.latest xs c.requires.single))
    (c.in_ok-passed.ensures.left ∙ sym (single_open e.count e.depth e.latest xs c.requires.single (reverse c.self.inside.collections.items)))
    (behind.ahead ∙ sym (single_said e.count e.depth e.latest xs c.requires.single c.self.inside.ahead))
    ∙ ap (λ v. behind_keyed_line v xs) c.self.view_is
