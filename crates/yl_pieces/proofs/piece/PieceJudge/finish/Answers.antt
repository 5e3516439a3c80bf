use Rattle.std.proofs.Common.{◌≡◌, ◌∙◌, true, false, ap, rules, tests}
use Rattle.std.specs.Prelude.{is_some}
use Rattle.yl_sections.specs.declared.row_judge.RowJudge.{RowJudge}
use Rattle.yl_pieces.proofs.PieceEnds.{facts_all, found_all}
use Rattle.yl_pieces.proofs.PieceMore.{going, has_stopped, told_going, told_stopped}
use Rattle.yl_pieces.proofs.piece.PieceJudge.finish.Goals as goal

pub returns-then-is_some : goal.returns-then-is_some
returns-then-is_some g c = λ config s rs h.
    let j = c.args.self in
    let some : is_some j.fault ≡ true = search (rules, tests) in
    c.piece_of.ensures ∙ told_stopped config s rs j (has_stopped config s rs j some h)

pub returns : goal.returns
returns g c = λ config s rs h.
    let j = c.args.self in
    let none : is_some j.fault ≡ false = search (rules, tests) in
    let go = going config s rs j none h in
    let b = go.rows in
    let rest = c.in_ok-finish.ensures in
    c.piece_of-2.ensures
    ∙ told_going config s rs j go c.finish.new.self.found.items c.finish.new.self.facts.items (found_all config s b.from b.go_on rs j.rows b.read c.finish.new.self.found.items (λ v ks. rest.found v ks))
    (ap (λ (r : RowJudge g.row.A.Denot). r.facts.items) rest.stays ∙ facts_all config s b.from b.go_on rs j.rows b.read)
