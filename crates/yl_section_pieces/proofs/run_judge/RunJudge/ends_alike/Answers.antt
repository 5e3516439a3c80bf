use Rattle.std.proofs.Common.{◌∙◌, ap, sym}
use Rattle.yl_pieces.specs.Told.{fault_in, state_after}
use Rattle.yl_piece_names.specs.KeptNames.{RunNamesValue}
use Rattle.yl_section_pieces.proofs.RunsJudged.{ends, state_of}
use Rattle.yl_section_pieces.proofs.run_judge.RunJudge.ends_alike.Goals as goal
use Rattle.yl_section_pieces.proofs.run_judge.RunJudge.ends_alike.Goals.{else-is_border, then-is_border}

pub returns : goal.returns
returns g c = λ config o p s openings rs ns was now alike.
    let names = c.is_same.ensures.same c.if-not-is_same.false in
    let none = c.is_same.ensures.none c.if-not-is_same.false in
    let one_is = state_of (fault_in s 1 rs) (state_after s 1 rs) c.in-Some.one was.sound (sym c.in-Some.is ∙ c.in_ok-one.ensures config s rs was.rows) in
    let another_is = state_of (fault_in s 1 ns) (state_after s 1 ns) c.in-Some-2.another now.sound (sym c.in-Some-2.is ∙ c.in_ok-another.ensures config s ns now.rows) in
    elim c.if-is_border.branch [
      | then-is_border w ↦
          ends config o p s openings rs ns c.args.self.now c.args.other.now was now c.in-Some.one c.in-Some-2.another one_is another_is
          (sym c.is_border.ensures ∙ w.if-is_border.true)
          (w.is_same-then-is_border.ensures.same (sym w.result-is ∙ alike))
          names (ap (λ (v : RunNamesValue). v.has_references) (sym names) ∙ none)
      | else-is_border w ↦ absurd (cc (w.result-is, alike))
    ]
