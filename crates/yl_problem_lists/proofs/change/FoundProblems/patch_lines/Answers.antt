use Rattle.std.proofs.Common.{◌+◌, List, refl, ap, arith, sym, subst, ◌∙◌}
use Rattle.std.specs.Prelude.{IfSome, IsSome, vec_capacity, vec_len}
use Rattle.std.specs.Option.{option_map}
use Rattle.yl_report.specs.Report.{ProblemValue}
use Rattle.yl_problem_lists.specs.Changes.{parts_in, patch_in, patched_lines}
use Rattle.yl_problem_lists.specs.Parts.{PartsValue, judged_again, with_fault}
use Rattle.yl_problem_lists.specs.Rooms.{AreOrdered, IsIndentation, count_anew}
use Rattle.yl_problem_lists.proofs.Anew.{less_room, lines_so, room_for_anew}
use Rattle.yl_problem_lists.proofs.Judged.{items_so, judged_ordered}
use Rattle.yl_problem_lists.proofs.change.FoundProblems.patch_lines.Goals as goal

pub judge_again-requires-clause-spare : goal.judge_again-requires-clause-spare
judge_again-requires-clause-spare g c =
    let p = c.args.patch in
    let f = c.args.self.now in
    let value = c.take-indentation.ensures.value in
    room_for_anew c.take-indentation.result p.below (vec_len c.take_fault.new.self.suppressed + count_anew c.take-indentation.result) (vec_len f.shown + (vec_len f.suppressed + count_anew p.indentation)) c.args.spare
    (λ some. c.requires.ready.judged.below (subst (λ o. IsSome o) value some)) (omega (arith, ap vec_len c.take_fault.ensures.others, ap count_anew value)) c.requires.room.spare

pub put_parts-fault-requires-clause-ordered : goal.put_parts-fault-requires-clause-ordered
put_parts-fault-requires-clause-ordered g c =
    let p = c.args.patch in
    let new = c.take-indentation.result in
    let before = subst (λ (ps : PartsValue). AreOrdered ps) (sym c.take_fault.ensures.parts) c.requires.ready.ordered in
    let is = items_so (λ (qs : List ProblemValue). IsIndentation p.old_end qs) new (subst (λ o. IfSome o (λ v. IsIndentation p.old_end v.items)) (sym c.take-indentation.ensures.value) c.requires.ready.judged.indentation) in
    subst (λ (ps : PartsValue). AreOrdered ps) (sym c.judge_again.ensures.parts) (judged_ordered p.old_end (option_map (λ v. v.items) new) (parts_in c.take_fault.new.self) before is)

pub put_parts-fault-requires-clause-room : goal.put_parts-fault-requires-clause-room
put_parts-fault-requires-clause-room g c =
    let p = c.args.patch in
    let some = ap count_anew c.take-indentation.ensures.value in
    let none = ap count_anew c.take-indentation.ensures.after in
    less_room c.args.self.now c.judge_again.new.self p
    (record {
      first = p.first;
      old_end = p.old_end;
      new_end = p.new_end;
      shown = p.shown;
      suppressed = p.suppressed;
      indentation = c.take-indentation.new.self;
      below = p.below;
      had_fault = p.had_fault;
      fault = p.fault;
    })
    c.args.spare c.judge_again.new.spare c.requires.room (omega (arith, c.judge_again.ensures.shown, c.take_fault.ensures.len)) (c.judge_again.ensures.shown_room ∙ c.take_fault.ensures.room)
    (omega (arith, c.judge_again.ensures.suppressed, ap vec_len c.take_fault.ensures.others, some, none)) (omega (arith, c.judge_again.ensures.suppressed_room, ap vec_capacity c.take_fault.ensures.others)) c.judge_again.ensures.spare refl refl refl refl

pub returns : goal.returns
returns g c =
    let p = c.args.patch in
    let lines = λ (ps : PartsValue). with_fault p.fault (patched_lines (patch_in p) ps) in
    c.put_fault.ensures
    ∙ (ap (λ o. with_fault o (parts_in c.put_parts-fault.new.self)) c.put_parts-fault.ensures.fault
    ∙ (ap (with_fault p.fault) (c.put_parts-fault.ensures.parts ∙ lines_so (patch_in p) (option_map (λ v. v.items) c.take-indentation.new.self) (parts_in c.judge_again.new.self))
    ∙ (ap lines c.judge_again.ensures.parts
    ∙ (ap (λ o. lines (judged_again p.old_end (option_map (λ v. v.items) o) (parts_in c.take_fault.new.self))) c.take-indentation.ensures.value
    ∙ ap (λ (ps : PartsValue). lines (judged_again p.old_end (option_map (λ v. v.items) p.indentation) ps)) c.take_fault.ensures.parts))))
