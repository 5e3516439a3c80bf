use Rattle.std.proofs.Common.{◌+◌, ◌++◌, List, vec_len, refl, ap, ◌∙◌, arith}
use Rattle.std.proofs.lemmas.Slice.{pushed}
use Rattle.yl_report.specs.Report.{ProblemValue}
use Rattle.yl_problem_lists.specs.Changes.{parts_in}
use Rattle.yl_problem_lists.specs.Rooms.{count_anew}
use Rattle.yl_problem_lists.proofs.Anew.{crossing_some, parted_anew}
use Rattle.yl_problem_lists.proofs.change.FoundProblems.part_anew.Goals as goal

pub take_behind-requires-clause-room : goal.take_behind-requires-clause-room
take_behind-requires-clause-room g c =
    let f = c.args.self.now in
    let all = crossing_some c.args.patch.below (vec_len f.shown + (vec_len f.suppressed + count_anew c.args.patch.indentation)) c.requires.anew in
    record { empty = c.requires.room.spare.empty; enough = omega (arith, all, c.requires.room.spare.enough) }

pub unwrap-requires : goal.unwrap-requires
unwrap-requires g c =
    let others = crossing_some c.args.patch.below (vec_len c.args.self.now.suppressed + count_anew c.args.patch.indentation) c.requires.anew in
    c.append.ensures.succeeds
    (omega (arith, others, c.requires.room.shown, c.keep_above.ensures.len, c.keep_above.ensures.room, c.take_behind.ensures.shown_room, c.take_behind.ensures.taken.count, c.take_behind.new.shown.ok.0, c.take_behind.new.suppressed.ok.0, c.args.self.now.shown.ok.0, c.args.self.now.suppressed.ok.0))

pub returns-in-Some-clause-parts : goal.returns-in-Some-clause-parts
returns-in-Some-clause-parts g c =
    let p = c.args.patch in
    let shown = pushed p.shown.items refl c.unwrap.ensures c.append.ensures.items ∙ ap (λ (ps : List ProblemValue). ps ++ p.shown.items) c.keep_above.ensures.items in
    let suppressed = pushed p.suppressed.items refl c.unwrap-2.ensures c.append-2.ensures.items ∙ ap (λ (ps : List ProblemValue). ps ++ p.suppressed.items) c.keep_above-2.ensures.items in
    parted_anew p c.in-Some.below (parts_in c.args.self.now) c.take_behind.new.shown.items c.take_behind.new.suppressed.items c.take_behind.new.spare.items c.append.new.self.items c.append-2.new.self.items c.give_back.new.shown.items c.give_back.new.suppressed.items
    c.in-Some.is c.requires.lines c.take_behind.ensures.taken c.take_behind.ensures.shown c.take_behind.ensures.suppressed shown suppressed c.give_back.ensures.shown c.give_back.ensures.suppressed
