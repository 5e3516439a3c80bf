use Rattle.std.proofs.Common.{◌≡◌, ◌+◌, vec_len, sym, ap, ◌∙◌, arith}
use Rattle.yl_problem_lists.specs.Rooms.{count_anew, crossing}
use Rattle.yl_problem_lists.proofs.Anew.{crossing-add}
use Rattle.yl_problem_lists.proofs.change.FoundProblems.make_room_for.Goals as goal

pub returns-clause-room : goal.returns-clause-room
returns-clause-room g c =
    let below = c.args.patch.now.below in
    let shown = c.try_reserve.new.self in
    let all = vec_len c.try_reserve-2.new.self + count_anew c.args.patch.now.indentation in
    let from_suppressed : crossing below all ≡ c.count_crossing-from_suppressed.result = ap (crossing below) (omega (arith, c.try_reserve-2.ensures.len, c.len.ensures, c.count_indentation-anew.ensures, c.in-Some.ensures)) ∙ sym c.count_crossing-from_suppressed.ensures in
    let from_shown : crossing below (vec_len shown) ≡ c.count_crossing-from_shown.result = ap (crossing below) (c.try_reserve.ensures.len ∙ sym c.len-2.ensures) ∙ sym c.count_crossing-from_shown.ensures in
    let both : crossing below (vec_len shown + all) ≡ crossing below (vec_len shown) + crossing below all = crossing-add below (vec_len shown) all in
    record {
      shown = omega (arith, from_suppressed, c.in_ok-try_reserve.ensures.ok, c.in-Some-checked_add-3.ensures, c.in-Some-checked_add-2.ensures, c.len-3.ensures, c.count_fault.ensures);
      suppressed = omega (arith, from_shown, c.in_ok-try_reserve-2.ensures.ok, c.in-Some-checked_add-5.ensures, c.in-Some-checked_add-4.ensures, c.len-4.ensures, c.count_indentation-anew.ensures);
      spare = record {
        empty = c.in_ok-spare.ensures.items;
        enough = omega (arith, both, from_shown, from_suppressed, c.in-Some-checked_add.ensures, c.in_ok-spare.ensures.capacity);
      };
    }
