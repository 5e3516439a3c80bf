use Rattle.std.proofs.Common.{arith}
use Rattle.yl_chunks.proofs.Pieces.{part_le, place_facts}
use Rattle.yl_chunks.proofs.counting.place_of.Goals as goal

pub overflow_add-old : goal.overflow_add-old
overflow_add-old g c = record { fits = omega (arith, part_le (λ v. v.items) c.args.chunks.now c.touched-first.result.1, c.start_of.ensures, c.requires.few) }

pub overflow_sub-result : goal.overflow_sub-result
overflow_sub-result g c =
    let r = c.requires in
    let cs = c.args.chunks.now in
    let t = c.touched-first.ensures in
    let j = c.joined-first.ensures in
    let h = place_facts (λ v. v.items) cs c.args.a c.args.b c.touched-first.result.0 c.touched-first.result.1 c.joined-first.result.0 c.joined-first.result.1 r.range.ordered r.range.within t.ordered t.within t.start t.end j.first j.end in
    omega (arith, h.2, c.start_of-start.ensures, c.start_of-3.ensures)

pub overflow_sub-result-2 : goal.overflow_sub-result-2
overflow_sub-result-2 g c =
    let r = c.requires in
    let cs = c.args.chunks.now in
    let t = c.touched-first.ensures in
    let j = c.joined-first.ensures in
    let h = place_facts (λ v. v.items) cs c.args.a c.args.b c.touched-first.result.0 c.touched-first.result.1 c.joined-first.result.0 c.joined-first.result.1 r.range.ordered r.range.within t.ordered t.within t.start t.end j.first j.end in
    omega (arith, h.0, c.start_of-start.ensures)

pub overflow_sub-result-3 : goal.overflow_sub-result-3
overflow_sub-result-3 g c =
    let r = c.requires in
    let cs = c.args.chunks.now in
    let t = c.touched-first.ensures in
    let j = c.joined-first.ensures in
    let h = place_facts (λ v. v.items) cs c.args.a c.args.b c.touched-first.result.0 c.touched-first.result.1 c.joined-first.result.0 c.joined-first.result.1 r.range.ordered r.range.within t.ordered t.within t.start t.end j.first j.end in
    omega (arith, h.0, c.start_of-start.ensures, r.range.ordered)

pub returns-clause-place : goal.returns-clause-place
returns-clause-place g c =
    let r = c.requires in
    let cs = c.args.chunks.now in
    let t = c.touched-first.ensures in
    let j = c.joined-first.ensures in
    let h = place_facts (λ v. v.items) cs c.args.a c.args.b c.touched-first.result.0 c.touched-first.result.1 c.joined-first.result.0 c.joined-first.result.1 r.range.ordered r.range.within t.ordered t.within t.start t.end j.first j.end in
    record {
      ordered = omega (arith, t.ordered, j.first, j.end);
      within = j.within;
      count = omega (arith, h.2, c.start_of-start.ensures, c.start_of-3.ensures);
      range = record { ordered = omega (arith, r.range.ordered); within = omega (arith, h.0, h.1, c.start_of-start.ensures, c.start_of-3.ensures) };
    }

pub returns-clause-from : goal.returns-clause-from
returns-clause-from g c =
    let r = c.requires in
    let cs = c.args.chunks.now in
    let t = c.touched-first.ensures in
    let j = c.joined-first.ensures in
    let h = place_facts (λ v. v.items) cs c.args.a c.args.b c.touched-first.result.0 c.touched-first.result.1 c.joined-first.result.0 c.joined-first.result.1 r.range.ordered r.range.within t.ordered t.within t.start t.end j.first j.end in
    omega (arith, h.0, c.start_of-start.ensures)

pub returns-clause-to : goal.returns-clause-to
returns-clause-to g c =
    let r = c.requires in
    let cs = c.args.chunks.now in
    let t = c.touched-first.ensures in
    let j = c.joined-first.ensures in
    let h = place_facts (λ v. v.items) cs c.args.a c.args.b c.touched-first.result.0 c.touched-first.result.1 c.joined-first.result.0 c.joined-first.result.1 r.range.ordered r.range.within t.ordered t.within t.start t.end j.first j.end in
    omega (arith, h.0, c.start_of-start.ensures, r.range.ordered)
