use Rattle.std.proofs.Common.{◌≡◌, map, ap, ◌∙◌, arith}
use Rattle.std.specs.List.{prefix_len, splice}
use Rattle.yl_report.specs.Report.{ProblemValue}
use Rattle.std.proofs.Common.{List, ℕ}
use Rattle.std.proofs.lemmas.List.Sums.{prefix_len-le-length}
use Rattle.yl_problem_lists.specs.Parts.{behind, is_upto, shifted}
use Rattle.yl_problem_lists.proofs.Lines.{length_shifted, length_spliced, spliced, upto_more}
use Rattle.yl_problem_lists.proofs.shifting.put_lines.Goals as goal

-- where the counts are those of the lists
from_is : (ps qs : List ProblemValue) (n m k : ℕ) → k ≡ prefix_len (is_upto m) qs → m ≡ n → qs ≡ ps → k ≡ prefix_len (is_upto n) ps
from_is ps qs n m k e d h = e ∙ (ap (λ i. prefix_len (is_upto i) qs) d ∙ ap (prefix_len (is_upto n)) h)

pub put_between-requires-clause-range : goal.put_between-requires-clause-range
put_between-requires-clause-range g c =
    let ps = c.args.problems.now.items in
    let from = from_is ps c.deref.result.now c.args.first c.from.result c.count_upto-from.result c.count_upto-from.ensures.count c.from.ensures c.deref.ensures.value in
    let end = from_is ps c.deref-2.result.now c.args.old_end c.from-2.result c.count_upto-end.result c.count_upto-end.ensures.count c.from-2.ensures c.deref-2.ensures.value in
    let m = prefix_len (is_upto c.args.old_end) ps in
    let within = prefix_len-le-length (is_upto c.args.old_end) ps in
    let more = upto_more c.args.first c.args.old_end ps c.requires.lines in
    let long = length_shifted (shifted c.args.old_end c.args.new_end) ps c.shift_behind.new.problems.items m within c.shift_behind.ensures.items in
    record { ordered = omega (arith, from, end, more); within = omega (arith, end, within, long, c.shift_behind.new.problems.ok.0) }

pub returns-clause-items : goal.returns-clause-items
returns-clause-items g c =
    let ps = c.args.problems.now.items in
    let ns = c.args.new.now.items in
    let from = from_is ps c.deref.result.now c.args.first c.from.result c.count_upto-from.result c.count_upto-from.ensures.count c.from.ensures c.deref.ensures.value in
    let end = from_is ps c.deref-2.result.now c.args.old_end c.from-2.result c.count_upto-end.result c.count_upto-end.ensures.count c.from-2.ensures c.deref-2.ensures.value in
    let n = prefix_len (is_upto c.args.first) ps in
    let m = prefix_len (is_upto c.args.old_end) ps in
    c.put_between.ensures.items
    ∙ (ap (λ (k : ℕ). splice c.shift_behind.new.problems.items k c.count_upto-end.result ns) from
    ∙ (ap (λ (k : ℕ). splice c.shift_behind.new.problems.items n k ns) end
    ∙ spliced ps (map (shifted c.args.old_end c.args.new_end) (behind c.args.old_end ps)) ns c.shift_behind.new.problems.items n m (upto_more c.args.first c.args.old_end ps c.requires.lines) (prefix_len-le-length (is_upto c.args.old_end) ps)
    c.shift_behind.ensures.items))

pub returns-clause-len : goal.returns-clause-len
returns-clause-len g c =
    let ps = c.args.problems.now.items in
    let ns = c.args.new.now.items in
    let long = length_spliced (shifted c.args.old_end c.args.new_end) ps ns c.put_between.new.problems.items (prefix_len (is_upto c.args.first) ps) (prefix_len (is_upto c.args.old_end) ps) (upto_more c.args.first c.args.old_end ps c.requires.lines)
    (prefix_len-le-length (is_upto c.args.old_end) ps) (returns-clause-items g c) in
    omega (arith, long, c.put_between.new.problems.ok.0, c.args.problems.now.ok.0, c.args.new.now.ok.0)
