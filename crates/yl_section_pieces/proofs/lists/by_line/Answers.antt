use Rattle.std.proofs.Common.{◌≡◌, ◌≤◌, ◌∙◌, Bor, List, length, map, arith, subst, rules}
use Rattle.std.specs.Prelude.{IsPermutation}
use Rattle.std.proofs.lemmas.List.{take_all}
use Rattle.std.proofs.lemmas.List.Sorted.{IsNonDecreasingBy-from_sort_by_key, IsPermutation-map}
use Rattle.yl_text.specs.Finding.{FindingValue}
use Rattle.yl_section_pieces.proofs.CutLoops.{sorted_map}
use Rattle.yl_section_pieces.proofs.lists.by_line.Goals as goal

pub returns-clause-same : goal.returns-clause-same
returns-clause-same g c =
    let now = λ (f : Bor FindingValue). f.now in
    let past : length c.args.found.now ≤ c.loop-finding.finding-index = omega arith in
    let all : map now c.loop-finding.sorted.items ≡ c.args.found.now = c.loop-finding.invariant ∙ take_all c.loop-finding.finding-index c.args.found.now past in
    let after = c.sort_unstable_by_key.new.self.items in
    subst (λ (fs : List FindingValue). IsPermutation fs (map now after)) all (IsPermutation-map now c.loop-finding.sorted.items after c.sort_unstable_by_key.ensures.permutation)

pub returns-clause-sorted : goal.returns-clause-sorted
returns-clause-sorted g c =
    let now = λ (f : Bor FindingValue). f.now in
    let after = c.sort_unstable_by_key.new.self.items in
    sorted_map now (λ (f : FindingValue). f.line) after (IsNonDecreasingBy-from_sort_by_key (λ (f : Bor FindingValue). f.now.line) after c.sort_unstable_by_key.ensures.sorted (λ a r q k. search rules))
