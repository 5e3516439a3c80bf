use Rattle.std.proofs.Common.{◌≡◌, ℕ, inr, List, [], refl, ap, ◌∙◌, arith}
use Rattle.std.specs.List.{splice}
use Rattle.std.proofs.lemmas.List.{take-append-drop}
use Rattle.yl_sections.specs.Kept.{KeptValue}
use Rattle.yl_rejudge.proofs.rejudging.rejudge.Goals as goal

-- nothing in place of nothing
nothing_put : (ks ns : List KeptValue) (n : ℕ) → ns ≡ [] → splice ks n n ns ≡ ks
nothing_put ks ns n e = ap (splice ks n n) e ∙ take-append-drop n ks

pub returns-then-branch-clause-kept : goal.returns-then-branch-clause-kept
returns-then-branch-clause-kept g c =
    nothing_put c.args.kept.now.items c.new.result.items c.section_of-begin.result.section c.new.ensures.items ∙ (c.requires.kept ∙ c.in_ok-keep_sections.ensures c.if-branch.true)

pub returns-then-branch-clause-documents : goal.returns-then-branch-clause-documents
returns-then-branch-clause-documents g c = λ h m l. omega arith

pub returns-then-branch-clause-around : goal.returns-then-branch-clause-around
returns-then-branch-clause-around g c =
    let held = c.is_in_section.ensures.0 c.if-is_in_section.true in
    inr (record {
      none = c.new.ensures.items;
      same = refl;
      rows = omega arith;
      holds = record { there = held.0; first = omega (arith, c.section_of-begin.ensures.at, c.section_of-begin.ensures.row); last = held.1 };
    })
