use Rattle.std.proofs.Common.{◌≡◌, List, [], arith, sym, subst, ◌∙◌}
use Rattle.std.specs.Vec.{vec_len}
use Rattle.std.proofs.lemmas.Bool.{eqb-true}
use Rattle.yl_sections.specs.Kept.{KeptValue}
use Rattle.yl_summary.specs.Overview.{AreFew}
use Rattle.yl_session.proofs.Changed.{ends_one, ends_some, itself, no_items, touches_one, touches_some, were_some}
use Rattle.yl_session.proofs.renewing.section_edit.Goals as goal

pub items_from-requires : goal.items_from-requires
items_from-requires g c =
    let new = c.args.new.now in
    let none : new.kept.items ≡ [] = no_items new.kept.items (omega (arith, eqb-true (vec_len new.kept) 0 (sym c.is_empty.ensures ∙ c.if-is_empty.true), new.kept.ok.0)) in
    (c.requires.stay none).1

pub new-requires-clause-few_then : goal.new-requires-clause-few_then
new-requires-clause-few_then g c =
    let ks = c.args.known.now.kept.items in
    let new = c.args.new.now in
    let none : new.kept.items ≡ [] = no_items new.kept.items (omega (arith, eqb-true (vec_len new.kept) 0 (sym c.is_empty.ensures ∙ c.if-is_empty.true), new.kept.ok.0)) in
    let there = c.requires.stay none in
    let same = itself ks c.items_from.result.now c.split_at.result.0.now new.kept.items new.from new.end there.1 there.0 c.items_from.ensures.some c.items_from.ensures.items c.split_at.ensures.front none in
    subst (λ (ls : List KeptValue). AreFew ls) (sym same) c.requires.few_then

pub returns-then-is_empty-clause-is : goal.returns-then-is_empty-clause-is
returns-then-is_empty-clause-is g c =
    let ks = c.args.known.now.kept.items in
    let new = c.args.new.now in
    let none : new.kept.items ≡ [] = no_items new.kept.items (omega (arith, eqb-true (vec_len new.kept) 0 (sym c.is_empty.ensures ∙ c.if-is_empty.true), new.kept.ok.0)) in
    record {
      sections = c.new.ensures.sections;
      from_is = c.new.ensures.from;
      end_is = c.new.ensures.end ∙ ends_one new.from new.end new.kept.items none;
      kept = c.new.ensures.kept ∙ touches_one ks c.items_from.result.now c.split_at.result.0.now new.kept.items new.from c.items_from.ensures.some c.items_from.ensures.items c.split_at.ensures.front none;
    }

pub returns-then-is_empty-clause-same : goal.returns-then-is_empty-clause-same
returns-then-is_empty-clause-same g c =
    let ks = c.args.known.now.kept.items in
    let new = c.args.new.now in
    let none : new.kept.items ≡ [] = no_items new.kept.items (omega (arith, eqb-true (vec_len new.kept) 0 (sym c.is_empty.ensures ∙ c.if-is_empty.true), new.kept.ok.0)) in
    let there = c.requires.stay none in
    let same = itself ks c.items_from.result.now c.split_at.result.0.now new.kept.items new.from new.end there.1 there.0 c.items_from.ensures.some c.items_from.ensures.items c.split_at.ensures.front none in
    rw (c.new.ensures.from, c.new.ensures.end, c.new.ensures.kept) same

pub returns-clause-is : goal.returns-clause-is
returns-clause-is g c =
    let ks = c.args.known.now.kept.items in
    let new = c.args.new.now in
    let some = were_some new.kept.items (vec_len new.kept) c.is_empty.result (omega (arith, new.kept.ok.0)) c.is_empty.ensures c.if-is_empty.false in
    record {
      sections = c.new-2.ensures.sections;
      from_is = c.new-2.ensures.from;
      end_is = c.new-2.ensures.end ∙ ends_some new.from new.end new.kept.items some;
      kept = c.new-2.ensures.kept ∙ (c.as_slice.ensures.value ∙ touches_some ks new.kept.items new.from some);
    }
