use Rattle.std.proofs.Common.{◌≡◌, ◌≤◌, ℕ, List, [], ◌∷◌, ◌++◌, length, map, take, ap, ◌∙◌, subst, arith, suc}
use Rattle.std.proofs.lemmas.Iterator.Consumers.{YieldsList-end, YieldsList-turn}
use Rattle.std.proofs.lemmas.Iterator.Adapters.{YieldsList-from_vec}
use Rattle.std.proofs.lemmas.List.{length-append, length-map, take_all}
use Rattle.yl_sections.specs.Judge.{kept_of_section}
use Rattle.yl_sections.specs.Kept.{KeptValue}
use Rattle.yl_record.specs.Records.{RecordValue}
use Rattle.yl_sections.specs.Local.{row_total}
use Rattle.yl_sections.specs.Sections.{sections}
use Rattle.yl_section_pieces.specs.Sections.{AreKeptSections}
use Rattle.yl_piece_list.proofs.SectionsCut.{cut_more, next_at}
use Rattle.yl_piece_list.proofs.cutting.cut_sections.Goals as goal

pub end_of-next-requires : goal.end_of-next-requires
end_of-next-requires g c =
    let given = c.into_iter-kept-iterator.ensures.into_iter_gives in
    let turn = YieldsList-turn (YieldsList-from_vec {s = c.into_iter-kept-iterator.result} c.args.judged.items given.0 (given.1 ∙ c.args.judged.ok.0))
    c.loop-kept.yielded c.loop-kept.kept-iterator c.loop-kept.yielded_by c.next.result c.next.new.self c.in-Some.kept c.in-Some.is c.next.ensures.steps in
    let next = next_at c.args.config.now (map (λ r. r.now) c.args.rows.now) c.args.judged.items (length c.loop-kept.yielded) c.loop-kept.row c.in-Some.kept c.requires c.loop-kept.invariant.row turn.0 turn.1 in
    omega (arith, next.fits, length-map c.args.rows.now (λ r. r.now))

pub pieces_at-requires : goal.pieces_at-requires
pieces_at-requires g c =
    let given = c.into_iter-kept-iterator.ensures.into_iter_gives in
    let turn = YieldsList-turn (YieldsList-from_vec {s = c.into_iter-kept-iterator.result} c.args.judged.items given.0 (given.1 ∙ c.args.judged.ok.0))
    c.loop-kept.yielded c.loop-kept.kept-iterator c.loop-kept.yielded_by c.next.result c.next.new.self c.in-Some.kept c.in-Some.is c.next.ensures.steps in
    let next = next_at c.args.config.now (map (λ r. r.now) c.args.rows.now) c.args.judged.items (length c.loop-kept.yielded) c.loop-kept.row c.in-Some.kept c.requires c.loop-kept.invariant.row turn.0 turn.1 in
    omega (arith, next.fits, length-map c.args.rows.now (λ r. r.now))

pub loop-kept-preserved : goal.loop-kept-preserved
loop-kept-preserved g c =
    let given = c.into_iter-kept-iterator.ensures.into_iter_gives in
    let turn = YieldsList-turn (YieldsList-from_vec {s = c.into_iter-kept-iterator.result} c.args.judged.items given.0 (given.1 ∙ c.args.judged.ok.0))
    c.loop-kept.yielded c.loop-kept.kept-iterator c.loop-kept.yielded_by c.next.result c.next.new.self c.in-Some.kept c.in-Some.is c.next.ensures.steps in
    let rs : List RecordValue = map (λ r. r.now) c.args.rows.now in
    let n : ℕ = length c.loop-kept.yielded in
    let next = next_at c.args.config.now rs c.args.judged.items n c.loop-kept.row c.in-Some.kept c.requires c.loop-kept.invariant.row turn.0 turn.1 in
    let long : suc n ≡ length (c.loop-kept.yielded ++ c.in-Some.kept ∷ []) = omega (arith, length-append c.loop-kept.yielded (c.in-Some.kept ∷ [])) in
    record {
      row = c.end_of-next.ensures ∙ (next.next ∙ ap (λ m. row_total (take m (sections rs))) long);
      cut = subst (λ m. AreKeptSections c.args.config.now (take m (sections rs)) c.append.new.self.items) long
          (cut_more c.args.config.now rs n c.loop-kept.row c.in-Some.kept c.loop-kept.pieces.items c.in_ok-own.own.items c.append.new.self.items next c.loop-kept.invariant.cut c.in_ok-own.ensures c.in_ok-append.ensures.items);
    }

pub returns : goal.returns
returns g c =
    let given = c.into_iter-kept-iterator.ensures.into_iter_gives in
    let seen = YieldsList-end (YieldsList-from_vec {s = c.into_iter-kept-iterator.result} c.args.judged.items given.0 (given.1 ∙ c.args.judged.ok.0))
    c.loop-kept.yielded c.loop-kept.kept-iterator c.loop-kept.yielded_by c.next.result c.next.new.self c.in-None.is c.next.ensures.steps in
    let rs : List RecordValue = map (λ r. r.now) c.args.rows.now in
    let count = ap (λ (js : List KeptValue). length js) c.requires ∙ length-map (sections rs) (kept_of_section c.args.config.now) in
    let all : length (sections rs) ≤ length c.loop-kept.yielded = omega (arith, seen.1, count) in
    subst (λ (ss : List (List RecordValue)). AreKeptSections c.args.config.now ss c.loop-kept.pieces.items) (take_all (length c.loop-kept.yielded) (sections rs) all) c.loop-kept.invariant.cut
