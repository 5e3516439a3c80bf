use Rattle.std.proofs.Common.{◌+◌, List, [], ◌∷◌, ◌++◌, append-nil, map, drop, ap, arith, subst, sym, ◌∙◌}
use Rattle.yl_lexeme.specs.PlacedComments.{placed_comment_value}
use Rattle.yl_summary.specs.Overview.{AreOverviews}
use Rattle.yl_summary.specs.declared.overview.Overview.{Overview}
use Rattle.yl_found.proofs.Gathering.{all_said, behind, head_of, none_gathered, none_said, tail_of}
use Rattle.yl_found.proofs.comments.comments_upto.Goals as goal

pub returns-then-is_silent : goal.returns-then-is_silent
returns-then-is_silent g c = ap (map placed_comment_value) c.none-gathered.ensures.comments ∙ sym (none_said c.args.survey.now.sections c.args.count 0 (c.is_silent.ensures c.args.survey.now.sections c.requires.survey.all c.if-is_silent.true))

pub loop-upper-init : goal.loop-upper-init
loop-upper-init g c =
    let s = c.args.survey.now in
    let none = c.none-gathered.ensures in
    record {
      gathered = none_gathered s.sections c.args.count c.none-gathered.result none.comments none.section none.row;
      rest = subst (λ n. AreOverviews (drop n s.sections) (s.above.now ++ s.near ∷ s.below.now)) (sym none.section) c.requires.survey.parts;
    }

pub go_on-requires-clause-known : goal.go_on-requires-clause-known
go_on-requires-clause-known g c =
    let s = c.args.survey.now in (head_of s.sections s.above.now (s.near ∷ s.below.now) c.loop-upper.upper-index c.loop-upper.gathered.section c.loop-upper-test.true c.loop-upper.invariant.rest).0

pub loop-upper-preserved : goal.loop-upper-preserved
loop-upper-preserved g c =
    let s = c.args.survey.now in
    let i = c.loop-upper.upper-index in
    let done = c.in_ok-go_on.ensures in
    record {
      gathered = done.gathered;
      rest =
          subst (λ n. AreOverviews (drop n s.sections) (drop (i + 1) s.above.now ++ s.near ∷ s.below.now)) (sym done.section)
          (head_of s.sections s.above.now (s.near ∷ s.below.now) i c.loop-upper.gathered.section c.loop-upper-test.true c.loop-upper.invariant.rest).1;
    }

pub go_on-requires-2-clause-known : goal.go_on-requires-2-clause-known
go_on-requires-2-clause-known g c =
    let s = c.args.survey.now in (tail_of s.sections s.above.now (s.near ∷ s.below.now) c.loop-upper.upper-index c.loop-upper.gathered.section (omega (arith, c.loop-upper-test.false)) c.loop-upper.invariant.rest).0

pub loop-lower-init : goal.loop-lower-init
loop-lower-init g c =
    let s = c.args.survey.now in
    let n = c.loop-upper.gathered.section in
    let near = tail_of s.sections s.above.now (s.near ∷ s.below.now) c.loop-upper.upper-index n (omega (arith, c.loop-upper-test.false)) c.loop-upper.invariant.rest in
    let done = c.in_ok-go_on-2.ensures in
    record {
      gathered = done.gathered;
      rest =
          subst (λ m. AreOverviews (drop m s.sections) (s.below.now ++ [])) (sym done.section)
          (subst (λ (os : List Overview). AreOverviews (drop (n + s.near.sections) s.sections) os) (sym (append-nil s.below.now)) (behind s.sections s.near n s.below.now near.1));
    }

pub go_on-requires-in-loop-lower-clause-known : goal.go_on-requires-in-loop-lower-clause-known
go_on-requires-in-loop-lower-clause-known g c =
    let s = c.args.survey.now in (head_of s.sections s.below.now [] c.loop-lower.lower-index c.loop-lower.gathered.section c.loop-lower-test.true c.loop-lower.invariant.rest).0

pub loop-lower-preserved : goal.loop-lower-preserved
loop-lower-preserved g c =
    let s = c.args.survey.now in
    let i = c.loop-lower.lower-index in
    let done = c.in_ok-go_on-3.ensures in
    record {
      gathered = done.gathered;
      rest =
          subst (λ n. AreOverviews (drop n s.sections) (drop (i + 1) s.below.now ++ [])) (sym done.section)
          (head_of s.sections s.below.now [] i c.loop-lower.gathered.section c.loop-lower-test.true c.loop-lower.invariant.rest).1;
    }

pub returns : goal.returns
returns g c =
    let s = c.args.survey.now in
    all_said s.sections c.loop-lower.gathered.section c.args.count (map placed_comment_value c.loop-lower.gathered.comments.items)
    (tail_of s.sections s.below.now [] c.loop-lower.lower-index c.loop-lower.gathered.section (omega (arith, c.loop-lower-test.false)) c.loop-lower.invariant.rest) c.loop-lower.invariant.gathered.comments
