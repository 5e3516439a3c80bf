use Rattle.std.proofs.Common.{◌≡◌, ◌+◌, ◌≤◌, ◌++◌, List, length, map, take, drop, ap, arith, length-drop, ◌∙◌}
use Rattle.std.proofs.lemmas.List.{length-take}
use Rattle.yl_lexeme.specs.Lexeme.{PlacedCommentValue}
use Rattle.yl_lexeme.specs.PlacedComments.{placed_comment_value}
use Rattle.yl_found.proofs.Gathering.{none_put, some_said}
use Rattle.yl_found.proofs.Given.{then_ok}
use Rattle.yl_found.proofs.gathered.push_known.Goals as goal

pub returns-then-is_silent : goal.returns-then-is_silent
returns-then-is_silent g c =
    let ls = take c.args.one.sections (drop c.args.at c.args.sections.now) in none_put ls _ c.args.row (map placed_comment_value c.args.comments.now.items) (c.is_silent.ensures ls c.requires.known c.if-is_silent.true)

pub returns : goal.returns
returns g c =
    let ks = c.args.sections.now in
    let one = c.args.one in
    let s = one.silencing in
    let at = c.args.at in
    let known = c.requires.known.silencing in
    let few = c.requires.few.sections in
    let fits : at + length (take one.sections (drop at ks)) ≤ length ks = omega (arith, c.requires.at, length-take one.sections (drop at ks), length-drop at ks) in
    let from : c.saturating_add-from.result ≡ at + s.from = omega (arith, c.saturating_add-from.ensures, known.start.within, fits, few) in
    let stop : c.saturating_add-stop.result ≡ at + s.end = omega (arith, c.saturating_add-stop.ensures, known.within, fits, few) in
    then_ok c.push_among.result c.push_among.ensures (λ _ e.
    e
    ∙ ap (λ (cs : List PlacedCommentValue). map placed_comment_value c.args.comments.now.items ++ cs)
    (some_said ks s at one.sections c.args.count c.saturating_add-from.result c.min-end.result c.args.row c.in_ok-first.first known from (omega (arith, c.min-end.ensures)) (omega (arith, c.min-end.ensures, stop)) (λ l. omega (arith, l, c.min-end.ensures, stop)) c.in_ok-first.ensures))
