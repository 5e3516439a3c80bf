use Rattle.std.proofs.Common.{rules, tests, arith, ◌≤◌, ◌∙◌, ap, length, map, ℕ, Bool}
use Rattle.std.specs.Prelude.{◌==◌}
use Rattle.std.proofs.lemmas.Iterator.Consumers.{YieldsList-at, YieldsList-end, YieldsList-turn}
use Rattle.std.proofs.lemmas.Iterator.Splits.{YieldsList-from_slice_split}
use Rattle.yl_cli.proofs.command.words_of.Goals as goal

abbrev is_space : ℕ → Bool
is_space c = c == 0x20

-- where the words that are there already are as many as a command has, there is one more
pub returns-then-is_err : goal.returns-then-is_err
returns-then-is_err c =
    let turn = YieldsList-turn (YieldsList-at c.into_iter-word-iterator.ensures.into_iter_gives
    (YieldsList-from_slice_split _ is_space c.args.line.now c.split-word-items.ensures.rest c.split-word-items.ensures.done c.split-word-items.ensures.closure (λ x r q k. search (rules, tests))))
    c.loop-word.yielded c.loop-word.word-iterator c.loop-word.yielded_by c.next.result c.next.new.self c.in-Some.word c.in-Some.is c.next.ensures.steps in
    let full : 6 ≤ length c.loop-word.words.items = search rules in
    let same = ap length c.loop-word.invariant in
    omega (arith, turn.0, full, same)

pub returns : goal.returns
returns c =
    let seen = YieldsList-end (YieldsList-at c.into_iter-word-iterator.ensures.into_iter_gives
    (YieldsList-from_slice_split _ is_space c.args.line.now c.split-word-items.ensures.rest c.split-word-items.ensures.done c.split-word-items.ensures.closure (λ x r q k. search (rules, tests))))
    c.loop-word.yielded c.loop-word.word-iterator c.loop-word.yielded_by c.next.result c.next.new.self c.in-None.is c.next.ensures.steps in
    ap (map (λ word. word.now)) c.loop-word.invariant ∙ seen.0
