use Rattle.std.proofs.Common.{◌≡◌, ℕ, true, false, eqb, List, length, take, sym, ap, ◌∙◌, arith}
use Rattle.std.proofs.lemmas.Bool.Decides.{nat_tests}
use Rattle.std.proofs.lemmas.Iterator.{YieldsList-from_chars, YieldsList-from_take}
use Rattle.std.proofs.lemmas.Iterator.Consumers.{YieldsList-turn, YieldsList-end}
use Rattle.std.proofs.lemmas.List.{length-take, length_push}
use Rattle.std.specs.Str.{chars}
use Rattle.yl_lsp.specs.Words.{ends_word, without_colon}
use Rattle.yl_lsp.proofs.Spans.{push_colon, push_other, run_ends, run_goes, run_done}
use Rattle.yl_lsp.proofs.range.word_len.Goals as goal

pub returns-then-ends_word : goal.returns-then-ends_word
returns-then-ends_word c =
    let text = c.args.text.now in
    let all = take 256 (chars text) in
    let xs = c.loop-c.yielded in
    let road = YieldsList-from_take {s = c.into_iter-c-iterator.result} 256 (YieldsList-from_chars text c.utf8.text cc) cc in
    let turn = YieldsList-turn road xs _ c.loop-c.yielded_by _ _ c.in-Some.c c.in-Some.is c.next.ensures.steps in
    let ends : ends_word c.in-Some.c ≡ true = sym c.ends_word.ensures ∙ c.if-ends_word.true in
    c.loop-c.invariant.kept ∙ ap (λ (l : List ℕ). length (without_colon l)) (sym (run_ends all xs c.in-Some.c turn ends c.loop-c.invariant.rest))

pub overflow_add-next : goal.overflow_add-next
overflow_add-next c =
    let text = c.args.text.now in
    let all = take 256 (chars text) in
    let xs = c.loop-c.yielded in
    let road = YieldsList-from_take {s = c.into_iter-c-iterator.result} 256 (YieldsList-from_chars text c.utf8.text cc) cc in
    let turn = YieldsList-turn road xs _ c.loop-c.yielded_by _ _ c.in-Some.c c.in-Some.is c.next.ensures.steps in
    record { fits = omega (arith, turn.0, length-take 256 (chars text), c.loop-c.invariant.len) }

pub loop-c-preserved-then-c-eq58 : goal.loop-c-preserved-then-c-eq58
loop-c-preserved-then-c-eq58 c =
    let text = c.args.text.now in
    let all = take 256 (chars text) in
    let xs = c.loop-c.yielded in
    let road = YieldsList-from_take {s = c.into_iter-c-iterator.result} 256 (YieldsList-from_chars text c.utf8.text cc) cc in
    let turn = YieldsList-turn road xs _ c.loop-c.yielded_by _ _ c.in-Some.c c.in-Some.is c.next.ensures.steps in
    let x = c.in-Some.c in
    let goes : ends_word x ≡ false = sym c.ends_word.ensures ∙ c.if-ends_word.false in
    let colon : eqb x 58 ≡ true = let h = c.if-c-eq58.true in grind (arith, nat_tests) in
    record {
      len = omega (arith, length_push xs x, c.loop-c.invariant.len);
      kept = omega (arith, push_colon xs x colon, c.loop-c.invariant.len);
      rest = run_goes all xs x turn goes c.loop-c.invariant.rest;
    }

pub loop-c-preserved : goal.loop-c-preserved
loop-c-preserved c =
    let text = c.args.text.now in
    let all = take 256 (chars text) in
    let xs = c.loop-c.yielded in
    let road = YieldsList-from_take {s = c.into_iter-c-iterator.result} 256 (YieldsList-from_chars text c.utf8.text cc) cc in
    let turn = YieldsList-turn road xs _ c.loop-c.yielded_by _ _ c.in-Some.c c.in-Some.is c.next.ensures.steps in
    let x = c.in-Some.c in
    let goes : ends_word x ≡ false = sym c.ends_word.ensures ∙ c.if-ends_word.false in
    let other : eqb x 58 ≡ false = let h = c.if-c-eq58.false in grind (arith, nat_tests) in
    record {
      len = omega (arith, length_push xs x, c.loop-c.invariant.len);
      kept = omega (arith, push_other xs x other, c.loop-c.invariant.len);
      rest = run_goes all xs x turn goes c.loop-c.invariant.rest;
    }

pub returns : goal.returns
returns c =
    let text = c.args.text.now in
    let all = take 256 (chars text) in
    let xs = c.loop-c.yielded in
    let road = YieldsList-from_take {s = c.into_iter-c-iterator.result} 256 (YieldsList-from_chars text c.utf8.text cc) cc in
    let end = YieldsList-end road xs _ c.loop-c.yielded_by _ _ c.in-None.is c.next.ensures.steps in
    c.loop-c.invariant.kept ∙ ap (λ (l : List ℕ). length (without_colon l)) (sym (run_done all xs (omega (arith, end.1)) c.loop-c.invariant.rest))
