use Rattle.std.proofs.Common.{◌≡◌, ℕ, List, [], ◌∷◌, length, take, ◌∙◌, sym, ap, arith, length-append}
use Rattle.std.proofs.lemmas.Iterator.{YieldsList-from_chars}
use Rattle.std.proofs.lemmas.Iterator.Consumers.{YieldsList-so_far, YieldsList-turn, YieldsList-end}
use Rattle.std.proofs.lemmas.List.{map-id, take_all}
use Rattle.std.specs.Str.{chars, encode_utf8_all}
use Rattle.yl_text.proofs.Columns.{longer, still_within}
use Rattle.yl_text.proofs.places.walk_one_by_one.Goals as goal

pub returns-then-left-eq0-clause-byte : goal.returns-then-left-eq0-clause-byte
returns-then-left-eq0-clause-byte c =
    let xs = c.loop-c.yielded in
    let road = YieldsList-from_chars c.args.text.now c.utf8.text cc in
    let front = sym (map-id xs) ∙ YieldsList-so_far road xs _ c.loop-c.yielded_by in
    let all : length xs ≡ c.args.characters = omega (arith, c.loop-c.invariant.1) in
    c.loop-c.invariant.0 ∙ ap (λ (l : List ℕ). length (encode_utf8_all l)) front ∙ ap (λ (k : ℕ). length (encode_utf8_all (take k (chars c.args.text.now)))) all

pub returns-then-left-eq0-clause-left : goal.returns-then-left-eq0-clause-left
returns-then-left-eq0-clause-left c =
    let xs = c.loop-c.yielded in
    let road = YieldsList-from_chars c.args.text.now c.utf8.text cc in
    let turn = YieldsList-turn road xs _ c.loop-c.yielded_by _ _ c.in-Some.c c.in-Some.is c.next.ensures.steps in
    omega (arith, c.loop-c.invariant.1, turn.0)

pub overflow_add-byte : goal.overflow_add-byte
overflow_add-byte c =
    let xs = c.loop-c.yielded in
    let road = YieldsList-from_chars c.args.text.now c.utf8.text cc in
    let front = sym (map-id xs) ∙ YieldsList-so_far road xs _ c.loop-c.yielded_by in
    let turn = YieldsList-turn road xs _ c.loop-c.yielded_by _ _ c.in-Some.c c.in-Some.is c.next.ensures.steps in
    let within = still_within c.args.text.now xs c.in-Some.c c.utf8.text front turn.0 turn.1 in
    record { fits = omega (arith, within, c.loop-c.invariant.0, c.len_utf8-byte.ensures.value) }

pub loop-c-preserved : goal.loop-c-preserved
loop-c-preserved c = (omega (arith, longer c.loop-c.yielded c.in-Some.c, c.loop-c.invariant.0, c.len_utf8-byte.ensures.value), omega (arith, c.loop-c.invariant.1, length-append c.loop-c.yielded (c.in-Some.c ∷ [])))

pub returns-clause-byte : goal.returns-clause-byte
returns-clause-byte c =
    let xs = c.loop-c.yielded in
    let end = YieldsList-end (YieldsList-from_chars c.args.text.now c.utf8.text cc) xs _ c.loop-c.yielded_by _ _ c.in-None.is c.next.ensures.steps in
    let all : xs ≡ chars c.args.text.now = sym (map-id xs) ∙ end.0 in
    let whole : take c.args.characters (chars c.args.text.now) ≡ chars c.args.text.now = take_all c.args.characters (chars c.args.text.now) (omega (arith, c.loop-c.invariant.1, end.1)) in
    c.loop-c.invariant.0 ∙ ap (λ (l : List ℕ). length (encode_utf8_all l)) (all ∙ sym whole)

pub returns-clause-left : goal.returns-clause-left
returns-clause-left c =
    let xs = c.loop-c.yielded in
    let end = YieldsList-end (YieldsList-from_chars c.args.text.now c.utf8.text cc) xs _ c.loop-c.yielded_by _ _ c.in-None.is c.next.ensures.steps in
    omega (arith, c.loop-c.invariant.1, end.1)
