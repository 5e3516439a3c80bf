use Rattle.std.proofs.Common.{◌≡◌, ◌+◌, ◌≤◌, ℕ, List, [], ◌∷◌, ◌++◌, length, take, refl, sym, ap, ◌∙◌, arith, length-append}
use Rattle.std.proofs.lemmas.Iterator.{YieldsList, YieldsList-from_chars, YieldsList-from_take}
use Rattle.std.proofs.lemmas.Iterator.Consumers.{YieldsList-so_far, YieldsList-turn, YieldsList-end}
use Rattle.std.proofs.lemmas.List.{map-id, length-take, length_push}
use Rattle.std.specs.Str.{chars, encode_utf8_all}
use Rattle.yl_text.proofs.Columns.{longer}
use Rattle.yl_units.specs.Units.{units_of}
use Rattle.yl_units.proofs.Counting.{units-append, units_most}
use Rattle.yl_units.proofs.Rows.{next_within}
use Rattle.yl_units.proofs.walk.walk_over.Goals as goal

pub overflow_add-byte : goal.overflow_add-byte
overflow_add-byte c =
    let xs = c.loop-c.yielded in
    let all = take c.args.characters (chars c.args.text.now) in
    let road = YieldsList-from_take {s = c.into_iter-c-iterator.result} c.args.characters (YieldsList-from_chars c.args.text.now c.utf8.text cc) cc in
    let front = sym (map-id xs) ∙ YieldsList-so_far road xs _ c.loop-c.yielded_by in
    let turn = YieldsList-turn road xs _ c.loop-c.yielded_by _ _ c.in-Some.c c.in-Some.is c.next.ensures.steps in
    let within = next_within c.args.text.now all xs c.args.characters c.in-Some.c c.utf8.text refl front turn.0 turn.1 in
    record { fits = omega (arith, within, longer xs c.in-Some.c, c.loop-c.invariant.byte, c.len_utf8-byte.ensures.value) }

pub overflow_add-units : goal.overflow_add-units
overflow_add-units c =
    let xs = c.loop-c.yielded in
    let all = take c.args.characters (chars c.args.text.now) in
    let road = YieldsList-from_take {s = c.into_iter-c-iterator.result} c.args.characters (YieldsList-from_chars c.args.text.now c.utf8.text cc) cc in
    let front = sym (map-id xs) ∙ YieldsList-so_far road xs _ c.loop-c.yielded_by in
    let turn = YieldsList-turn road xs _ c.loop-c.yielded_by _ _ c.in-Some.c c.in-Some.is c.next.ensures.steps in
    let within = next_within c.args.text.now all xs c.args.characters c.in-Some.c c.utf8.text refl front turn.0 turn.1 in
    let more = units-append c.args.encoding xs (c.in-Some.c ∷ []) in
    record { fits = omega (arith, within, units_most c.args.encoding (xs ++ c.in-Some.c ∷ []), more, c.loop-c.invariant.units, c.width.ensures) }

pub loop-c-preserved : goal.loop-c-preserved
loop-c-preserved c =
    let xs = c.loop-c.yielded in
    record {
      walked = omega (arith, length_push xs c.in-Some.c, c.loop-c.invariant.walked);
      byte = omega (arith, longer xs c.in-Some.c, c.loop-c.invariant.byte, c.len_utf8-byte.ensures.value);
      units = omega (arith, units-append c.args.encoding xs (c.in-Some.c ∷ []), c.loop-c.invariant.units, c.width.ensures);
    }

pub returns-clause-characters : goal.returns-clause-characters
returns-clause-characters c =
    let xs = c.loop-c.yielded in
    let road = YieldsList-from_take {s = c.into_iter-c-iterator.result} c.args.characters (YieldsList-from_chars c.args.text.now c.utf8.text cc) cc in
    let end = YieldsList-end road xs _ c.loop-c.yielded_by _ _ c.in-None.is c.next.ensures.steps in
    c.loop-c.invariant.walked ∙ end.1 ∙ length-take c.args.characters (chars c.args.text.now)

pub returns-clause-byte : goal.returns-clause-byte
returns-clause-byte c =
    let xs = c.loop-c.yielded in
    let road = YieldsList-from_take {s = c.into_iter-c-iterator.result} c.args.characters (YieldsList-from_chars c.args.text.now c.utf8.text cc) cc in
    let end = YieldsList-end road xs _ c.loop-c.yielded_by _ _ c.in-None.is c.next.ensures.steps in
    c.loop-c.invariant.byte ∙ ap (λ (l : List ℕ). length (encode_utf8_all l)) (sym (map-id xs) ∙ end.0)

pub returns-clause-units : goal.returns-clause-units
returns-clause-units c =
    let xs = c.loop-c.yielded in
    let road = YieldsList-from_take {s = c.into_iter-c-iterator.result} c.args.characters (YieldsList-from_chars c.args.text.now c.utf8.text cc) cc in
    let end = YieldsList-end road xs _ c.loop-c.yielded_by _ _ c.in-None.is c.next.ensures.steps in
    c.loop-c.invariant.units ∙ ap (λ (l : List ℕ). units_of c.args.encoding l) (sym (map-id xs) ∙ end.0)
