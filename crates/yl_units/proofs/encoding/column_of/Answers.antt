use Rattle.std.proofs.Common.{◌≡◌, ◌+◌, ◌-◌, ◌<◌, ◌≤◌, ℕ, length, drop, ap, ◌∙◌, arith}
use Rattle.std.proofs.lemmas.Iterator.{YieldsList-from_chars}
use Rattle.std.proofs.lemmas.Iterator.Consumers.{YieldsList-turn, YieldsList-end}
use Rattle.std.proofs.lemmas.List.{at_drop_all, length_push}
use Rattle.std.specs.Str.{chars}
use Rattle.yl_units.specs.Units.{width_of, column_of}
use Rattle.yl_units.proofs.Counting.{column_stop, column_step}
use Rattle.yl_units.proofs.encoding.column_of.Goals as goal

pub returns-then-left-width : goal.returns-then-left-width
returns-then-left-width c =
    let e = c.args.encoding in
    let cs = chars c.args.line.now in
    let t = YieldsList-turn (YieldsList-from_chars c.args.line.now c.utf8.line cc) c.loop-c.yielded _ c.loop-c.yielded_by _ _ c.in-Some.c c.in-Some.is c.next.ensures.steps in
    let few : c.loop-c.left < width_of e c.in-Some.c = omega (arith, c.width-width.ensures, c.if-left-width.true) in
    let none = ap (λ (n : ℕ). column_of e (drop n cs) c.loop-c.left) c.loop-c.invariant.0 ∙ column_stop e cs (length c.loop-c.yielded) c.in-Some.c c.loop-c.left t few in
    omega (arith, none, c.loop-c.invariant.1)

pub loop-c-preserved : goal.loop-c-preserved
loop-c-preserved c =
    let e = c.args.encoding in
    let cs = chars c.args.line.now in
    let n = length c.loop-c.yielded in
    let t = YieldsList-turn (YieldsList-from_chars c.args.line.now c.utf8.line cc) c.loop-c.yielded _ c.loop-c.yielded_by _ _ c.in-Some.c c.in-Some.is c.next.ensures.steps in
    let enough : width_of e c.in-Some.c ≤ c.loop-c.left = omega (arith, c.width-width.ensures, c.if-left-width.false) in
    let here = ap (λ (k : ℕ). column_of e (drop k cs) c.loop-c.left) c.loop-c.invariant.0 in
    let step = column_step e cs n c.in-Some.c c.loop-c.left t enough in
    let next = ap (λ (k : ℕ). column_of e (drop (k + 1) cs) (c.loop-c.left - c.width-width.result)) c.loop-c.invariant.0 ∙ ap (λ (w : ℕ). column_of e (drop (n + 1) cs) (c.loop-c.left - w)) c.width-width.ensures in
    (omega (arith, length_push c.loop-c.yielded c.in-Some.c, c.loop-c.invariant.0), omega (arith, here, step, next, c.loop-c.invariant.1))

pub returns : goal.returns
returns c =
    let t = YieldsList-end (YieldsList-from_chars c.args.line.now c.utf8.line cc) c.loop-c.yielded _ c.loop-c.yielded_by _ _ c.in-None.is c.next.ensures.steps in
    omega (arith, at_drop_all (λ l. column_of c.args.encoding l c.loop-c.left) (chars c.args.line.now) c.loop-c.column (omega (arith, t.1, c.loop-c.invariant.0)), c.loop-c.invariant.1)
