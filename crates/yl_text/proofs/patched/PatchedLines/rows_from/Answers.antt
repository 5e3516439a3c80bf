use Rattle.std.proofs.Common.{◌≡◌, ◌≤◌, ◌+◌, ◌∙◌, ap, sym, arith, length, take, drop}
use Rattle.std.proofs.lemmas.List.{take-take, take_rest, length-take-le, drop-append-le}
use Rattle.std.proofs.Math.Seq.{take-append_seam}
use Rattle.std.specs.List.{splice}
use Rattle.yl_text.proofs.Together.{in_front, from_place, behind}
use Rattle.yl_text.proofs.patched.PatchedLines.rows_from.Goals as goal

pub returns-in-None : goal.returns-in-None
returns-in-None g c =
    let xs = g.S.Lines.rows c.self.inside.lines.now in
    let new = c.self.inside.rows.now in
    let a = c.self.inside.a in
    let b = c.self.inside.b in
    let i = c.args.i in
    let n = c.min-before.result in
    let run = c.rows_from-rows.result.now in
    let before = c.in-None.ensures in
    let least = c.min-before.ensures in
    let some : n ≤ length run = omega (arith, least) in
    ap (λ m. take m (drop i c.args.self.now)) (length-take-le n run some)
    ∙ ap (λ u. take n (drop i u)) (sym c.self.view_is)
    ∙ in_front xs new a b i n (omega (arith, least, before)) (omega (arith, c.self.invariant))
    ∙ sym (take-take n (length run) (drop i xs) some)
    ∙ ap (take n) c.rows_from-rows.ensures

pub returns-in-Some : goal.returns-in-Some
returns-in-Some g c =
    let xs = g.S.Lines.rows c.self.inside.lines.now in
    let new = c.self.inside.rows.now in
    let a = c.self.inside.a in
    let b = c.self.inside.b in
    let i = c.args.i in
    let k = c.in-Some.behind in
    let here : i ≡ a + k = omega (arith, c.in-Some.ensures) in
    let rest = take_rest new k in
    ap (λ t. take (length t) (drop i c.args.self.now)) rest
    ∙ ap (λ u. take (length (drop k new)) (drop i u)) (sym c.self.view_is)
    ∙ ap (λ m. take (length (drop k new)) (drop m (splice xs a b new))) here
    ∙ ap (take (length (drop k new))) (from_place xs new a b k (omega (arith, c.self.invariant)) ∙ drop-append-le k new (drop b xs) (omega (arith, c.if-behind-self.true)))
    ∙ take-append_seam (drop k new) (drop b xs)
    ∙ sym rest

pub returns-in-Some-2 : goal.returns-in-Some-2
returns-in-Some-2 g c =
    let xs = g.S.Lines.rows c.self.inside.lines.now in
    let new = c.self.inside.rows.now in
    let a = c.self.inside.a in
    let b = c.self.inside.b in
    let i = c.args.i in
    let k = c.in-Some.behind in
    let here : i ≡ a + k = omega (arith, c.in-Some.ensures) in
    let n = length c.rows_from.result.now in
    ap (λ u. take n (drop i u)) (sym c.self.view_is)
    ∙ ap (λ m. take n (drop m (splice xs a b new))) here
    ∙ ap (take n) (behind xs new a b k (omega (arith, c.self.invariant)) c.if-behind-self.false ∙ ap (λ m. drop m xs) (omega arith))
    ∙ c.rows_from.ensures
