use Rattle.std.proofs.Common.{◌≡◌, ◌-◌, ℕ, List, length, take, arith, sym, ◌∙◌}
use Rattle.std.specs.Vec.{vec_len}
use Rattle.yl_text.specs.Lines.{RowValue, lines_of}
use Rattle.yl_text.proofs.Computed.{lines_of-is}
use Rattle.yl_text_tests.proofs.stores.incoming.Goals as goal
use Rattle.yl_text_tests.proofs.stores.incoming.Goals.{then-before+in-Some+in-Short-1, then-before+in-Some+in-Long-1, then-before+in-None-1, else-before}

without_last : (ps all : List RowValue) (n : ℕ) → ps ≡ all → n ≡ length ps → take (n - 1) ps ≡ take (length all - 1) all
without_last ps all n e l = rw (l, e)

pub returns : goal.returns
returns g c =
    let rows = c.in_ok-rows.rows in
    let is : rows.items ≡ lines_of c.args.bytes.now = sym (lines_of-is c.args.bytes.now rows.items c.in_ok-rows.ensures.lines) in
    let n : vec_len rows ≡ length rows.items = omega arith in
    elim c.if-before.branch [
      | then-before+in-Some+in-Short-1 w ↦ rw (w.rows-is, w.if-before.true) (w.pop.ensures.rest ∙ without_last rows.items (lines_of c.args.bytes.now) (vec_len rows) is n)
      | then-before+in-Some+in-Long-1 w ↦ rw (w.rows-is, w.if-before.true) (w.pop.ensures.rest ∙ without_last rows.items (lines_of c.args.bytes.now) (vec_len rows) is n)
      | then-before+in-None-1 w ↦ rw (w.rows-is, w.if-before.true) (w.pop.ensures.rest ∙ without_last rows.items (lines_of c.args.bytes.now) (vec_len rows) is n)
      | else-before w ↦ rw (w.rows-is, w.if-before.false) is
    ]
