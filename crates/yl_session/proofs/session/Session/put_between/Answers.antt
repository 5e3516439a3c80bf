use Rattle.std.proofs.Common.{ℕ, List, ap, subst, sym}
use Rattle.yl_text.specs.Lines.{RowValue}
use Rattle.yl_text.specs.Store.{AreLines}
use Rattle.yl_text.specs.PutLines.{IsLineEdit}
use Rattle.yl_session.specs.State.{SessionValue}
use Rattle.yl_session.proofs.Between.{shown_between, work_between}
use Rattle.yl_session.proofs.session.Session.put_between.Goals as goal

pub put-requires : goal.put-requires
put-requires g c =
    let rows = ap (λ (s : SessionValue). s.rows) c.self.view_is in
    let e = c.in_ok-lines.lines in
    let P : List RowValue → Type 0 = λ ps. IsLineEdit ps c.args.from c.args.to c.args.bytes.now e.first e.end e.bytes.items in
    let Q : List ℕ → Type 0 = λ t. IsLineEdit c.args.self.now.rows c.args.from c.args.to c.args.bytes.now e.first e.end t in
    let is = subst Q (sym c.as_slice.ensures.value) (subst P rows c.in_ok-lines.ensures) in is.can

pub returns-clause-ok : goal.returns-clause-ok
returns-clause-ok g c =
    let rows = ap (λ (s : SessionValue). s.rows) c.self.view_is in
    let e = c.in_ok-lines.lines in
    let P : List RowValue → Type 0 = λ ps. IsLineEdit ps c.args.from c.args.to c.args.bytes.now e.first e.end e.bytes.items in
    let Q : List ℕ → Type 0 = λ t. IsLineEdit c.args.self.now.rows c.args.from c.args.to c.args.bytes.now e.first e.end t in
    let is = subst Q (sym c.as_slice.ensures.value) (subst P rows c.in_ok-lines.ensures) in
    shown_between c.args.self.now c.put.new.self c.args.from c.args.to c.args.bytes.now c.as_slice.result.now e.first e.end c.put.result is c.put.ensures.ok

pub returns-clause-work : goal.returns-clause-work
returns-clause-work g c =
    let rows = ap (λ (s : SessionValue). s.rows) c.self.view_is in
    let e = c.in_ok-lines.lines in
    let L : List RowValue → Type 0 = λ ps. AreLines ps in
    let P : List RowValue → Type 0 = λ ps. IsLineEdit ps c.args.from c.args.to c.args.bytes.now e.first e.end e.bytes.items in
    let Q : List ℕ → Type 0 = λ t. IsLineEdit c.args.self.now.rows c.args.from c.args.to c.args.bytes.now e.first e.end t in
    let is = subst Q (sym c.as_slice.ensures.value) (subst P rows c.in_ok-lines.ensures) in
    work_between c.args.self.now c.put.new.self c.args.from c.args.to c.args.bytes.now c.as_slice.result.now e.first e.end c.put.result (subst L rows c.self.invariant.0) is c.put.ensures.ok c.put.ensures.work
