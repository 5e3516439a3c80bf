use Rattle.std.proofs.Common.{ℕ, List, Err, ap, subst, refl}
use Rattle.yl_text.specs.declared.fault.TextFault.{TextFault}
use Rattle.yl_text.specs.declared.fault.TextFault.TheVariants.{NotUtf8, Range, TooLarge, Memory}
use Rattle.yl_text.specs.declared.position.Pos.{Pos}
use Rattle.yl_text.specs.Lines.{RowValue}
use Rattle.yl_text.specs.Store.{AreLines}
use Rattle.yl_text.specs.Edit.{IsEditFault, edited_text}
use Rattle.yl_session.specs.State.{SessionValue, Shows}
use Rattle.yl_session.specs.Runs.{IsAnswer, IsNothing}
use Rattle.yl_lint.proofs.Reported.{is_report}
use Rattle.yl_session.proofs.Nothing.{IsLines-nothing, IsEditFault-nothing}
use Rattle.yl_session.proofs.session.Session.edit.Goals as goal

refusal : (ps : List RowValue) (from to : Pos) (t : List ℕ) (f : TextFault) → IsEditFault ps from to t f → IsAnswer ps from to t (Err f)
refusal ps from to t (NotUtf8 n) h = h
refusal ps from to t Range h = h
refusal ps from to t TooLarge h = h
refusal ps from to t Memory h = absurd h

pub returns-in-Err-clause-answer : goal.returns-in-Err-clause-answer
returns-in-Err-clause-answer g c =
    let rows = ap (λ (s : SessionValue). s.rows) c.self.view_is in
    let P : List RowValue → Type 0 = λ ps. IsEditFault ps c.args.from c.args.to c.args.bytes.now c.in-Err.fault in
    refusal c.args.self.now.rows c.args.from c.args.to c.args.bytes.now c.in-Err.fault (subst P rows c.in-Err.ensures)

pub returns-in-Err-clause-nothing : goal.returns-in-Err-clause-nothing
returns-in-Err-clause-nothing g c = λ r n.
    let rows = ap (λ (s : SessionValue). s.rows) c.self.view_is in
    let P : List RowValue → Type 0 = λ ps. IsEditFault ps c.args.from c.args.to c.args.bytes.now c.in-Err.fault in
    let Q : List RowValue → Type 0 = λ ps. AreLines ps in
    absurd (IsEditFault-nothing c.args.self.now.rows c.args.from c.args.to c.args.bytes.now c.in-Err.fault (subst Q rows c.self.invariant.0) r n (subst P rows c.in-Err.ensures))

pub returns-then-is_nothing-clause-done : goal.returns-then-is_nothing-clause-done
returns-then-is_nothing-clause-done g c =
    let n : IsNothing (g.S.Lines.rows c.self.inside.store) c.args.from c.args.to c.args.bytes.now = c.if-is_nothing.ensures.0 refl in
    let config = c.self.inside.config in
    let rows = g.S.Lines.rows c.self.inside.store in
    let told = is_report config rows c.self.inside.found.shown.items (c.one_report.ensures.computed config rows) c.self.invariant.3 in
    let P : SessionValue → Type 0 = λ s. Shows s.config (edited_text s.rows c.args.from c.args.to c.args.bytes.now) s in
    subst P c.self.view_is (record { config = refl; lines = IsLines-nothing (g.S.Lines.rows c.self.inside.store) c.args.from c.args.to c.args.bytes.now c.self.invariant.0 n; problems = told })
