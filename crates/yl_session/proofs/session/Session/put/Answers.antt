use Rattle.std.proofs.Common.{◌≡◌, ℕ, List, length, ap, subst, sym, ◌∙◌, ltb, Result, Ok, Err}
use Rattle.std.specs.Prelude.{OnOk}
use Rattle.std.specs.List.{splice}
use Rattle.yl_text.specs.Lines.{RowValue, IsLines}
use Rattle.yl_text.specs.Store.{AreLines}
use Rattle.yl_text.specs.PutLines.{CanPutLines, put_text, inserted_rows, incoming_lines}
use Rattle.yl_text.proofs.Edited.{AreLines-edited}
use Rattle.yl_session.specs.State.{SessionValue, Shows}
use Rattle.yl_lint.specs.Computed.{ReportIsComputed, report}
use Rattle.yl_lint.proofs.Reported.{is_report}
use Rattle.yl_config.specs.declared.config.Config.{Config}
use Rattle.yl_session.proofs.session.Session.put.Goals as goal

-- what the new rows are
arrives : (s : SessionValue) (ps ns : List RowValue) (a b n : ℕ) (t : List ℕ) → ps ≡ s.rows → AreLines ps → CanPutLines s.rows a b t → n ≡ length ps → ns ≡ incoming_lines (ltb b n) t
    → AreLines (splice s.rows a b ns) × IsLines (put_text s.rows a b t) (splice s.rows a b ns)
arrives s ps ns a b n t e h can l i =
    let P : List RowValue → Type 0 = λ qs. AreLines qs in
    let is : ns ≡ inserted_rows s.rows b t = i ∙ ap (λ (k : ℕ). incoming_lines (ltb b k) t) (l ∙ ap length e) in
    let R : List RowValue → Type 0 = λ qs. AreLines (splice s.rows a b qs) × IsLines (put_text s.rows a b t) (splice s.rows a b qs) in
    subst R (sym is) (AreLines-edited s.rows a b t (subst P e h) can)

-- where it is done, both hold
both : {E R : Type 0} {P Q S : Type 0} (r : Result R E) → OnOk r P → OnOk r Q → (P → Q → S) → OnOk r S
both (Ok x) p q f = f p q
both (Err e) p q f = tt

-- what is shown then
shown : (s u : SessionValue) (a b : ℕ) (t : List ℕ) (ns : List RowValue) → u.config ≡ s.config → IsLines (put_text s.rows a b t) (splice s.rows a b ns) → u.rows ≡ splice s.rows a b ns → u.problems ≡ report u.config u.rows → ReportIsComputed → Shows s.config (put_text s.rows a b t) u
shown s u a b t ns config lines rows problems computed =
    let P : List RowValue → Type 0 = λ ps. IsLines (put_text s.rows a b t) ps in
    record { config = config; lines = subst P (sym rows) lines; problems = is_report s.config u.rows u.problems (computed s.config u.rows) (problems ∙ ap (λ (o : Config). report o u.rows) config) }

pub change-requires-clause-lines : goal.change-requires-clause-lines
change-requires-clause-lines g c =
    let rows = ap (λ (s : SessionValue). s.rows) c.self.view_is in
    (arrives c.args.self.now (g.S.Lines.rows c.self.inside.store) c.in-Ok.rows.items c.args.a c.args.b c.len.result c.args.bytes.now rows c.self.invariant.0 c.requires c.len.ensures c.in-Ok.ensures).0

pub returns-clause-ok : goal.returns-clause-ok
returns-clause-ok g c =
    let rows = ap (λ (s : SessionValue). s.rows) c.self.view_is in
    let h = arrives c.args.self.now (g.S.Lines.rows c.self.inside.store) c.in-Ok.rows.items c.args.a c.args.b c.len.result c.args.bytes.now rows c.self.invariant.0 c.requires c.len.ensures c.in-Ok.ensures in
    let u = c.change.new.self in
    both c.change.result c.change.ensures.rows c.change.ensures.problems (λ is told. shown c.args.self.now u c.args.a c.args.b c.args.bytes.now c.in-Ok.rows.items c.change.ensures.config h.1 is told c.one_report.ensures.computed)
