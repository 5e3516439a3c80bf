use Rattle.std.proofs.Common.{◌≡◌, ℕ, List, sym, subst, ◌∙◌, ap}
use Rattle.yl_text.specs.Lines.{RowValue}
use Rattle.yl_text.proofs.Computed.{lines_of-is}
use Rattle.yl_config.specs.declared.config.Config.{Config}
use Rattle.yl_report.specs.Report.{ProblemValue}
use Rattle.yl_lint.specs.Laws.{OneReport}
use Rattle.yl_lint.specs.TextReport.{IsReport}
use Rattle.yl_session.specs.State.{SessionValue, Shows}
use Rattle.yl_session.proofs.session.one_state.Goals as goal

abbrev state : Config → List RowValue → List ProblemValue → SessionValue
state c rows problems = record { config = c; rows = rows; problems = problems }

equal : (c d : Config) (ps qs : List RowValue) (xs ys : List ProblemValue) → c ≡ d → ps ≡ qs → xs ≡ ys → state c ps xs ≡ state d qs ys
equal c d ps qs xs ys e f g = ap (λ (o : Config). state o ps xs) e ∙ ap (λ (o : List RowValue). state d o xs) f ∙ ap (λ (o : List ProblemValue). state d qs o) g

-- two that show a text have its lines and the one report of these
same : OneReport → (c : Config) (text : List ℕ) (s t : SessionValue) → Shows c text s → Shows c text t → s ≡ t
same one c text s t h k =
    let rows : s.rows ≡ t.rows = sym (lines_of-is text s.rows h.lines) ∙ lines_of-is text t.rows k.lines in
    let told : IsReport c t.rows s.problems = subst (λ (ps : List RowValue). IsReport c ps s.problems) rows h.problems in
    equal s.config t.config s.rows t.rows s.problems t.problems (h.config ∙ sym k.config) rows (one c t.rows s.problems t.problems told k.problems)

pub returns : goal.returns
returns c = same c.one_report.ensures.one
