use Rattle.std.proofs.Common.{[], ap, sym, subst, ◌∙◌, eqb}
use Rattle.yl_scan.specs.Remaining.{remaining_output}
use Rattle.yl_lexeme.specs.Known.{new_row}
use Rattle.yl_lexeme.specs.Surroundings.{surroundings_value}
use Rattle.yl_scan.specs.Scanner.{ScannerValue, EndsOpen, begun_at}
use Rattle.yl_scan.specs.Step.{BeginsInText, at_end, step_value}
use Rattle.yl_scan.proofs.scanner.Scanner.finish.Goals as goal

pub returns-clause-in_text : goal.returns-clause-in_text
returns-clause-in_text g c = subst (λ (v : ScannerValue). BeginsInText v.line c.in_ok-step.step) c.self.view_is c.in_ok-step.ensures.in_text

pub returns-clause-in_order : goal.returns-clause-in_order
returns-clause-in_order g c =
    let s = c.self.inside in
    subst (λ (v : ScannerValue). EndsOpen v.line (begun_at v.stand) c.in_ok-step.step) c.self.view_is (c.in_ok-step.ensures.in_order (eqb s.line 0) (new_row (surroundings_value s.surroundings)))

pub returns-clause-told : goal.returns-clause-told
returns-clause-told g c = λ s.
    let inside = c.self.inside in
    ap (λ (v : ScannerValue). remaining_output v.line v.stand []) (sym c.self.view_is)
    ∙ c.in_ok-step.ensures.told s (eqb inside.line 0) (new_row (surroundings_value inside.surroundings))
    ∙ ap (λ (v : ScannerValue). at_end (step_value v.line s c.in_ok-step.step)) c.self.view_is
