use Rattle.std.proofs.Common.{arith, rules, ◌≡◌, ℕ, ◌+◌, Bool, List, ◌++◌, ap, ◌∙◌, codes, decimal}
use Rattle.std.specs.Prelude.{if◌then◌else◌, None}
use Rattle.std.proofs.lemmas.Grind.{common_steps}
use Rattle.yl_scan.specs.Scanner.{state_before}
use Rattle.yl_scan.specs.Step.{state_by, step_value}
use Rattle.yl_dump.specs.StateLine.{line_text}
use Rattle.yl_dump.specs.Writing.{output_left}
use Rattle.yl_dump.proofs.Told.{on_ok, state_printed}
use Rattle.yl_dump.proofs.lines.print_line.Goals as goal

pub returns-clause-printed : goal.returns-clause-printed
returns-clause-printed g c =
    let s = c.args.scanner.now in
    let step = c.in_ok-step.step in
    let number : c.number.new.self ≡ c.args.page.now ++ decimal (s.line + 1) = first_of (cc, first_of (search rules, grind (arith, common_steps))) in
    let state : step.state ≡ state_by (state_before s.stand) step.sound =
    c.in_ok-step.ensures.state ∙ ap (λ (b : Bool). if b then state_by (state_before s.stand) step.sound else None) c.requires.states in
    let before : c.print_state.new.page ≡ (c.args.page.now ++ decimal (s.line + 1)) ++ line_text step.state = c.in_ok-print_state.ensures ∙ ap (λ (p : List ℕ). p ++ line_text step.state) number in
    on_ok c.text.result
    (λ (e : c.text.new.self ≡ c.print_state.new.page ++ codes "\n").
    state_printed c.args.page.now c.text.new.self s.line c.read_line.new.self.line step.state (step_value s.line (state_before s.stand) step) (output_left s) (output_left c.read_line.new.self)
    c.in_ok-step.ensures.told state c.in_ok-step.ensures.line (e ∙ ap (λ (p : List ℕ). p ++ codes "\n") before))
    c.text.ensures
