use Rattle.std.proofs.Common.{ℕ, ◌++◌, ap, ◌∙◌}
use Rattle.yl_row.specs.Entries.{Stopped}
use Rattle.yl_scan.specs.Scanner.{is_halted, state_before}
use Rattle.yl_scan.specs.Step.{fault_above_at, step_value}
use Rattle.yl_dump.specs.StepLines.{step_lines}
use Rattle.yl_dump.proofs.Told.{fails_halts, line_prints}
use Rattle.yl_dump.proofs.lexemes.print_line.Goals as goal

pub returns-clause-printed : goal.returns-clause-printed
returns-clause-printed g c =
    line_prints c.args.page.now c.print_step.new.page c.args.scanner.now c.read_line.new.self c.take_back.new.self
    (step_value c.args.scanner.now.line (state_before c.args.scanner.now.stand) c.in_ok-step.step) c.in_ok-step.ensures.told
    (fails_halts (fault_above_at c.args.scanner.now.line) c.in_ok-step.step.failed (is_halted c.args.scanner.now.stand) (is_halted c.read_line.new.self.stand) c.in_ok-step.ensures.halts)
    c.take_back.ensures
    (c.in_ok-print_step.ensures ∙ ap (λ (line : ℕ). c.args.page.now ++ step_lines line (step_value line Stopped c.in_ok-step.step)) c.line-line.ensures)
