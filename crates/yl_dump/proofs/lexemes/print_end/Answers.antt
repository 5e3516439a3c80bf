use Rattle.std.proofs.Common.{◌≡◌, ℕ, ◌++◌, ap, sym, ◌∙◌}
use Rattle.yl_row.specs.Entries.{Stopped}
use Rattle.yl_scan.specs.Step.{at_end, step_value}
use Rattle.yl_dump.specs.StepLines.{failed_lines}
use Rattle.yl_dump.specs.Writing.{output_left}
use Rattle.yl_dump.proofs.Told.{on_ok, ended_page}
use Rattle.yl_dump.proofs.lexemes.print_end.Goals as goal

pub returns : goal.returns
returns g c =
    let t = step_value c.line-line.result Stopped c.in_ok-step.step in
    on_ok c.print_failed.result
    (λ (e : c.print_failed.new.page ≡ c.print_ended.new.page ++ failed_lines t.fault).
    ended_page c.args.page.now c.print_ended.new.page c.print_failed.new.page t (output_left c.args.scanner)
    (c.in_ok-step.ensures Stopped ∙ ap (λ (line : ℕ). at_end (step_value line Stopped c.in_ok-step.step)) (sym c.line-line.ensures)) c.in_ok-print_ended.ensures e)
    c.print_failed.ensures
