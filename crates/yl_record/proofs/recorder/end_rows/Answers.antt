use Rattle.std.proofs.Common.{length, ap, sym, subst, ◌∙◌}
use Rattle.std.specs.Option.{ForSome}
use Rattle.yl_scan.specs.Scanner.{state_before}
use Rattle.yl_scan.specs.Step.{step_value}
use Rattle.yl_record.specs.Parts.{LiesIn, entries_in, entries_with_end}
use Rattle.yl_record.proofs.Fits.{end_above, end_failed_lies, ended_lies}
use Rattle.yl_record.proofs.Joined.{ended_recorded}
use Rattle.yl_record.proofs.Put.{both_ok, on_ok}
use Rattle.yl_record.proofs.recorder.end_rows.Goals as goal

pub add_end-requires-clause-ended : goal.add_end-requires-clause-ended
add_end-requires-clause-ended g c =
    let s = c.args.scanner in
    let rs = c.args.records.now.items in
    let step = c.in_ok-step.step in
    subst (λ line. ForSome step.ended (λ e. LiesIn c.args.taken (length rs) line e.ago)) (sym c.line-line.ensures)
    (ended_lies rs c.args.taken s.line s.states s.stand step c.requires.kept c.in_ok-step.ensures.in_order c.in_ok-step.ensures.in_text.0)

pub add_end-requires-clause-failed : goal.add_end-requires-clause-failed
add_end-requires-clause-failed g c =
    let s = c.args.scanner in
    let rs = c.args.records.now.items in
    let step = c.in_ok-step.step in
    let b = state_before s.stand in
    subst (λ line. ForSome step.failed (λ f. LiesIn c.args.taken (length rs) line f.ago)) (sym c.line-line.ensures)
    (end_failed_lies rs c.args.taken s.line s.states s.stand step b c.requires.line c.requires.kept (c.in_ok-step.ensures.told b) c.in_ok-step.ensures.in_text.1)

pub returns : goal.returns
returns g c =
    let s = c.args.scanner in
    let rs = c.args.records.now.items in
    let rs' = c.add_end.new.records.items in
    let step = c.in_ok-step.step in
    let b = state_before s.stand in
    on_ok c.add_end.result _ _ (both_ok c.add_end.result _ _ c.add_end.ensures.entries c.add_end.ensures.indentations)
    (λ h. ended_recorded rs rs' c.args.taken s.line s.states s.stand (step_value s.line b step) c.requires.line c.requires.kept (c.in_ok-step.ensures.told b)
    (end_above s.line s.stand step b c.in_ok-step.ensures.in_order)
    (h.0 b ∙ ap (λ n. entries_with_end c.args.taken (step_value n b step) (entries_in rs)) c.line-line.ensures) h.1)
