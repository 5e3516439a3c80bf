use Rattle.std.proofs.Common.{◌+◌, length, ap, sym, subst, ◌∙◌}
use Rattle.std.specs.Option.{ForSome}
use Rattle.std.specs.Str.{chars}
use Rattle.yl_scan.specs.Scanner.{state_before}
use Rattle.yl_scan.specs.Step.{step_value}
use Rattle.yl_record.specs.Parts.{LiesIn}
use Rattle.yl_record.specs.Recorded.{recorded_of}
use Rattle.yl_record.proofs.Fits.{ended_lies, failed_lies, keeps_on, row_entries, step_is}
use Rattle.yl_record.proofs.Joined.{fed_recorded}
use Rattle.yl_record.proofs.Put.{both_ok, on_ok}
use Rattle.yl_record.proofs.recorder.feed_row.Goals as goal

pub add_row-requires-clause-ended : goal.add_row-requires-clause-ended
add_row-requires-clause-ended g c =
    let s = c.args.scanner.now in
    let rs = c.args.records.now.items in
    let step = c.in_ok-step.step in
    subst (λ line. ForSome step.ended (λ e. LiesIn c.args.taken (length rs) line e.ago)) (sym c.line-line.ensures)
    (ended_lies rs c.args.taken s.line s.states s.stand step c.requires.keeps.kept c.in_ok-step.ensures.in_order.above c.in_ok-step.ensures.in_text.0)

pub add_row-requires-clause-failed : goal.add_row-requires-clause-failed
add_row-requires-clause-failed g c =
    let s = c.args.scanner.now in
    let rs = c.args.records.now.items in
    let step = c.in_ok-step.step in
    let row = chars c.args.text.now in
    subst (λ line. ForSome step.failed (λ f. LiesIn c.args.taken (length rs + 1) line f.ago)) (sym c.line-line.ensures)
    (failed_lies rs c.args.taken s.line s.states s.stand c.feed_text.new.self.stand row step (state_before s.stand) c.requires.keeps.line c.requires.keeps.kept
    (step_is s.line c.feed_text.new.self.line s.stand c.feed_text.new.self.stand row step (state_before s.stand) c.in_ok-step.ensures.line c.in_ok-step.ensures.told c.in_ok-step.ensures.in_order c.in_ok-step.ensures.halts) c.in_ok-step.ensures.in_text.1)

pub returns-clause-keeps : goal.returns-clause-keeps
returns-clause-keeps g c =
    let s = c.args.scanner.now in
    let rs = c.args.records.now.items in
    let rs' = c.add_row.new.records.items in
    let step = c.in_ok-step.step in
    let row = chars c.args.text.now in
    let b = state_before s.stand in
    on_ok c.add_row.result _ _ (both_ok c.add_row.result _ _ c.add_row.ensures.entries c.add_row.ensures.count)
    (λ h. keeps_on rs rs' c.args.taken s c.feed_text.new.self row (step_value s.line b step) c.requires.keeps
    (step_is s.line c.feed_text.new.self.line s.stand c.feed_text.new.self.stand row step b c.in_ok-step.ensures.line c.in_ok-step.ensures.told c.in_ok-step.ensures.in_order c.in_ok-step.ensures.halts)
    c.in_ok-step.ensures.line c.in_ok-step.ensures.states c.requires.few h.1 (row_entries rs rs' c.args.taken c.line-line.result s.line s.states step b c.line-line.ensures c.in_ok-step.ensures.state (h.0 b)))

pub returns-clause-told : goal.returns-clause-told
returns-clause-told g c =
    let s = c.args.scanner.now in
    let s' = c.feed_text.new.self in
    let rs = c.args.records.now.items in
    let rs' = c.add_row.new.records.items in
    let step = c.in_ok-step.step in
    let row = chars c.args.text.now in
    let b = state_before s.stand in
    on_ok c.add_row.result _ _ (both_ok c.add_row.result _ _ c.add_row.ensures.entries c.add_row.ensures.indentations)
    (λ h rows. ap (λ states. recorded_of rs' c.args.taken states s'.stand rows) c.in_ok-step.ensures.states
    ∙ fed_recorded rs rs' c.args.taken s.line s.states s.stand s'.stand row (step_value s.line b step) c.requires.keeps.line c.requires.keeps.kept
    (step_is s.line c.feed_text.new.self.line s.stand s'.stand row step b c.in_ok-step.ensures.line c.in_ok-step.ensures.told c.in_ok-step.ensures.in_order c.in_ok-step.ensures.halts)
    (row_entries rs rs' c.args.taken c.line-line.result s.line s.states step b c.line-line.ensures c.in_ok-step.ensures.state (h.0 b)) h.1 rows)
