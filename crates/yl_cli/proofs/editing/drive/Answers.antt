use Rattle.std.proofs.Common.{◌≡◌, ◌-◌, ◌^◌, ◌∙◌, sym, subst, rules, arith, inr, List, ℕ, Option, None}
use Rattle.std.specs.Io.KnownBytes.{Appends}
use Rattle.yl_text.specs.Watched.{device_of, failures_of}
use Rattle.yl_devices.specs.Written.{AppendsFront}
use Rattle.yl_session.specs.State.{Shows}
use Rattle.yl_session.specs.Runs.{text_after_all}
use Rattle.yl_devices.specs.Text.{without_mark}
use Rattle.yl_cli.specs.Reading.{SoFar}
use Rattle.yl_cli.proofs.Begun.{none_written}
use Rattle.yl_cli.proofs.Driven.{all_driven, answered_so_far, begun_more, begun_opened, from_err, from_ok, nothing_ahead, so_far_more, so_far_opened, stopped, text_shown}
use Rattle.yl_cli.proofs.editing.drive.Goals as goal

pub returns-in-Err-opened-clause-fault : goal.returns-in-Err-opened-clause-fault
returns-in-Err-opened-clause-fault g c = rw c.in-Err-opened.ensures.err (c.in-Ok.ensures.is_text, begun_opened c.one_report.ensures.computed _ _ _ _ _ _ _ _ (none_written _ _))

pub returns-then-is_err-clause-fault : goal.returns-then-is_err-clause-fault
returns-then-is_err-clause-fault g c =
    let shows : Shows c.args.config (without_mark c.args.text.now) c.in-Ok-opened.session = rw c.in-Ok.ensures.text at c.in-Ok-opened.ensures.shown in
    let failed = sym c.is_err.ensures.value ∙ c.if-is_err.true in (
      c.in-Ok.ensures.is_text,
      from_err c.show.result failed c.show.ensures.failed,
      begun_opened c.one_report.ensures.computed _ _ _ _ _ _ _ _ (subst (AppendsFront (g.W.Write.contents (device_of c.args.out.now)) (g.W.Write.contents (device_of c.show.new.out)))
          (text_shown c.args.config c.args.name.now c.args.flags (without_mark c.args.text.now) c.in-Ok-opened.session None shows) (from_err c.show.result failed c.show.ensures.err)),
    )

pub loop-init : goal.loop-init
loop-init g c =
    let shows : Shows c.args.config (without_mark c.args.text.now) c.in-Ok-opened.session = rw c.in-Ok.ensures.text at c.in-Ok-opened.ensures.shown in
    let written = sym c.is_err.ensures.value ∙ c.if-is_err.false in
    record {
      quiet_input = search rules;
      quiet_output = from_ok c.show.result written c.show.ensures.quiet;
      is_text = c.in-Ok.ensures.is_text;
      so_far = subst (λ (rest : Option (List ℕ)). SoFar 0 c.args.config c.args.name.now c.args.flags (without_mark c.args.text.now) (g.R.Read.remaining (device_of c.args.input.now)) rest
          (g.W.Write.contents (device_of c.args.out.now)) (g.W.Write.contents (device_of c.show.new.out)) c.in-Ok-opened.session)
          (sym (nothing_ahead c.new-ahead.result (g.R.Read.remaining (device_of c.args.input.now)) c.new-ahead.ensures))
          (so_far_opened _ _ _ _ _ _ _ _ shows (subst (Appends (g.W.Write.contents (device_of c.args.out.now)) (g.W.Write.contents (device_of c.show.new.out)))
          (text_shown c.args.config c.args.name.now c.args.flags (without_mark c.args.text.now) c.in-Ok-opened.session None shows) (from_ok c.show.result written c.show.ensures.ok)));
    }

pub returns-in-Ok-None-clause-done : goal.returns-in-Ok-None-clause-done
returns-in-Ok-None-clause-done g c =
    let end = rw c.in-Ok-None.field-0-is at c.in-Ok-None.ensures.none in
    all_driven c.one_report.ensures.one c.one_report.ensures.computed _ _ _ _ _ _ _ _ _ _ _ _ c.loop.invariant.so_far end.0 c.status.ensures

pub returns-in-Err-next_edit-clause-fault : goal.returns-in-Err-next_edit-clause-fault
returns-in-Err-next_edit-clause-fault g c =
    stopped c.one_report.ensures.computed c.in-Err-next_edit.fault _ c.args.config c.args.name.now c.args.flags c.args.text.now _ _ _ _ _ _
    (record {
      reads_before = failures_of c.args.input.now;
      reads_after = failures_of c.next_edit.new.input;
      writes_before = failures_of c.args.out.now;
      writes_after = failures_of c.loop.out;
    })
    c.loop.invariant.is_text c.loop.invariant.so_far (rw c.loop.invariant.quiet_input at c.in-Err-next_edit.ensures.fault) (λ e. c.in-Err-next_edit.ensures.command (cc)) (λ e. c.in-Err-next_edit.ensures.cut (cc))

pub returns-then-is_err-2-clause-fault : goal.returns-then-is_err-2-clause-fault
returns-then-is_err-2-clause-fault g c =
    let failed = sym c.is_err-in-loop.ensures.value ∙ c.if-is_err-2.true in
    let so_far = c.loop.invariant.so_far in
    let text = text_after_all (without_mark c.args.text.now) so_far.edits so_far.answers in (
      c.loop.invariant.is_text,
      rw c.loop.invariant.quiet_output at (from_err c.answer.result failed c.answer.ensures.failed),
      begun_more c.one_report.ensures.computed _ _ _ _ _ _ _ _ _ _ _ _ _ c.in-Ok-Some.edit so_far (rw c.in-Ok-Some.field-0-is at c.in-Ok-Some.ensures.some) (from_err c.answer.result failed c.answer.ensures.err c.args.config text so_far.replayed.shown),
    )

pub loop-preserved : goal.loop-preserved
loop-preserved g c =
    let written = sym c.is_err-in-loop.ensures.value ∙ c.if-is_err-2.false in
    let so_far = c.loop.invariant.so_far in
    let text = text_after_all (without_mark c.args.text.now) so_far.edits so_far.answers in
    record {
      quiet_input = c.in-Ok-Some.ensures.quiet ∙ c.loop.invariant.quiet_input;
      quiet_output = from_ok c.answer.result written c.answer.ensures.quiet ∙ c.loop.invariant.quiet_output;
      is_text = c.loop.invariant.is_text;
      so_far = so_far_more _ _ _ _ _ _ _ _ _ _ _ _ _ c.in-Ok-Some.edit so_far (rw c.in-Ok-Some.field-0-is at c.in-Ok-Some.ensures.some)
          (from_ok c.answer.result written c.answer.ensures.ok c.args.config text so_far.replayed.shown);
    }

pub returns-clause-fault : goal.returns-clause-fault
returns-clause-fault g c =
    let so_far = c.loop.invariant.so_far in
    let all : c.loop.counter ≡ 2 ^ 64 - 1 = omega (arith, c.loop-test.false, c.loop.auto.counter-end) in
    (c.loop.invariant.is_text, (answered_so_far c.one_report.ensures.computed _ _ _ _ _ _ _ _ _ _ _ so_far, inr (so_far.counted ∙ all)))
