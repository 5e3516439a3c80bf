use Rattle.std.proofs.Common.{◌+◌, ◌<◌, ◌^◌, length, rules, ap, subst, sym, ◌∙◌, drop}
use Rattle.std.specs.Str.{chars}
use Rattle.std.proofs.lemmas.List.Elements.{All-get_or}
use Rattle.yl_text.specs.Lines.{RowValue}
use Rattle.yl_scan.specs.Output.{output_with_step, no_output}
use Rattle.yl_scan.specs.Scanner.{ScannerValue, state_before}
use Rattle.yl_scan.specs.Step.{at_end, BeginsInText, characters_of, step_value}
use Rattle.yl_scan.specs.Whole.{text_value_then, scanned_text_value}
use Rattle.yl_scan.proofs.Joined.{start_told, row_told_too, end_told_too, counts}
use Rattle.yl_scan.proofs.whole.scan.Goals as goal

pub loop-row-init : goal.loop-row-init
loop-row-init g c = record {
  line = ap (λ (s : ScannerValue). s.line) c.start_without_states-scanner.ensures;
  meter = search rules;
  told = start_told (scanned_text_value c.empty-scanned.result) c.start_without_states-scanner.result c.args.rows.now c.empty-scanned.ensures c.start_without_states-scanner.ensures;
}

pub feed-requires-clause-fits : goal.feed-requires-clause-fits
feed-requires-clause-fits g c =
    rw c.row-item.is (All-get_or (λ (row : RowValue). length (chars row.text) < 2 ^ 31) c.args.rows.now c.loop-row.row-index c.row-item.result c.loop-row-test.true c.requires.fits)

pub loop-row-preserved : goal.loop-row-preserved
loop-row-preserved g c =
    let s = c.loop-row.scanner in
    let step = c.in_ok-step.step in
    let rows = c.args.rows.now in
    record {
      line = c.in_ok-step.ensures.line ∙ ap (λ n. n + 1) c.loop-row.invariant.line;
      meter = counts c.loop-row.meter c.feed.new.meter c.args.meter.now c.loop-row.row-index c.in_ok-step.ensures.meter c.loop-row.invariant.meter;
      told = row_told_too (scanned_text_value c.loop-row.scanned) (scanned_text_value c.add_row.new.self) s.line (step_value s.line (state_before s.stand) step) s.stand c.feed.new.self rows c.loop-row.row-index c.row-item.result _
          c.loop-row-test.true c.row-item.is
          (c.in_ok-add_row.ensures (state_before s.stand) ∙ ap (λ line. text_value_then (scanned_text_value c.loop-row.scanned) (output_with_step line (step_value line (state_before s.stand) step) no_output)) c.line-line.ensures)
          (c.in_ok-step.ensures.told (characters_of (drop (c.loop-row.row-index + 1) rows)))
          c.loop-row.invariant.told;
    }

pub add_row-requires : goal.add_row-requires
add_row-requires g c = subst (λ line. BeginsInText line c.in_ok-step.step) (sym c.line-line.ensures) c.in_ok-step.ensures.in_text

pub add_end-requires : goal.add_end-requires
add_end-requires g c = subst (λ line. BeginsInText line c.in_ok-step-2.step) (sym c.line-line-2.ensures) c.in_ok-step-2.ensures.in_text

pub returns-clause-told : goal.returns-clause-told
returns-clause-told g c =
    let s = c.loop-row.scanner in
    let t = step_value s.line (state_before s.stand) c.in_ok-step-2.step in
    end_told_too (scanned_text_value c.loop-row.scanned) (scanned_text_value c.add_end.new.self) s.line t s.stand c.args.rows.now c.loop-row.row-index _ c.loop-row-test.false
    (c.in_ok-add_end.ensures (state_before s.stand) ∙ ap (λ line. text_value_then (scanned_text_value c.loop-row.scanned) (at_end (step_value line (state_before s.stand) c.in_ok-step-2.step))) c.line-line-2.ensures)
    (c.in_ok-step-2.ensures.told (state_before s.stand)) c.loop-row.invariant.told
