use Rattle.std.proofs.Common.{inl, inr, rules, ap, sym, refl, ◌∙◌, ◌+◌, ◌-◌, [], Option, None, false, arith}
use Rattle.yl_scalar.specs.Reader.{extent_at}
use Rattle.yl_lexeme.specs.Known.{new_row}
use Rattle.yl_lexeme.specs.Surroundings.{surroundings_value}
use Rattle.yl_row.specs.Reader.{scalar_reader_value, value_of, reader_step_value}
use Rattle.yl_row.specs.Entries.{LineStateValue, state_of}
use Rattle.yl_lexeme.specs.Known.{context_of}
use Rattle.yl_scan.specs.Output.{StepValue, output_with_step}
use Rattle.yl_scan.specs.Remaining.{Within, Halted, output_with_lexeme_above, remaining_output}
use Rattle.yl_scan.specs.Scanner.{begun_at, scalar_lexeme, phase_value}
use Rattle.yl_scan.proofs.Feed.{carry_on, carry_ends, carry_above}
use Rattle.yl_scan.proofs.Stepping.{not_first, carry_fails, goes_under_way, ends_within, ended_within, with_ended, with_failed}
use Rattle.yl_scan.proofs.Stepping.{is_above, not_below, ends_open, next_here}
use Rattle.yl_scan.proofs.feeding.within_row.Goals as goal

pub scalar_lexeme-requires-clause-place : goal.scalar_lexeme-requires-clause-place
scalar_lexeme-requires-clause-place g c =
    ends_within c.args.line c.args.begun c.args.scalar.at (scalar_reader_value c.args.scalar.reader) c.args.row.now c.requires.under_way c.requires.fits
    (extent_at c.in-EndsIn.place (value_of c.in_ok-reader.reader)) c.ranges.line.fits (sym c.in_ok-reader.ensures.line ∙ ap (λ l. reader_step_value l c.in_ok-reader.reader) c.in-EndsIn.is)

pub scalar_lexeme-requires-in-EndedAbove-clause-place : goal.scalar_lexeme-requires-in-EndedAbove-clause-place
scalar_lexeme-requires-in-EndedAbove-clause-place g c =
    ended_within c.args.line c.args.begun c.args.scalar.at (scalar_reader_value c.args.scalar.reader) c.args.row.now c.requires.under_way c.requires.fits
    (extent_at c.in-EndedAbove.place (value_of c.in_ok-reader.reader)) c.ranges.line.fits (sym c.in_ok-reader.ensures.line ∙ ap (λ l. reader_step_value l c.in_ok-reader.reader) c.in-EndedAbove.is)

pub returns-in-GoesOn-clause-told : goal.returns-in-GoesOn-clause-told
returns-in-GoesOn-clause-told g c = λ rows.
    let s = c.args.scalar in
    let k = new_row (surroundings_value c.args.surroundings.now) in
    let way = c.requires.under_way in
    carry_on c.args.line c.args.begun s.style s.at k c.args.row.now rows refl way.above (scalar_reader_value s.reader) (scalar_reader_value c.in_ok-reader.reader) way.rows way.spaces
    (sym c.in_ok-reader.ensures.line ∙ ap (λ l. reader_step_value l c.in_ok-reader.reader) c.in-GoesOn.is)
    ∙ ap (λ t. output_with_step c.args.line t (remaining_output (c.args.line + 1) (Within c.args.begun s.style s.at (scalar_reader_value c.in_ok-reader.reader) k) rows)) (sym (c.silent.ensures.told c.args.line (state_of (context_of (surroundings_value c.args.surroundings.now)))))

pub returns-in-GoesOn-clause-in_step : goal.returns-in-GoesOn-clause-in_step
returns-in-GoesOn-clause-in_step g c =
    goes_under_way c.args.line c.args.begun c.args.scalar.at (scalar_reader_value c.args.scalar.reader) c.args.row.now c.requires.under_way c.requires.fits (scalar_reader_value c.in_ok-reader.reader)
    (sym c.in_ok-reader.ensures.line ∙ ap (λ l. reader_step_value l c.in_ok-reader.reader) c.in-GoesOn.is)

pub returns-in_ok-step-in-EndsIn-clause-told : goal.returns-in_ok-step-in-EndsIn-clause-told
returns-in_ok-step-in-EndsIn-clause-told g c = λ rows.
    let s = c.args.scalar in
    let k = new_row (surroundings_value c.args.surroundings.now) in
    let way = c.requires.under_way in
    let value = value_of c.in_ok-reader.reader in
    let x = scalar_lexeme s.style s.at c.in-EndsIn.place value in
    let o = remaining_output (c.args.line + 1) (phase_value false (new_row (surroundings_value c.read_on.new.surroundings)) c.read_on.new.resting) rows in
    carry_ends c.args.line c.args.begun s.style s.at k c.args.row.now rows refl way.above (scalar_reader_value s.reader) (extent_at c.in-EndsIn.place value) way.rows way.spaces
    (sym c.in_ok-reader.ensures.line ∙ ap (λ l. reader_step_value l c.in_ok-reader.reader) c.in-EndsIn.is)
    ∙ ap (output_with_lexeme_above c.args.line c.args.begun x) (c.in_ok-step-in-EndsIn.ensures.told (state_of (context_of (surroundings_value c.args.surroundings.now))) rows)
    ∙ with_ended c.args.line c.args.begun (omega (arith, way.above)) (state_of (context_of (surroundings_value c.args.surroundings.now))) c.in_ok-step-in-EndsIn.step _ x o c.in_ok-step-in-EndsIn.ensures.fresh refl c.in_ok-lexeme-in-EndsIn.ensures

pub returns-in_ok-step-in-EndedAbove-clause-told : goal.returns-in_ok-step-in-EndedAbove-clause-told
returns-in_ok-step-in-EndedAbove-clause-told g c = λ rows.
    let s = c.args.scalar in
    let k = new_row (surroundings_value c.args.surroundings.now) in
    let way = c.requires.under_way in
    let value = value_of c.in_ok-reader.reader in
    let x = scalar_lexeme s.style s.at c.in-EndedAbove.place value in
    let o = remaining_output (c.args.line + 1) (phase_value false (new_row (surroundings_value c.fresh_row.new.surroundings)) c.fresh_row.new.resting) rows in
    carry_above c.args.line c.args.begun s.style s.at k c.args.row.now rows refl way.above (scalar_reader_value s.reader) (extent_at c.in-EndedAbove.place value) way.rows way.spaces
    (sym c.in_ok-reader.ensures.line ∙ ap (λ l. reader_step_value l c.in_ok-reader.reader) c.in-EndedAbove.is)
    ∙ ap (output_with_lexeme_above c.args.line c.args.begun x) (not_first c.args.line c.in-EndedAbove.place.column k c.args.row.now rows (omega (arith, way.above)) ∙ c.in_ok-step-in-EndedAbove.ensures.told rows)
    ∙ with_ended c.args.line c.args.begun (omega (arith, way.above)) (state_of (context_of (surroundings_value c.args.surroundings.now))) c.in_ok-step-in-EndedAbove.step _ x o c.in_ok-step-in-EndedAbove.ensures.fresh refl c.in_ok-lexeme-in-EndedAbove.ensures

pub returns-in-Fails-clause-told : goal.returns-in-Fails-clause-told
returns-in-Fails-clause-told g c = λ rows.
    let s = c.args.scalar in
    let k = new_row (surroundings_value c.args.surroundings.now) in
    let way = c.requires.under_way in
    carry_fails c.args.line c.args.begun s.style s.at k c.args.row.now rows way.above (scalar_reader_value s.reader) c.in-Fails.fault c.in-Fails.place.down c.in-Fails.place.column way.rows way.spaces
    (sym c.in_ok-reader.ensures.line ∙ ap (λ l. reader_step_value l c.in_ok-reader.reader) c.in-Fails.is)
    ∙ with_failed c.args.line c.args.begun (omega (arith, way.above)) (state_of (context_of (surroundings_value c.args.surroundings.now))) c.silent-step.result c.scalar_failed.result _ _ (remaining_output (c.args.line + 1) (Halted false 0) rows) (c.silent-step.ensures.told c.args.line (state_of (context_of (surroundings_value c.args.surroundings.now))) ∙ ap (λ (state : Option LineStateValue). let t : StepValue = record { above = None; lexemes = []; comment = None; state = state; fault = None } in t) (c.stopped_if.ensures (state_of (context_of (surroundings_value c.args.surroundings.now)))))
    (ap (λ f. f.ago) c.scalar_failed.ensures) (ap (λ f. f.fault) c.scalar_failed.ensures)

pub returns-in-GoesOn-clause-in_order : goal.returns-in-GoesOn-clause-in_order
returns-in-GoesOn-clause-in_order g c = λ k. record {
  above = λ e is. absurd (search (rules, c.silent.ensures.fresh));
  next = inr ((λ s. c.silent.ensures.told c.args.line s), refl);
}

pub returns-in_ok-step-in-EndsIn-clause-in_order : goal.returns-in_ok-step-in-EndsIn-clause-in_order
returns-in_ok-step-in-EndsIn-clause-in_order g c = λ k. record {
  above = ends_open c.args.line c.args.begun c.in_ok-step-in-EndsIn.step (record { ago = c.args.line - c.args.begun; lexeme = c.in_ok-lexeme-in-EndsIn.lexeme }) c.requires.under_way.above refl;
  next = inl (next_here c.args.line (begun_at (phase_value false k c.read_on.new.resting)) c.in_ok-step-in-EndsIn.step (c.in_ok-step-in-EndsIn.ensures.in_order None k));
}

pub returns-in_ok-step-in-EndsIn-clause-in_text : goal.returns-in_ok-step-in-EndsIn-clause-in_text
returns-in_ok-step-in-EndsIn-clause-in_text g c =
    (is_above c.args.line c.args.begun (record { ago = c.args.line - c.args.begun; lexeme = c.in_ok-lexeme-in-EndsIn.lexeme }) c.requires.under_way.above refl, not_below c.args.line c.in_ok-step-in-EndsIn.step.failed c.in_ok-step-in-EndsIn.ensures.here)

pub returns-in_ok-step-in-EndedAbove-clause-in_order : goal.returns-in_ok-step-in-EndedAbove-clause-in_order
returns-in_ok-step-in-EndedAbove-clause-in_order g c = λ k. record {
  above = ends_open c.args.line c.args.begun c.in_ok-step-in-EndedAbove.step (record { ago = c.args.line - c.args.begun; lexeme = c.in_ok-lexeme-in-EndedAbove.lexeme }) c.requires.under_way.above refl;
  next = inl (next_here c.args.line (begun_at (phase_value false k c.fresh_row.new.resting)) c.in_ok-step-in-EndedAbove.step (c.in_ok-step-in-EndedAbove.ensures.in_order None k));
}

pub returns-in_ok-step-in-EndedAbove-clause-in_text : goal.returns-in_ok-step-in-EndedAbove-clause-in_text
returns-in_ok-step-in-EndedAbove-clause-in_text g c =
    (is_above c.args.line c.args.begun (record { ago = c.args.line - c.args.begun; lexeme = c.in_ok-lexeme-in-EndedAbove.lexeme }) c.requires.under_way.above refl, not_below c.args.line c.in_ok-step-in-EndedAbove.step.failed c.in_ok-step-in-EndedAbove.ensures.here)
