use Rattle.std.proofs.Common.{◌≡◌, ◌≤◌, ◌+◌, ◌-◌, ◌∙◌, List, Some, Option, option_map, length, drop, refl, sym, ap, subst, arith}
use Rattle.yl_lexeme.specs.declared.meter.Meter.{Meter}
use Rattle.yl_row.specs.Entries.{LineStateValue}
use Rattle.yl_record.specs.Records.{RecordValue, characters_in, records}
use Rattle.yl_record.specs.Recorded.{recorded}
use Rattle.yl_rescan.specs.Agree.{agree, state_of_row, GoesOn}
use Rattle.yl_rescan.proofs.Scans.{all_told, begins_told, cut_told, on_over, some_end, state_told, told_next}
use Rattle.yl_rescan.proofs.scanning.rescan_from.Goals as goal

pub loop-i-init : goal.loop-i-init
loop-i-init g c =
    let rows = g.L.Lines.rows c.args.lines.now in
    let fresh = c.in_ok-recorder.ensures.fresh in
    record {
      told = begins_told rows (recorded c.in_ok-recorder.recorder) c.args.from.now.row (option_map (λ s. s.now) c.args.from.now.state) c.requires.begins c.in_ok-recorder.ensures.start c.in_ok-recorder.ensures.resume;
      fed = let none = ap (λ (rs : List RecordValue). length rs) fresh.0 in omega (arith, none);
      taken = fresh.1;
      states = fresh.2;
      whole = fresh.3;
      goes_on = λ j s l. absurd (omega (arith, s, l, c.requires.before));
      lines = omega arith;
      documents = refl;
    }

pub loop-i-preserved : goal.loop-i-preserved
loop-i-preserved g c =
    let rows = g.L.Lines.rows c.args.lines.now in
    let r = c.args.from.now.row in
    let i = c.loop-i.i in
    let all = records (characters_in rows) in
    let told = told_next (recorded c.loop-i.recorder) (recorded c.feed_text.new.self) rows i c.row.result.now c.as_str.result.now (drop r all) c.row.ensures c.as_str.ensures c.in_ok-feed_text.ensures.told c.loop-i.invariant.told in
    let wanted = c.feed_text.ensures.states ∙ c.loop-i.invariant.states in
    let fed : length c.feed_text.new.self.records ≡ i - r + 1 = omega (arith, c.in_ok-feed_text.ensures.count, c.loop-i.invariant.fed) in
    let state = state_told c.feed_text.new.self (characters_in (drop (i + 1) rows)) all r i (option_map (λ s. s.now) c.state.result) (omega arith) wanted fed told c.state.ensures in
    record {
      told = told;
      fed = omega (arith, fed);
      taken = c.feed_text.ensures.taken ∙ c.loop-i.invariant.taken;
      states = wanted;
      whole = c.in_ok-feed_text.ensures.goes_on;
      goes_on = on_over c.args.old.now.items all c.args.cut c.args.stop c.args.b i c.loop-i.invariant.goes_on
          (λ l. subst (λ (o : Option LineStateValue). GoesOn c.args.old.now.items c.args.cut (i - c.args.stop + c.args.b) o) state (c.end_at.ensures.goes_on c.in_default.is l));
      lines = let m = ap (λ (m : Meter). m.lines) c.feed_text.ensures.meter in omega (arith, c.loop-i.invariant.lines, m);
      documents = ap (λ (m : Meter). m.documents) c.feed_text.ensures.meter ∙ c.loop-i.invariant.documents;
    }

pub returns-in-Some-clause-records : goal.returns-in-Some-clause-records
returns-in-Some-clause-records g c =
    let rows = g.L.Lines.rows c.args.lines.now in
    let r = c.args.from.now.row in
    let i = c.loop-i.i in
    let all = records (characters_in rows) in
    let told = told_next (recorded c.loop-i.recorder) (recorded c.feed_text.new.self) rows i c.row.result.now c.as_str.result.now (drop r all) c.row.ensures c.as_str.ensures c.in_ok-feed_text.ensures.told c.loop-i.invariant.told in
    let fed : length c.feed_text.new.self.records ≡ i - r + 1 = omega (arith, c.in_ok-feed_text.ensures.count, c.loop-i.invariant.fed) in
    cut_told c.feed_text.new.self (characters_in (drop (i + 1) rows)) c.cut.result.items all r i fed told c.cut.ensures

pub returns-in-Some-clause-agrees : goal.returns-in-Some-clause-agrees
returns-in-Some-clause-agrees g c = λ is.
    let rows = g.L.Lines.rows c.args.lines.now in
    let r = c.args.from.now.row in
    let i = c.loop-i.i in
    let all = records (characters_in rows) in
    let told = told_next (recorded c.loop-i.recorder) (recorded c.feed_text.new.self) rows i c.row.result.now c.as_str.result.now (drop r all) c.row.ensures c.as_str.ensures c.in_ok-feed_text.ensures.told c.loop-i.invariant.told in
    let wanted = c.feed_text.ensures.states ∙ c.loop-i.invariant.states in
    let fed : length c.feed_text.new.self.records ≡ i - r + 1 = omega (arith, c.in_ok-feed_text.ensures.count, c.loop-i.invariant.fed) in
    let state = state_told c.feed_text.new.self (characters_in (drop (i + 1) rows)) all r i (option_map (λ s. s.now) c.state.result) (omega arith) wanted fed told c.state.ensures in
    let both = c.end_at.ensures.agrees (c.in-Some.is ∙ ap (λ w. Some w) is) in (
      (c.end_at.ensures.after (some_end c.end_at.result c.in-Some.why c.in-Some.is), omega arith),
      ap (λ (o : Option LineStateValue). agree (state_of_row c.args.old.now.items (i - c.args.stop + c.args.b)) o) (sym state) ∙ both.0,
      both.1,
    )

pub returns-in-Some-clause-stopped : goal.returns-in-Some-clause-stopped
returns-in-Some-clause-stopped g c = λ is.
    let rows = g.L.Lines.rows c.args.lines.now in
    let r = c.args.from.now.row in
    let i = c.loop-i.i in
    let all = records (characters_in rows) in
    let told = told_next (recorded c.loop-i.recorder) (recorded c.feed_text.new.self) rows i c.row.result.now c.as_str.result.now (drop r all) c.row.ensures c.as_str.ensures c.in_ok-feed_text.ensures.told c.loop-i.invariant.told in
    let wanted = c.feed_text.ensures.states ∙ c.loop-i.invariant.states in
    let fed : length c.feed_text.new.self.records ≡ i - r + 1 = omega (arith, c.in_ok-feed_text.ensures.count, c.loop-i.invariant.fed) in
    let state = state_told c.feed_text.new.self (characters_in (drop (i + 1) rows)) all r i (option_map (λ s. s.now) c.state.result) (omega arith) wanted fed told c.state.ensures in
    let both = c.end_at.ensures.stopped (c.in-Some.is ∙ ap (λ w. Some w) is) in
    ((c.end_at.ensures.after (some_end c.end_at.result c.in-Some.why c.in-Some.is), omega arith), sym state ∙ both.0, both.1)

pub returns-clause-records : goal.returns-clause-records
returns-clause-records g c =
    let rows = g.L.Lines.rows c.args.lines.now in
    let within : c.args.from.now.row ≤ c.len-i-end.result = omega (arith, c.requires.within, c.len-i-end.ensures) in
    let ended : c.loop-i.i ≡ length rows = omega (arith, c.loop-i.auto.i-end within, c.loop-i-test.false, c.len-i-end.ensures) in
    c.in_ok-finish.ensures.told ∙ all_told c.loop-i.recorder rows c.args.from.now.row c.len.result c.loop-i.i c.len.ensures ended c.loop-i.invariant.told

pub returns-clause-goes_on : goal.returns-clause-goes_on
returns-clause-goes_on g c = λ j s l.
    let rows = g.L.Lines.rows c.args.lines.now in
    let within : c.args.from.now.row ≤ c.len-i-end.result = omega (arith, c.requires.within, c.len-i-end.ensures) in
    let ended : c.loop-i.i ≡ length rows = omega (arith, c.loop-i.auto.i-end within, c.loop-i-test.false, c.len-i-end.ensures) in
    c.loop-i.invariant.goes_on j s (omega (arith, l, ended, c.len.ensures))

pub returns-clause-counted : goal.returns-clause-counted
returns-clause-counted g c =
    let rows = g.L.Lines.rows c.args.lines.now in
    let within : c.args.from.now.row ≤ c.len-i-end.result = omega (arith, c.requires.within, c.len-i-end.ensures) in
    let ended : c.loop-i.i ≡ length rows = omega (arith, c.loop-i.auto.i-end within, c.loop-i-test.false, c.len-i-end.ensures) in
    omega (arith, c.loop-i.invariant.lines, ended, c.len.ensures)
