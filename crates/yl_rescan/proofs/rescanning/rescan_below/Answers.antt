use Rattle.std.proofs.Common.{◌+◌, ◌-◌, ◌++◌, List, [], length, drop, take, ap, sym, ◌∙◌, subst, arith, length-append}
use Rattle.yl_text.specs.Lines.{RowValue}
use Rattle.yl_text.specs.Store.{AreLines}
use Rattle.yl_lexeme.specs.declared.meter.Meter.{Meter}
use Rattle.yl_row.specs.Entries.{Stopped}
use Rattle.yl_record.specs.Records.{RecordValue, characters_in}
use Rattle.yl_record.specs.Recorded.{records_from}
use Rattle.std.specs.Prelude.{Some}
use Rattle.yl_rescan.proofs.Edits.{characters_length, few_rows, length-spliced}
use Rattle.yl_rescan.proofs.Held.{held_length}
use Rattle.yl_rescan.proofs.Passed.{passed_length}
use Rattle.yl_rescan.proofs.Stores.{passed_below_rows, renamed}
use Rattle.yl_rescan.proofs.rescanning.rescan_below.Goals as goal

pub new-patched-requires-clause-few : goal.new-patched-requires-clause-few
new-patched-requires-clause-few g c =
    let few = few_rows (g.S.Lines.rows c.args.store.now) c.args.rows.now c.args.a c.args.b c.requires.range c.requires.old_lines c.requires.lines in
    omega (arith, few.0, few.1)

pub overflow_add-end : goal.overflow_add-end
overflow_add-end g c =
    let few = few_rows (g.S.Lines.rows c.args.store.now) c.args.rows.now c.args.a c.args.b c.requires.range c.requires.old_lines c.requires.lines in
    record { fits = omega (arith, few.2, few.3) }

pub pass-requires : goal.pass-requires
pass-requires g c =
    let few = few_rows (g.S.Lines.rows c.args.store.now) c.args.rows.now c.args.a c.args.b c.requires.range c.requires.old_lines c.requires.lines in
    let same = ap (λ (rows : List RowValue). length rows) c.new-patched.ensures in
    record { lines = subst AreLines (sym c.new-patched.ensures) c.requires.lines; ordered = omega (arith, c.requires.below); within = omega (arith, same, few.3) }

pub feed_stopped-requires : goal.feed_stopped-requires
feed_stopped-requires g c =
    let few = few_rows (g.S.Lines.rows c.args.store.now) c.args.rows.now c.args.a c.args.b c.requires.range c.requires.old_lines c.requires.lines in
    let same = ap (λ (rows : List RowValue). length rows) c.new-patched.ensures in
    record {
      lines = subst AreLines (sym c.new-patched.ensures) c.requires.lines;
      ordered = omega arith;
      within = omega (arith, same, few.3);
      meter = omega (arith, same, few.2, c.requires.meter);
    }

pub with_passed-requires : goal.with_passed-requires
with_passed-requires g c =
    let ps = g.S.Lines.rows c.args.store.now in
    let ns = c.args.rows.now in
    let us = c.new-patched.result in
    let es = c.args.old.now.items in
    let qs = characters_in us in
    let few = few_rows ps ns c.args.a c.args.b c.requires.range c.requires.old_lines c.requires.lines in
    let same = ap (λ (rows : List RowValue). length rows) c.new-patched.ensures in
    let grown = length-spliced ps ns c.args.a c.args.b c.requires.range.ordered c.requires.range.within in
    let count = held_length (characters_in ps) (Some c.args.cut) es c.requires.held in
    let total = characters_length us in
    let none = ap (λ (rs : List RecordValue). length rs) c.new-records.ensures.items in
    let first = ap (λ (rs : List RecordValue). length rs) c.in_ok-pass.ensures in
    let second = ap (λ (rs : List RecordValue). length rs) c.in_ok-feed_stopped.ensures.records in
    let xs = records_from Stopped (drop c.args.cut (take c.args.a qs)) in
    let ys = records_from Stopped (drop c.args.a (take (c.args.a + length ns) qs)) in
    record {
      lines = subst AreLines (sym c.new-patched.ensures) c.requires.lines;
      within = omega (arith, same, few.3);
      rows = omega (arith, same, grown, count, characters_length ps, c.requires.range.within);
      range = record { ordered = omega (arith, c.requires.below, c.requires.range.ordered); within = omega (arith, count, characters_length ps, c.requires.range.within) };
      len = omega (
        arith,
        none,
        first,
        second,
        length-append c.new-records.result.items xs,
        length-append c.pass.new.records.items ys,
        passed_length qs c.args.cut c.args.a (omega (arith, total, same, few.3)),
        passed_length qs c.args.a (c.args.a + length ns) (omega (arith, total, same, few.3)),
        c.requires.below,
      );
      few = omega (arith, few.0, few.2, same, count, characters_length ps);
    }

pub returns-clause-made : goal.returns-clause-made
returns-clause-made g c =
    let ps = g.S.Lines.rows c.args.store.now in
    let ns = c.args.rows.now in
    let us = c.new-patched.result in
    let es = c.args.old.now.items in
    let r = c.in_ok-rescanned in
    let more = r.ensures in
    let counted = ap (λ (m : Meter). m.lines) c.in_ok-feed_stopped.ensures.counted in
    renamed es _ _ c.args.a c.args.b (length ns) r.rescanned.cut r.rescanned.from c.args.cut r.rescanned.old_end r.rescanned.end c.feed_stopped.new.meter.lines (length ns) r.rescanned.records.items more.from
    (omega (arith, counted, c.requires.meter))
    (passed_below_rows ps ns us c.args.a c.args.b c.requires.range c.new-patched.ensures c.args.cut es c.requires.held c.requires.below c.requires.lines c.pass.new.records.items c.feed_stopped.new.records.items
    r.rescanned.records.items r.rescanned.cut r.rescanned.old_end r.rescanned.end
    (c.in_ok-pass.ensures ∙ ap (λ (rs : List RecordValue). rs ++ records_from Stopped (drop c.args.cut (take c.args.a (characters_in us)))) c.new-records.ensures.items)
    c.in_ok-feed_stopped.ensures.records more.stops more.records)
