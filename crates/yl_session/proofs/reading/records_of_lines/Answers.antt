use Rattle.std.proofs.Common.{rules, ℕ, ◌≡◌, ◌<◌, ◌+◌, length, ap, arith, subst, sym, List}
use Rattle.yl_text.specs.Lines.{RowValue}
use Rattle.yl_record.specs.Recorded.{RecorderValue}
use Rattle.yl_record.specs.Records.{RecordValue}
use Rattle.yl_lexeme.specs.declared.meter.Meter.{Meter}
use Rattle.yl_lint.proofs.Streamed.{few_at_end}
use Rattle.yl_session.specs.Reading.{IsReadTo}
use Rattle.yl_edited_lines.proofs.FewLines.{few_lines}
use Rattle.yl_session.proofs.Read.{all_read, nothing_read, row_fed}
use Rattle.yl_session.proofs.reading.records_of_lines.Goals as goal
use Rattle.yl_session.proofs.reading.records_of_lines.Goals.{then-waiting-piece+in_ok-recorder, else-waiting-piece}

pub loop-i-init : goal.loop-i-init
loop-i-init g c = record {
  read = nothing_read (g.L.Lines.rows c.args.lines.now) c.new-records.result.items c.start-recorder.result c.new-records.ensures c.start-recorder.ensures.at c.start-recorder.ensures.told;
  lines = let none = ap (λ (m : Meter). m.lines) c.new-meter.ensures in omega (arith, none);
}

pub feed_text-requires-clause-meter : goal.feed_text-requires-clause-meter
feed_text-requires-clause-meter g c =
    let rows = g.L.Lines.rows c.args.lines.now in
    let below : c.loop-i.i < length rows = search rules in
    omega (arith, below, c.loop-i.invariant.lines, few_lines rows c.requires)

pub moved_on-requires-clause-read : goal.moved_on-requires-clause-read
moved_on-requires-clause-read g c =
    row_fed (g.L.Lines.rows c.args.lines.now) c.loop-i.i c.loop-i.records.items c.loop-i.recorder c.feed_text.new.self c.row.result.now c.as_str.result.now c.loop-i.invariant.read c.row.ensures c.as_str.ensures
    c.in_ok-feed_text.ensures.told c.in_ok-feed_text.ensures.count c.feed_text.ensures.taken c.feed_text.ensures.states c.in_ok-feed_text.ensures.goes_on

pub moved_on-requires-clause-meter : goal.moved_on-requires-clause-meter
moved_on-requires-clause-meter g c =
    let rows = g.L.Lines.rows c.args.lines.now in
    let below : c.loop-i.i < length rows = search rules in
    let more = ap (λ (m : Meter). m.lines) c.feed_text.ensures.meter in
    omega (arith, below, more, c.loop-i.invariant.lines, few_lines rows c.requires)

-- where these are the same lists, recorder and meter
read_on : (rows : List RowValue) (i : ℕ) (items items' : List RecordValue) (recorder recorder' : RecorderValue) → items' ≡ items → recorder' ≡ recorder → IsReadTo rows i items recorder → IsReadTo rows i items' recorder'
read_on rows i items items' recorder recorder' same same' read =
    subst (λ (r : RecorderValue). IsReadTo rows i items' r) (sym same') (subst (λ (l : List RecordValue). IsReadTo rows i l recorder) (sym same) read)

pub loop-i-preserved : goal.loop-i-preserved
loop-i-preserved g c =
    let rows = g.L.Lines.rows c.args.lines.now in
    let i = c.loop-i.i in
    let more = ap (λ (m : Meter). m.lines) c.feed_text.ensures.meter in
    let fed = row_fed rows i c.loop-i.records.items c.loop-i.recorder c.feed_text.new.self c.row.result.now c.as_str.result.now c.loop-i.invariant.read c.row.ensures c.as_str.ensures
    c.in_ok-feed_text.ensures.told c.in_ok-feed_text.ensures.count c.feed_text.ensures.taken c.feed_text.ensures.states c.in_ok-feed_text.ensures.goes_on in
    elim c.if-waiting-piece.branch [
      | then-waiting-piece+in_ok-recorder w ↦ record {
        read = read_on rows (i + 1) w.moved_on.new.records.items c.if-waiting-piece.records.items w.in_ok-recorder.recorder c.if-waiting-piece.recorder (ap (λ u. u.items) w.records-is) w.recorder-is w.in_ok-recorder.ensures.read;
        lines = omega (arith, ap (λ (m : Meter). m.lines) w.meter-is, w.in_ok-recorder.ensures.meter, more, c.loop-i.invariant.lines);
      }
      | else-waiting-piece w ↦ record {
        read = read_on rows (i + 1) c.loop-i.records.items c.if-waiting-piece.records.items c.feed_text.new.self c.if-waiting-piece.recorder (ap (λ u. u.items) w.records-is) w.recorder-is fed;
        lines = omega (arith, ap (λ (m : Meter). m.lines) w.meter-is, more, c.loop-i.invariant.lines);
      }
    ]

pub put_behind-requires : goal.put_behind-requires
put_behind-requires g c =
    let rows = g.L.Lines.rows c.args.lines.now in
    let ended : c.loop-i.i ≡ length rows = search rules in
    let fed = c.loop-i.invariant.read.fed in
    omega (arith, ended, fed, few_lines rows c.requires, few_at_end c.loop-i.recorder c.in_ok-last.last.items c.in_ok-last.ensures.told)

pub returns : goal.returns
returns g c =
    let rows = g.L.Lines.rows c.args.lines.now in
    let ended : c.loop-i.i ≡ length rows = search rules in
    all_read rows c.loop-i.i c.loop-i.records.items c.in_ok-last.last.items c.put_behind.new.items.items c.loop-i.recorder c.loop-i.invariant.read ended c.in_ok-last.ensures.told c.in_ok-put_behind.ensures
