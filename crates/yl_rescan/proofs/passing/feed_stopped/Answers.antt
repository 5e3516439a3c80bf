use Rattle.std.proofs.Common.{◌≡◌, ◌++◌, ◌∷◌, ◌∙◌, ◌+◌, ◌-◌, List, ap, arith, rules}
use Rattle.std.specs.Str.{chars}
use Rattle.yl_lexeme.specs.declared.meter.Meter.{Meter}
use Rattle.yl_row.specs.Entries.{LineStateValue}
use Rattle.yl_record.specs.Records.{RecordValue, characters_in}
use Rattle.yl_record.specs.Recorded.{records_from}
use Rattle.yl_record.specs.Recorded.{recorded}
use Rattle.yl_rescan.proofs.Passed.{all_fed, feed_more, nothing_fed}
use Rattle.yl_rescan.proofs.passing.feed_stopped.Goals as goal

pub loop-i-init : goal.loop-i-init
loop-i-init g c = record {
  told = nothing_fed (recorded c.in_ok-recorder.recorder) (characters_in (g.L.Lines.rows c.args.lines.now)) c.args.from
      (λ rest. c.in_ok-recorder.ensures.told rest ∙ ap (λ (s : LineStateValue). records_from s rest) c.stopped.ensures);
  fed = search rules;
  taken = search rules;
  whole = search rules;
  lines = search rules;
  documents = search rules;
}

pub loop-i-preserved : goal.loop-i-preserved
loop-i-preserved g c = record {
  told = λ rest.
      c.in_ok-feed_text.ensures.told rest
      ∙ (c.loop-i.invariant.told (chars c.as_str.result.now ∷ rest)
      ∙ feed_more (g.L.Lines.rows c.args.lines.now) c.args.from c.loop-i.i c.row.result.now c.as_str.result.now rest (omega arith) c.row.ensures c.as_str.ensures);
  fed = omega (arith, c.in_ok-feed_text.ensures.count, c.loop-i.invariant.fed);
  taken = c.feed_text.ensures.taken ∙ c.loop-i.invariant.taken;
  whole = c.in_ok-feed_text.ensures.goes_on;
  lines = let m = ap (λ (m : Meter). m.lines) c.feed_text.ensures.meter in omega (arith, c.loop-i.invariant.lines, m);
  documents = ap (λ (m : Meter). m.documents) c.feed_text.ensures.meter ∙ c.loop-i.invariant.documents;
}

pub returns-clause-records : goal.returns-clause-records
returns-clause-records g c =
    let ended : c.loop-i.i ≡ c.args.end = omega (arith, c.loop-i.auto.i-end c.requires.ordered, c.loop-i-test.false) in
    c.in_ok-append.ensures.items
    ∙ ap (λ (rs : List RecordValue). c.args.records.now.items ++ rs)
    (all_fed (recorded c.loop-i.recorder) (characters_in (g.L.Lines.rows c.args.lines.now)) c.args.from c.loop-i.i c.args.end c.in_ok-fed.fed.items ended c.loop-i.invariant.told c.in_ok-fed.ensures.told)

pub returns-clause-counted : goal.returns-clause-counted
returns-clause-counted g c =
    let ended : c.loop-i.i ≡ c.args.end = omega (arith, c.loop-i.auto.i-end c.requires.ordered, c.loop-i-test.false) in
    let lines : c.loop-i.meter.lines ≡ c.args.meter.now.lines + (c.args.end - c.args.from) = omega (arith, c.loop-i.invariant.lines, ended) in
    ap (λ n. record { lines = n; documents = c.loop-i.meter.documents }) lines
    ∙ ap (λ n. record { lines = c.args.meter.now.lines + (c.args.end - c.args.from); documents = n }) c.loop-i.invariant.documents
