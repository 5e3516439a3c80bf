use Rattle.std.proofs.Common.{◌≡◌, ◌+◌, ◌++◌, ◌∷◌, ◌∙◌, [], ℕ, Bor, List, ap, arith, refl, subst, sym, take}
use Rattle.std.proofs.lemmas.List.{map_more, take_all}
use Rattle.yl_lexeme.specs.declared.meter.Meter.{Meter}
use Rattle.yl_record.specs.Records.{RecordValue}
use Rattle.yl_sections.specs.Judging.{JudgesAll}
use Rattle.yl_sections.specs.Kept.{documents_in}
use Rattle.yl_sections.specs.Sections.{sections}
use Rattle.yl_sections.proofs.Rows.{seen}
use Rattle.yl_sections.proofs.Staging.{always}
use Rattle.yl_sections.proofs.judging.judge_all.Goals as goal

pub loop-record-init : goal.loop-record-init
loop-record-init g c = record { judged = c.new-judge.ensures c.args.config.now; documents = omega (arith); lines = refl }

pub loop-record-preserved : goal.loop-record-preserved
loop-record-preserved g c =
    let config = c.args.config.now in
    let all = c.args.records.now in
    let i = c.loop-record.record-index in
    let x = c.record-item.result in
    let next : seen (take (i + 1) all) ≡ seen (take i all) ++ x.now ∷ [] = map_more (λ r. r.now) all i x c.loop-record-test.true ∙ ap (λ (y : Bor RecordValue). seen (take i all) ++ y.now ∷ []) (sym c.record-item.is) in
    let counted = c.in_ok-read.ensures.documents (seen (take i all)) c.loop-record.invariant.judged in
    let same = ap (λ (rs : List RecordValue). documents_in (sections rs)) next in
    record {
      judged = subst (λ (rs : List RecordValue). JudgesAll config rs c.read.new.self) (sym next) (c.in_ok-read.ensures.judged (seen (take i all)) c.loop-record.invariant.judged);
      documents = omega (arith, counted, same, c.loop-record.invariant.documents);
      lines = c.in_ok-read.ensures.lines ∙ c.loop-record.invariant.lines;
    }

pub returns-clause-kept : goal.returns-clause-kept
returns-clause-kept g c =
    let all = c.args.records.now in
    let i = c.loop-record.record-index in
    c.finish.ensures (seen all) (subst (λ (rs : List (Bor RecordValue)). JudgesAll c.args.config.now (seen rs) c.loop-record.judge) (take_all i all c.loop-record-test.false) c.loop-record.invariant.judged)

pub returns-clause-counted : goal.returns-clause-counted
returns-clause-counted g c =
    let all = c.args.records.now in
    let i = c.loop-record.record-index in
    let whole = ap (λ (rs : List (Bor RecordValue)). documents_in (sections (seen rs))) (take_all i all c.loop-record-test.false) in
    always c.finish.result
    (is_meter c.loop-record.meter c.args.meter.now.lines (c.args.meter.now.documents + documents_in (sections (seen all))) c.loop-record.invariant.lines (omega (arith, whole, c.loop-record.invariant.documents)))
  where
    is_meter : (m : Meter) (lines documents : ℕ) → m.lines ≡ lines → m.documents ≡ documents → m ≡ record { lines = lines; documents = documents }
    is_meter m lines documents a b = rw (sym a, sym b) refl
