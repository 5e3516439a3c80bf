use Rattle.std.proofs.Common.{◌≡◌, ◌+◌, ◌≤◌, ◌++◌, ◌∷◌, ◌∙◌, [], List, ap, length, rules, subst, sym, take}
use Rattle.std.proofs.lemmas.List.{take_all, take_more}
use Rattle.std.proofs.lemmas.Option.{get_or_from_slice_get, slice_get_within}
use Rattle.yl_record.specs.Records.{RecordValue}
use Rattle.yl_sections.specs.Judging.{JudgesAll}
use Rattle.yl_session.proofs.reading.kept_of_records.Goals as goal

pub loop-i-init : goal.loop-i-init
loop-i-init g c = c.new-judge.ensures c.args.config.now

pub loop-i-preserved : goal.loop-i-preserved
loop-i-preserved g c =
    let all = c.args.records.now.items in
    let i = c.loop-i.i in
    let r = c.get.result.now in
    let next : take (i + 1) all ≡ take i all ++ r ∷ [] =
    take_more all i r (slice_get_within all i r c.get.ensures) ∙ ap (λ (e : RecordValue). take i all ++ e ∷ []) (get_or_from_slice_get all i r r c.get.ensures) in
    subst (λ (rs : List RecordValue). JudgesAll c.args.config.now rs c.read.new.self) (sym next) (c.in_ok-read.ensures.judged (take i all) c.loop-i.invariant)

pub returns : goal.returns
returns g c =
    let all = c.args.records.now.items in
    let ended : length all ≤ c.loop-i.i = search rules in
    c.finish.ensures all (subst (λ (rs : List RecordValue). JudgesAll c.args.config.now rs c.loop-i.judge) (take_all c.loop-i.i all ended) c.loop-i.invariant)
