use Rattle.std.proofs.Common.{◌≡◌, ◌+◌, ◌++◌, ◌∷◌, ◌∙◌, [], Bor, List, ap, subst, sym, take}
use Rattle.std.proofs.lemmas.List.{map_more, take_all}
use Rattle.yl_record.specs.Records.{RecordValue}
use Rattle.yl_sections.proofs.Rows.{seen}
use Rattle.yl_section_pieces.specs.RunJudging.{JudgesRun}
use Rattle.yl_section_pieces.proofs.run_judge.judge_run.Goals as goal

pub loop-row-preserved : goal.loop-row-preserved
loop-row-preserved g c =
    let all = c.args.rows.now in
    let i = c.loop-row.row-index in
    let x = c.row-item.result in
    let next : seen (take (i + 1) all) ≡ seen (take i all) ++ x.now ∷ [] =
    map_more (λ r. r.now) all i x c.loop-row-test.true ∙ ap (λ (y : Bor RecordValue). seen (take i all) ++ y.now ∷ []) (sym c.row-item.is) in
    subst (λ (rs : List RecordValue). JudgesRun c.args.config.now c.args.options.now c.args.before.now c.args.openings.now rs c.read.new.self) (sym next)
    (c.in_ok-is_sound.ensures c.args.config.now c.args.options.now c.args.before.now c.args.openings.now (seen (take i all)) c.loop-row.invariant c.if-not-is_sound.false)

pub returns : goal.returns
returns g c =
    let all = c.args.rows.now in
    subst (λ (rs : List (Bor RecordValue)). JudgesRun c.args.config.now c.args.options.now c.args.before.now c.args.openings.now (seen rs) c.loop-row.judge)
    (take_all c.loop-row.row-index all c.loop-row-test.false) c.loop-row.invariant
