use Rattle.std.proofs.Common.{◌++◌, ◌∙◌, List, refl, take}
use Rattle.yl_record.specs.Records.{RecordValue}
use Rattle.yl_sections.specs.Judging.{JudgesAll}
use Rattle.yl_lint.proofs.Streamed.{none_judged, one_judged, all_judged}
use Rattle.yl_lint.proofs.kept.judge_rows.Goals as goal

pub loop-row-init : goal.loop-row-init
loop-row-init g c = record {
  judged = λ rs h. none_judged (λ (es : List RecordValue). JudgesAll c.args.config.now es c.args.judge.now) rs c.args.rows.now h;
  lines = refl;
}

pub loop-row-preserved : goal.loop-row-preserved
loop-row-preserved g c =
    let i = c.loop-row.row-index in
    let all = c.args.rows.now in
    record {
      judged = λ rs h. one_judged (λ (es : List RecordValue). JudgesAll c.args.config.now es c.read.new.self) rs all i c.row-item.result c.loop-row-test.true c.row-item.is (c.in_ok-read.ensures.judged (rs ++ take i all) (c.loop-row.invariant.judged rs h));
      lines = c.in_ok-read.ensures.lines ∙ c.loop-row.invariant.lines;
    }

pub returns-clause-judged : goal.returns-clause-judged
returns-clause-judged g c = λ rs h. all_judged (λ (es : List RecordValue). JudgesAll c.args.config.now es c.loop-row.judge) rs c.args.rows.now c.loop-row.row-index c.loop-row-test.false (c.loop-row.invariant.judged rs h)
