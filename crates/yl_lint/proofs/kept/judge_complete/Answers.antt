use Rattle.std.proofs.Common.{◌++◌, ◌∙◌, List, ap, length, map}
use Rattle.yl_record.specs.Recorded.{recorded}
use Rattle.yl_record.specs.Records.{RecordValue}
use Rattle.yl_sections.specs.Judge.{kept_of_section}
use Rattle.yl_sections.specs.Sections.{sections}
use Rattle.yl_lint.proofs.Streamed.{let_go_judged}
use Rattle.yl_lint.proofs.kept.judge_complete.Goals as goal

pub returns-clause-kept : goal.returns-clause-kept
returns-clause-kept g c = λ rows all h.
    let complete = c.complete-rows.result.now in
    record {
      judged = h.judged ++ complete;
      judges = c.in_ok-judge_rows.ensures.judged h.judged h.judges;
      whole = ap (λ (rs : List RecordValue). map (kept_of_section c.args.config.now) (sections rs)) (let_go_judged h.judged complete (recorded c.args.recorder.now rows) (recorded c.let_go.new.self rows) (length complete) (c.complete-rows.ensures.told rows) (c.let_go.ensures.told rows)) ∙ h.whole;
    }
