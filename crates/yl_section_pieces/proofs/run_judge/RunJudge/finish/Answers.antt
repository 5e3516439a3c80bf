use Rattle.std.proofs.Common.{◌≡◌, map}
use Rattle.std.proofs.lemmas.Result.{IfOk-weaker}
use Rattle.yl_sections.specs.Kept.{tree_options_of}
use Rattle.yl_pieces.specs.Events.{events_in}
use Rattle.yl_piece_reports.specs.Told.{finding_above, kept_by_told}
use Rattle.yl_section_pieces.specs.RunJudging.{found_by, kept_of_run}
use Rattle.yl_section_pieces.proofs.RunsJudged.{found_all, summary_so}
use Rattle.yl_section_pieces.proofs.run_judge.RunJudge.finish.Goals as goal

pub returns : goal.returns
returns g c = λ s openings rs judges rows none.
    let config = c.args.config.now in
    let o = tree_options_of config in
    let told_is = c.in_ok-piece.ensures config s rs judges.rows in
    let found_is = c.in_ok-found.ensures (found_by o openings (events_in s 1 rs)) (found_all config o s openings rs c.args.self judges none) in
    IfOk-weaker c.summary_of.result (λ k. k ≡ kept_by_told config 0 c.args.rows 1 c.in_ok-piece.piece (map (finding_above 1) c.in_ok-found.found.items)) (λ k. k ≡ kept_of_run config s openings rs)
    (λ k e. summary_so config s openings rs c.args.rows c.in_ok-piece.piece c.in_ok-found.found.items k e rows told_is found_is) c.summary_of.ensures
