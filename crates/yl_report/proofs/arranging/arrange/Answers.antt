use Rattle.std.proofs.Common.{rules, Bool, ◌≡◌, ◌∙◌, ap}
use Rattle.std.specs.List.{filter, filter_map}
use Rattle.std.proofs.lemmas.Fn.{filter_same}
use Rattle.yl_rules.specs.LevelOf.{level_of}
use Rattle.yl_report.specs.Silence.{is_silenced_at, is_file_silenced_by}
use Rattle.yl_report.specs.Report.{is_reported, with_level, report_of, sorted_once}
use Rattle.yl_report.proofs.With.{ok_then}
use Rattle.yl_report.proofs.arranging.arrange.Goals as goal

pub returns : goal.returns
returns g c =
    let kept : c.retain.new.self.items ≡ filter (is_reported (level_of c.args.levels.now) (is_silenced_at c.args.silences.now)) c.args.found.items =
    filter_same _ (is_reported (level_of c.args.levels.now) (is_silenced_at c.args.silences.now)) _ (λ x b f' k. search rules) c.args.found.items c.retain.new.self.items c.retain.ensures.filtered in
    let wanted = λ (is_file_silenced : Bool). report_of (level_of c.args.levels.now) is_file_silenced (is_silenced_at c.args.silences.now) c.args.found.items in
    let same : filter_map (with_level (level_of c.args.levels.now)) c.sort_once.new.found.items ≡ wanted (is_file_silenced_by c.args.silences.now) =
    ap (filter_map (with_level (level_of c.args.levels.now))) (c.sort_once.ensures ∙ ap sorted_once kept) ∙ ap wanted c.if-is_file_silenced.ensures in
    ok_then c.with_levels.result (λ v e. e ∙ same) c.with_levels.ensures
