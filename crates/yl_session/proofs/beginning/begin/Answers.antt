use Rattle.std.proofs.Common.{List, None, ap, refl, subst, sym, ◌∙◌}
use Rattle.yl_lint.specs.TextReport.{records_of}
use Rattle.yl_summary.specs.Overview.{AreOverviews}
use Rattle.yl_summary.specs.declared.overview.Overview.{Overview}
use Rattle.yl_found.specs.Found.{all_parts}
use Rattle.yl_session.proofs.Bounds.{are_few}
use Rattle.yl_session.proofs.beginning.begin.Goals as goal

pub known_of-requires : goal.known_of-requires
known_of-requires g c =
    let rows = g.S.Lines.rows c.args.store.now in
    are_few c.args.config.now rows None (records_of rows) c.in_ok-kept.kept.items c.requires refl (c.in_ok-kept.ensures ∙ c.in_ok-records.ensures.kept)

pub new-survey-requires-clause-few : goal.new-survey-requires-clause-few
new-survey-requires-clause-few g c =
    let rows = g.S.Lines.rows c.args.store.now in
    let is = c.in_ok-known.ensures.kept ∙ (c.in_ok-kept.ensures ∙ c.in_ok-records.ensures.kept) in are_few c.args.config.now rows None (records_of rows) c.in_ok-known.known.kept.items c.requires refl is

pub new-survey-requires-clause-overviews : goal.new-survey-requires-clause-overviews
new-survey-requires-clause-overviews g c = subst (λ (os : List Overview). AreOverviews c.in_ok-known.known.kept.items os) (sym c.as_slice.ensures.value) c.in_ok-known.ensures.overviews

pub returns-clause-found : goal.returns-clause-found
returns-clause-found g c = c.in_ok-found.ensures ∙ ap (all_parts c.args.config.now (g.S.Lines.rows c.args.store.now)) c.new-survey.ensures.sections
