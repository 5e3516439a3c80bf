use Rattle.std.proofs.Common.{◌≡◌, ◌∙◌, ap, sym, subst}
use Rattle.yl_units.specs.declared.walk.Reached.{Reached}
use Rattle.yl_units.specs.Places.{IsReached}
use Rattle.yl_units.proofs.Rows.{told_is}
use Rattle.yl_units.proofs.place.told_place.Goals as goal

pub returns : goal.returns
returns g c = c.told.ensures ∙ told_is c.args.encoding (g.S.Lines.rows c.args.lines.now) c.go_to.result c.args.place c.go_to.ensures.reached c.go_to.ensures.at_line c.go_to.ensures.at_col
