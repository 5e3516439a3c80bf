use Rattle.yl_config.specs.Config.{options_of}
use Rattle.yl_edited_lines.proofs.Pushed.{put_together}
use Rattle.yl_edited_lines.proofs.there.find_there.Goals as goal

pub returns : goal.returns
returns g c =
    put_together (options_of c.args.config.now) c.args.ends c.args.before c.args.down (g.L.Lines.rows c.args.lines.now) c.args.kept.now c.indentation_options-options.result.now c.in_ok-found.found.items
    c.push_sections.new.found.items c.in_ok-found.ensures c.indentation_options-options.ensures c.in_ok-push_sections.ensures
