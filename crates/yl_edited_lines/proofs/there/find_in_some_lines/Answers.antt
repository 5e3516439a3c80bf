use Rattle.std.proofs.Common.{rules, ap, ◌∙◌}
use Rattle.std.specs.List.{filter}
use Rattle.std.proofs.lemmas.Fn.{filter_same}
use Rattle.yl_config.specs.Config.{options_of}
use Rattle.yl_edited_lines.specs.There.{judges}
use Rattle.yl_edited_lines.proofs.ByEnds.{within_ends}
use Rattle.yl_edited_lines.proofs.there.find_in_some_lines.Goals as goal

pub returns : goal.returns
returns g c =
    filter_same _ (λ f. judges c.args.ends f.rule) _ (λ x b f' k. search rules) c.in_ok-found.found.items c.retain.new.self.items c.retain.ensures.filtered
    ∙ (ap (filter (λ f. judges c.args.ends f.rule)) c.in_ok-found.ensures ∙ within_ends c.args.ends (options_of c.args.config.now) (g.L.Lines.rows c.args.lines.now))
