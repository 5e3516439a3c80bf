use Rattle.std.proofs.Common.{rules, map, ap, ◌∙◌}
use Rattle.std.proofs.lemmas.Fn.{filter_same}
use Rattle.yl_lexeme.specs.PlacedComments.{placed_comment_value}
use Rattle.yl_edited_lines.specs.Switches as spec
use Rattle.yl_edited_lines.proofs.Spoken.{switches_seen}
use Rattle.yl_edited_lines.proofs.switches.retain_switches.Goals as goal

pub returns : goal.returns
returns g c =
    ap (map placed_comment_value) (filter_same _ (λ x. spec.may_switch (placed_comment_value x)) _ (λ x b f' k. search rules) c.args.comments.now.items c.retain.new.self.items c.retain.ensures.filtered)
    ∙ switches_seen c.args.comments.now.items
