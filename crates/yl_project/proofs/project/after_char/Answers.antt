use Rattle.std.proofs.lemmas.Str.Pattern.{strip_prefix_char}
use Rattle.yl_project.proofs.Front.{after}
use Rattle.yl_project.proofs.project.after_char.Goals as goal

pub returns : goal.returns
returns c = after c.args.c c.args.path.now c.strip_prefix.result (strip_prefix_char c.args.c c.args.path.now c.strip_prefix.result c.strip_prefix.ensures.cases c.requires)
