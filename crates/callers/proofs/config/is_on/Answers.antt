use Rattle.std.proofs.Common.{◌≡◌, Option, is_some, ap, ◌∙◌}
use Rattle.yl_rules.specs.Levels.{LevelTable}
use Rattle.yl_rules.specs.declared.level.Level.{Level}
use Rattle.yl_config.specs.Config.{config_settings}
use Rattle.callers.proofs.config.is_on.Goals as goal

pub returns : goal.returns
returns g c =
    let at : c.level_of.result ≡ (config_settings c.in_ok-config.config).levels c.args.rule =
    c.level_of.ensures ∙ ap (λ (levels : LevelTable). levels c.args.rule) c.levels.ensures in
    (config_settings c.in_ok-config.config, c.in_ok-config.ensures, c.is_some.ensures ∙ ap (λ (level : Option Level). is_some level) at)
