use Rattle.std.proofs.Common.{◌≡◌, subst}
use Rattle.yl_settings.specs.Item.{item_value}
use Rattle.yl_config.specs.Config.{config_settings}
use Rattle.yl_project.specs.Answered.{KeptProject, project_value}
use Rattle.yl_project.specs.Said.{ProjectValue, said_over}
use Rattle.yl_project.proofs.Parts.{parts}
use Rattle.yl_project.proofs.document.Document.said_over.Goals as goal

pub returns : goal.returns
returns g c =
    let said : ProjectValue = record {
      settings = config_settings c.config_over.result;
      rules = c.in_ok-rule_ignores_over.field-0.items;
      ignored = c.in_ok-ignored_over.field-0;
      yaml_files = c.in_ok-yaml_files_of.field-0;
    } in
    let P : KeptProject → Type 0 = λ base. said ≡ said_over (project_value base) c.args.files c.args.self.now.rows.now (item_value c.args.self.now.events.now c.args.root.now) in
    subst P c.base.view_is (parts _ _ _ _ _ _ _ _ c.config_over.ensures c.in_ok-rule_ignores_over.ensures c.in_ok-ignored_over.ensures c.in_ok-yaml_files_of.ensures)
