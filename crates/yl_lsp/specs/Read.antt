-- Bridge: what was read, as the meaning of params has it.
use Rattle.std.specs.Option.{option_map}
use Rattle.yl_lsp.specs.declared.params.Change.{Change}
use Rattle.yl_lsp.specs.declared.params.Change.TheVariants as C
use Rattle.yl_lsp.specs.declared.params.Opened.{Opened}
use Rattle.yl_lsp.specs.declared.settings.Settings.{Settings}
use Rattle.yl_lsp.specs.Params.{ChangeValue, Whole, Within, Unread, OpenedValue, SettingsValue}

abbrev pub change_value : Change → ChangeValue
change_value (C.Whole text) = Whole text.now
change_value (C.Within range text) = Within range text.now
change_value C.Unread = Unread

abbrev pub opened_value : Opened → OpenedValue
opened_value o = record { uri = o.uri.now; version = o.version.now; text = o.text.now }

abbrev pub settings_value : Settings → SettingsValue
settings_value s = record {
  config = option_map (λ t. t.now) s.config;
  config_file = option_map (λ t. t.now) s.config_file;
  most = s.most;
}
