use Rattle.std.proofs.Common.{◌∙◌, sym}
use Rattle.std.specs.Prelude.{string_bytes}
use Rattle.std.specs.Option.{option_map}
use Rattle.yl_server.specs.Machine.{ServerValue}
use Rattle.yl_server.proofs.Judged.{judged_named, judged_unnamed}
use Rattle.yl_server.proofs.server.Server.judge_by.Goals as goal

pub returns-then-is_some : goal.returns-then-is_some
returns-then-is_some g c =
    let s : ServerValue = record {
      phase = c.self.inside.phase;
      how = c.self.inside.how;
      watches = c.self.inside.watches;
      standard = c.self.inside.standard;
      config = c.self.inside.config;
      file = option_map string_bytes c.self.inside.file;
      documents = c.self.inside.workspace;
    } in
    let made = c.configure.ensures in
    judged_named c.args.self.now s c.args.config c.args.most c.unwrap_or-most.result made.0 c.configure.new.self c.self.view_is (sym c.is_some.ensures ∙ c.if-is_some.true) c.unwrap_or-most.ensures made.1

pub returns : goal.returns
returns g c =
    let s : ServerValue = record {
      phase = c.self.inside.phase;
      how = c.self.inside.how;
      watches = c.self.inside.watches;
      standard = c.self.inside.standard;
      config = c.self.inside.config;
      file = option_map string_bytes c.self.inside.file;
      documents = c.self.inside.workspace;
    } in
    let made = c.refresh.ensures in
    judged_unnamed c.args.self.now s c.args.config c.args.most c.unwrap_or-most.result made.1 made.0 c.refresh.new.workspace c.refresh.result.fault c.self.view_is (sym c.is_some.ensures ∙ c.if-is_some.false) c.unwrap_or-most.ensures made.2 made.4
