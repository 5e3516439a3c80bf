use Rattle.std.proofs.Common.{ap, sym}
use Rattle.std.specs.Option.{option_map, option_map_or}
use Rattle.json.specs.Value.{value_view}
use Rattle.yl_server.specs.Machine.{ServerValue}
use Rattle.yl_server.specs.Requests.{Passed, notice_with}
use Rattle.yl_server.proofs.Noticed.{noted_at_rest, noted_without}
use Rattle.yl_server.proofs.server.Server.notice.Goals as goal

pub returns-in_default : goal.returns-in_default
returns-in_default g c =
    noted_without c.args.method.now (option_map (λ v. value_view v.now) c.args.params) c.args.self.now c.args.self.now.phase (sym (ap (λ o. option_map (λ v. value_view v.now) o) c.in_default.is))

pub returns-in-Waiting : goal.returns-in-Waiting
returns-in-Waiting g c =
    noted_at_rest (option_map_or (notice_with c.args.method.now) (option_map (λ v. value_view v.now) c.args.params) Passed) c.args.self.now c.self.inside.phase (ap (λ (s : ServerValue). s.phase) c.self.view_is) c.in-Waiting.is
