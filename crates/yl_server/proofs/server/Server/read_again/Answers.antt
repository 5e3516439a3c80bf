use Rattle.std.proofs.Common.{◌∙◌, ap, sym}
use Rattle.std.specs.Prelude.{string_bytes}
use Rattle.std.specs.Option.{option_map}
use Rattle.yl_server.specs.Machine.{ServerValue}
use Rattle.yl_server.proofs.Decided.{read_faulty, read_none, read_set}
use Rattle.yl_server.proofs.server.Server.read_again.Goals as goal

pub returns-in-None : goal.returns-in-None
returns-in-None g c = read_none c.args.self.now (sym (ap (λ o. option_map string_bytes o) c.in-None.is) ∙ ap (λ (s : ServerValue). s.file) c.self.view_is)

pub returns-in-Set : goal.returns-in-Set
returns-in-Set g c =
    let file = sym (ap (λ o. option_map string_bytes o) c.in-Some.is) ∙ ap (λ (s : ServerValue). s.file) c.self.view_is in
    let made = c.judge_by.ensures in
    read_set (string_bytes c.in-Some.path) c.read-found.result c.in-Set.config c.in-Set.most made.0 made.1 c.judge_by.result c.args.self.now c.judge_by.new.self file c.in-Set.ensures made.2 made.3

pub returns-in-Faulty : goal.returns-in-Faulty
returns-in-Faulty g c =
    let file = sym (ap (λ o. option_map string_bytes o) c.in-Some.is) ∙ ap (λ (s : ServerValue). s.file) c.self.view_is in
    read_faulty (string_bytes c.in-Some.path) c.read-found.result c.in-Faulty.fault c.args.self.now file c.in-Faulty.ensures
