use Rattle.std.proofs.Common.{◌≡◌, ◌⊎◌, inl, inr}
use Rattle.json.specs.Value.{value_view}
use Rattle.yl_rpc.specs.Views.{id_view}
use Rattle.yl_config.specs.declared.fault.ConfigFault.{ConfigFault}
use Rattle.yl_server.specs.declared.settings.SettingFault.{SettingFault}
use Rattle.yl_server.specs.declared.settings.SettingFault.TheVariants.{Shape, Unreadable, Memory, Refused}
use Rattle.yl_server.proofs.Decided.{begun_faulty, begun_no_memory}
use Rattle.yl_server.proofs.server.Server.begin_faulty.Goals as goal

other : (f : SettingFault) → (f ≡ Shape) ⊎ ((f ≡ Unreadable) ⊎ ((x : ConfigFault) × (f ≡ Refused x))) → f ≡ Memory → ⊥
other f (inl h) m = cc
other f (inr (inl h)) m = cc
other f (inr (inr h)) m = cc

pub returns-in-Memory : goal.returns-in-Memory
returns-in-Memory g c = λ e file. begun_no_memory e (id_view c.args.id) (value_view c.args.params.now) file c.args.fault c.args.self.now c.in-Memory.is

pub returns-in-Shape : goal.returns-in-Shape
returns-in-Shape g c = λ e file. begun_faulty e (id_view c.args.id) (value_view c.args.params.now) file c.args.fault c.args.self.now c.begin.new.self (other c.args.fault c.in-Shape.is) c.begin.ensures
