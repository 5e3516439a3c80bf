-- Bridge: what a clause sees of ids and calls.
use Rattle.std.specs.Option.{option_map}
use Rattle.json.specs.Value.{value_view}
use Rattle.yl_rpc.specs.Calls.{IdValue, CallValue}
use Rattle.yl_rpc.specs.Calls as spec
use Rattle.yl_rpc.specs.declared.id.Id.{Id}
use Rattle.yl_rpc.specs.declared.id.Id.TheVariants as id
use Rattle.yl_rpc.specs.declared.call.Call.{Call}
use Rattle.yl_rpc.specs.declared.call.Call.TheVariants as call

abbrev pub id_view : Id → IdValue
id_view (id.Number digits) = spec.Number digits.now
id_view (id.Text text) = spec.Text text.now
id_view id.Null = spec.Null

abbrev pub call_view : {A : Type 0} → Call A → CallValue
call_view (call.Request i method params) = spec.Request (id_view i) method.now (option_map (λ v. value_view v.now) params)
call_view (call.Notification method params) = spec.Notification method.now (option_map (λ v. value_view v.now) params)
call_view call.Response = spec.Response
call_view (call.Invalid i) = spec.Invalid (id_view i)
