use Rattle.std.proofs.Common.{◌≡◌, [], rules}
use Rattle.yl_devices.proofs.Pieces.{on_err, passes_break_end, passes_end, front_of_all}
use Rattle.yl_frames.proofs.Outcomes.{fault_then, ok_then}
use Rattle.yl_frames.proofs.output.write_message.Goals as goal

pub returns-in_err-put_message-clause-err : goal.returns-in_err-put_message-clause-err
returns-in_err-put_message-clause-err g c =
    let none : c.clear.new.self.items ≡ [] = search rules in on_err c.from_residual.result (front_of_all _ _ c.clear.new.self.items _ none c.in_err-put_message.ensures.err.0)

pub returns-clause-ok : goal.returns-clause-ok
returns-clause-ok g c =
    let none : c.clear.new.self.items ≡ [] = search rules in ok_then c.flush.result c.flush.ensures.ok (passes_end _ _ _ c.clear.new.self.items _ _ none c.in_ok-put_message.ensures.ok.0)

pub returns-clause-err : goal.returns-clause-err
returns-clause-err g c =
    let none : c.clear.new.self.items ≡ [] = search rules in fault_then c.flush.result c.flush.ensures.err (passes_break_end _ _ _ c.clear.new.self.items _ _ none c.in_ok-put_message.ensures.ok.0)
