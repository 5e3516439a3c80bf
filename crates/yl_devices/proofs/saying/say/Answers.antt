use Rattle.yl_devices.proofs.saying.say.Goals as goal

pub returns-in-Use-clause-err : goal.returns-in-Use-clause-err
returns-in-Use-clause-err g c = rw c.in-Use.is c.write_line.ensures.err

pub returns-in-Memory-clause-err : goal.returns-in-Memory-clause-err
returns-in-Memory-clause-err g c = rw c.in-Memory.is c.write_line-in-Memory.ensures.err
