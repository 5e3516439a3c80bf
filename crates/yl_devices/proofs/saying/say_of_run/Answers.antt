use Rattle.yl_devices.proofs.saying.say_of_run.Goals as goal

pub returns-in-Read-clause-err : goal.returns-in-Read-clause-err
returns-in-Read-clause-err g c = rw c.in-Read.is c.write_line.ensures.err

pub returns-in-Write-clause-err : goal.returns-in-Write-clause-err
returns-in-Write-clause-err g c = rw c.in-Write.is c.write_line-in-Write.ensures.err

pub returns-in-Memory-clause-err : goal.returns-in-Memory-clause-err
returns-in-Memory-clause-err g c = rw c.in-Memory.is c.write_line-in-Memory.ensures.err

pub returns-in-TooLarge-clause-err : goal.returns-in-TooLarge-clause-err
returns-in-TooLarge-clause-err g c = rw (c.in-Text.is, c.in-TooLarge.is) c.write_line-in-TooLarge.ensures.err

pub returns-in-Command-clause-err : goal.returns-in-Command-clause-err
returns-in-Command-clause-err g c = rw c.in-Command.is c.write_line-in-Command.ensures.err
