use Rattle.yl_rpc.proofs.Texts.{null_written, number_written, string_written}
use Rattle.yl_rpc.proofs.id.IdBody.put.Goals as goal

pub returns-in-Number-clause-ok : goal.returns-in-Number-clause-ok
returns-in-Number-clause-ok g c = rw (c.in-Number.is, number_written, ← c.as_bytes.ensures.value) c.put.ensures.ok

pub returns-in-Number-clause-err : goal.returns-in-Number-clause-err
returns-in-Number-clause-err g c = rw (c.in-Number.is, number_written, ← c.as_bytes.ensures.value) c.put.ensures.err

pub returns-in-Text-clause-ok : goal.returns-in-Text-clause-ok
returns-in-Text-clause-ok g c = rw (c.in-Text.is, string_written) c.put_text.ensures.ok

pub returns-in-Text-clause-err : goal.returns-in-Text-clause-err
returns-in-Text-clause-err g c = rw (c.in-Text.is, string_written) c.put_text.ensures.err

pub returns-in-Null-clause-ok : goal.returns-in-Null-clause-ok
returns-in-Null-clause-ok g c = rw (c.in-Null.is, null_written) c.put-in-Null.ensures.ok

pub returns-in-Null-clause-err : goal.returns-in-Null-clause-err
returns-in-Null-clause-err g c = rw (c.in-Null.is, null_written) c.put-in-Null.ensures.err
