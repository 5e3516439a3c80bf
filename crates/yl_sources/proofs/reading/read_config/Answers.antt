use Rattle.yl_devices.proofs.Whole.{are_read}
use Rattle.yl_sources.proofs.Read.{config_read}
use Rattle.yl_sources.proofs.reading.read_config.Goals as goal

pub returns-clause-config : goal.returns-clause-config
returns-clause-config g c =
    config_read _ _ c.as_slice.result.now c.read.result
    (are_read _ _ c.in-Ok.bytes.items c.as_slice.result.now _ c.in-Ok.ensures.read c.in-Ok.ensures.end c.as_slice.ensures.value c.as_slice.ensures.len)
    (rw c.without_mark.ensures at c.read.ensures)
