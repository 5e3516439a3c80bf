use Rattle.std.proofs.Common.{ap}
use Rattle.yl_record.specs.Records.{RecordValue}
use Rattle.yl_record.proofs.Put.{fault_put_in, indentations_stay, on_ok}
use Rattle.yl_record.proofs.rows.put_fault.Goals as goal

pub returns-clause-entries : goal.returns-clause-entries
returns-clause-entries g c =
    on_ok c.set_fault.result _ _ c.set_fault.ensures
    (λ new. fault_put_in c.args.records.now.items c.args.at c.index_mut.result.now c.set_fault.new.row c.args.fault c.requires c.index_mut.ensures.value new)

pub returns-clause-indentations : goal.returns-clause-indentations
returns-clause-indentations g c =
    on_ok c.set_fault.result _ _ c.set_fault.ensures
    (λ new. indentations_stay c.args.records.now.items c.args.at c.index_mut.result.now c.set_fault.new.row c.requires c.index_mut.ensures.value (ap (λ (r : RecordValue). r.indentation) new))
