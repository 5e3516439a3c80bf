use Rattle.std.proofs.Common.{ap}
use Rattle.yl_record.specs.Records.{RecordValue}
use Rattle.yl_record.proofs.Put.{indentations_stay, last_put, on_ok}
use Rattle.yl_record.proofs.rows.put_lexeme.Goals as goal

pub returns-clause-entries : goal.returns-clause-entries
returns-clause-entries g c =
    on_ok c.push_lexeme.result _ _ c.push_lexeme.ensures
    (λ new. last_put c.args.records.now.items c.args.at c.index_mut.result.now c.push_lexeme.new.row c.args.lexeme c.requires c.index_mut.ensures.value new)

pub returns-clause-indentations : goal.returns-clause-indentations
returns-clause-indentations g c =
    on_ok c.push_lexeme.result _ _ c.push_lexeme.ensures
    (λ new. indentations_stay c.args.records.now.items c.args.at c.index_mut.result.now c.push_lexeme.new.row c.requires c.index_mut.ensures.value (ap (λ (r : RecordValue). r.indentation) new))
