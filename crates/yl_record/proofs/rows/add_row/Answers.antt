use Rattle.std.proofs.Common.{◌+◌, ◌++◌, length, [], ◌∷◌, ap, sym, subst, ◌∙◌}
use Rattle.std.specs.Option.{ForSome}
use Rattle.std.proofs.lemmas.List.{length-append, map-append}
use Rattle.std.specs.Prelude.{Option, option_map, None}
use Rattle.yl_row.specs.Entries.{RowEntry, LineStateValue}
use Rattle.yl_scan.specs.Step.{fault_above_at}
use Rattle.yl_record.specs.Parts.{LiesIn, entries_in, entry_in, with_fault_above}
use Rattle.yl_record.specs.Records.{RecordValue}
use Rattle.yl_record.proofs.Put.{on_ok}
use Rattle.yl_record.proofs.rows.add_row.Goals as goal

pub add_failed-requires : goal.add_failed-requires
add_failed-requires g c =
    subst (λ n. ForSome c.args.step.failed (λ f. LiesIn c.args.taken n c.args.line f.ago))
    (sym (ap length c.in_ok-push.ensures.items ∙ length-append c.add_ended.new.records.items (c.in_ok-record.record ∷ []) ∙ ap (λ n. n + 1) c.in_ok-add_ended.ensures.count)) c.requires.failed

pub returns-clause-count : goal.returns-clause-count
returns-clause-count g c =
    on_ok c.add_failed.result _ _ c.add_failed.ensures.count
    (λ e. e ∙ ap length c.in_ok-push.ensures.items ∙ length-append c.add_ended.new.records.items (c.in_ok-record.record ∷ []) ∙ ap (λ n. n + 1) c.in_ok-add_ended.ensures.count)

pub returns-clause-entries : goal.returns-clause-entries
returns-clause-entries g c =
    let above = c.add_ended.new.records.items in
    let told : RowEntry = record { state = c.args.step.state; lexemes = c.args.step.lexemes.items; comment = c.args.step.comment; fault = None } in
    on_ok c.add_failed.result _ _ c.add_failed.ensures.entries
    (λ e s. e ∙ ap (λ es. with_fault_above c.args.taken (option_map (fault_above_at c.args.line) c.args.step.failed) es)
    (ap entries_in c.in_ok-push.ensures.items ∙ map-append entry_in above (c.in_ok-record.record ∷ [])
    ∙ ap (λ (r : RecordValue). entries_in above ++ r.entry ∷ []) c.in_ok-record.ensures
    ∙ ap (λ (s : Option LineStateValue). entries_in above ++ record { state = s; lexemes = c.args.step.lexemes.items; comment = c.args.step.comment; fault = None } ∷ []) c.in_ok-state.ensures
    ∙ ap (λ es. es ++ told ∷ []) c.in_ok-add_ended.ensures.entries))
