use Rattle.std.proofs.Common.{◌≡◌, Option, [], ap, sym, ◌∙◌}
use Rattle.yl_settings.specs.Item.{entry_value, nodes_at}
use Rattle.yl_settings.specs.Nodes.{entries_of}
use Rattle.yl_settings.proofs.AtNone.{at_none}
use Rattle.yl_config.specs.declared.misfit.Misfit.{Misfit}
use Rattle.yl_config.specs.Misfits.{earliest}
use Rattle.yl_project.specs.Misfits.{beside_misfits}
use Rattle.yl_project.proofs.Folding.{beside-first, beside-none}
use Rattle.yl_project.proofs.document.Document.note_beside.Goals as goal

pub loop-entry-preserved : goal.loop-entry-preserved
loop-entry-preserved g c =
    let events = c.args.self.now.events.now in
    let e = entry_value events c.in-Some.entry in
    let es = entries_of (nodes_at events c.loop-entry.rest) in
    let more = entries_of (nodes_at events c.in-Some.entry.more) in
    let i = c.is_key_or-ignores.result in
    let n = c.is_key_or-names.result in
    record {
      within = c.in-Some.ensures.within;
      first = ap (λ (o : Option Misfit). earliest o (beside_misfits c.args.mapping i n more)) (rw (c.is_beside.ensures, c.place_or-place.ensures, c.word-key.ensures) at c.note_key_if.ensures)
          ∙ (beside-first c.args.mapping c.loop-entry.ignores c.loop-entry.names c.loop-entry.reading.first e more es i n c.in-Some.ensures.entry (rw c.word-key.ensures at c.is_key_or-ignores.ensures) (rw c.word-key.ensures at c.is_key_or-names.ensures)
          ∙ c.loop-entry.invariant.first);
    }

pub returns : goal.returns
returns g c =
    let es = entries_of (nodes_at c.args.self.now.events.now c.loop-entry.rest) in
    let nothing : es ≡ [] = at_none c.first_entry.result _ _ c.in_default.not-Some c.first_entry.ensures.entry in
    sym (beside-none c.args.mapping c.loop-entry.ignores c.loop-entry.names c.loop-entry.reading.first es nothing) ∙ c.loop-entry.invariant.first
