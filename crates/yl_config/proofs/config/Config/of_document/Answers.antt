use Rattle.std.proofs.Common.{◌≡◌, ◌++◌, Option, None, Result, Ok, Err, map, ap, sym, ◌∙◌}
use Rattle.yl_text.specs.declared.position.Pos.{Pos}
use Rattle.yl_events.specs.Event.{event_value}
use Rattle.yl_config.specs.declared.fault.ConfigFault.{ConfigFault}
use Rattle.yl_config.specs.declared.misfit.Misfit.{Misfit}
use Rattle.yl_config.specs.Config.{config_settings}
use Rattle.yl_config.specs.Document.{judgement, next_misfits, root_of}
use Rattle.yl_config.specs.Misfits.{earliest, root_misfits}
use Rattle.yl_settings.specs.Nodes.{ItemValue}
use Rattle.yl_config.specs.Settings.{Settings, settings_of}
use Rattle.yl_config.proofs.Folding.{earliest-++}
use Rattle.yl_config.proofs.config.Config.of_document.Goals as goal

-- what was noted of a root that is that of the document, and of the next document, is the first of all
noted : (root item : ItemValue) (next : Option Pos) (first last : Option Misfit) → item ≡ root → first ≡ earliest None (root_misfits item) → last ≡ earliest first (next_misfits next)
    → last ≡ earliest None (root_misfits root ++ next_misfits next)
noted root item next first last same is then =
    then ∙ (ap (λ (o : Option Misfit). earliest o (next_misfits next)) (is ∙ ap (λ (o : ItemValue). earliest None (root_misfits o)) same)
    ∙ sym (earliest-++ None (root_misfits root) (next_misfits next)))

pub returns-in-Some : goal.returns-in-Some
returns-in-Some c =
    let es = map event_value c.args.events.now in
    let first = noted (root_of es) _ c.args.next c.read_root-reading.result.first c.note_next.new.self.first c.root_of-root.ensures.root c.read_root-reading.ensures.first c.note_next.ensures.first in
    let failing : ConfigFault → Result Settings ConfigFault = λ f. Err f in
    ap failing c.fault_of.ensures ∙ ap (judgement (settings_of (root_of es))) (sym c.in-Some.is ∙ first)

pub returns-in-None : goal.returns-in-None
returns-in-None c =
    let es = map event_value c.args.events.now in
    let first = noted (root_of es) _ c.args.next c.read_root-reading.result.first c.note_next.new.self.first c.root_of-root.ensures.root c.read_root-reading.ensures.first c.note_next.ensures.first in
    let saying : Settings → Result Settings ConfigFault = λ s. Ok s in
    ap saying (ap config_settings c.note_next.ensures.config ∙ (c.read_root-reading.ensures.said ∙ ap settings_of c.root_of-root.ensures.root))
    ∙ ap (judgement (settings_of (root_of es))) (sym c.in-None.is ∙ first)
