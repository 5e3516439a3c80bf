use Rattle.std.proofs.Common.{rules, ◌≡◌, ◌∙◌, [], Option, Some, Result, Err, ap, sym}
use Rattle.yl_text.specs.declared.position.Pos.{Pos}
use Rattle.yl_scan.specs.Step.{characters_of}
use Rattle.yl_config.specs.declared.fault.ConfigFault.{ConfigFault}
use Rattle.yl_config.specs.declared.fault.ConfigFault.TheVariants.{Syntax}
use Rattle.yl_config.specs.declared.fault.FaultPlace.{FaultPlace}
use Rattle.yl_config.specs.Outcome.{from_own}
use Rattle.yl_config.specs.Syntax.{text_fault}
use Rattle.yl_config.specs.TextDocuments.{AreBuilt, documents_of}
use Rattle.yl_config.specs.TextReading.{reading_of}
use Rattle.yl_project.specs.Named.{NamedValue}
use Rattle.yl_project.specs.Outcome.{naming, told_own, told_unless}
use Rattle.yl_project.proofs.read.named_rows.Goals as goal

pub returns-in-Some : goal.returns-in-Some
returns-in-Some g c =
    let r = reading_of (characters_of c.args.rows.now) in
    let ds = c.in_ok-documents.documents.items in
    let built : AreBuilt (documents_of r.lexemes) ds = search rules in
    let fault : text_fault r ds ≡ Some c.in-Some.place = search rules in
    let failing : FaultPlace → Result NamedValue ConfigFault = λ p. Err (Syntax p) in
    record {
      documents = ds;
      built = built;
      judged = ap failing c.from_one.ensures ∙ ap (λ (p : Option Pos). told_unless p (told_own (naming c.args.rows.now) (from_own ds))) (sym fault);
    }
