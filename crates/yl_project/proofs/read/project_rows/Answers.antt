use Rattle.std.proofs.Common.{rules, ◌≡◌, ◌∙◌, List, Option, Some, None, Result, Err, IfOk, ap, subst, sym}
use Rattle.yl_text.specs.declared.position.Pos.{Pos}
use Rattle.yl_text.specs.Lines.{lines_of}
use Rattle.yl_scan.specs.Step.{characters_of}
use Rattle.yl_config.specs.declared.fault.ConfigFault.{ConfigFault}
use Rattle.yl_config.specs.declared.fault.ConfigFault.TheVariants.{Syntax}
use Rattle.yl_config.specs.declared.fault.FaultPlace.{FaultPlace}
use Rattle.yl_config.specs.Outcome.{from_own}
use Rattle.yl_config.specs.Syntax.{text_fault}
use Rattle.yl_config.specs.TextDocuments.{AreBuilt, BuiltDocumentValue, documents_of}
use Rattle.yl_config.specs.TextReading.{reading_of}
use Rattle.yl_project.specs.Answered.{project_answer, project_value}
use Rattle.yl_project.specs.Outcome.{projecting, told_own, told_unless}
use Rattle.yl_project.specs.Said.{ProjectValue}
use Rattle.yl_project.proofs.Saying.{in_ok}
use Rattle.yl_project.proofs.read.project_rows.Goals as goal

pub returns-in-Some : goal.returns-in-Some
returns-in-Some g c =
    let r = reading_of (characters_of c.args.rows.now) in
    let judge = projecting (project_value c.args.base) (lines_of c.args.ignore_lines.now) c.args.rows.now in
    let ds = c.in_ok-documents.documents.items in
    let built : AreBuilt (documents_of r.lexemes) ds = search rules in
    let fault : text_fault r ds ≡ Some c.in-Some.place = search rules in
    let failing : FaultPlace → Result ProjectValue ConfigFault = λ p. Err (Syntax p) in
    record {
      documents = ds;
      built = built;
      judged = ap failing c.from_one.ensures ∙ ap (λ (p : Option Pos). told_unless p (told_own judge (from_own ds))) (sym fault);
    }

pub returns-in-None : goal.returns-in-None
returns-in-None g c =
    let r = reading_of (characters_of c.args.rows.now) in
    let judge = projecting (project_value c.args.base) (lines_of c.args.ignore_lines.now) c.args.rows.now in
    let ds = c.in_ok-documents.documents.items in
    let built : AreBuilt (documents_of r.lexemes) ds = search rules in
    let none : text_fault r ds ≡ None = search rules in
    let P : List BuiltDocumentValue → Type 0 = λ xs. IfOk c.project_own.result (λ answer. project_answer answer ≡ told_own judge (from_own xs)) in
    let own : P ds = subst P c.as_slice-documents.ensures.value c.project_own.ensures in
    in_ok c.project_own.result (λ answer h. record {
      documents = ds;
      built = built;
      judged = h ∙ ap (λ (p : Option Pos). told_unless p (told_own judge (from_own ds))) (sym none);
    }) own
