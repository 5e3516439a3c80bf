use Rattle.std.proofs.Common.{◌≡◌, List, Option, IfOk, map, subst}
use Rattle.yl_text.specs.declared.position.Pos.{Pos}
use Rattle.yl_text.specs.Lines.{lines_of}
use Rattle.yl_events.specs.Event.{EventValue}
use Rattle.yl_config.specs.TextDocuments.{BuiltDocumentValue}
use Rattle.yl_project.specs.Answered.{project_answer, project_value}
use Rattle.yl_project.specs.Outcome.{own_events, projecting, told_of, told_own}
use Rattle.yl_project.proofs.read.project_own.Goals as goal

pub returns : goal.returns
returns g c =
    let judge = projecting (project_value c.args.base) (lines_of c.args.ignore_lines.now) c.args.rows.now in
    let own = c.from_own-own.result.now in
    let P : List EventValue → Type 0 = λ es. IfOk c.project_document.result (λ answer. project_answer answer ≡ told_of judge es c.next_place.result) in
    let Q : Option Pos → Type 0 = λ next. IfOk c.project_document.result (λ answer. project_answer answer ≡ told_of judge (own_events own) next) in
    let R : List BuiltDocumentValue → Type 0 = λ ds. IfOk c.project_document.result (λ answer. project_answer answer ≡ told_own judge ds) in
    subst R c.from_own-own.ensures (subst Q c.next_place.ensures (subst P c.own_events.ensures c.project_document.ensures))
