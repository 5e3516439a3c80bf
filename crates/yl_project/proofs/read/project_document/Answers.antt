use Rattle.std.proofs.Common.{rules, ◌≡◌, [], map, is_some, unwrap_or}
use Rattle.yl_text.specs.Lines.{lines_of}
use Rattle.yl_events.specs.Event.{event_value}
use Rattle.yl_settings.specs.Item.{item_value}
use Rattle.yl_project.specs.Answered.{project_answer, project_value}
use Rattle.yl_project.proofs.Saying.{told_by_parts}
use Rattle.yl_project.proofs.read.project_document.Goals as goal

pub returns : goal.returns
returns g c =
    let events = c.args.document.now.events.now in
    let those : c.unwrap_or-files.result ≡ unwrap_or c.in_ok-files.files [] = search rules in
    let has : c.is_some.result ≡ is_some c.in_ok-files.files = search rules in
    told_by_parts (project_value c.args.base) (lines_of c.args.ignore_lines.now) c.args.document.now.rows.now (map event_value events) c.args.next (item_value events c.root_of-root.result)
    c.in_ok-files.files c.unwrap_or-files.result c.is_some.result (project_value c.in_ok-said_over.field-0) c.in_ok-first.first (project_answer c.told.result)
    c.root_of-root.ensures.root c.in_ok-files.ensures those has c.in_ok-said_over.ensures c.in_ok-first.ensures c.told.ensures
