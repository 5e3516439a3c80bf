use Rattle.std.proofs.Common.{◌<◌, ◌++◌, ◌∙◌, ℕ, List, Option, ap, arith, length, map, subst, sym}
use Rattle.std.proofs.lemmas.List.{length-map}
use Rattle.yl_text.specs.Finding.{FindingValue}
use Rattle.yl_marks.specs.Keys.{lexeme_at_line}
use Rattle.yl_events.specs.declared.fault.PlacedParseFault.{PlacedParseFault}
use Rattle.yl_events.specs.Event.{EventValue}
use Rattle.yl_events.specs.Named.{waiting_anchor}
use Rattle.yl_events.specs.Seen.{LineValue, event_seen}
use Rattle.yl_tree.specs.TreeRules.{Finds}
use Rattle.yl_sections.specs.JudgedRow.{JudgesRow}
use Rattle.yl_sections.specs.Judging.{anchor_held}
use Rattle.yl_sections.proofs.DocumentJudging.{reads_more, stops_at}
use Rattle.yl_sections.proofs.document_judge.DocumentJudge.read.Goals as goal

pub returns-in-Some : goal.returns-in-Some
returns-in-Some g c = λ config xs ns left l h.
    let row = c.args.row.now in
    let line = map (lexeme_at_line row.line) row.lexemes.now in
    let d = c.args.self.now in
    let long = length-map row.lexemes.now (lexeme_at_line row.line) in
    let some : 0 < length row.lexemes.now = omega (arith, l.some, long) in
    let judged = subst (λ (o : Option PlacedParseFault). JudgesRow d.rows line c.args.spaces o c.read.new.self) c.in-Some.is (c.in_ok-fault.ensures some (λ e. sym h.count)) in
    stops_at config xs line left ns c.args.spaces d l h (length row.lexemes.now) c.in-Some.fault _ long judged

pub returns : goal.returns
returns g c = λ config xs ns left l h.
    let row = c.args.row.now in
    let line = map (lexeme_at_line row.line) row.lexemes.now in
    let d = c.args.self.now in
    let long = length-map row.lexemes.now (lexeme_at_line row.line) in
    let some : 0 < length row.lexemes.now = omega (arith, l.some, long) in
    let judged = subst (λ (o : Option PlacedParseFault). JudgesRow d.rows line c.args.spaces o c.read.new.self) c.in_default.is (c.in_ok-fault.ensures some (λ e. sym h.count)) in
    let first = c.count-first.ensures in
    let seen : ℕ → LineValue = λ n. record { lexemes = line; first = n; waiting = d.waiting } in
    reads_more config xs line left ns c.args.spaces d l h _ judged
    (c.in_ok-tell.ensures.held ∙ ap (λ n. anchor_held (seen n) (waiting_anchor c.read.new.self.reader.parser.goals)) first)
    (subst (λ n. (es : List EventValue) (all : List FindingValue) → Finds d.tree (map (event_seen (seen n)) c.read.new.self.reader.outlines.items ++ es) all → Finds c.tell.new.tree es all)
    first c.in_ok-tell.ensures.events)
