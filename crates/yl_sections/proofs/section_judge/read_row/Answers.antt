use Rattle.std.proofs.Common.{◌≡◌, ◌+◌, ◌-◌, ◌++◌, ◌∙◌, ◌∷◌, List, Option, ap, length, map, subst}
use Rattle.std.proofs.lemmas.List.{length-map}
use Rattle.yl_lexeme.specs.Lexeme.{LexemeValue}
use Rattle.yl_marks.specs.Keys.{lexeme_at_line}
use Rattle.yl_events.specs.declared.fault.PlacedParseFault.{PlacedParseFault}
use Rattle.yl_events.specs.Event.{start_at}
use Rattle.yl_sections.specs.Judging.{Reads, ReadsLine, spaces_of}
use Rattle.yl_sections.specs.Sections.{lexemes_from, lexemes_of}
use Rattle.yl_sections.proofs.Stopping.{stopped_in}
use Rattle.yl_sections.proofs.RowJudging.{left_is, moved, row_line, still_some}
use Rattle.yl_sections.proofs.section_judge.read_row.Goals as goal

pub returns-in_default : goal.returns-in_default
returns-in_default g c = λ config rs at some h more nonempty.
    let r = c.args.row.now in
    let f = lexeme_at_line c.args.line in
    let xs = c.lexemes.result.now in
    let line = map f xs in
    let are : line ≡ map f r.entry.lexemes = ap (map f) c.lexemes.ensures in
    let all = rs ++ r ∷ more in
    let left = lexemes_from (length rs + 1) more in
    let reads = subst (λ (ys : List LexemeValue). Reads config (lexemes_of all) (spaces_of all) ys c.args.document.now) (left_is rs more r c.args.line line at are) (h (r ∷ more) (still_some rs more r nonempty)) in
    let read = c.in_ok-fault.ensures config (lexemes_of all) (spaces_of all) left (row_line rs more r c.args.line c.indentation.result line at c.indentation.ensures are some) reads in
    moved rs more r (λ es n. Reads config (lexemes_of es) (spaces_of es) (lexemes_from n more) c.read.new.self)
    (subst (λ (o : Option PlacedParseFault). ReadsLine o config (lexemes_of all) (spaces_of all) c.args.document.now.rows.reader.count (length xs) left c.read.new.self) c.in_default.is read)

pub returns : goal.returns
returns g c = λ config rs at some h.
    let r = c.args.row.now in
    let d = c.args.document.now in
    let fault = c.in-Some.fault in
    let f = lexeme_at_line c.args.line in
    let xs = c.lexemes.result.now in
    let line = map f xs in
    let are : line ≡ map f r.entry.lexemes = ap (map f) c.lexemes.ensures in
    stopped_in config rs r d c.read.new.self fault line (length xs) c.args.line c.indentation.result at are some c.indentation.ensures (length-map xs f) h
    (λ zs ns left l reads. subst (λ (o : Option PlacedParseFault). ReadsLine o config zs ns d.rows.reader.count (length xs) left c.read.new.self) c.in-Some.is (c.in_ok-fault.ensures config zs ns left l reads))
    (record { found = c.take-found.result.0; facts = c.take-found.result.1; place = c.start_of-place.result; text = c.text.result })
    c.take-found.ensures.found c.take-found.ensures.facts
    (c.start_of-place.ensures ∙ (ap (start_at line) (c.saturating_sub.ensures ∙ ap (λ n. fault.place - n) c.count-first.ensures)))
    c.text.ensures
