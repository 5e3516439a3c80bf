use Rattle.std.proofs.Common.{true, ◌≡◌, ◌<◌, ◌≤◌, ◌+◌, ◌++◌, ◌∙◌, ap, arith, subst, List, map}
use Rattle.std.specs.Prelude.{IfSome}
use Rattle.yl_marks.specs.declared.symbol.Symbol.{Symbol}
use Rattle.yl_marks.specs.declared.token.Token.{Token}
use Rattle.yl_marks.specs.ByLine.{marks_of_line}
use Rattle.yl_marks.specs.Keys.{lexeme_at_line, token_of}
use Rattle.yl_events.specs.SymbolParsing.{is_whole}
use Rattle.yl_events.specs.Derives.{lexeme_count}
use Rattle.yl_events.proofs.Counts.{line_count, line_whole}
use Rattle.yl_sections.specs.RowReading.{first_index}
use Rattle.yl_sections.proofs.LineByLine.{tokens_long}
use Rattle.yl_sections.proofs.RowFirst.{first_is, first_of_line}
use Rattle.yl_sections.proofs.row_reader.RowReader.read.Goals as goal

pub feed-requires : goal.feed-requires
feed-requires g c =
    let line = map token_of (map (lexeme_at_line c.args.row.now.line) c.args.row.now.lexemes.now) in
    let marks = marks_of_line c.args.self.now.marker.marks line in
    let tokens_are : c.deref.result.now ≡ line = c.deref.ensures.value ∙ c.in_ok-read_tokens.ensures in
    let here : c.deref-2.result.now ≡ marks = c.deref-2.ensures.value ∙ (c.in_ok-read.ensures.marks
    ∙ (ap (λ (ts : List Token). c.clear.new.self.items ++ marks_of_line c.args.self.now.marker.marks ts) tokens_are ∙ ap (λ (ws : List Symbol). ws ++ marks) c.clear.ensures.items)) in
    ap (is_whole true) here ∙ line_whole c.args.self.now.marker.marks line

pub returns-clause-count : goal.returns-clause-count
returns-clause-count g c = λ some counted.
    let self = c.args.self.now in
    let line = map token_of (map (lexeme_at_line c.args.row.now.line) c.args.row.now.lexemes.now) in
    let marks = marks_of_line self.marker.marks line in
    let tokens_are : c.deref.result.now ≡ line = c.deref.ensures.value ∙ c.in_ok-read_tokens.ensures in
    let here : c.read.new.symbols.items ≡ marks =
    c.in_ok-read.ensures.marks ∙ (ap (λ (ts : List Token). c.clear.new.self.items ++ marks_of_line self.marker.marks ts) tokens_are ∙ ap (λ (ws : List Symbol). ws ++ marks) c.clear.ensures.items) in
    let at : first_index c.read.new.symbols.items ≡ self.marker.marks.count =
    ap first_index here ∙ first_of_line self.marker.marks line (omega (arith, some, tokens_long (lexeme_at_line c.args.row.now.line) c.args.row.now.lexemes.now)) in
    c.first-first.ensures ∙ first_is self.is_counted self.count self.marker.marks.count c.read.new.symbols.items counted at

pub returns-clause-inside : goal.returns-clause-inside
returns-clause-inside g c =
    let line = map token_of (map (lexeme_at_line c.args.row.now.line) c.args.row.now.lexemes.now) in
    let marks = marks_of_line c.args.self.now.marker.marks line in
    let first = c.first-first.result in
    let tokens_are : c.deref.result.now ≡ line = c.deref.ensures.value ∙ c.in_ok-read_tokens.ensures in
    let here : c.deref-2.result.now ≡ marks = c.deref-2.ensures.value ∙ (c.in_ok-read.ensures.marks
    ∙ (ap (λ (ts : List Token). c.clear.new.self.items ++ marks_of_line c.args.self.now.marker.marks ts) tokens_are ∙ ap (λ (ws : List Symbol). ws ++ marks) c.clear.ensures.items)) in
    let long = ap lexeme_count here ∙ (line_count c.args.self.now.marker.marks line ∙ tokens_long (lexeme_at_line c.args.row.now.line) c.args.row.now.lexemes.now) in
    subst (λ n. IfSome c.in_ok-fault.fault (λ f. (first ≤ f.place) × (f.place < first + n))) long c.in_ok-fault.ensures.inside
