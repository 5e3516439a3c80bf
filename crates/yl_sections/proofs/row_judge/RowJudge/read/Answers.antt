use Rattle.std.proofs.Common.{◌≡◌, ◌+◌, ◌-◌, ◌≤◌, ◌<◌, ◌++◌, ◌∙◌, List, Option, ap, arith, length, map, refl, subst, sym, take}
use Rattle.std.specs.Prelude.{IfSome}
use Rattle.std.proofs.lemmas.List.{length-map}
use Rattle.yl_marks.specs.declared.facts.KeyFacts.{KeyFacts}
use Rattle.yl_marks.specs.Keys.{lexeme_at_line, token_of}
use Rattle.yl_events.specs.declared.fault.PlacedParseFault.{PlacedParseFault}
use Rattle.yl_lexeme_rules.specs.LexemesLeft.{lexemes_left}
use Rattle.yl_sections.specs.JudgedRow.{keys_behind, marks_behind}
use Rattle.yl_sections.specs.Reading.{counted_in}
use Rattle.yl_sections.specs.RowReading.{ParsesFrom}
use Rattle.yl_sections.proofs.JudgedRows.{judges_row}
use Rattle.yl_sections.proofs.LineByLine.{line_counted, tokens_long}
use Rattle.yl_sections.proofs.Lines.{keys_long}
use Rattle.yl_sections.proofs.row_judge.RowJudge.read.Goals as goal

pub find_before-requires-clause-keys : goal.find_before-requires-clause-keys
find_before-requires-clause-keys g c =
    let f = lexeme_at_line c.args.row.now.line in
    ap (λ (ks : List KeyFacts). length ks) (c.deref-in-Some-fault.ensures.value ∙ c.in_ok-fault.ensures.keys)
    ∙ (keys_long c.args.self.now.reader.marker (map token_of (map f c.args.row.now.lexemes.now)) ∙ tokens_long f c.args.row.now.lexemes.now)

pub read_row-requires : goal.read_row-requires
read_row-requires g c =
    let f = lexeme_at_line c.args.row.now.line in
    ap (λ (ks : List KeyFacts). length ks) (c.deref-3.ensures.value ∙ c.in_ok-fault.ensures.keys)
    ∙ (keys_long c.args.self.now.reader.marker (map token_of (map f c.args.row.now.lexemes.now)) ∙ tokens_long f c.args.row.now.lexemes.now)

pub returns-in-Some-fault : goal.returns-in-Some-fault
returns-in-Some-fault g c = λ some counted.
    let row = c.args.row.now in
    let f = lexeme_at_line row.line in
    let line = map f row.lexemes.now in
    let d = c.args.self.now in
    let fault = c.in-Some-fault.fault in
    let first = c.read.new.self.count in
    let first_is = c.in_ok-fault.ensures.count some counted in
    let is = c.in-Some-fault.is in
    let inside = subst (λ (o : Option PlacedParseFault). IfSome o (λ e. (first ≤ e.place) × (e.place < first + length row.lexemes.now))) is c.in_ok-fault.ensures.inside in
    let parsed = subst (λ (o : Option PlacedParseFault). ParsesFrom d.reader.parser first (marks_behind d line) o c.read.new.self.parser c.read.new.self.outlines.items) is c.in_ok-fault.ensures.parsed in
    let keys = c.deref-in-Some-fault.ensures.value ∙ c.in_ok-fault.ensures.keys in
    judges_row d line c.args.spaces first c.deref.result.now c.deref-2.result.now first_is (c.deref.ensures.value ∙ c.in_ok-fault.ensures.tokens) (c.deref-2.ensures.value ∙ c.in_ok-fault.ensures.symbols)
    _ _ c.in-Some.end c.counted_in.result (length row.lexemes.now) (omega (arith, c.in-Some.ensures)) (length-map row.lexemes.now f)
    (c.counted_in.ensures ∙ ap (λ (o : Option PlacedParseFault). counted_in o c.in-Some.end) is) refl c.in_ok-fault.ensures.marker parsed inside
    (λ all ns a b n. c.in_ok-read_line.ensures.after all ns a b n)
    (λ all ns a b n. c.in_ok-read_line.ensures.facts all ns a b n)
    (record {
      count = first_is;
      found = λ v rest q. c.in_ok-find_before.ensures v rest q
          ∙ (ap (λ (ks : List KeyFacts). d.found.items ++ lexemes_left v d.options d.rules (take (fault.place - first) line) (take (fault.place - first) ks)) keys
          ∙ ap (λ n. d.found.items ++ lexemes_left v d.options d.rules (take (fault.place - n) line) (take (fault.place - n) (keys_behind d line))) first_is);
    })

pub returns : goal.returns
returns g c = λ some counted.
    let row = c.args.row.now in
    let f = lexeme_at_line row.line in
    let line = map f row.lexemes.now in
    let d = c.args.self.now in
    let first = c.read.new.self.count in
    let first_is = c.in_ok-fault.ensures.count some counted in
    let is = c.in_default-fault.is in
    let inside = subst (λ (o : Option PlacedParseFault). IfSome o (λ e. (first ≤ e.place) × (e.place < first + length row.lexemes.now))) is c.in_ok-fault.ensures.inside in
    let parsed = subst (λ (o : Option PlacedParseFault). ParsesFrom d.reader.parser first (marks_behind d line) o c.read.new.self.parser c.read.new.self.outlines.items) is c.in_ok-fault.ensures.parsed in
    let keys = c.deref-3.ensures.value ∙ c.in_ok-fault.ensures.keys in
    let far : c.in-Some.end ≡ first + length row.lexemes.now = omega (arith, c.in-Some.ensures) in
    judges_row d line c.args.spaces first c.deref.result.now c.deref-2.result.now first_is (c.deref.ensures.value ∙ c.in_ok-fault.ensures.tokens) (c.deref-2.ensures.value ∙ c.in_ok-fault.ensures.symbols)
    _ _ c.in-Some.end c.counted_in.result (length row.lexemes.now) far (length-map row.lexemes.now f)
    (c.counted_in.ensures ∙ ap (λ (o : Option PlacedParseFault). counted_in o c.in-Some.end) is) refl c.in_ok-fault.ensures.marker parsed inside
    (λ all ns a b n. c.in_ok-read_line.ensures.after all ns a b n)
    (λ all ns a b n. c.in_ok-read_line.ensures.facts all ns a b n)
    (record {
      count = far ∙ sym (line_counted f row.lexemes.now d.reader.marker c.read.new.self.marker first c.in_ok-fault.ensures.marker (sym first_is));
      read = c.in_ok-read_row.ensures.read;
      version = λ v rest q. c.in_ok-read_row.ensures.version v rest q;
      found = λ v rest later ks q. c.in_ok-read_row.ensures.found v rest later ks q ∙ ap (λ (js : List KeyFacts). d.found.items ++ lexemes_left v d.options d.rules (line ++ later) (js ++ ks)) keys;
    })
