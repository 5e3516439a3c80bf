-- Bridge: a row that is judged behind others: the machines of the judge before it, and behind it.
use Rattle.std.specs.Prelude.{◌≡◌, ◌+◌, ◌-◌, ◌++◌, ℕ, Bool, false, List, [], map, length, take, Option, Some, None, IfSome}
use Rattle.yl_lexeme.specs.Lexeme.{LexemeValue}
use Rattle.yl_marks.specs.declared.facts.KeyFacts.{KeyFacts}
use Rattle.yl_marks.specs.declared.symbol.Symbol.{Symbol}
use Rattle.yl_marks.specs.declared.token.Token.{Token}
use Rattle.yl_marks.specs.ByLine.{marks_of_line}
use Rattle.yl_marks.specs.FactsByLine.{behind_keyed_line, facts_of_line, key_marker_at_start}
use Rattle.yl_marks.specs.Keys.{token_of}
use Rattle.yl_marks.specs.MarksAlike.{key_marker_state}
use Rattle.yl_events.specs.declared.fault.PlacedParseFault.{PlacedParseFault}
use Rattle.yl_events.specs.Named.{IsInLine}
use Rattle.yl_events.specs.Parsing.{start_events}
use Rattle.yl_events.specs.State.{parser_state}
use Rattle.yl_events.specs.SymbolParsing.{symbols_at_start}
use Rattle.yl_indentation.specs.Context.{nothing_open}
use Rattle.yl_indentation.specs.FactsAlike as facts
use Rattle.yl_indentation.specs.FactsAlike.{context_state}
use Rattle.yl_indentation.specs.LineFacts.{AreIndented, IsLine}
use Rattle.yl_indentation.specs.SymbolFacts.{behind_symbols, facts_left}
use Rattle.yl_lexeme_rules.specs.LexemesAlike as layout
use Rattle.yl_lexeme_rules.specs.LexemesAlike.{after_lexemes, lexemes_state}
use Rattle.yl_lexeme_rules.specs.LexemesLeft.{IsVersion, lexemes_left, none_read}
use Rattle.yl_config.specs.declared.config.Config.{Config}
use Rattle.yl_sections.specs.declared.row_judge.RowJudge.{RowJudge}
use Rattle.yl_sections.specs.Kept.{lexeme_options_of}
use Rattle.yl_sections.specs.Reading.{counted_in}
use Rattle.yl_sections.specs.RowReading.{MarksFrom, ParsesFrom}
use Rattle.yl_sections.specs.State.{DocumentState}

-- ---- before the first row

-- nothing was found
pub record HasNone {A : Type 0} (config : Config) (d : RowJudge A) : Type 0 where
  pub options : d.options ≡ lexeme_options_of config
  pub found : d.found.items ≡ []
  pub facts : d.facts.items ≡ []

-- at a document's start
pub record IsAtStart {A : Type 0} (config : Config) (d : RowJudge A) : Type 0 where
  pub none : HasNone config d
  pub count : d.reader.count ≡ 0
  pub marker : d.reader.marker ≡ key_marker_at_start
  pub parser : d.reader.parser ≡ symbols_at_start
  pub told : d.reader.outlines.items ≡ start_events
  pub context : d.places ≡ nothing_open
  pub lexemes : d.rules ≡ none_read

-- behind a state; the rows count from line 1
pub record GoesOn {A : Type 0} (config : Config) (s : DocumentState) (d : RowJudge A) : Type 0 where
  pub none : HasNone config d
  pub counted : d.reader.is_counted ≡ false
  pub marker : MarksFrom s.marker d.reader.marker
  pub parser : d.reader.parser ≡ s.parser
  pub context : context_state d.places ≡ s.context
  pub context_above : facts.IsAbove 1 d.places
  pub lexemes : lexemes_state d.rules ≡ s.lexemes
  pub lexemes_above : layout.IsAbove 1 d.rules
  pub none_waits : d.rules.waits ≡ false

-- the state behind the rows
abbrev pub state_behind : {A : Type 0} → RowJudge A → DocumentState
state_behind d = record {
  marker = key_marker_state d.reader.marker;
  parser = parser_state d.reader.parser;
  context = context_state d.places;
  lexemes = lexemes_state d.rules;
}

-- ---- the next row, which has the lexemes `line`

abbrev pub marks_behind : {A : Type 0} → RowJudge A → List LexemeValue → List Symbol
marks_behind d line = marks_of_line d.reader.marker.marks (map token_of line)

abbrev pub keys_behind : {A : Type 0} → RowJudge A → List LexemeValue → List KeyFacts
keys_behind d line = facts_of_line d.reader.marker (map token_of line)

-- the rules on lexemes have judged them
pub record AreJudged {A : Type 0} (d : RowJudge A) (line : List LexemeValue) (e : RowJudge A) : Type 0 where
  pub count : e.reader.count ≡ e.reader.marker.marks.count
  pub read : e.rules ≡ after_lexemes d.rules line
  pub version : (v : Bool) (rest : List LexemeValue) → IsVersion v d.rules (line ++ rest) → IsVersion v e.rules rest
  pub found : (v : Bool) (rest later : List LexemeValue) (ks : List KeyFacts) → IsVersion v d.rules (line ++ rest)
      → e.found.items ++ lexemes_left v d.options e.rules later ks ≡ d.found.items ++ lexemes_left v d.options d.rules (line ++ later) (keys_behind d line ++ ks)

-- they have judged those before this fault
pub record AreJudgedBefore {A : Type 0} (f : PlacedParseFault) (d : RowJudge A) (line : List LexemeValue) (e : RowJudge A) : Type 0 where
  pub count : e.reader.count ≡ d.reader.marker.marks.count
  pub found : (v : Bool) (rest : List LexemeValue) → IsVersion v d.rules (line ++ rest)
      → e.found.items
      ≡ d.found.items ++ lexemes_left v d.options d.rules (take (f.place - d.reader.marker.marks.count) line) (take (f.place - d.reader.marker.marks.count) (keys_behind d line))

abbrev pub AreJudgedTo : {A : Type 0} → Option PlacedParseFault → RowJudge A → List LexemeValue → RowJudge A → Type 0
AreJudgedTo None d line e = AreJudged d line e
AreJudgedTo (Some f) d line e = AreJudgedBefore f d line e

-- d has read the row, which begins with `spaces` spaces, and is then e; the document has this fault
-- at one of the lexemes
pub record JudgesRow {A : Type 0} (d : RowJudge A) (line : List LexemeValue) (spaces : ℕ) (fault : Option PlacedParseFault) (e : RowJudge A) : Type 0 where
  pub options : e.options ≡ d.options
  pub marker : e.reader.marker ≡ behind_keyed_line d.reader.marker (map token_of line)
  pub parsed : ParsesFrom d.reader.parser d.reader.marker.marks.count (marks_behind d line) fault e.reader.parser e.reader.outlines.items
  pub inside : IfSome fault (λ f. IsInLine d.reader.marker.marks.count (length line) f.place)
  pub context : (tokens : List Token) (ns : List ℕ) → IsLine tokens d.reader.marker.marks.count (map token_of line) → AreIndented ns spaces (map token_of line)
      → e.places ≡ behind_symbols tokens ns d.places (marks_behind d line)
  pub facts : (tokens : List Token) (ns : List ℕ) → IsLine tokens d.reader.marker.marks.count (map token_of line) → AreIndented ns spaces (map token_of line)
      → e.facts.items ≡ d.facts.items ++ facts_left d.places tokens (counted_in fault (d.reader.marker.marks.count + length line)) ns (marks_behind d line)
  pub judged : AreJudgedTo fault d line e
