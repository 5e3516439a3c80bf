-- Bridge: a run of rows that is judged row by row from the state before it: what its judge holds.
use Rattle.std.specs.Prelude.{◌⊎◌, ◌≡◌, ◌≤◌, ◌+◌, ◌++◌, ℕ, Bool, false, List, [], ◌∷◌, map, length, replicate, Option, Some, None, option_map}
use Rattle.yl_lexeme.specs.declared.lexeme.Kind.TheVariants.{Comma}
use Rattle.yl_lexeme.specs.Lexeme.{LexemeValue}
use Rattle.yl_marks.specs.declared.facts.KeyFacts.{KeyFacts}
use Rattle.yl_marks.specs.declared.symbol.Symbol.{Symbol}
use Rattle.yl_marks.specs.declared.token.Token.{Token}
use Rattle.yl_marks.specs.Keys.{token_of}
use Rattle.yl_marks.specs.ByLine.{by_line}
use Rattle.yl_marks.specs.FactsByLine.{KeyMarkerValue, facts_by_lines}
use Rattle.yl_marks.specs.MarksAlike as marks
use Rattle.yl_marks.specs.MarksAlike.{marks_of_rows}
use Rattle.yl_events.specs.declared.fault.PlacedParseFault.{PlacedParseFault}
use Rattle.yl_events.specs.declared.symbol.Goal.{Goal}
use Rattle.yl_events.specs.DocumentOutcome.{Fails, steps}
use Rattle.yl_events.specs.Machine.{ParserState}
use Rattle.yl_events.specs.SymbolParsing.{SymbolParserValue, outcome_of_symbols}
use Rattle.yl_events.specs.Trail.{trail_after}
use Rattle.yl_indentation.specs.Context.{ContextValue}
use Rattle.yl_indentation.specs.FactsAlike as facts
use Rattle.yl_indentation.specs.FactsAlike.{context_state}
use Rattle.yl_indentation.specs.SymbolFacts.{behind_symbols, facts_left}
use Rattle.yl_lexeme_rules.specs.LexemesAlike as layout
use Rattle.yl_lexeme_rules.specs.LexemesAlike.{after_lexemes, lexemes_state}
use Rattle.yl_lexeme_rules.specs.LexemesLeft.{IsVersion, LexemesRead, lexemes_left}
use Rattle.yl_config.specs.declared.config.Config.{Config}
use Rattle.yl_record.specs.Records.{RecordValue}
use Rattle.yl_sections.specs.declared.row_judge.RowJudge.{RowJudge}
use Rattle.yl_sections.specs.Judging.{end_after}
use Rattle.yl_sections.specs.Kept.{comments_from, lexeme_options_of}
use Rattle.yl_sections.specs.RowReading.{IsCounted, MarksFrom}
use Rattle.yl_sections.specs.Sections.{lexemes_from}
use Rattle.yl_sections.specs.State.{DocumentState}
use Rattle.yl_pieces.specs.declared.comments.PieceComments.{PieceComments}
use Rattle.yl_pieces.specs.declared.piece.PieceFault.{PieceFault}
use Rattle.yl_pieces.specs.declared.piece.PieceJudge.{PieceJudge}
use Rattle.yl_pieces.specs.Fault.{fault_value}
use Rattle.yl_pieces.specs.Told.{fault_in, spaces_in, told, tokens_in}

-- ---- machines that go on from a state; the rows count from line 1

pub record Machines : Type 0 where
  pub marker : KeyMarkerValue
  pub parser : SymbolParserValue
  pub context : ContextValue
  pub lexemes : LexemesRead

pub record GoOnFrom (s : DocumentState) (m : Machines) : Type 0 where
  pub marker : MarksFrom s.marker m.marker
  pub parser : m.parser ≡ s.parser
  pub context : context_state m.context ≡ s.context
  pub context_above : facts.IsAbove 1 m.context
  pub lexemes : lexemes_state m.lexemes ≡ s.lexemes
  pub lexemes_above : layout.IsAbove 1 m.lexemes
  pub none_waits : m.lexemes.waits ≡ false

-- ---- rows

abbrev pub goals_of : Option ParserState → Option (List Goal)
goals_of s = option_map (λ t. t.goals) s

abbrev pub lines_of : List RecordValue → List (List Token)
lines_of rs = by_line (tokens_in 1 rs)

abbrev pub symbols_by : Machines → List RecordValue → List Symbol
symbols_by m rs = marks_of_rows m.marker.marks (lines_of rs)

-- the machines count lexemes above the rows, whichever they are
abbrev pub any_lexeme : LexemeValue
any_lexeme = record { kind = Comma; start = record { line = 0; col = 0 }; end = record { line = 0; col = 0 }; value = [] }

abbrev pub lexemes_by : Machines → List RecordValue → List LexemeValue
lexemes_by m rs = replicate m.marker.marks.count any_lexeme ++ lexemes_from 1 rs

abbrev pub tokens_by : Machines → List RecordValue → List Token
tokens_by m rs = map token_of (lexemes_by m rs)

-- the lexemes of these rows were judged, and have no fault
pub record HasRead {A : Type 0} (config : Config) (m : Machines) (rs : List RecordValue) (d : RowJudge A) : Type 0 where
  pub options : d.options ≡ lexeme_options_of config
  pub marker : d.reader.marker ≡ marks.after_rows m.marker (lines_of rs)
  pub counted : IsCounted d.reader
  pub count : d.reader.marker.marks.count ≡ m.marker.marks.count + length (lexemes_from 1 rs)
  pub goals : goals_of (steps (symbols_by m rs) m.parser.goals []) ≡ Some d.reader.parser.goals
  pub trail : d.reader.parser.trail ≡ trail_after m.parser.trail (symbols_by m rs)
  pub fails : (later : List Symbol) (f : PlacedParseFault) → outcome_of_symbols d.reader.parser d.reader.marker.marks.count [] later ≡ Fails f
      → outcome_of_symbols m.parser m.marker.marks.count [] (symbols_by m rs ++ later) ≡ Fails f
  pub context : (more : List RecordValue) → d.places ≡ behind_symbols (tokens_by m (rs ++ more)) (spaces_in 1 (rs ++ more)) m.context (symbols_by m rs)
  pub facts : (more : List RecordValue) (counted : ℕ) → d.reader.marker.marks.count ≤ counted
      → d.facts.items ≡ facts_left m.context (tokens_by m (rs ++ more)) counted (spaces_in 1 (rs ++ more)) (symbols_by m rs)
  pub lexemes : d.rules ≡ after_lexemes m.lexemes (lexemes_from 1 rs)
  pub version : (v : Bool) (rest : List LexemeValue) → IsVersion v m.lexemes (lexemes_from 1 rs ++ rest) → IsVersion v d.rules rest
  pub found : (v : Bool) (rest later : List LexemeValue) (ks : List KeyFacts) → IsVersion v m.lexemes (lexemes_from 1 rs ++ rest)
      → d.found.items ++ lexemes_left v (lexeme_options_of config) d.rules later ks
      ≡ lexemes_left v (lexeme_options_of config) m.lexemes (lexemes_from 1 rs ++ later) (facts_by_lines m.marker (lines_of rs) ++ ks)

pub record Begins {A : Type 0} (config : Config) (s : DocumentState) (rs : List RecordValue) (d : RowJudge A) : Type 0 where
  pub from : Machines
  pub go_on : GoOnFrom s from
  pub read : HasRead config from rs d

-- ---- a fault

-- the document has a fault at a lexeme of the next row, whatever rows come
pub record StopsAt {A : Type 0} (config : Config) (s : DocumentState) (rs : List RecordValue) (r : RecordValue) (d : RowJudge A) (place : PieceFault) : Type 0 where
  pub fault : PlacedParseFault
  pub there : (more : List RecordValue) → fault_in s 1 (rs ++ r ∷ more) ≡ Some fault
  pub told : (more : List RecordValue) → told config s 1 (rs ++ r ∷ more)
      ≡ record { found = d.found.items; facts = d.facts.items; comments = comments_from None 1 rs; fault = Some (fault_value place) }

-- the lexemes of the next row were judged
abbrev pub IsAfter : {A : Type 0} → Option PieceFault → Config → DocumentState → Machines → List RecordValue → RecordValue → RowJudge A → Type 0
IsAfter None config s m rs r d = HasRead config m (rs ++ r ∷ []) d
IsAfter (Some place) config s m rs r d = StopsAt config s rs r d place

-- ---- the judge

pub record HasComments {A : Type 0} (rs : List RecordValue) (c : PieceComments A) : Type 0 where
  pub last : c.last ≡ end_after None 1 rs
  pub all : c.all.items ≡ comments_from None 1 rs

-- it has read these rows, from this state before them, and they have no fault
pub record IsGoing {A : Type 0} (config : Config) (s : DocumentState) (rs : List RecordValue) (j : PieceJudge A) : Type 0 where
  pub none : j.fault ≡ None
  pub line : j.line ≡ 1 + length rs
  pub rows : Begins config s rs j.rows
  pub comments : HasComments rs j.comments

-- they have one, whatever rows come
pub record HasStopped {A : Type 0} (config : Config) (s : DocumentState) (rs : List RecordValue) (j : PieceJudge A) : Type 0 where
  pub place : PieceFault
  pub stopped : j.fault ≡ Some place
  pub fault : PlacedParseFault
  pub there : (more : List RecordValue) → fault_in s 1 (rs ++ more) ≡ Some fault
  pub told : (more : List RecordValue) → told config s 1 (rs ++ more)
      ≡ record { found = j.rows.found.items; facts = j.rows.facts.items; comments = j.comments.all.items; fault = option_map fault_value j.fault }

abbrev pub JudgesRows : {A : Type 0} → Config → DocumentState → List RecordValue → PieceJudge A → Type 0
JudgesRows config s rs j = IsGoing config s rs j ⊎ HasStopped config s rs j

-- the state after the rows, unless they have a fault
abbrev pub unless_fault : Option PlacedParseFault → DocumentState → Option DocumentState
unless_fault None s = Some s
unless_fault (Some f) s = None
