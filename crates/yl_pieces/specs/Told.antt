-- Bridge: what the rows of a document report by the state before them: what the rules on lexemes
-- find, what the rule indentation checks, the comments, and the fault at a lexeme. The rules on keys
-- and anchors have no part in it.
use Rattle.std.specs.Prelude.{ℕ, Bool, ◌&&◌, ◌||◌, ◌-◌, [], ◌++◌, List, map, length, take, replicate, Option, Some, None, option_map, option_and_then, slice_get}
use Rattle.std.specs.Option.{option_map_or}
use Rattle.yl_text.specs.declared.position.Pos.{Pos}
use Rattle.yl_text.specs.Finding.{FindingValue}
use Rattle.yl_lexeme.specs.Lexeme.{LexemeValue, PlacedCommentValue}
use Rattle.yl_marks.specs.declared.token.Token.{Token}
use Rattle.yl_marks.specs.declared.symbol.Symbol.{Symbol}
use Rattle.yl_marks.specs.declared.facts.KeyFacts.{KeyFacts}
use Rattle.yl_marks.specs.Keys.{token_of}
use Rattle.yl_marks.specs.ByLine.{by_line}
use Rattle.yl_marks.specs.FactsByLine.{facts_by_lines}
use Rattle.yl_marks.specs.Marks.{closings_of_all}
use Rattle.yl_marks.specs.MarksAlike.{after_rows, key_marker_state, marks_of_rows}
use Rattle.yl_events.specs.declared.fault.ParseFault.{ParseFault}
use Rattle.yl_events.specs.declared.fault.PlacedParseFault.{PlacedParseFault}
use Rattle.yl_events.specs.DocumentOutcome.{DocumentOutcome, Events, Fails, steps}
use Rattle.yl_events.specs.Machine.{ParserState, taken_count}
use Rattle.yl_events.specs.State.{parser_state}
use Rattle.yl_events.specs.SymbolParsing.{SymbolParserValue, outcome_of_symbols}
use Rattle.yl_events.specs.Trail.{fault_from, trail_after}
use Rattle.yl_indentation.specs.declared.fact.Fact.{Fact}
use Rattle.yl_indentation.specs.FactsAlike.{context_state}
use Rattle.yl_indentation.specs.SymbolFacts.{behind_symbols, facts_left}
use Rattle.yl_lexeme_rules.specs.Lexemes.{findings_behind}
use Rattle.yl_lexeme_rules.specs.LexemesAlike.{after_lexemes, lexemes_state}
use Rattle.yl_lexeme_rules.specs.Version.{is_1_2_document}
use Rattle.yl_config.specs.declared.config.Config.{Config}
use Rattle.yl_record.specs.Records.{RecordValue}
use Rattle.yl_sections.specs.Judging.{spaces_of}
use Rattle.yl_sections.specs.Kept.{comments_from, lexeme_options_of}
use Rattle.yl_sections.specs.Sections.{lexemes_from}
use Rattle.yl_pieces.specs.State.{DocumentState, context_from, lexemes_from_state, marker_from}
pub use Rattle.yl_sections.specs.State.{is_border}

-- ---- the lexemes of the rows, the first of which is at this line

abbrev pub tokens_in : ℕ → List RecordValue → List Token
tokens_in line rs = map token_of (lexemes_from line rs)

-- with their marks, and what keys say of them
abbrev pub symbols_in : DocumentState → ℕ → List RecordValue → List Symbol
symbols_in s line rs = marks_of_rows (marker_from s.marker).marks (by_line (tokens_in line rs))

abbrev pub keys_in : DocumentState → ℕ → List RecordValue → List KeyFacts
keys_in s line rs = facts_by_lines (marker_from s.marker) (by_line (tokens_in line rs))

-- the leading spaces of the lines, where none counts above the rows
abbrev pub spaces_in : ℕ → List RecordValue → List ℕ
spaces_in line rs = replicate line 0 ++ spaces_of rs

-- ---- the fault

-- at the symbols of rows, if not all of them are taken
abbrev pub fault_at : SymbolParserValue → List Symbol → Option ParserState → Option PlacedParseFault
fault_at p ws (Some after) = None
fault_at p ws None = let n = taken_count ws p.goals [] in Some (record { kind = fault_from p.trail n ws; place = n })

-- of the document at a lexeme of the rows
abbrev pub fault_in : DocumentState → ℕ → List RecordValue → Option PlacedParseFault
fault_in s line rs = let ws = symbols_in s line rs in fault_at s.parser ws (steps ws s.parser.goals [])

-- of the document that ends after the rows
abbrev pub fault_of : DocumentOutcome → Option ParseFault
fault_of (Events es) = None
fault_of (Fails f) = Some f.kind

abbrev pub end_fault : DocumentState → Option ParseFault
end_fault s = fault_of (outcome_of_symbols s.parser 0 [] (closings_of_all s.marker.marks.open_ones))

-- ---- what is told

-- where a fault stands, and which
pub record ToldFault : Type 0 where
  pub place : Pos
  pub kind : ParseFault

pub record Told : Type 0 where
  pub found : List FindingValue
  pub facts : List Fact
  pub comments : List PlacedCommentValue
  pub fault : Option ToldFault

-- it says that the document is one of YAML 1.2, in these rows or above
abbrev pub version_in : DocumentState → List LexemeValue → Bool
version_in s xs = s.lexemes.is_1_2 || (s.lexemes.in_directives && is_1_2_document xs)

abbrev pub told_fault : List LexemeValue → PlacedParseFault → Option ToldFault
told_fault xs f = option_map (λ x. record { place = x.start; kind = f.kind }) (slice_get xs f.place)

-- where the rows have a fault, the lexemes before it and the comments of the rows above it count
abbrev pub told_by : Config → DocumentState → ℕ → List RecordValue → Option PlacedParseFault → Told
told_by config s line rs fault =
    let xs = lexemes_from line rs in
    let counted = option_map_or (λ f. f.place) fault (length xs) in
    let there = option_and_then (told_fault xs) fault in
    let rows = option_map_or (λ f. take (f.place.line - line) rs) there rs in
    record {
      found = findings_behind (version_in s xs) (lexeme_options_of config) (lexemes_from_state s.lexemes).latest (take counted xs) (keys_in s line rs);
      facts = facts_left (context_from s.context) (tokens_in line rs) counted (spaces_in line rs) (symbols_in s line rs);
      comments = comments_from None line rows;
      fault = there;
    }

abbrev pub told : Config → DocumentState → ℕ → List RecordValue → Told
told config s line rs = told_by config s line rs (fault_in s line rs)

-- ---- the state after the rows, where they have no fault

abbrev pub goals_after : Option ParserState → SymbolParserValue → List Symbol → SymbolParserValue
goals_after None p ws = p
goals_after (Some after) p ws = parser_state (record { goals = after.goals; trail = trail_after p.trail ws })

abbrev pub state_after : DocumentState → ℕ → List RecordValue → DocumentState
state_after s line rs =
    let ws = symbols_in s line rs in
    record {
      marker = key_marker_state (after_rows (marker_from s.marker) (by_line (tokens_in line rs)));
      parser = goals_after (steps ws s.parser.goals []) s.parser ws;
      context = context_state (behind_symbols (tokens_in line rs) (spaces_in line rs) (context_from s.context) ws);
      lexemes = lexemes_state (after_lexemes (lexemes_from_state s.lexemes) (lexemes_from line rs));
    }
