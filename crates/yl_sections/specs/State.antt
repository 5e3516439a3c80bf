-- Bridge: what the judge of a document holds before a row, without lines and counts.
use Rattle.std.specs.Prelude.{Bool, not, ◌&&◌}
use Rattle.yl_marks.specs.FactsByLine.{key_marker_at_start}
use Rattle.yl_marks.specs.MarksAlike.{KeyMarkerState, key_marker_state}
use Rattle.yl_events.specs.State.{parser_state}
use Rattle.yl_events.specs.SymbolParsing.{SymbolParserValue, symbols_at_start}
use Rattle.yl_indentation.specs.Context.{nothing_open}
use Rattle.yl_indentation.specs.FactsAlike.{ContextState, context_state}
use Rattle.yl_lexeme_rules.specs.declared.state.LexemeRulesState.{LexemeRulesState}
use Rattle.yl_lexeme_rules.specs.LexemesAlike.{is_settled, lexemes_state}
use Rattle.yl_lexeme_rules.specs.LexemesLeft.{none_read}

-- the marker's, the parser's, that of the rule indentation, and that of the rules on lexemes
pub record DocumentState : Type 0 where
  pub marker : KeyMarkerState
  pub parser : SymbolParserValue
  pub context : ContextState
  pub lexemes : LexemeRulesState

-- at a document's start
abbrev pub start_state : DocumentState
start_state = record {
  marker = key_marker_state key_marker_at_start;
  parser = parser_state symbols_at_start;
  context = context_state nothing_open;
  lexemes = lexemes_state none_read;
}

-- rows may begin a piece after this state: the latest lexeme is no opening bracket, and the
-- directives have ended
abbrev pub is_border : DocumentState → Bool
is_border s = is_settled s.lexemes && not s.lexemes.in_directives
