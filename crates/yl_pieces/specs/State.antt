-- Bridge: the machines that begin with what the judge of a document holds before a row.
use Rattle.std.specs.Prelude.{true, false, None, option_map}
use Rattle.yl_lexeme.specs.declared.lexeme.Kind.{Kind}
use Rattle.yl_marks.specs.declared.symbol.KeyedToken.{KeyedToken}
use Rattle.yl_marks.specs.declared.token.Token.{Token}
use Rattle.yl_marks.specs.FactsByLine.{KeyMarkerValue}
use Rattle.yl_marks.specs.MarksAlike.{KeyMarkerState}
use Rattle.yl_indentation.specs.Context.{ContextValue}
use Rattle.yl_indentation.specs.FactsAlike.{ContextState}
use Rattle.yl_lexeme_rules.specs.declared.span.Span.{Span}
use Rattle.yl_lexeme_rules.specs.declared.state.LexemeRulesState.{LexemeRulesState}
use Rattle.yl_lexeme_rules.specs.LexemesLeft.{LexemesRead}
pub use Rattle.yl_sections.specs.State.{DocumentState, start_state}

-- ---- machines with that state. Their latest lexeme begins and ends in line 0, and no lexeme is
-- counted

abbrev pub keyed_above : Kind → KeyedToken
keyed_above kind = record { kind = kind; start = record { line = 0; col = 0 }; end_line = 0; depth = 0; is_first = true; may_begin = false; key = None }

abbrev pub marker_from : KeyMarkerState → KeyMarkerValue
marker_from s = record {
  marks = record { count = 0; depth = s.marks.depth; latest = option_map keyed_above s.marks.latest; open_ones = s.marks.open_ones };
  ahead = s.ahead;
}

abbrev pub token_above : Kind → Token
token_above kind = record { kind = kind; start = record { line = 0; col = 0 }; end_line = 0 }

abbrev pub context_from : ContextState → ContextValue
context_from s = record { open_ones = s.open_ones; latest = option_map token_above s.latest; just_opened = s.just_opened }

abbrev pub span_above : Kind → Span
span_above kind = record { kind = kind; start = record { line = 0; col = 0 }; end_line = 0; end_col = 0 }

abbrev pub lexemes_from_state : LexemeRulesState → LexemesRead
lexemes_from_state s = record {
  latest = option_map span_above s.latest;
  earlier = None;
  waits = false;
  is_1_2 = s.is_1_2;
  in_directives = s.in_directives;
}
