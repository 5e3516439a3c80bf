-- Worked documents. Lexemes go by their index.
use Rattle.std.specs.Prelude.{ℕ, ◌≡◌, refl, List, [], ◌∷◌, ◌++◌, map, Some, None}
use Rattle.yl_lexeme.specs.declared.lexeme.Kind.{Kind}
use Rattle.yl_lexeme.specs.declared.lexeme.Kind.TheVariants.{DocStart, DocEnd, Directive, Entry, Value, Anchor, Scalar}
use Rattle.yl_lexeme.specs.declared.lexeme.Style.TheVariants.{Plain, Double}
use Rattle.yl_lexeme.specs.Lexeme.{LexemeValue}
use Rattle.yl_events.specs.declared.symbol.Outline.{Outline}
use Rattle.yl_events.specs.declared.symbol.Shape.{Shape}
use Rattle.yl_events.specs.declared.symbol.Shape.TheVariants as shape
use Rattle.yl_events.specs.declared.fault.ParseFault.TheVariants.{DocumentStartExpected, PropertiesGivenTwice, KeyOrEndOfMappingExpected, EntryOrEndOfSequenceExpected}
use Rattle.yl_events.specs.Documents.{beginnings}
use Rattle.yl_marks.specs.Marks.{symbols_of_lexemes}
use Rattle.yl_events.specs.Grammar.{Bare, ScalarNode, Missing, InlineNode, BlockSequence, BlockMapping, NoEntry, MoreEntries, NodeValue, Indentless, Others, NoPair, PairEntry}
use Rattle.yl_events.specs.Outlines.{bare_event, missing_node, end_event}
use Rattle.yl_events.specs.Derives.{Derives}
use Rattle.yl_events.specs.Faults.{fault_of}
use Rattle.yl_events.specs.DocumentOutcome.{Events, Fails}
use Rattle.yl_events.specs.Parsing.{parser_at_start, start_events, document_outcome_of_lines}
use Rattle.yl_marks.specs.Keys.{token_of}
use Rattle.yl_marks.specs.ByLine.{by_line}

-- a lexeme in a line, from a column to another
abbrev lexeme : ℕ → Kind → ℕ → ℕ → LexemeValue
lexeme line kind from to = record { kind = kind; start = record { line = line; col = from }; end = record { line = line; col = to }; value = [] }

abbrev at : Shape → ℕ → Outline
at kind i = bare_event kind (Some i)

abbrev plain : ℕ → Outline
plain i = at (shape.Scalar Plain) i

abbrev within : List Outline → List Outline
within es = bare_event shape.DocumentStart None ∷ es ++ end_event shape.DocumentEnd ∷ []

-- `- a`, `-`
abbrev entries : List LexemeValue
entries = lexeme 0 Entry 0 1 ∷ lexeme 0 (Scalar Plain) 2 3 ∷ lexeme 1 Entry 0 1 ∷ []

pub entries_row : Derives (symbols_of_lexemes entries) (within (at shape.SequenceStart 0 ∷ plain 1 ∷ missing_node ∷ end_event shape.SequenceEnd ∷ []))
entries_row = record {
  tree = record { start = Bare; end = None; node = BlockSequence None 0 (MoreEntries 0 (InlineNode (ScalarNode None Plain 1)) (MoreEntries 2 Missing NoEntry)) };
  spelled = refl;
  events = refl;
}

-- `a:`, `- 1`, `b:`
abbrev indentless : List LexemeValue
indentless =
    lexeme 0 (Scalar Plain) 0 1 ∷ lexeme 0 Value 1 2 ∷ lexeme 1 Entry 0 1 ∷ lexeme 1 (Scalar Plain) 2 3 ∷ lexeme 2 (Scalar Plain) 0 1 ∷ lexeme 2 Value 1 2 ∷ []

pub indentless_row : Derives (symbols_of_lexemes indentless)
    (within (at shape.MappingStart 0 ∷ plain 0 ∷ at shape.SequenceStart 2 ∷ plain 3 ∷ end_event shape.SequenceEnd ∷ plain 4 ∷ missing_node ∷ end_event shape.MappingEnd ∷ []))
indentless_row = record {
  tree = record {
    start = Bare;
    end = None;
    node = BlockMapping None 0 (Others
        (PairEntry 0 (ScalarNode None Plain 0) 1 (Indentless None 2 (InlineNode (ScalarNode None Plain 3)) NoEntry)
        (Others (PairEntry 4 (ScalarNode None Plain 4) 5 (NodeValue Missing) (Others NoPair)))));
  };
  spelled = refl;
  events = refl;
}

-- `--- &x &y a`
pub twice_row : fault_of (symbols_of_lexemes (lexeme 0 DocStart 0 3 ∷ lexeme 0 Anchor 4 6 ∷ lexeme 0 Anchor 7 9 ∷ lexeme 0 (Scalar Plain) 10 11 ∷ [])) 2 ≡ PropertiesGivenTwice
twice_row = refl

-- a directive, and `a`
pub directive_row : fault_of (symbols_of_lexemes (lexeme 0 Directive 0 9 ∷ lexeme 1 (Scalar Plain) 0 1 ∷ [])) 1 ≡ DocumentStartExpected
directive_row = refl

-- `a: 1`, `- b`
pub mixed_row : fault_of (symbols_of_lexemes (lexeme 0 (Scalar Plain) 0 1 ∷ lexeme 0 Value 1 2 ∷ lexeme 0 (Scalar Plain) 3 4 ∷ lexeme 1 Entry 0 1 ∷ lexeme 1 (Scalar Plain) 2 3 ∷ [])) 3 ≡ KeyOrEndOfMappingExpected
mixed_row = refl

-- `a:`, `- "1"`, ` "b"`
pub behind_entry_row : fault_of (symbols_of_lexemes (lexeme 0 (Scalar Plain) 0 1 ∷ lexeme 0 Value 1 2 ∷ lexeme 1 Entry 0 1 ∷ lexeme 1 (Scalar Double) 2 5 ∷ lexeme 2 (Scalar Double) 1 4 ∷ [])) 4 ≡ EntryOrEndOfSequenceExpected
behind_entry_row = refl

-- the first of these documents and the latest, line by line
pub told_row : document_outcome_of_lines parser_at_start start_events (by_line (map token_of entries)) ≡
    Events (within (at shape.SequenceStart 0 ∷ plain 1 ∷ missing_node ∷ end_event shape.SequenceEnd ∷ []))
told_row = refl

pub refused_row : document_outcome_of_lines parser_at_start start_events
    (by_line (map token_of (lexeme 0 (Scalar Plain) 0 1 ∷ lexeme 0 Value 1 2 ∷ lexeme 1 Entry 0 1 ∷ lexeme 1 (Scalar Double) 2 5 ∷ lexeme 2 (Scalar Double) 1 4 ∷ []))) ≡
    Fails (record { kind = EntryOrEndOfSequenceExpected; place = 4 })
refused_row = refl

-- `a`, `---`, `b`, `...`, a directive, `---`, `...`, `...`
pub documents_row : beginnings (Scalar Plain ∷ DocStart ∷ Scalar Plain ∷ DocEnd ∷ Directive ∷ DocStart ∷ DocEnd ∷ DocEnd ∷ []) ≡ 0 ∷ 1 ∷ 4 ∷ 7 ∷ []
documents_row = refl
