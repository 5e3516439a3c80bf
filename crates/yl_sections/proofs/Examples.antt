-- Rows with their lexemes, cut and judged, computed.
use Rattle.std.specs.Prelude.{ℕ, ◌≡◌, refl, List, [], ◌∷◌, codes, length, map, Option, Some, None}
use Rattle.yl_lexeme.specs.declared.lexeme.Style.TheVariants.{Plain}
use Rattle.yl_lexeme.specs.declared.lexeme.Kind.{Kind}
use Rattle.yl_lexeme.specs.declared.lexeme.Kind.TheVariants.{Directive, DocStart, DocEnd, Scalar}
use Rattle.yl_lexeme.specs.Lexeme.{LexemeValue, CommentValue}
use Rattle.yl_row.specs.declared.fault.PlacedScanFault.{PlacedScanFault}
use Rattle.yl_row.specs.declared.fault.ScanFault.TheVariants.{NotAllowed}
use Rattle.yl_row.specs.Entries.{pos_at}
use Rattle.yl_events.specs.declared.fault.ParseFault.TheVariants.{CommaOrBracketExpected, SecondNode}
use Rattle.yl_config.specs.declared.config.Config.{Config}
use Rattle.yl_settings.specs.Standard.{standard_rule_options}
use Rattle.yl_record.specs.Records.{RecordValue}
use Rattle.yl_sections.specs.Sections.{sections}
use Rattle.yl_sections.specs.Kept.{Here, Behind, kept_of, scan_fault_from, section_fault}

abbrev row_with : List LexemeValue → Option CommentValue → Option PlacedScanFault → RecordValue
row_with xs comment fault = record { indentation = 0; entry = record { state = None; lexemes = xs; comment = comment; fault = fault } }

abbrev row : List LexemeValue → RecordValue
row xs = row_with xs None None

-- the only lexeme of its row
abbrev alone : Kind → ℕ → List LexemeValue
alone kind behind = record { kind = kind; start = pos_at 0 0; end = pos_at 0 behind; value = [] } ∷ []

abbrev word : List LexemeValue
word = alone (Scalar Plain) 1

abbrev commented : List ℕ → RecordValue
commented text = row_with word (Some (record { column = 3; text = text })) None

abbrev bad : RecordValue
bad = row_with [] None (Some (record { fault = NotAllowed; down = 0; column = 2 }))

-- no rule is on
abbrev off : Config
off = record { levels = record { levels = [] }; options = standard_rule_options }

abbrev row_counts : List RecordValue → List ℕ
row_counts rs = map length (sections rs)

-- '', '---', 'a', '...', '', '---', 'a'
pub two_documents : row_counts (row [] ∷ row (alone DocStart 3) ∷ row word ∷ row (alone DocEnd 3) ∷ row [] ∷ row (alone DocStart 3) ∷ row word ∷ []) ≡ 5 ∷ 2 ∷ []
two_documents = refl

-- 'a', '...', '%YAML 1.2', '---': a directive belongs to the next document
pub directed : row_counts (row word ∷ row (alone DocEnd 3) ∷ row (alone Directive 9) ∷ row (alone DocStart 3) ∷ []) ≡ 2 ∷ 2 ∷ []
directed = refl

-- 'a', '...', '...'
pub two_ends : row_counts (row word ∷ row (alone DocEnd 3) ∷ row (alone DocEnd 3) ∷ []) ≡ 2 ∷ 1 ∷ []
two_ends = refl

-- no lexemes
pub no_document : row_counts (row [] ∷ row [] ∷ []) ≡ 2 ∷ []
no_document = refl

-- ---- faults

pub fault_at_lexeme : section_fault word (Some (record { kind = SecondNode; place = 0 })) (scan_fault_from 0 (row word ∷ bad ∷ [])) ≡ Some (Here (pos_at 0 0) (codes "second node"))
fault_at_lexeme = refl

pub fault_behind : section_fault word (Some (record { kind = CommaOrBracketExpected; place = 1 })) None ≡ Some (Behind (codes "comma or closing bracket expected"))
fault_behind = refl

-- one after all lexemes gives way to the scan fault
pub scan_fault_first : section_fault word (Some (record { kind = CommaOrBracketExpected; place = 1 })) (scan_fault_from 0 (row word ∷ bad ∷ [])) ≡ Some (Here (pos_at 1 2) (codes "character not allowed here"))
scan_fault_first = refl

-- ---- comments

-- 'a  # yamllint disable', 'a  # yamllint', 'a  # yamllint enable' with a fault at the third lexeme
pub shown_before_fault : (kept_of off (commented (codes "# yamllint disable") ∷ commented (codes "# yamllint") ∷ commented (codes "# yamllint enable") ∷ []) (record { events = []; fault = Some (record { kind = SecondNode; place = 2 }) })).comments
    ≡ record { line = 0; column = 3; text = codes "# yamllint disable"; behind = Some 1 } ∷ []
shown_before_fault = refl

-- the same without a fault
pub all_shown : length (kept_of off (commented (codes "# yamllint disable") ∷ commented (codes "# yamllint") ∷ commented (codes "# yamllint enable") ∷ []) (record { events = []; fault = None })).comments ≡ 2
all_shown = refl
