-- Bridge: laws of what rows report: one run of rows after another, the same rows further down, and
-- the rows of a whole section.
use Rattle.std.specs.Prelude.{◌≡◌, ◌<◌, ◌+◌, ◌++◌, ◌∷◌, [], ℕ, true, List, map, length, Option, Some, None, option_map}
use Rattle.std.specs.List.{AllByRecursion}
use Rattle.yl_marks.specs.Keys.{token_of}
use Rattle.yl_marks.specs.Marks.{marked_lexemes}
use Rattle.yl_events.specs.declared.fault.ParseFault.{ParseFault}
use Rattle.yl_events.specs.declared.fault.PlacedParseFault.{PlacedParseFault}
use Rattle.yl_indentation.specs.Facts.{indent_facts}
use Rattle.yl_indentation.specs.FactsAlike.{fact_below}
use Rattle.yl_lexeme_rules.specs.Lexemes.{lexeme_findings}
use Rattle.yl_lexeme_rules.specs.LexemesAlike.{finding_below}
use Rattle.yl_lexeme.specs.Lexeme.{PlacedCommentValue}
use Rattle.yl_config.specs.declared.config.Config.{Config}
use Rattle.yl_record.specs.Records.{RecordValue}
use Rattle.yl_sections.specs.Judge.{document_of}
use Rattle.yl_sections.specs.Judging.{spaces_of}
use Rattle.yl_sections.specs.Kept.{comment_lines, counted_of, lexeme_options_of, shown_comments}
use Rattle.yl_sections.specs.Sections.{lexemes_of}
use Rattle.yl_pieces.specs.State.{DocumentState, start_state}
use Rattle.yl_pieces.specs.Told.{Told, ToldFault, end_fault, fault_in, is_border, state_after, told}

-- ---- one run of rows after another

-- each lexeme of the rows ends in one of them
abbrev pub EndWithin : ℕ → List RecordValue → Type 0
EndWithin rows [] = Unit {0}
EndWithin rows (r ∷ rs) = AllByRecursion (λ x. x.end.line < rows) r.entry.lexemes × EndWithin (length rs) rs

abbrev pub AreClosed : List RecordValue → Type 0
AreClosed rs = EndWithin (length rs) rs

-- what is told of rows, and of those after them
abbrev pub joined : Told → Told → Told
joined t u = record { found = t.found ++ u.found; facts = t.facts ++ u.facts; comments = t.comments ++ u.comments; fault = u.fault }

-- rows without a fault, after which a piece may begin, and the rows after them. The states after
-- all of them agree where the latter have no fault: after a fault no state is held
pub record AreJoined (config : Config) (s : DocumentState) (line : ℕ) (front rest : List RecordValue) : Type 0 where
  pub told_is : told config s line (front ++ rest) ≡ joined (told config s line front) (told config (state_after s line front) (line + length front) rest)
  pub state : fault_in (state_after s line front) (line + length front) rest ≡ None → state_after s line (front ++ rest) ≡ state_after (state_after s line front) (line + length front) rest

abbrev pub RowsAreJoined : Type 0
RowsAreJoined = (config : Config) (s : DocumentState) (line : ℕ) (front rest : List RecordValue)
    → AreClosed front → 0 < line + length front → fault_in s line front ≡ None → is_border (state_after s line front) ≡ true
    → AreJoined config s line front rest

-- the rows after a fault have no part in what is told
abbrev pub FaultEndsRows : Type 0
FaultEndsRows = (config : Config) (s : DocumentState) (line : ℕ) (front rest : List RecordValue) (f : PlacedParseFault)
    → fault_in s line front ≡ Some f → told config s line (front ++ rest) ≡ told config s line front

-- ---- the same rows further down

abbrev pub comment_below : ℕ → PlacedCommentValue → PlacedCommentValue
comment_below n c = record c { line = n + c.line }

abbrev pub fault_below : ℕ → ToldFault → ToldFault
fault_below n f = record f { place = record f.place { line = n + f.place.line } }

abbrev pub told_below : ℕ → Told → Told
told_below n t = record {
  found = map (finding_below n) t.found;
  facts = map (fact_below n) t.facts;
  comments = map (comment_below n) t.comments;
  fault = option_map (fault_below n) t.fault;
}

pub record AreToldBelow (config : Config) (s : DocumentState) (n line : ℕ) (rs : List RecordValue) : Type 0 where
  pub told_is : told config s (n + line) rs ≡ told_below n (told config s line rs)
  pub state : state_after s (n + line) rs ≡ state_after s line rs

-- lines move what is told, and nothing else: below line 0, where the latest lexeme stands
abbrev pub RowsAreToldBelow : Type 0
RowsAreToldBelow = (config : Config) (s : DocumentState) (n line : ℕ) (rs : List RecordValue) → 0 < line → AreToldBelow config s n line rs

-- ---- the rows of a section

-- a fault of the document after all lexemes
abbrev pub fault_after : ℕ → Option ParseFault → Option PlacedParseFault
fault_after place fault = option_map (λ kind. record { kind = kind; place = place }) fault

-- the fault of a document whose rows have this one, and which ends so
abbrev pub document_fault : List RecordValue → Option PlacedParseFault → Option PlacedParseFault
document_fault rs (Some f) = Some f
document_fault rs None = fault_after (length (lexemes_of rs)) (end_fault (state_after start_state 0 rs))

-- all that is kept of a section but what the rules on keys and anchors find is told of its rows
pub record IsToldOfSection (config : Config) (rs : List RecordValue) : Type 0 where
  pub fault : 0 < length (lexemes_of rs) → (document_of (lexemes_of rs)).fault ≡ document_fault rs (fault_in start_state 0 rs)
  pub found : lexeme_findings (lexeme_options_of config) (counted_of (lexemes_of rs) (document_of (lexemes_of rs)).fault) (lexemes_of rs) ≡ (told config start_state 0 rs).found
  pub facts : indent_facts (map token_of (lexemes_of rs)) (marked_lexemes (lexemes_of rs)) (counted_of (lexemes_of rs) (document_of (lexemes_of rs)).fault) (spaces_of rs)
      ≡ (told config start_state 0 rs).facts
  pub comments : shown_comments (comment_lines (length rs) (lexemes_of rs) (document_of (lexemes_of rs)).fault) rs ≡ (told config start_state 0 rs).comments

abbrev pub SectionIsTold : Type 0
SectionIsTold = (config : Config) (rs : List RecordValue) → IsToldOfSection config rs
