-- Meaning: the summary of a section by itself. Lines count from its first row: those of findings
-- from 1, others from 0. The first fault of a text follows from the faults of its sections: it
-- hides the sections after it whole, and nothing of a section before it. So the summary has what
-- the section shows, and no finding has to name the lexemes on which it depends. The findings of
-- rules on lines are never hidden, and are no part of the summary.
use Rattle.std.specs.Prelude.{◌≡◌, ℕ, Bool, true, false, ◌==◌, List, [], ◌∷◌, ◌++◌, ◌+◌, ◌-◌, ◌^◌, min, map, length, take, Option, Some, None, slice_get, is_some, option_map, option_and_then}
use Rattle.std.specs.Bool.{then_some}
use Rattle.std.specs.Option.{option_or, option_map_or}
use Rattle.std.specs.List.{filter, flat_map, fold}
use Rattle.yl_text.specs.declared.position.Pos.{Pos}
use Rattle.yl_text.specs.declared.finding.RuleId.{RuleId}
use Rattle.yl_text.specs.declared.finding.RuleId.TheVariants.{Anchors, Braces, Brackets, Colons, Commas, Comments, DocumentStart, Hyphens, Indentation, KeyDuplicates, KeyOrdering, QuotedStrings, Truthy}
use Rattle.yl_text.specs.Finding.{FindingValue}
use Rattle.yl_lexeme.specs.Lexeme.{LexemeValue, CommentValue, PlacedCommentValue}
use Rattle.yl_marks.specs.Keys.{token_of}
use Rattle.yl_marks.specs.Marks.{marked_lexemes}
use Rattle.yl_row.specs.declared.fault.PlacedScanFault.{PlacedScanFault}
use Rattle.yl_row.specs.Entries.{pos_at}
use Rattle.yl_row.specs.Fault as scan
use Rattle.yl_events.specs.declared.fault.PlacedParseFault.{PlacedParseFault}
use Rattle.yl_events.specs.Event.{EventValue}
use Rattle.yl_events.specs.Built.{Builds}
use Rattle.yl_events.specs.Faults as parse
use Rattle.yl_lexeme_rules.specs.declared.options.LexemeOptions.{LexemeOptions}
use Rattle.yl_lexeme_rules.specs.Lexemes.{lexeme_findings}
use Rattle.yl_indentation.specs.declared.fact.Fact.{Fact}
use Rattle.yl_indentation.specs.Facts.{indent_facts}
use Rattle.yl_tree.specs.declared.options.TreeOptions.{TreeOptions}
use Rattle.yl_tree.specs.Tree.{tree_findings}
use Rattle.yl_rules.specs.Addressed.{is_addressed}
use Rattle.yl_rules.specs.Comments.{comment_findings}
use Rattle.yl_config.specs.declared.config.Config.{Config}
use Rattle.yl_config.specs.Config.{levels_of, options_of}
use Rattle.yl_record.specs.Records.{RecordValue}
use Rattle.yl_sections.specs.declared.comments.LexemeEnd.{LexemeEnd}
use Rattle.yl_sections.specs.Sections.{lexemes_of}

-- ---- the document

-- the events of a document and no fault, or its fault and no events
pub record BuiltValue : Type 0 where
  pub events : List EventValue
  pub fault : Option PlacedParseFault

-- the events or the fault of the document of these lexemes; without lexemes there is no document
abbrev pub IsSectionBuilt : List LexemeValue → BuiltValue → Type 0
IsSectionBuilt [] b = b ≡ record { events = []; fault = None }
IsSectionBuilt (x ∷ xs) b = Builds (x ∷ xs) b.events b.fault

abbrev pub document_count : List LexemeValue → ℕ
document_count [] = 0
document_count (x ∷ xs) = 1

-- the number of documents in these sections
abbrev pub documents_in : List (List RecordValue) → ℕ
documents_in [] = 0
documents_in (s ∷ ss) = document_count (lexemes_of s) + documents_in ss

-- ---- the section's fault

pub data SectionFaultValue : Type 0 where
  -- at a position of the section
  Here : (place : Pos) (text : List ℕ) → SectionFaultValue
  -- the document may not end here: at the first lexeme of the next document, or at the end of the
  -- text
  Behind : (text : List ℕ) → SectionFaultValue

-- the scan fault of the row at this line; greater numbers of lines and of characters are cut to the
-- greatest that fits in 32 bits, which no text has
abbrev pub scan_fault_at : ℕ → PlacedScanFault → SectionFaultValue
scan_fault_at line f = Here (pos_at (min (line + f.down) (2 ^ 32 - 1)) (min f.column (2 ^ 32 - 1))) (scan.fault_text f.fault)

-- the scan fault in these rows, the first of which is at this line
abbrev pub scan_fault_from : ℕ → List RecordValue → Option SectionFaultValue
scan_fault_from line [] = None
scan_fault_from line (r ∷ rs) = option_or (option_map (scan_fault_at line) r.entry.fault) (scan_fault_from (line + 1) rs)

-- a parse fault at a lexeme comes before the scan fault, which is after all lexemes; a parse fault
-- after all lexemes is replaced by it
abbrev pub section_fault : List LexemeValue → Option PlacedParseFault → Option SectionFaultValue → Option SectionFaultValue
section_fault xs None scanned = scanned
section_fault xs (Some f) scanned =
    let text = parse.fault_text f.kind in
    option_or (option_map (λ x. Here x.start text) (slice_get xs f.place)) (option_or scanned (Some (Behind text)))

-- the number of lexemes before the parse fault
abbrev pub counted_of : List LexemeValue → Option PlacedParseFault → ℕ
counted_of xs f = option_map_or (λ e. e.place) f (length xs)

-- the number of rows whose comments are shown: those before a parse fault at a lexeme, or all rows
abbrev pub comment_lines : ℕ → List LexemeValue → Option PlacedParseFault → ℕ
comment_lines rows xs f = option_map_or (λ x. x.start.line) (option_and_then (λ e. slice_get xs e.place) f) rows

-- ---- comments

-- the end of the last lexeme after the row at this line
abbrev pub last_lexeme_end : Option LexemeEnd → ℕ → List LexemeValue → Option LexemeEnd
last_lexeme_end last line xs = fold (λ e x. Some (record { line = line + x.end.line; col = x.end.col })) last xs

-- the comment with the column at which the last lexeme ends, if that is in this line
abbrev pub comment_at : ℕ → Option LexemeEnd → Option CommentValue → List PlacedCommentValue
comment_at line last None = []
comment_at line last (Some c) =
    let behind = option_and_then (λ e. then_some (e.line == line) e.col) last in
    record { line = line; column = c.column; text = c.text; behind = behind } ∷ []

-- the comments of these rows, the first of which is at this line; the comment of a row comes after
-- its lexemes
abbrev pub comments_from : Option LexemeEnd → ℕ → List RecordValue → List PlacedCommentValue
comments_from last line [] = []
comments_from last line (r ∷ rs) =
    let end = last_lexeme_end last line r.entry.lexemes in comment_at line end r.entry.comment ++ comments_from end (line + 1) rs

-- the comments of the rows before this line
abbrev pub shown_comments : ℕ → List RecordValue → List PlacedCommentValue
shown_comments line rs = comments_from None 0 (take line rs)

-- ---- the rules

abbrev pub is_on : Config → RuleId → Bool
is_on config rule = is_some (levels_of config rule)

abbrev pub items_if : {X : Type 0} → Bool → List X → List X
items_if true xs = xs
items_if false xs = []

abbrev pub lexeme_options_of : Config → LexemeOptions
lexeme_options_of config = record {
  braces = then_some (is_on config Braces) (options_of config).braces;
  brackets = then_some (is_on config Brackets) (options_of config).brackets;
  colons = then_some (is_on config Colons) (options_of config).colons;
  commas = then_some (is_on config Commas) (options_of config).commas;
  hyphens = then_some (is_on config Hyphens) (options_of config).hyphens;
  document_start = then_some (is_on config DocumentStart) (options_of config).document_start;
  truthy = then_some (is_on config Truthy) (options_of config).truthy;
  quoted_strings = then_some (is_on config QuotedStrings) (options_of config).quoted_strings;
}

-- the shebang's position, line 0 and column 0, is the first of the text: in the first row of a
-- later section a lexeme comes before any comment
abbrev pub shown_comment_findings : Config → List PlacedCommentValue → List FindingValue
shown_comment_findings config cs = items_if (is_on config Comments) (flat_map (comment_findings (options_of config).comments) cs)

abbrev pub tree_options_of : Config → TreeOptions
tree_options_of config = record {
  key_duplicates = then_some (is_on config KeyDuplicates) (options_of config).key_duplicates;
  key_ordering = is_on config KeyOrdering;
  anchors = then_some (is_on config Anchors) (options_of config).anchors;
}

abbrev pub event_findings : Config → List EventValue → List FindingValue
event_findings config es = tree_findings (tree_options_of config) es

-- a fault hides the items
abbrev pub unless_fault : {X : Type 0} → Option SectionFaultValue → List X → List X
unless_fault fault xs = option_map_or (λ _. []) fault xs

-- the events that only a scan fault hides: without it the section has the fault `parse_fault`
abbrev pub hidden_events : Option SectionFaultValue → Option SectionFaultValue → List EventValue → List EventValue
hidden_events fault parse_fault es = option_map_or (λ _. unless_fault parse_fault es) fault []

-- ---- the summary

pub record KeptValue : Type 0 where
  pub rows : ℕ
  -- the column of the first lexeme, where the fault of an earlier section may be; 0 if there is
  -- none
  pub first : ℕ
  -- the findings in the lexemes, comments and events that are shown
  pub found : List FindingValue
  -- the facts for the rule indentation of the lexemes that are shown; lines count from 0
  pub facts : List Fact
  -- the comments that are shown and may silence rules
  pub comments : List PlacedCommentValue
  pub fault : Option SectionFaultValue
  -- the findings in the events that only a scan fault hides
  pub hidden : List FindingValue
  -- the fault without the scan fault in these rows
  pub parse_fault : Option SectionFaultValue

-- the number of rows of these sections
abbrev pub rows_kept : List KeptValue → ℕ
rows_kept [] = 0
rows_kept (k ∷ ks) = k.rows + rows_kept ks

abbrev pub facts_of : Config → List RecordValue → List LexemeValue → ℕ → List Fact
facts_of config rs xs counted =
    items_if (is_on config Indentation) (indent_facts (map token_of xs) (marked_lexemes xs) counted (map (λ r. r.indentation) rs))

-- the summary of a section with these lexemes, whose document has these events or this fault, and
-- with the fault `fault`
abbrev pub kept_with : Config → List RecordValue → List LexemeValue → BuiltValue → Option SectionFaultValue → KeptValue
kept_with config rs xs b fault =
    let counted = counted_of xs b.fault in
    let comments = shown_comments (comment_lines (length rs) xs b.fault) rs in
    record {
      rows = length rs;
      first = option_map_or (λ x. x.start.col) (slice_get xs 0) 0;
      found =
          lexeme_findings (lexeme_options_of config) counted xs
          ++ (shown_comment_findings config comments ++ event_findings config (unless_fault fault b.events));
      facts = facts_of config rs xs counted;
      comments = filter is_addressed comments;
      fault = fault;
      hidden = event_findings config (hidden_events fault (section_fault xs b.fault None) b.events);
      parse_fault = section_fault xs b.fault None;
    }

abbrev pub kept_of : Config → List RecordValue → BuiltValue → KeptValue
kept_of config rs b = let xs = lexemes_of rs in kept_with config rs xs b (section_fault xs b.fault (scan_fault_from 0 rs))

-- k is the summary of the section of these rows
pub record IsKept (config : Config) (rs : List RecordValue) (k : KeptValue) : Type 0 where
  pub document : BuiltValue
  pub built : IsSectionBuilt (lexemes_of rs) document
  pub kept : k ≡ kept_of config rs document
