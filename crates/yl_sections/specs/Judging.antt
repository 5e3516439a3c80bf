-- Bridge: a section that is judged row by row: the state of the judge, by the rows that are still
-- to come.
use Rattle.std.specs.Prelude.{◌≡◌, ◌≤◌, ◌<◌, ◌+◌, ◌++◌, ℕ, Bool, true, false, List, [], ◌∷◌, map, length, take, Option, Some, None, IfSome, slice_get, slice_index, option_map}
use Rattle.std.specs.List.{filter}
use Rattle.std.specs.Option.{option_map_or, option_or}
use Rattle.yl_lexeme.specs.Lexeme.{LexemeValue}
use Rattle.yl_marks.specs.Keys.{token_of}
use Rattle.yl_marks.specs.Marks.{marked_lexemes}
use Rattle.yl_marks.specs.ByLine.{by_line, marks_by_lines}
use Rattle.yl_marks.specs.FactsByLine.{facts_by_lines}
use Rattle.yl_events.specs.declared.fault.PlacedParseFault.{PlacedParseFault}
use Rattle.yl_events.specs.Faults as parse
use Rattle.yl_events.specs.Named.{IsInLine, OnlyInnermostWaits, waiting_anchor}
use Rattle.yl_events.specs.Seen.{IsAnchorOf, LineValue, WaitingAnchorValue, start_seen, value_seen}
use Rattle.yl_events.specs.SymbolParsing.{outcome_of_symbols}
use Rattle.yl_lexeme_rules.specs.Lexemes.{lexeme_findings}
use Rattle.yl_lexeme_rules.specs.LexemesLeft.{IsVersion, lexemes_left}
use Rattle.yl_lexeme_rules.specs.Version.{is_1_2_document}
use Rattle.yl_indentation.specs.Facts.{indent_facts}
use Rattle.yl_indentation.specs.LineFacts.{BeginElsewhere}
use Rattle.yl_indentation.specs.SymbolFacts.{facts_left}
use Rattle.yl_rules.specs.Addressed.{is_addressed}
use Rattle.yl_config.specs.declared.config.Config.{Config}
use Rattle.yl_record.specs.Records.{RecordValue}
use Rattle.yl_sections.specs.declared.comments.CommentReader.{CommentReader}
use Rattle.yl_sections.specs.declared.comments.LexemeEnd.{LexemeEnd}
use Rattle.yl_sections.specs.declared.document_judge.DocumentJudge.{DocumentJudge}
use Rattle.yl_sections.specs.declared.document_judge.DocumentEnd.{DocumentEnd}
use Rattle.yl_sections.specs.declared.section_judge.SectionJudge.{SectionJudge}
use Rattle.yl_sections.specs.declared.section_judge.Stage.{Stage}
use Rattle.yl_sections.specs.declared.section_judge.Stage.TheVariants.{Before, In, Stopped}
use Rattle.yl_sections.specs.declared.section_judge.StoppedDocument.{StoppedDocument}
use Rattle.yl_sections.specs.declared.section_judge.ToldDocument.{ToldDocument}
use Rattle.yl_sections.specs.declared.judging.SectionsJudge.{SectionsJudge}
use Rattle.yl_sections.specs.Judge.{document_of, kept_of_section}
use Rattle.yl_sections.specs.Kept.{Behind, Here, SectionFaultValue, comment_lines, comments_from, counted_of, event_findings, last_lexeme_end, lexeme_options_of, scan_fault_from, section_fault, shown_comment_findings, shown_comments}
use Rattle.yl_sections.specs.Owned.{section_fault_value}
use Rattle.yl_sections.specs.Reading.{Gives}
use Rattle.yl_sections.specs.Sections.{Parts, lexemes_from, lexemes_of, parts, sections}

-- ---- the document

-- the anchor with this index, as it waits after a line
abbrev pub anchor_held : LineValue → Option ℕ → Option WaitingAnchorValue
anchor_held l waiting = option_map (λ i. record { index = i; name = value_seen l i; place = start_seen l i }) waiting

-- these lexemes begin in this line
abbrev pub BeginIn : ℕ → List LexemeValue → Type 0
BeginIn line [] = Unit {0}
BeginIn line (x ∷ xs) = (x.start.line ≡ line) × BeginIn line xs

-- these are the lexemes of a line, whose row begins with `spaces` spaces, and `left` comes after
-- them; ns are the numbers of spaces of all rows
pub record IsLine (ns : List ℕ) (spaces : ℕ) (line left : List LexemeValue) : Type 0 where
  pub at : ℕ
  pub here : BeginIn at line
  pub some : 0 < length line
  pub elsewhere : BeginElsewhere at (map token_of left)
  pub spaces_are : slice_index ns at ≡ spaces

-- the document of the lexemes xs, in rows that begin with ns spaces, was judged up to the lexemes
-- `left`
pub record Reads {A : Type 0} (config : Config) (xs : List LexemeValue) (ns : List ℕ) (left : List LexemeValue) (d : DocumentJudge A) : Type 0 where
  pub front : List LexemeValue
  pub whole : xs ≡ front ++ left
  pub read : length front ≡ d.rows.reader.count
  pub count : d.rows.reader.marker.marks.count ≡ d.rows.reader.count
  pub only : OnlyInnermostWaits d.rows.reader.parser.goals
  pub waits : option_map (λ w. w.index) d.waiting ≡ waiting_anchor d.rows.reader.parser.goals
  pub anchor : IsAnchorOf xs d.waiting
  pub options : d.rows.options ≡ lexeme_options_of config
  pub version : IsVersion (is_1_2_document xs) d.rows.rules left
  pub found : (n : ℕ) → n ≤ length left
      → d.rows.found.items ++ lexemes_left (is_1_2_document xs) (lexeme_options_of config) d.rows.rules (take n left) (facts_by_lines d.rows.reader.marker (by_line (map token_of left)))
      ≡ lexeme_findings (lexeme_options_of config) (d.rows.reader.count + n) xs
  pub facts : (all : ℕ) → d.rows.reader.count ≤ all
      → d.rows.facts.items ++ facts_left d.rows.places (map token_of xs) all ns (marks_by_lines d.rows.reader.marker.marks (by_line (map token_of left)))
      ≡ indent_facts (map token_of xs) (marked_lexemes xs) all ns
  pub told : Gives config xs d.tree (outcome_of_symbols d.rows.reader.parser d.rows.reader.count [] (marks_by_lines d.rows.reader.marker.marks (by_line (map token_of left)))) (document_of xs)

-- the document has this fault at a lexeme of a line, and the lexemes before it were judged; `first`
-- is the index of the first lexeme of the line, and `count` the number of its lexemes
pub record Stops {A : Type 0} (config : Config) (xs : List LexemeValue) (ns : List ℕ) (first count : ℕ) (f : PlacedParseFault) (d : DocumentJudge A) : Type 0 where
  pub fault : (document_of xs).fault ≡ Some f
  pub there : IsInLine first count f.place
  pub found : d.rows.found.items ≡ lexeme_findings (lexeme_options_of config) f.place xs
  pub facts : d.rows.facts.items ≡ indent_facts (map token_of xs) (marked_lexemes xs) f.place ns

abbrev pub ReadsLine : {A : Type 0} → Option PlacedParseFault → Config → List LexemeValue → List ℕ → ℕ → ℕ → List LexemeValue → DocumentJudge A → Type 0
ReadsLine None config xs ns first count left d = Reads config xs ns left d
ReadsLine (Some f) config xs ns first count left d = Stops config xs ns first count f d

-- the end of a document: its fault after all lexemes, or the findings in its events
pub record EndsSo {A : Type 0} (config : Config) (xs : List LexemeValue) (ns : List ℕ) (e : DocumentEnd A) : Type 0 where
  pub fault : e.fault ≡ (document_of xs).fault
  pub after : IfSome e.fault (λ f. f.place ≡ length xs)
  pub found : e.found.items ≡ lexeme_findings (lexeme_options_of config) (length xs) xs
  pub facts : e.facts.items ≡ indent_facts (map token_of xs) (marked_lexemes xs) (length xs) ns
  pub in_tree : e.in_tree.items ≡ event_findings config (document_of xs).events

-- ---- comments

-- the end of the last lexeme after these rows, the first of which is at this line
abbrev pub end_after : Option LexemeEnd → ℕ → List RecordValue → Option LexemeEnd
end_after last line [] = last
end_after last line (r ∷ rs) = end_after (last_lexeme_end last line r.entry.lexemes) (line + 1) rs

pub record ReadsComments {A : Type 0} (config : Config) (rs : List RecordValue) (c : CommentReader A) : Type 0 where
  pub last : c.last ≡ end_after None 0 rs
  pub found : c.found.items ≡ shown_comment_findings config (comments_from None 0 rs)
  pub kept : c.kept.items ≡ filter is_addressed (comments_from None 0 rs)

-- ---- the section

abbrev pub spaces_of : List RecordValue → List ℕ
spaces_of rs = map (λ r. r.indentation) rs

-- the document of a section that begins with these rows was judged, whatever rows come
abbrev pub ReadsRows : {A : Type 0} → Config → List RecordValue → DocumentJudge A → Type 0
ReadsRows config rs d = (more : List RecordValue) → 0 < length (lexemes_of (rs ++ more))
    → Reads config (lexemes_of (rs ++ more)) (spaces_of (rs ++ more)) (lexemes_from (length rs) more) d

-- the document of the section of these rows has a fault at a lexeme
pub record IsStopped {A : Type 0} (config : Config) (rs : List RecordValue) (s : StoppedDocument A) : Type 0 where
  pub fault : PlacedParseFault
  pub lexeme : LexemeValue
  pub told : (document_of (lexemes_of rs)).fault ≡ Some fault
  pub there : slice_get (lexemes_of rs) fault.place ≡ Some lexeme
  pub place : lexeme.start ≡ s.place
  pub text : s.text.now ≡ parse.fault_text fault.kind
  pub found : s.found.items ≡ lexeme_findings (lexeme_options_of config) fault.place (lexemes_of rs)
  pub facts : s.facts.items ≡ indent_facts (map token_of (lexemes_of rs)) (marked_lexemes (lexemes_of rs)) fault.place (spaces_of rs)

-- the document has a fault at a lexeme in these rows, whatever rows come
pub record StopsIn {A : Type 0} (config : Config) (rs : List RecordValue) (s : StoppedDocument A) : Type 0 where
  pub some : 0 < length (lexemes_of rs)
  pub line : s.place.line < length rs
  pub stopped : (more : List RecordValue) → IsStopped config (rs ++ more) s

-- the last of these rows was read, or the document has a fault at a lexeme in it
abbrev pub ReadsRow : {A : Type 0} → Option (StoppedDocument A) → Config → List RecordValue → DocumentJudge A → Type 0
ReadsRow None config rs d = ReadsRows config rs d
ReadsRow (Some s) config rs d = StopsIn config rs s × (s.place.line + 1 ≡ length rs)

abbrev pub IsAt : {A : Type 0} → Config → List RecordValue → Stage A → Type 0
IsAt config rs Before = lexemes_of rs ≡ []
IsAt config rs (In d) = (0 < length (lexemes_of rs)) × ReadsRows config rs d
IsAt config rs (Stopped s) = StopsIn config rs s

-- the state at which a row with lexemes may come
abbrev pub IsReady : {A : Type 0} → Config → List RecordValue → Stage A → Type 0
IsReady config rs Before = ⊥
IsReady config rs (In d) = ReadsRows config rs d
IsReady config rs (Stopped s) = StopsIn config rs s

abbrev pub has_begun : {A : Type 0} → Stage A → Bool
has_begun Before = false
has_begun (In d) = true
has_begun (Stopped s) = true

-- the document has begun
abbrev pub IsBegun : {A : Type 0} → Config → Stage A → Stage A → Type 0
IsBegun config Before (In d) = (xs : List LexemeValue) (ns : List ℕ) → 0 < length xs → Reads config xs ns xs d
IsBegun config Before s = ⊥
IsBegun config (In d) s = s ≡ In d
IsBegun config (Stopped d) s = s ≡ Stopped d

abbrev pub shows_comments : {A : Type 0} → Stage A → Bool
shows_comments Before = true
shows_comments (In d) = true
shows_comments (Stopped s) = false

-- those of the rows whose comments are shown
abbrev pub commented : {A : Type 0} → Stage A → List RecordValue → List RecordValue
commented Before rs = rs
commented (In d) rs = rs
commented (Stopped s) rs = take s.place.line rs

-- one more row with lexemes: comments are still shown, or none from it on
abbrev pub KeepsComments : {A : Type 0} → List RecordValue → RecordValue → Stage A → Stage A → Type 0
KeepsComments rs r old new =
    (shows_comments new ≡ true → shows_comments old ≡ true) × (shows_comments new ≡ false → commented new (rs ++ r ∷ []) ≡ commented old rs)

-- one more row: its comment is shown after those of all rows before it, or none from it on
abbrev pub IsCommented : {A : Type 0} → List RecordValue → RecordValue → Stage A → Stage A → Type 0
IsCommented rs r old new =
    (shows_comments new ≡ true → commented old rs ≡ rs) × (shows_comments new ≡ false → commented new (rs ++ r ∷ []) ≡ commented old rs)

-- the column of the first lexeme, if these lexemes come next
abbrev pub first_column : {A : Type 0} → Stage A → ℕ → List LexemeValue → ℕ
first_column Before first (x ∷ xs) = x.start.col
first_column _ first xs = first

-- the section that begins with these rows was judged so far
pub record Judges {A : Type 0} (config : Config) (rs : List RecordValue) (j : SectionJudge A) : Type 0 where
  pub rows : j.rows ≡ length rs
  pub first : j.first ≡ option_map_or (λ x. x.start.col) (slice_get (lexemes_of rs) 0) 0
  pub scanned : option_map section_fault_value j.scan_fault ≡ scan_fault_from 0 rs
  pub stage : IsAt config rs j.stage
  pub comments : ReadsComments config (commented j.stage rs) j.comments

-- ---- the end

-- the fault of a section, by its fault without a scan fault and by its scan fault
abbrev pub with_scan_fault : Option SectionFaultValue → Option SectionFaultValue → Option SectionFaultValue
with_scan_fault (Some (Here place text)) scanned = Some (Here place text)
with_scan_fault (Some (Behind text)) scanned = option_or scanned (Some (Behind text))
with_scan_fault None scanned = scanned

pub record IsTold {A : Type 0} (config : Config) (rs : List RecordValue) (stage : Stage A) (t : ToldDocument A) : Type 0 where
  pub found : t.found.items ≡ lexeme_findings (lexeme_options_of config) (counted_of (lexemes_of rs) (document_of (lexemes_of rs)).fault) (lexemes_of rs)
  pub facts : t.facts.items
      ≡ indent_facts (map token_of (lexemes_of rs)) (marked_lexemes (lexemes_of rs)) (counted_of (lexemes_of rs) (document_of (lexemes_of rs)).fault) (spaces_of rs)
  pub in_tree : t.in_tree.items ≡ event_findings config (document_of (lexemes_of rs)).events
  pub fault : option_map section_fault_value t.fault ≡ section_fault (lexemes_of rs) (document_of (lexemes_of rs)).fault None
  pub comments : comments_from None 0 (commented stage rs) ≡ shown_comments (comment_lines (length rs) (lexemes_of rs) (document_of (lexemes_of rs)).fault) rs

-- ---- sections, one after another

-- the sections of some rows: the first one begins with the rows `here`, and the parts of the other
-- rows are p
abbrev pub with_front : List RecordValue → Parts → List (List RecordValue)
with_front here p = (here ++ p.here) ∷ p.later

-- these rows were read: the sections before the current one have their summaries, and the current
-- one was judged so far
pub record JudgesAll {A : Type 0} (config : Config) (rs : List RecordValue) (j : SectionsJudge A) : Type 0 where
  pub done : List (List RecordValue)
  pub here : List RecordValue
  pub kept : j.kept.items ≡ map (kept_of_section config) done
  pub judges : Judges config here j.judge
  pub whole : (more : List RecordValue) → done ++ with_front here (parts j.last more) ≡ sections (rs ++ more)
