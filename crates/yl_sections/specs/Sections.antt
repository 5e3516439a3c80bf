-- Meaning: the records of the rows of a text, cut where documents begin (YAML 1.2.2, 9.1 and 9.2).
-- The first lexeme of a document is the first of its row: `---` and a directive are at column 0,
-- and after `...` there is no lexeme in its row. So documents are runs of rows. A section has the
-- rows from the first lexeme of a document on up to the next document; the first section also has
-- all rows before. A text without lexemes is one section and no document.
use Rattle.std.specs.Prelude.{ℕ, suc, Bool, true, false, if◌then◌else◌, List, [], ◌∷◌, ◌++◌, ◌+◌, map, Option, Some, None}
use Rattle.std.specs.Option.{option_map_or}
use Rattle.std.specs.List.{fold}
use Rattle.yl_lexeme.specs.declared.lexeme.Kind.{Kind}
use Rattle.yl_lexeme.specs.Lexeme.{LexemeValue}
use Rattle.yl_marks.specs.Keys.{lexeme_at_line}
use Rattle.yl_events.specs.Cut.{is_beginning}
use Rattle.yl_record.specs.Records.{RecordValue}

-- the kind of the last lexeme after these lexemes
abbrev pub last_kind_from : Option Kind → List LexemeValue → Option Kind
last_kind_from last xs = fold (λ k x. Some x.kind) last xs

-- a section begins with the row of these lexemes: a document begins with the first of them, and it
-- is not the first of the text
abbrev pub is_section_start : Option Kind → List LexemeValue → Bool
is_section_start last [] = false
is_section_start last (x ∷ xs) = option_map_or (λ k. is_beginning k x.kind) last false

-- the rows that belong to the section before, and the sections that begin after them
pub record Parts : Type 0 where
  pub here : List RecordValue
  pub later : List (List RecordValue)

abbrev pub with_row : Bool → RecordValue → Parts → Parts
with_row true r p = record { here = []; later = (r ∷ p.here) ∷ p.later }
with_row false r p = record { here = r ∷ p.here; later = p.later }

abbrev pub parts : Option Kind → List RecordValue → Parts
parts last [] = record { here = []; later = [] }
parts last (r ∷ rs) = with_row (is_section_start last r.entry.lexemes) r (parts (last_kind_from last r.entry.lexemes) rs)

abbrev pub all_parts : Parts → List (List RecordValue)
all_parts p = p.here ∷ p.later

abbrev pub sections : List RecordValue → List (List RecordValue)
sections rs = all_parts (parts None rs)

-- the number of rows before the first row of the next section
abbrev pub row_count : Option Kind → List RecordValue → ℕ
row_count last [] = 0
row_count last (r ∷ rs) = if is_section_start last r.entry.lexemes then 0 else suc (row_count (last_kind_from last r.entry.lexemes) rs)

-- the sections of rows the first of which begins a section, if there are any
abbrev pub later_sections : List RecordValue → List (List RecordValue)
later_sections [] = []
later_sections (r ∷ rs) = sections (r ∷ rs)

-- the lexemes of these rows, the first of which is at this line
abbrev pub lexemes_from : ℕ → List RecordValue → List LexemeValue
lexemes_from line [] = []
lexemes_from line (r ∷ rs) = map (lexeme_at_line line) r.entry.lexemes ++ lexemes_from (line + 1) rs

-- the lexemes of a section, with lines counted from its first row
abbrev pub lexemes_of : List RecordValue → List LexemeValue
lexemes_of rs = lexemes_from 0 rs
