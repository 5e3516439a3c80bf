-- Meaning: what is printed of lexemes, of comments and of the scan fault: a line each.
use Rattle.std.specs.Prelude.{ℕ, ◌+◌, ◌-◌, ◌^◌, min, List, ◌++◌, length, codes}
use Rattle.std.specs.Str.{chars}
use Rattle.yl_lexeme.specs.Lexeme.{LexemeValue, CommentValue}
use Rattle.yl_dump.specs.declared.fault.TextPlace.{TextPlace}
use Rattle.yl_dump.specs.Names.{kind_name}
use Rattle.yl_dump.specs.Place.{place_text}
use Rattle.yl_dump.specs.Quoting.{text_in_quotes}

-- `LINE:COLUMN-LINE:COLUMN NAME "TEXT"`
abbrev pub extent_line : TextPlace → TextPlace → List ℕ → List ℕ → List ℕ
extent_line start end name text =
    place_text start ++ codes "-" ++ place_text end ++ codes " " ++ name ++ codes " " ++ text_in_quotes text ++ codes "\n"

abbrev pub text_place : ℕ → ℕ → TextPlace
text_place line column = record { line = line; column = column }

-- a lexeme that begins at this line
abbrev pub lexeme_line : ℕ → LexemeValue → List ℕ
lexeme_line line x = extent_line (text_place line x.start.col) (text_place (line + x.end.line) x.end.col) (kind_name x.kind) x.value

-- a comment in this line; its end is counted as far as 64 bits count
abbrev pub comment_line : ℕ → CommentValue → List ℕ
comment_line line c =
    extent_line (text_place line c.column) (text_place line (min (c.column + length (chars c.text)) (2 ^ 64 - 1))) (codes "Comment") c.text

-- a fault at a place
abbrev pub scan_fault_line : TextPlace → List ℕ → List ℕ
scan_fault_line place text = place_text place ++ codes " fault " ++ text_in_quotes text ++ codes "\n"
