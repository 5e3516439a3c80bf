-- Meaning: a law: the documents of a text are those of its sections.
use Rattle.std.specs.Prelude.{◌≡◌, ℕ, List, [], ◌∷◌, ◌+◌, map, length}
use Rattle.yl_lexeme.specs.Lexeme.{LexemeValue}
use Rattle.yl_config.specs.TextReading.{reading_of}
use Rattle.yl_config.specs.TextDocuments.{documents_of}
use Rattle.yl_record.specs.Records.{RecordValue, records}
use Rattle.yl_sections.specs.Sections.{sections, lexemes_of}

-- a lexeme, moved this number of lines down
abbrev pub moved_down : ℕ → LexemeValue → LexemeValue
moved_down lines x = record {
  kind = x.kind;
  start = record { line = lines + x.start.line; col = x.start.col };
  end = record { line = lines + x.end.line; col = x.end.col };
  value = x.value;
}

-- the document of these lexemes, and further ones; without lexemes there is no document
abbrev pub with_document : List LexemeValue → List (List LexemeValue) → List (List LexemeValue)
with_document [] xss = xss
with_document (x ∷ xs) xss = (x ∷ xs) ∷ xss

-- the documents of sections, the first of which begins at this line of the text
abbrev pub section_documents : ℕ → List (List RecordValue) → List (List LexemeValue)
section_documents line [] = []
section_documents line (rs ∷ rss) = with_document (map (moved_down line) (lexemes_of rs)) (section_documents (line + length rs) rss)

-- the documents of the sections of a text are those of all its lexemes; the text is given by its
-- lines, each a list of characters
abbrev pub SectionsAreDocuments : Type 0
SectionsAreDocuments = (text : List (List ℕ)) → section_documents 0 (sections (records text)) ≡ documents_of (reading_of text).lexemes
