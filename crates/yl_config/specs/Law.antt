-- Meaning: a law of documents.
use Rattle.std.specs.Prelude.{◌≡◌, List}
use Rattle.yl_lexeme.specs.Lexeme.{LexemeValue}
use Rattle.yl_config.specs.TextDocuments.{BuiltDocumentValue, AreBuilt}

-- the documents that are built of these lists of lexemes are unique
abbrev pub OneBuilding : Type 0
OneBuilding = (xss : List (List LexemeValue)) (ds es : List BuiltDocumentValue) → AreBuilt xss ds → AreBuilt xss es → ds ≡ es
