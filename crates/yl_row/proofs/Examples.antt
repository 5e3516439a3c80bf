-- Worked rows.
use Rattle.std.specs.Prelude.{ℕ, ◌≡◌, refl, List, [], ◌∷◌, ◌++◌, codes, Option, Some, None}
use Rattle.yl_lexeme.specs.declared.lexeme.Style.TheVariants.{Plain, Double}
use Rattle.yl_lexeme.specs.declared.lexeme.Kind.{Kind}
use Rattle.yl_lexeme.specs.declared.lexeme.Kind.TheVariants.{DocStart, Entry as EntryKind, Value, Comma, MapOpen, MapClose, Alias, Scalar}
use Rattle.yl_row.specs.declared.fault.ScanFault.{ScanFault}
use Rattle.yl_row.specs.declared.fault.ScanFault.TheVariants.{TabInIndentation, ValueNotAllowed, UnclosedQuote}
use Rattle.yl_lexeme.specs.Lexeme.{LexemeValue}
use Rattle.yl_scalar.specs.PlainLines.{plain_scalar}
use Rattle.yl_row.specs.Step.{found_at}
use Rattle.yl_row.specs.Entries.{entries, pos_at, RowEntry, LineStateValue, Stopped, Stands}

abbrev lexeme : Kind → ℕ → ℕ → ℕ → List ℕ → LexemeValue
lexeme kind at down column value = record { kind = kind; start = pos_at 0 at; end = pos_at down column; value = value }

abbrev row : Option LineStateValue → List LexemeValue → RowEntry
row state xs = record { state = state; lexemes = xs; comment = None; fault = None }

abbrev fails : Option LineStateValue → List LexemeValue → ScanFault → ℕ → RowEntry
fails state xs fault column = record { state = state; lexemes = xs; comment = None; fault = Some (record { fault = fault; down = 0; column = column }) }

abbrev fresh : Option LineStateValue
fresh = Some (Stands [] [] None)

-- an entry whose scalar goes on below a blank line
pub folded : entries (codes "- a" ∷ codes "  b" ∷ [] ∷ codes "  c" ∷ [] ∷ [])
    ≡ row fresh (lexeme EntryKind 0 0 1 [] ∷ lexeme (Scalar Plain) 2 3 3 (codes "a b" ++ 10 ∷ codes "c") ∷ []) ∷ row None [] ∷ row None [] ∷ row None [] ∷ row None [] ∷ []
unfolding lib.Utf8.encode plain_scalar found_at
folded = refl

-- a value's colon directly behind a quoted key
pub in_braces : entries (codes "{\"a\":1, b}" ∷ []) ≡ row fresh (
    lexeme MapOpen 0 0 1 [] ∷ lexeme (Scalar Double) 1 0 4 (codes "a") ∷ lexeme Value 4 0 5 [] ∷ lexeme (Scalar Plain) 5 0 6 (codes "1") ∷
    lexeme Comma 6 0 7 [] ∷ lexeme (Scalar Plain) 8 0 9 (codes "b") ∷ lexeme MapClose 9 0 10 [] ∷ []) ∷ []
unfolding lib.Utf8.encode plain_scalar found_at
in_braces = refl

-- an alias's name takes the colon
pub aliased : entries (codes "*a: 1" ∷ []) ≡ row fresh (lexeme Alias 0 0 3 (codes "a:") ∷ lexeme (Scalar Plain) 4 0 5 (codes "1") ∷ []) ∷ []
unfolding lib.Utf8.encode plain_scalar found_at
aliased = refl

-- no key may begin behind a document's start
pub no_key_there : entries (codes "--- a: 1" ∷ []) ≡ fails fresh (lexeme DocStart 0 0 3 [] ∷ lexeme (Scalar Plain) 4 0 5 (codes "a") ∷ []) ValueNotAllowed 5 ∷ []
unfolding lib.Utf8.encode plain_scalar found_at
no_key_there = refl

-- an open quote reaches to the end of the text
pub unclosed : entries (codes "- 'x" ∷ codes "y" ∷ []) ≡ fails fresh (lexeme EntryKind 0 0 1 [] ∷ []) UnclosedQuote 2 ∷ row None [] ∷ []
unfolding lib.Utf8.encode found_at
unclosed = refl

-- a tab before a key takes the key back
pub key_tab : entries ((codes "-" ++ 9 ∷ codes "a: 1") ∷ codes "b" ∷ []) ≡ fails fresh (lexeme EntryKind 0 0 1 [] ∷ []) TabInIndentation 1 ∷ row (Some Stopped) [] ∷ []
unfolding lib.Utf8.encode plain_scalar found_at
key_tab = refl
