-- Meaning: which columns are those of open block collections: YAML 1.2.2, 6.1 and 8.2. Lexemes are
-- listed with the latest first.
use Rattle.std.specs.Prelude.{◌≡◌, ℕ, ◌≤◌, Bool, true, false, not, ◌&&◌, ◌||◌, ◌==◌, nat_lt, if◌then◌else◌, List, [], ◌∷◌, ◌+◌, Option, Some, None, unwrap_or}
use Rattle.std.specs.List.{list_any}
use Rattle.yl_lexeme.specs.Lexeme.{is_document_marker, is_entry, is_key, is_value}
use Rattle.yl_lexeme.specs.Past.{PastLexeme, levels}

-- the column that a lexeme outside of brackets gives: an Entry and a Key give their own, and a
-- Value that of its key, or else its own
abbrev pub column_given : PastLexeme → Option ℕ
column_given x =
    if x.flow then None
    else if is_entry x.kind || is_key x.kind then Some x.column
    else if is_value x.kind then Some (unwrap_or x.key x.column)
    else None

-- whether the second is this column
abbrev pub is_column : ℕ → Option ℕ → Bool
is_column column None = false
is_column column (Some given) = given == column

-- whether the lexeme gives this column
abbrev pub gives_column : ℕ → PastLexeme → Bool
gives_column column x = is_column column (column_given x)

-- whether the lexeme closes this column: it is a document marker, or the first lexeme of its line,
-- outside of brackets and in a smaller column
abbrev pub closes_column : ℕ → PastLexeme → Bool
closes_column column x = is_document_marker x.kind || (x.first && not x.flow && nat_lt x.column column)

-- whether a column is open: some lexeme gives it, and no later one closes it
abbrev pub is_open : ℕ → List PastLexeme → Bool
is_open column [] = false
is_open column (x ∷ xs) = gives_column column x || (is_open column xs && not (closes_column column x))

-- a lexeme that gives a column gives none to the left of one that is open and that it does not
-- close
abbrev pub GivesRightwards : List PastLexeme → Type 0
GivesRightwards [] = Unit {0}
GivesRightwards (x ∷ xs) =
    GivesRightwards xs
    × ((given column : ℕ) → column_given x ≡ Some given → is_open column xs ≡ true → closes_column column x ≡ false → column ≤ given)

-- whether each number is greater than the next one
abbrev pub is_falling : List ℕ → Bool
is_falling [] = true
is_falling (l ∷ []) = true
is_falling (l ∷ m ∷ ls) = nat_lt m l && is_falling (m ∷ ls)

-- the columns, each listed as one more, are those that are open
abbrev pub ColumnsAreOpen : Type 0
ColumnsAreOpen = (xs : List PastLexeme) → GivesRightwards xs → (column : ℕ) → list_any (λ l. l == column + 1) (levels xs) ≡ is_open column xs

-- they are listed in descending order
abbrev pub ColumnsFall : Type 0
ColumnsFall = (xs : List PastLexeme) → is_falling (levels xs) ≡ true
