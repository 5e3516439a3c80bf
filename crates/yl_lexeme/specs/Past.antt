-- Meaning: the context that the lexemes before a position give: YAML 1.2.2, chapters 6 to 8.
-- Lexemes are listed with the latest first: `here` those that begin in this line, and `older` those
-- before it.
use Rattle.std.specs.Prelude.{ℕ, Bool, true, false, not, ◌&&◌, ◌||◌, ◌==◌, nat_lt, nat_le, if◌then◌else◌, List, [], ◌∷◌, ◌++◌, map, ◌+◌, ◌-◌, Option, Some, None, is_some, option_map, option_and_then, unwrap_or, slice_get}
use Rattle.std.specs.Bool.{then_some}
use Rattle.std.specs.Option.{option_map_or}
use Rattle.yl_lexeme.specs.declared.lexeme.Kind.{Kind}
use Rattle.yl_lexeme.specs.Lexeme.{is_document_marker, is_opening, is_closing, is_entry, is_key, is_value, is_comma}
use Rattle.yl_lexeme.specs.Keys.{Spot, key_start}

-- first: only white space is before it in its line. flow: it is in brackets. begins: a key may
-- begin at it. key: for a Value, the column of the first lexeme of its key, if it has a key
pub record PastLexeme : Type 0 where
  pub kind : Kind
  pub column : ℕ
  pub first : Bool
  pub flow : Bool
  pub begins : Bool
  pub key : Option ℕ

-- ---- brackets (flow collections: 7.4)

-- the open brackets, the innermost first; skip counts the closing brackets whose partners are yet
-- to be found
abbrev pub open_brackets : ℕ → List PastLexeme → List Kind
open_brackets skip [] = []
open_brackets skip (x ∷ xs) =
    if is_document_marker x.kind then []
    else if is_closing x.kind then open_brackets (skip + 1) xs
    else if is_opening x.kind then (if skip == 0 then x.kind ∷ open_brackets 0 xs else open_brackets (skip - 1) xs)
    else open_brackets skip xs

-- ---- keys (implicit keys: 7.4.2, 8.2.2)

-- a lexeme with its column, if a key may begin there
abbrev pub spot : PastLexeme → Spot ℕ
spot x = record { kind = x.kind; start = then_some x.begins x.column }

-- whether the start is at most 1024 characters before this column
abbrev pub is_near : ℕ → ℕ → Bool
is_near column start = nat_le column (start + 1024)

-- the column of the key of a Value in this column, where the unit directly before the Value begins
-- at `start`
abbrev pub near : ℕ → Option ℕ → Option ℕ
near column start = option_and_then (λ start. then_some (nat_le start column && is_near column start) start) start

-- whether an item of a flow collection may begin after this last lexeme
abbrev pub opens_item : Option Kind → Bool
opens_item last = option_map_or (λ k. is_opening k || is_comma k) last false

-- whether it is an Entry, a Key, or a Value without a key
abbrev pub asks_behind : Kind → Option ℕ → Bool
asks_behind kind key = is_entry kind || is_key kind || (is_value kind && not (is_some key))

-- ---- columns (indentation: 6.1, 8.2)

-- one more than the greatest column, or 0 if there is none; the columns are listed as one more, in
-- descending order
abbrev pub level : List ℕ → ℕ
level [] = 0
level (l ∷ ls) = l

-- the columns with this one, if it is greater than all
abbrev pub with_column : ℕ → List ℕ → List ℕ
with_column column levels = if nat_le (level levels) column then (column + 1) ∷ levels else levels

-- the columns without those that are greater than this one
abbrev pub up_to : ℕ → List ℕ → List ℕ
up_to column [] = []
up_to column (l ∷ ls) = if nat_lt (column + 1) l then up_to column ls else l ∷ ls

-- a lexeme that is the first of its line removes the columns that are greater than its own
abbrev pub cut : Bool → ℕ → List ℕ → List ℕ
cut removes column levels = if removes then up_to column levels else levels

-- the columns after a lexeme, where these are the columns before it
abbrev pub levels_with : PastLexeme → List ℕ → List ℕ
levels_with x levels =
    if is_document_marker x.kind then []
    else if x.flow then levels
    else if is_entry x.kind || is_key x.kind then with_column x.column (cut x.first x.column levels)
    else if is_value x.kind then with_column (unwrap_or x.key x.column) (cut x.first x.column levels)
    else cut x.first x.column levels

abbrev pub levels : List PastLexeme → List ℕ
levels [] = []
levels (x ∷ xs) = levels_with x (levels xs)

-- ---- the context

-- the context of a position. behind: a key may begin after the last lexeme. start: the column at
-- which the unit begins that may be the key of a Value
pub record Context : Type 0 where
  pub levels : List ℕ
  pub brackets : List Kind
  pub last : Option Kind
  pub behind : Bool
  pub start : Option ℕ

abbrev pub is_flow : List Kind → Bool
is_flow [] = false
is_flow (k ∷ ks) = true

abbrev pub in_flow : Context → Bool
in_flow a = is_flow a.brackets

abbrev pub context_from : List PastLexeme → List PastLexeme → Context
context_from here older =
    let xs = here ++ older in
    let brackets = open_brackets 0 xs in
    let last = option_map (λ x. x.kind) (slice_get xs 0) in
    let asks = option_map_or (λ x. asks_behind x.kind x.key) (slice_get here 0) false in
    let behind = if is_flow brackets then opens_item last else asks in
    record { levels = levels xs; brackets = brackets; last = last; behind = behind; start = key_start (map spot here) }

abbrev pub may_begin : Bool → Context → Bool
may_begin first a = if in_flow a then a.behind else first || a.behind

-- the context at a position: the first one of a row, outside of brackets, removes the greater
-- columns
abbrev pub at_place : Bool → ℕ → Context → Context
at_place first column a = record a { levels = cut (first && not (in_flow a)) column a.levels }

-- what is remembered of a lexeme at a column
abbrev pub past_lexeme : ℕ → Bool → Context → Kind → PastLexeme
past_lexeme at first a kind =
    record { kind = kind; column = at; first = first; flow = in_flow a; begins = may_begin first a; key = near at a.start }
