-- Bridge: what a scanner keeps of the lexemes that it has read: stacks, and within a row the unit
-- that may become a key.
use Rattle.std.specs.Prelude.{ℕ, Bool, false, not, ◌&&◌, if◌then◌else◌, List, [], ◌∷◌, Option, Some, None, option_map, slice_get}
use Rattle.yl_lexeme.specs.declared.lexeme.Kind.{Kind}
use Rattle.yl_lexeme.specs.Lexeme.{is_document_marker, is_opening, is_closing}
use Rattle.yl_lexeme.specs.Kept.{KeyUnitValue, all_but_first, key_unit_behind}
use Rattle.yl_lexeme.specs.Past.{PastLexeme, Context, spot, open_brackets, levels, is_flow, opens_item, asks_behind, cut, levels_with}

-- levels: one more than each column, in descending order. brackets: the open ones, the innermost
-- first. last: the kind of the latest lexeme. asks: the latest lexeme of the row is an Entry, a Key
-- or a Value without a key. unit: the column at which the unit of the latest lexemes begins, if a
-- key may begin there. outer: for each open bracket of this row, the column at which its unit
-- begins, if a key may begin there, the innermost bracket first. property: if the latest lexeme is
-- a property, whether it is an anchor, and its column, if a key may begin there
pub record SurroundingsValue : Type 0 where
  pub levels : List ℕ
  pub brackets : List Kind
  pub last : Option Kind
  pub asks : Bool
  pub unit : Option ℕ
  pub outer : List (Option ℕ)
  pub property : Option (Bool × Option ℕ)

abbrev pub context_of : SurroundingsValue → Context
context_of k = record {
  levels = k.levels;
  brackets = k.brackets;
  last = k.last;
  behind = if is_flow k.brackets then opens_item k.last else k.asks;
  start = k.unit;
}

-- what is kept at the start of a row
abbrev pub row_start : List ℕ → List Kind → Option Kind → SurroundingsValue
row_start levels brackets last =
    record { levels = levels; brackets = brackets; last = last; asks = false; unit = None; outer = []; property = None }

abbrev pub new_row : SurroundingsValue → SurroundingsValue
new_row k = row_start k.levels k.brackets k.last

-- what is kept at a position: the first one of a row, outside of brackets, removes the greater
-- columns
abbrev pub surroundings_at : Bool → ℕ → SurroundingsValue → SurroundingsValue
surroundings_at first column k = record k { levels = cut (first && not (is_flow k.brackets)) column k.levels }

-- what is kept before any lexeme
abbrev pub no_surroundings : SurroundingsValue
no_surroundings = row_start [] [] None

-- ---- after one more lexeme

-- the column of the lexeme, if a key may begin there
abbrev pub own_column : PastLexeme → Option ℕ
own_column x = (spot x).start

abbrev pub brackets_with : Kind → List Kind → List Kind
brackets_with kind brackets =
    if is_document_marker kind then [] else if is_closing kind then all_but_first brackets else if is_opening kind then kind ∷ brackets else brackets

-- what is kept of the unit of the row
abbrev pub row_unit : SurroundingsValue → KeyUnitValue ℕ
row_unit k = record { unit = k.unit; outer = k.outer; property = k.property }

abbrev pub unit_with : PastLexeme → SurroundingsValue → Option ℕ
unit_with x k = (key_unit_behind x.kind (own_column x) (row_unit k)).unit

abbrev pub outer_with : PastLexeme → SurroundingsValue → List (Option ℕ)
outer_with x k = (key_unit_behind x.kind (own_column x) (row_unit k)).outer

abbrev pub surroundings_behind : PastLexeme → SurroundingsValue → SurroundingsValue
surroundings_behind x k = record {
  levels = levels_with x k.levels;
  brackets = brackets_with x.kind k.brackets;
  last = Some x.kind;
  asks = asks_behind x.kind x.key;
  unit = unit_with x k;
  outer = outer_with x k;
  property = (key_unit_behind x.kind (own_column x) (row_unit k)).property;
}

-- what is kept after the lexemes of a row, and those before the row
abbrev pub surroundings_of : List PastLexeme → List PastLexeme → SurroundingsValue
surroundings_of [] older = row_start (levels older) (open_brackets 0 older) (option_map (λ x. x.kind) (slice_get older 0))
surroundings_of (x ∷ here) older = surroundings_behind x (surroundings_of here older)
