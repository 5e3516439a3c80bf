-- Bridge: the row in which a scalar begins that may go on below. A plain or block scalar ends there
-- so far, and the row has only white space after that end.
use Rattle.std.specs.Prelude.{◌≡◌, ℕ, ◌+◌, ◌-◌, Bool, true, List, ◌∷◌, drop, length}
use Rattle.yl_text.specs.Character.{is_blank}
use Rattle.yl_scalar.specs.Reading.{ScalarStepValue, GoesOn, EndsIn, EndedAbove, Fails}
use Rattle.yl_scalar.specs.PlainSteps.{plain_begin}
use Rattle.yl_scalar.specs.QuotedSteps.{quoted_begin}
use Rattle.yl_scalar.specs.Block.{block_begin}
use Rattle.yl_row.specs.ScalarReader.{ScalarReaderValue, InPlain, InQuoted, InBlock, map_step, rows_in, KeepsSpaces, ColumnBy}

-- only white space follows the end so far of a plain or block scalar that begins at this column,
-- with this text from there on
abbrev pub BlankBehind : ℕ → List ℕ → ScalarReaderValue → Type 0
BlankBehind at text (InPlain s) = is_blank (drop (s.column - at) text) ≡ true
BlankBehind at text (InQuoted s) = Unit {0}
BlankBehind at text (InBlock s) = is_blank (drop (s.column - at) text) ≡ true

-- a reader of a scalar that begins at this column, with this text from there on, has read that row
pub record Rests (at : ℕ) (text : List ℕ) (m : ScalarReaderValue) : Type 0 where
  pub rows : rows_in m ≡ 0
  pub spaces : KeepsSpaces m
  pub blank : BlankBehind at text m
  pub column : ColumnBy (at + length text) m

-- if a scalar may go on below after the row in which it begins, its reader has read that row
abbrev pub BeginsAt : ℕ → List ℕ → ScalarStepValue ScalarReaderValue → Type 0
BeginsAt at text (GoesOn m) = Rests at text m
BeginsAt at text (EndsIn e) = Unit {0}
BeginsAt at text (EndedAbove e) = Unit {0}
BeginsAt at text (Fails fault down column) = Unit {0}

-- the laws for the scalars of each style
abbrev pub PlainBegins : Type 0
PlainBegins = (flow : Bool) (least at : ℕ) (text : List ℕ) → BeginsAt at text (map_step InPlain (plain_begin flow least at text))

abbrev pub QuotedBegins : Type 0
QuotedBegins = (double : Bool) (at : ℕ) (rest text : List ℕ) → BeginsAt at text (map_step InQuoted (quoted_begin double at rest))

abbrev pub BlockBegins : Type 0
BlockBegins = (least at c : ℕ) (header : List ℕ) → BeginsAt at (c ∷ header) (map_step InBlock (block_begin least at header))
