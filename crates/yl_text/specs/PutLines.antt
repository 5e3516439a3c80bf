-- Bridge: an edit between two positions, made by whole lines. The lines a to b, b not included,
-- counted from 0, are replaced by bytes that include what is kept of these lines.
use Rattle.std.specs.Prelude.{◌≡◌, ◌≢◌, ℕ, ◌-◌, ◌≤◌, ◌<◌, ◌⊎◌, Bool, nat_lt, if◌then◌else◌, List, [], ◌++◌, length, take, drop, slice_index}
use Rattle.std.specs.List.{splice}
use Rattle.std.specs.Str.{IsUtf8}
use Prim.Native.Char.{code}
use Rattle.yl_text.specs.Lines.{RowValue, text_of, lines_of, IsLines}
use Rattle.yl_text.specs.Store.{AreLines}
use Rattle.yl_text.specs.declared.TheConstants.{MAX_BYTES}
use Rattle.yl_text.specs.declared.position.Pos.{Pos}
use Rattle.yl_text.specs.Edit.{last_byte, edited_text, first_line, end_line}

-- lines a to b can be replaced: a is a line, and b is not before it and at most the number of lines
pub record IsLineRange (ps : List RowValue) (a b : ℕ) : Type 0 where
  pub starts : a < length ps
  pub ordered : a ≤ b
  pub within : b ≤ length ps

-- the bytes end in a break: in LF or CR
abbrev pub EndsInBreak : List ℕ → Type 0
EndsInBreak t = (last_byte t ≡ code "\n") ⊎ (last_byte t ≡ code "\r")

-- bytes that end in no break would be followed by a line that is kept
abbrev pub LeavesOpenEnd : List RowValue → ℕ → List ℕ → Type 0
LeavesOpenEnd ps b t = (b < length ps) × (t ≢ []) × ¬ (EndsInBreak t)

-- the first byte, or 0
abbrev pub first_byte : List ℕ → ℕ
first_byte t = slice_index t 0

-- x ends in CR and y begins with LF, so both would be one break
abbrev pub Joins : List ℕ → List ℕ → Type 0
Joins x y = (last_byte x ≡ code "\r") × (first_byte y ≡ code "\n")

-- the text before line a, and the text from line b on
abbrev pub front_of : List RowValue → ℕ → List ℕ
front_of ps a = text_of (take a ps)

abbrev pub back_of : List RowValue → ℕ → List ℕ
back_of ps b = text_of (drop b ps)

-- a break would be joined: at either end of the bytes, or, if there are none, where the kept parts
-- meet
abbrev pub JoinsBreaks : List RowValue → ℕ → ℕ → List ℕ → Type 0
JoinsBreaks ps a b t = (Joins (front_of ps a) t ⊎ Joins t (back_of ps b)) ⊎ ((t ≡ []) × Joins (front_of ps a) (back_of ps b))

-- the text with the bytes in place of the lines: the text before line a, the bytes, and the text
-- from line b on
abbrev pub put_text : List RowValue → ℕ → ℕ → List ℕ → List ℕ
put_text ps a b t = front_of ps a ++ (t ++ back_of ps b)

-- the lines of bytes that are put before a line, or at the end. Before a line the last of them,
-- which is empty, is left out
abbrev pub incoming_lines : Bool → List ℕ → List RowValue
incoming_lines before t = if before then take (length (lines_of t) - 1) (lines_of t) else lines_of t

-- the lines that are inserted
abbrev pub inserted_rows : List RowValue → ℕ → List ℕ → List RowValue
inserted_rows ps b t = incoming_lines (nat_lt b (length ps)) t

-- the bytes can replace the lines: no break is joined, and none is missing before a line that is
-- kept
pub record CanPutLines (ps : List RowValue) (a b : ℕ) (t : List ℕ) : Type 0 where
  pub utf8 : IsUtf8 t
  pub range : IsLineRange ps a b
  pub closed : ¬ (LeavesOpenEnd ps b t)
  pub apart : ¬ (JoinsBreaks ps a b t)
  pub short : length (put_text ps a b t) ≤ MAX_BYTES

-- the edit between two positions, made by lines: the piece replaces the lines a to b
pub record IsLineEdit (ps : List RowValue) (from to : Pos) (t : List ℕ) (a b : ℕ) (piece : List ℕ) : Type 0 where
  pub first : a ≡ first_line ps from
  pub end : b ≡ end_line ps from to t
  pub can : CanPutLines ps a b piece
  pub same : put_text ps a b piece ≡ edited_text ps from to t

-- an edit made by lines results in the lines of the edited text
abbrev pub EditIsSplice : Type 0
EditIsSplice = (ps : List RowValue) (from to : Pos) (t : List ℕ) (a b : ℕ) (piece : List ℕ) → AreLines ps → IsLineEdit ps from to t a b piece
    → IsLines (edited_text ps from to t) (splice ps a b (inserted_rows ps b piece)) × AreLines (splice ps a b (inserted_rows ps b piece))
