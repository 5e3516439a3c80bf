-- Bridge: positions by bytes, and where an edit between two positions cuts the lines that it
-- touches.
use Rattle.std.specs.Prelude.{◌≡◌, ◌≢◌, ℕ, ◌+◌, ◌≤◌, ◌<◌, ◌⊎◌, List, [], ◌++◌, length, take, drop}
use Rattle.std.specs.Str.{IsUtf8, chars, encode_utf8_all}
use Prim.Native.Char.{code}
use Rattle.yl_text.specs.Lines.{RowValue, text_of}
use Rattle.yl_text.specs.declared.position.Pos.{Pos}
use Rattle.yl_text.specs.Edit.{last_byte, front_at, first_line}
use Rattle.yl_text.specs.PutLines.{first_byte, Joins, front_of}

-- the bytes of a line, break included
abbrev pub line_bytes : List RowValue → ℕ → List ℕ
line_bytes ps i = text_of (take 1 (drop i ps))

-- the number of bytes before line i
abbrev pub line_start : List RowValue → ℕ → ℕ
line_start ps i = length (front_of ps i)

-- the bytes may be cut after so many of them: if they are UTF-8, both parts are
pub record IsCut (bs : List ℕ) (byte : ℕ) : Type 0 where
  pub within : byte ≤ length bs
  pub front : IsUtf8 bs → IsUtf8 (take byte bs)
  pub back : IsUtf8 bs → IsUtf8 (drop byte bs)

-- so many bytes are those of the first characters of a line
pub record IsByteOf (bs : List ℕ) (characters byte : ℕ) : Type 0 where
  pub enough : characters ≤ length (chars bs)
  pub same : byte ≡ length (encode_utf8_all (take characters (chars bs)))
  pub cut : IsCut bs byte

-- the position after n bytes of the text is in line i, after so many of its bytes: fewer than it
-- has, unless it is the last line
pub record IsBytePlace (ps : List RowValue) (n i byte : ℕ) : Type 0 where
  pub line : i < length ps
  pub place : line_start ps i + byte ≡ n
  pub inside : i + 1 < length ps → byte < length (line_bytes ps i)
  pub cut : IsCut (line_bytes ps i) byte

-- the position after k bytes of line i is after the one after m bytes of line j
abbrev pub IsBehind : ℕ → ℕ → ℕ → ℕ → Type 0
IsBehind i k j m = (j < i) ⊎ ((j ≡ i) × (m < k))

-- the text before a position is the text before line a, the first line that an edit from there
-- touches, and so many bytes of line a. These bytes, with any text after them, make no break with a
-- CR before them. If there are none of them, the text before them is empty or ends in LF
pub record IsFrontCut (ps : List RowValue) (p : Pos) (a byte : ℕ) : Type 0 where
  pub first : a ≡ first_line ps p
  pub line : a < length ps
  pub front : front_at ps p ≡ front_of ps a ++ take byte (line_bytes ps a)
  pub cut : IsCut (line_bytes ps a) byte
  pub apart : (t : List ℕ) → ¬ (Joins (front_of ps a) (take byte (line_bytes ps a) ++ t))
  pub begins : byte ≡ 0 → (front_of ps a ≡ []) ⊎ (last_byte (front_of ps a) ≡ code "\n")

-- a line begins between x and y: x ends in a break that y does not continue, or x is empty and a
-- line begins before it
abbrev pub BeginsBehind : List ℕ → List ℕ → Type 0
BeginsBehind x y =
    (x ≡ []) ⊎ ((0 < length x) × ((last_byte x ≡ code "\n") ⊎ ((last_byte x ≡ code "\r") × (first_byte y ≢ code "\n"))))
