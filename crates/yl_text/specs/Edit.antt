-- Meaning: an edit of a text, which replaces the bytes between two positions. A position is a line
-- and a column, both counted from 0. A column counts the characters of the line, break included.
-- The faults of an edit are this project's own; YAML 1.2.2, 5.4 defines breaks.
use Rattle.std.specs.Prelude.{◌≡◌, ℕ, ◌+◌, ◌-◌, ◌≤◌, ◌<◌, ◌⊎◌, Bool, not, ◌&&◌, ◌||◌, ◌==◌, nat_lt, if◌then◌else◌, List, ◌∷◌, ◌++◌, length, take, drop, slice_index}
use Rattle.std.specs.Str.{IsUtf8, IsValidUpTo, chars, encode_utf8_all}
use Prim.Native.Char.{code}
use Rattle.yl_text.specs.Lines.{RowValue, row_bytes, text_of}
use Rattle.yl_text.specs.declared.TheConstants.{MAX_BYTES}
use Rattle.yl_text.specs.declared.position.Pos.{Pos}
use Rattle.yl_text.specs.declared.fault.TextFault.{TextFault}
use Rattle.yl_text.specs.declared.fault.TextFault.TheVariants.{NotUtf8, Range, TooLarge, Memory}

-- the characters of a line, break included
abbrev pub line_chars : List RowValue → ℕ → List ℕ
line_chars ps i = chars (text_of (take 1 (drop i ps)))

-- a position is in the text: its line is, and its column is at most the number of the line's
-- characters
pub record IsInText (ps : List RowValue) (p : Pos) : Type 0 where
  pub line : p.line < length ps
  pub column : p.col ≤ length (line_chars ps p.line)

-- the number of bytes before a position: those of the lines before its line, and of the characters
-- before its column. So the column after a line's break and column 0 of the next line are one
-- position
abbrev pub offset : List RowValue → Pos → ℕ
offset ps p = length (text_of (take p.line ps)) + length (encode_utf8_all (take p.col (line_chars ps p.line)))

-- the text before a position, and the text from it on
abbrev pub front_at : List RowValue → Pos → List ℕ
front_at ps p = take (offset ps p) (text_of ps)

abbrev pub back_at : List RowValue → Pos → List ℕ
back_at ps p = drop (offset ps p) (text_of ps)

-- the text between two positions can be replaced: both are in the text, and the second is not
-- before the first
pub record IsEditRange (ps : List RowValue) (from to : Pos) : Type 0 where
  pub first : IsInText ps from
  pub last : IsInText ps to
  pub ordered : offset ps from ≤ offset ps to

-- the edited text: the text before the first position, the bytes, and the text from the second
-- position on
abbrev pub edited_text : List RowValue → Pos → Pos → List ℕ → List ℕ
edited_text ps from to t = front_at ps from ++ (t ++ back_at ps to)

-- the edit has none of the faults
pub record CanEdit (ps : List RowValue) (from to : Pos) (t : List ℕ) : Type 0 where
  pub utf8 : IsUtf8 t
  pub range : IsEditRange ps from to
  pub short : length (edited_text ps from to t) ≤ MAX_BYTES

-- the first fault of the edit, in the order in which they are looked for; `Memory` is not a fault
-- of an edit
abbrev pub IsEditFault : List RowValue → Pos → Pos → List ℕ → TextFault → Type 0
IsEditFault ps from to t (NotUtf8 n) = IsValidUpTo t n
IsEditFault ps from to t Range = IsUtf8 t × ¬ (IsEditRange ps from to)
IsEditFault ps from to t TooLarge = IsUtf8 t × IsEditRange ps from to × (MAX_BYTES < length (edited_text ps from to t))
IsEditFault ps from to t Memory = ⊥

-- an edit has at most one fault; if it can be made, it has none; and it can be made or has one
abbrev pub EditHasOneFault : Type 0
EditHasOneFault = (ps : List RowValue) (from to : Pos) (t : List ℕ) (f g : TextFault) → IsEditFault ps from to t f → IsEditFault ps from to t g → f ≡ g

abbrev pub EditHasNoFaultBeside : Type 0
EditHasNoFaultBeside = (ps : List RowValue) (from to : Pos) (t : List ℕ) (f : TextFault) → CanEdit ps from to t → ¬ (IsEditFault ps from to t f)

abbrev pub EditHasFaultOrNone : Type 0
EditHasFaultOrNone = (ps : List RowValue) (from to : Pos) (t : List ℕ) → CanEdit ps from to t ⊎ ((f : TextFault) × IsEditFault ps from to t f)

-- the last byte, or 0
abbrev pub last_byte : List ℕ → ℕ
last_byte t = slice_index t (length t - 1)

-- a line begins between x and y: x is empty, or ends in a break. A CR before an LF is not a break
abbrev pub begins_line : List ℕ → List ℕ → Bool
begins_line x y = length x == 0 || last_byte x == code "\n" || (last_byte x == code "\r" && not (slice_index y 0 == code "\n"))

-- the last line that begins at or before the position after n bytes
abbrev pub line_at : List RowValue → ℕ → ℕ
line_at (p ∷ q ∷ ps) n = if nat_lt n (length (row_bytes p)) then 0 else 1 + line_at (q ∷ ps) (n - length (row_bytes p))
line_at _ n = 0

-- the line of a position: the last one that begins at or before it
abbrev pub line_of : List RowValue → Pos → ℕ
line_of ps p = line_at ps (offset ps p)

-- the position begins a line, and the line before that one ends in CR
abbrev pub is_behind_cr : List RowValue → Pos → Bool
is_behind_cr ps p = begins_line (front_at ps p) (back_at ps p) && last_byte (front_at ps p) == code "\r"

-- the first line that an edit touches. An LF at the start of the new bytes makes one break with a
-- CR before it, so the line that ends in this CR is touched too
abbrev pub first_line : List RowValue → Pos → ℕ
first_line ps from = if is_behind_cr ps from then line_of ps from - 1 else line_of ps from

-- the second position begins a line, both in the old text and in the edited one
abbrev pub is_line_kept : List RowValue → Pos → Pos → List ℕ → Bool
is_line_kept ps from to t = begins_line (front_at ps to) (back_at ps to) && begins_line (front_at ps from ++ t) (back_at ps to)

-- the line after the last one that the edit touches
abbrev pub end_line : List RowValue → Pos → Pos → List ℕ → ℕ
end_line ps from to t = if is_line_kept ps from to t then line_of ps to else line_of ps to + 1
