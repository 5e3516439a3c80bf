-- Meaning: bounds on the number of lines of a text, and on the number of characters of a line. A
-- text is short enough (`AreLines`), so the number of a line and a column fit in the integers of a
-- reader of lines.
use Rattle.std.specs.Prelude.{◌-◌, ◌^◌, ◌<◌, List, length, All}
use Rattle.std.specs.Str.{chars}
use Rattle.yl_text.specs.Lines.{RowValue}
use Rattle.yl_text.specs.Store.{AreLines}

-- the lines are fewer than 2^32 - 1, the greatest 32-bit number
abbrev pub AreFew : List RowValue → Type 0
AreFew ps = length ps < 2 ^ 32 - 1

-- a line has fewer than 2^31 characters without its break
abbrev pub IsShort : RowValue → Type 0
IsShort p = length (chars p.text) < 2 ^ 31

-- the lines of a text are few, and each is short
abbrev pub LinesAreFew : Type 0
LinesAreFew = (ps : List RowValue) → AreLines ps → AreFew ps

abbrev pub LinesAreShort : Type 0
LinesAreShort = (ps : List RowValue) → AreLines ps → All IsShort ps
