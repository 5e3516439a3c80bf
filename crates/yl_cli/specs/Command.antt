-- Meaning: the commands of an editing run. A command is `replace LINE COLUMN LINE COLUMN BYTES`, a
-- line feed, and then as many bytes as the number BYTES says, which replace the text between the
-- two positions. Lines and columns count from 0.
use Rattle.std.specs.Prelude.{ℕ, zero, suc, ◌&&◌, ◌==◌, nat_le, if◌then◌else◌, List, [], ◌∷◌, ◌+◌, ◌*◌, ◌-◌, length, take, drop, codes, bytes_eq, Option, Some, None, option_and_then}
use Rattle.std.specs.List.{slice_split}
use Rattle.std.specs.Option.{option_map, option_map_or}
use Rattle.std.specs.Char.{is_ascii_digit}
use Prim.Native.Char.{code}
use Rattle.yl_text.specs.declared.position.Pos.{Pos}
use Rattle.yl_cli.specs.declared.command.CommandLine.{CommandLine}
use Rattle.yl_session.specs.Runs.{EditValue}

-- the number whose digits are those of n and then these
abbrev pub number_after : ℕ → List ℕ → Option ℕ
number_after n [] = Some n
number_after n (c ∷ cs) = if is_ascii_digit c then number_after (n * 10 + (c - code "0")) cs else None

-- the number that a word of 1 to 10 decimal digits writes
abbrev pub number_of_word : List ℕ → Option ℕ
number_of_word word = if nat_le 1 (length word) && nat_le (length word) 10 then number_after 0 word else None

-- the position at a line and a column. If one of the two does not fit in 32 bits, this is a
-- position that is in no text
abbrev pub place_at : ℕ → ℕ → Pos
place_at line col =
    if nat_le line 4294967295 && nat_le col 4294967295 then record { line = line; col = col } else record { line = 4294967295; col = 4294967295 }

abbrev pub place_of_words : List ℕ → List ℕ → Option Pos
place_of_words line col = option_and_then (λ l. option_map (place_at l) (number_of_word col)) (number_of_word line)

abbrev pub line_of_places : Option Pos → Option Pos → Option ℕ → Option CommandLine
line_of_places (Some from) (Some to) (Some size) =
    if nat_le size 67108864 then Some (record { from = from; to = to; size = size }) else None
line_of_places _ _ _ = None

-- a name, twice a line and a column, and the number of bytes that follow
abbrev pub line_of_words : List (List ℕ) → Option CommandLine
line_of_words (name ∷ line ∷ col ∷ end_line ∷ end_col ∷ size ∷ []) =
    if bytes_eq name (codes "replace")
    then line_of_places (place_of_words line col) (place_of_words end_line end_col) (number_of_word size)
    else None
line_of_words _ = None

-- a line of at most `most` bytes, and what follows its line feed
abbrev pub first_line : ℕ → List ℕ → Option (List ℕ × List ℕ)
first_line most [] = None
first_line zero (x ∷ xs) = if x == code "\n" then Some ([], xs) else None
first_line (suc most) (x ∷ xs) = if x == code "\n" then Some ([], xs) else option_map (λ p. (x ∷ p.0, p.1)) (first_line most xs)

-- what the next bytes are: a command, and what follows it; the end; or no command
pub data Next : Type 0 where
  Command : (edit : EditValue) (rest : List ℕ) → Next
  End : Next
  Bad : Next

-- the command that a line writes, and what follows its bytes
abbrev pub next_of_line : Option CommandLine → List ℕ → Next
next_of_line (Some c) rest =
    if nat_le c.size (length rest)
    then Command (record { from = c.from; to = c.to; bytes = take c.size rest }) (drop c.size rest)
    else Bad
next_of_line None rest = Bad

-- the next command; the longest line of a command has 62 bytes: its name, five numbers of 10
-- digits, and the five spaces between them
abbrev pub next_command : List ℕ → Next
next_command [] = End
next_command bytes =
    option_map_or (λ p. next_of_line (line_of_words (slice_split (λ c. c == code " ") p.0)) p.1) (first_line 62 bytes) Bad
