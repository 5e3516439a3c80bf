-- Meaning: the messages of the base protocol (LSP 3.17, 'Base Protocol'): a header of fields, an empty line, and as many bytes as the
-- header's one `Content-Length` says.
use Rattle.std.specs.Prelude.{◌≡◌, ℕ, zero, suc, ◌≤◌, ◌-◌, ◌==◌, nat_le, if◌then◌else◌, List, [], ◌∷◌, ◌++◌, length, take, drop, codes, decimal, Option, Some, None, option_and_then, IsSomeAnd}
use Rattle.std.specs.Option.{option_map, option_map_or}
use Prim.Native.Char.{code}
use Rattle.yl_frames.specs.declared.field.HeaderLine.{HeaderLine}
use Rattle.yl_frames.specs.declared.field.HeaderLine.TheVariants as line
use Rattle.yl_frames.specs.Header.{line_of}

-- a line of at most so many bytes, and what follows its line feed
abbrev pub first_line : ℕ → List ℕ → Option (List ℕ × List ℕ)
first_line most [] = None
first_line zero (x ∷ xs) = if x == code "\n" then Some ([], xs) else None
first_line (suc most) (x ∷ xs) = if x == code "\n" then Some ([], xs) else option_map (λ p. (x ∷ p.0, p.1)) (first_line most xs)

-- a line's meaning comes before those of the lines after it, of which the empty one is the last
abbrev pub lines_with : HeaderLine → Option (List HeaderLine × List ℕ) → (rest : List ℕ) → Option (List HeaderLine × List ℕ)
lines_with line.Empty later rest = Some ([], rest)
lines_with kind later rest = option_map (λ p. (kind ∷ p.0, p.1)) later

-- the lines of a header up to its empty one, of at most 256 bytes and a CR each, and what follows. They are fewer than the number says
unfoldable pub header_lines : ℕ → List ℕ → Option (List HeaderLine × List ℕ)
header_lines zero bytes = None
header_lines (suc most) bytes = option_and_then (λ p. lines_with (line_of p.0) (header_lines most p.1) p.1) (first_line 257 bytes)

-- the lengths that the lines say. None where one of them is no field
abbrev pub lengths_of : List HeaderLine → Option (List ℕ)
lengths_of [] = Some []
lengths_of (line.Empty ∷ lines) = None
lengths_of (line.Length n ∷ lines) = option_map (λ ns. n ∷ ns) (lengths_of lines)
lengths_of (line.Other ∷ lines) = lengths_of lines
lengths_of (line.Bad ∷ lines) = None

-- the length, where there is exactly one
abbrev pub only_length : Option (List ℕ) → Option ℕ
only_length (Some (n ∷ [])) = Some n
only_length _ = None

-- the length that a header of at most 64 fields says, and what follows the header
abbrev pub header_of : List ℕ → Option (ℕ × List ℕ)
header_of bytes = option_and_then (λ p. option_map (λ n. (n, p.1)) (only_length (lengths_of p.0))) (header_lines 65 bytes)

-- what the next bytes are: a message, of which the body counts, and what follows it; the end; or no message
pub data Next : Type 0 where
  Body : (body rest : List ℕ) → Next
  End : Next
  Bad : Next

-- the body of that length
abbrev pub next_of_length : ℕ → List ℕ → Next
next_of_length n bytes = if nat_le n (length bytes) then Body (take n bytes) (drop n bytes) else Bad

abbrev pub next_body : List ℕ → Next
next_body [] = End
next_body bytes = option_map_or (λ p. next_of_length p.0 p.1) (header_of bytes) Bad

-- a body after a header that says this length
abbrev pub with_header : ℕ → List ℕ → List ℕ
with_header n body = codes "Content-Length: " ++ decimal n ++ codes "\r\n\r\n" ++ body

-- a body as a message
abbrev pub framed : List ℕ → List ℕ
framed body = with_header (length body) body
