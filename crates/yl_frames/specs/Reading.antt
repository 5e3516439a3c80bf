-- Bridge: what is taken of the bytes that a reader gives, of which some were read ahead.
use Rattle.std.specs.Prelude.{◌≡◌, ◌≢◌, ℕ, ◌-◌, ◌<◌, ◌≤◌, List, [], ◌∷◌, ◌++◌, length, Option, Some, None, option_and_then, IfSome, IsSomeAnd}
use Rattle.std.specs.Option.{option_map}
use Rattle.std.specs.Io.KnownBytes.{Consumes}
use Rattle.yl_frames.specs.Frames.{Body, End, Bad, first_line, header_lines, header_of, lengths_of, next_body, only_length}
use Rattle.yl_frames.specs.declared.field.HeaderLine.{HeaderLine}
use Rattle.yl_frames.specs.declared.reading.NextBody.{NextBody}
use Rattle.yl_frames.specs.declared.reading.NextBody.TheVariants as found

-- so many bytes and then a line's
abbrev pub onto : List ℕ → Option (List ℕ × List ℕ) → Option (List ℕ × List ℕ)
onto front line = option_map (λ p. (front ++ p.0, p.1)) line

-- a line is read as far as this
abbrev pub HasBegun : List ℕ → List ℕ → List ℕ → Type 0
HasBegun all rest line = (length line ≤ 257) × (all ≡ line ++ rest) × (first_line 257 all ≡ onto line (first_line (257 - length line) rest))

abbrev pub LineBegan : Option (List ℕ) → Option (List ℕ) → List ℕ → Type 0
LineBegan None rest line = Unit {0}
LineBegan (Some all) None line = ⊥
LineBegan (Some all) (Some rest) line = HasBegun all rest line

-- a line is read
abbrev pub TakesLine : Option (List ℕ) → Option (List ℕ) → List ℕ → Type 0
TakesLine None rest line = Unit {0}
TakesLine (Some all) None line = ⊥
TakesLine (Some all) (Some rest) line = first_line 257 all ≡ Some (line, rest)

-- the lengths that were said so far
abbrev pub listed : Option ℕ → List ℕ
listed None = []
listed (Some n) = n ∷ []

-- the length that these lines of a header say with those before them, and what follows the header
abbrev pub said : Option ℕ → Option (List HeaderLine × List ℕ) → Option (ℕ × List ℕ)
said found lines = option_and_then (λ p. option_map (λ n. (n, p.1)) (only_length (option_map (λ ns. listed found ++ ns) (lengths_of p.0)))) lines

-- the same where so many lines are still to come
abbrev pub header_from : ℕ → Option ℕ → List ℕ → Option (ℕ × List ℕ)
header_from most found bytes = said found (header_lines most bytes)

-- a header is read as far as this
abbrev pub HeaderBegan : ℕ → Option (List ℕ) → Option (List ℕ) → Option ℕ → Type 0
HeaderBegan most None rest found = Unit {0}
HeaderBegan most (Some all) None found = ⊥
HeaderBegan most (Some all) (Some rest) found = header_of all ≡ header_from most found rest

-- a header is read
abbrev pub TakesHeader : Option (List ℕ) → Option (List ℕ) → ℕ → Type 0
TakesHeader None rest n = Unit {0}
TakesHeader (Some all) None n = ⊥
TakesHeader (Some all) (Some rest) n = header_of all ≡ Some (n, rest)

-- so many bytes were taken, and all of them are kept where some are
pub record TakenSoFar {X : Type 0} (given left : Option (List ℕ)) (count : ℕ) (kept : Option X) (items : X → List ℕ) : Type 0 where
  pub taken : List ℕ
  pub consumed : Consumes given left taken
  pub counted : length taken ≡ count
  pub keeps : IfSome kept (λ bytes. items bytes ≡ taken)

-- what was read of a body of that length
abbrev pub IsBodyRead : {A : Type 0} → Option (List ℕ) → Option (List ℕ) → ℕ → NextBody A → Type 0
IsBodyRead given left size (found.Body bytes) = Consumes given left bytes.items × (length bytes.items ≡ size)
IsBodyRead given left size found.Dropped = (body : List ℕ) × Consumes given left body × (length body ≡ size)
IsBodyRead given left size found.End = ⊥
IsBodyRead given left size found.Bad = IfSome given (λ all. length all < size)
