-- Meaning: what reading a message has found.
use Rattle.std.specs.Prelude.{◌≡◌, ℕ, List, Option, Some, None, IsSomeAnd}
use Rattle.yl_frames.specs.Frames.{Body, End, Bad, next_body}
use Rattle.yl_frames.specs.declared.reading.NextBody.{NextBody}
use Rattle.yl_frames.specs.declared.reading.NextBody.TheVariants as found

-- the bytes that are left are known, and the bytes that were given are a message with this body and then those
abbrev pub TakesBody : List ℕ → Option (List ℕ) → List ℕ → Type 0
TakesBody given left body = IsSomeAnd left (λ rest. next_body given ≡ Body body rest)

-- the next message of the bytes that were given was found, where those are known
abbrev pub IsNext : {A : Type 0} → Option (List ℕ) → Option (List ℕ) → NextBody A → Type 0
IsNext None left next = Unit {0}
IsNext (Some given) left (found.Body bytes) = TakesBody given left bytes.items
IsNext (Some given) left found.Dropped = (body : List ℕ) × TakesBody given left body
IsNext (Some given) left found.End = next_body given ≡ End
IsNext (Some given) left found.Bad = next_body given ≡ Bad
