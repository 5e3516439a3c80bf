-- Meaning: how a watched device counts its failures. It counts by the results of calls alone, so a
-- fault of the device is reported only if the device failed.
use Rattle.std.specs.Prelude.{◌≡◌, ℕ, ◌+◌, ◌&&◌, not, ◌==◌, if◌then◌else◌, List, length, Result, MatchResult}

-- a read that fails counts as one failure
abbrev pub CountsRead : {E : Type 0} → ℕ → ℕ → Result ℕ E → Type 0
CountsRead old new r = MatchResult r (λ _. new ≡ old) (λ _. new ≡ old + 1)

-- a write that fails counts as one failure, and so does one that writes no byte of a slice that is
-- not empty
abbrev pub CountsWrite : {E : Type 0} → ℕ → ℕ → Result ℕ E → List ℕ → Type 0
CountsWrite old new r piece = MatchResult r (λ n. new ≡ (if n == 0 && not (length piece == 0) then old + 1 else old)) (λ _. new ≡ old + 1)
