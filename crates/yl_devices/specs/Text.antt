-- Meaning: the text of a file's bytes (a byte-order mark may begin a stream: YAML 1.2.2, chapter
-- 5.2), what keeps bytes from being one, and how an input is read to its end or piece by piece.
use Rattle.std.specs.Prelude.{ℕ, ◌<◌, ◌≤◌, List, [], ◌∷◌, length, drop, nat_eq, if◌then◌else◌, Option}
use Rattle.std.specs.List.{starts_with}
use Rattle.std.specs.Io.KnownBytes.{Consumes}
use Rattle.std.specs.Str.{IsUtf8, IsValidUpTo}
use Rattle.yl_text.specs.declared.TheConstants.{MAX_BYTES}
use Rattle.yl_devices.specs.declared.fault.BadText.{BadText}
use Rattle.yl_devices.specs.declared.fault.BadText.TheVariants.{NotUtf8, TooLarge}
use Rattle.yl_devices.specs.declared.fault.RunFault.{RunFault}
use Rattle.yl_devices.specs.declared.fault.RunFault.TheVariants.{Read, Text, Write, Command, Memory}

-- the bytes without one leading byte-order mark
abbrev pub without_mark : List ℕ → List ℕ
without_mark bytes = if starts_with nat_eq bytes (0xEF ∷ 0xBB ∷ 0xBF ∷ []) then drop 3 bytes else bytes

-- why the bytes are no text; that they are too many is looked for first
abbrev pub IsBadText : List ℕ → BadText → Type 0
IsBadText bytes (NotUtf8 n) = (length bytes ≤ MAX_BYTES) × (¬ (IsUtf8 bytes)) × IsValidUpTo bytes n
IsBadText bytes TooLarge = MAX_BYTES < length bytes

-- no more than so many bytes were taken of those given
pub record TakesAtMost (most : ℕ) (given left : Option (List ℕ)) : Type 0 where
  pub taken : List ℕ
  pub bound : length taken ≤ most
  pub consumed : Consumes given left taken

-- the reading of all that there is ends where the reader's failures rose, or for want of memory
abbrev pub IsReadFault : ℕ → ℕ → RunFault → Type 0
IsReadFault before after Read = before < after
IsReadFault before after Memory = Unit {0}
IsReadFault before after Write = ⊥
IsReadFault before after Command = ⊥
IsReadFault before after (Text fault) = ⊥

-- fewer than so many bytes were taken of those given
pub record TakesFewer (size : ℕ) (given left : Option (List ℕ)) : Type 0 where
  pub taken : List ℕ
  pub bound : length taken < size
  pub consumed : Consumes given left taken

-- the reading of so many bytes ends where the reader's failures rose, for want of memory, or since there are fewer
abbrev pub IsCommandFault : ℕ → ℕ → RunFault → Type 0
IsCommandFault before after Read = before < after
IsCommandFault before after Memory = Unit {0}
IsCommandFault before after Command = Unit {0}
IsCommandFault before after Write = ⊥
IsCommandFault before after (Text fault) = ⊥
