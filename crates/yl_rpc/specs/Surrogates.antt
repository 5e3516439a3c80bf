-- Meaning: escapes of surrogates in a body. RFC 8259 (chapter 8.2) leaves open what `\uD800` to `\uDFFF` mean without their partner. An editor that
-- holds its text in UTF-16 sends them while a pair is typed. Here each of these is read as U+FFFD.
use Rattle.std.specs.Prelude.{ℕ, ◌&&◌, ◌||◌, ◌==◌, not, if◌then◌else◌, Bool, false, List, [], ◌∷◌, ◌++◌, codes, take, Option, None}
use Rattle.std.specs.Option.{option_map_or}
use Prim.Native.Char.{code}
use Rattle.json.specs.Text.{code_unit, is_high_surrogate, is_low_surrogate}
use Rattle.yl_rpc.specs.declared.surrogates.Within.{Within}
use Rattle.yl_rpc.specs.declared.surrogates.Within.TheVariants.{Plain, AfterBackslash, AfterU}

-- the code unit that the first four digits write
abbrev pub unit_of : List ℕ → Option ℕ
unit_of (a ∷ b ∷ c ∷ d ∷ rest) = code_unit a b c d
unit_of _ = None

-- the bytes begin with the digits of the first half of a pair, or of the second
abbrev pub begins_high : List ℕ → Bool
begins_high bytes = option_map_or is_high_surrogate (unit_of bytes) false

abbrev pub begins_low : List ℕ → Bool
begins_low bytes = option_map_or is_low_surrogate (unit_of bytes) false

-- the bytes after four digits are the escape of a second half
abbrev pub has_partner : List ℕ → Bool
has_partner (a ∷ b ∷ c ∷ d ∷ s ∷ u ∷ digits) = (s == code "\\") && (u == code "u") && begins_low digits
has_partner _ = false

-- the bytes begin with the digits of half a pair, and the other half does not stand beside it
abbrev pub is_lone : (is_partner : Bool) → List ℕ → Bool
is_lone is_partner bytes = (begins_high bytes && not (has_partner bytes)) || (begins_low bytes && not is_partner)

-- what is read for the four digits at the front
abbrev pub digits_read : (is_partner : Bool) → List ℕ → List ℕ
digits_read is_partner bytes = if is_lone is_partner bytes then codes "FFFD" else take 4 bytes

-- where the byte after this one stands
abbrev pub next_within : Within → ℕ → Within
next_within (Plain p) x = if x == code "\\" then AfterBackslash p else Plain false
next_within (AfterBackslash p) x = if x == code "u" then AfterU p else Plain false
next_within (AfterU p) x = Plain false

-- the bytes, with U+FFFD for each half of a pair without the other
unfoldable pub mended_from : Within → List ℕ → List ℕ
mended_from w [] = []
mended_from (Plain p) (x ∷ rest) = x ∷ mended_from (next_within (Plain p) x) rest
mended_from (AfterBackslash p) (x ∷ rest) = x ∷ mended_from (next_within (AfterBackslash p) x) rest
mended_from (AfterU p) (a ∷ b ∷ c ∷ d ∷ rest) =
    digits_read p (a ∷ b ∷ c ∷ d ∷ rest) ++ mended_from (Plain (begins_high (a ∷ b ∷ c ∷ d ∷ rest) && has_partner (a ∷ b ∷ c ∷ d ∷ rest))) rest
mended_from (AfterU p) rest = rest

abbrev pub mended : List ℕ → List ℕ
mended = mended_from (Plain false)
