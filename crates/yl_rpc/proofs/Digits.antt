-- What the bytes at the front of a list say of its escapes.
use Rattle.std.proofs.Common.{◌≡◌, ℕ, ◌<◌, ◌≤◌, false, List, [], ◌∷◌, length, drop, get_or, None, refl, arith}
use Rattle.std.specs.Prelude.{◌&&◌, ◌==◌}
use Rattle.json.specs.Text.{code_unit}
use Rattle.yl_rpc.specs.Surrogates.{begins_low, has_partner, unit_of}

pub unit_at : (bytes : List ℕ) → 4 ≤ length bytes → unit_of bytes ≡ code_unit (get_or bytes 0 0) (get_or bytes 1 0) (get_or bytes 2 0) (get_or bytes 3 0)
unit_at [] h = absurd (omega (arith, h))
unit_at (a ∷ []) h = absurd (omega (arith, h))
unit_at (a ∷ b ∷ []) h = absurd (omega (arith, h))
unit_at (a ∷ b ∷ c ∷ []) h = absurd (omega (arith, h))
unit_at (a ∷ b ∷ c ∷ d ∷ rest) h = refl

pub unit_short : (bytes : List ℕ) → length bytes < 4 → unit_of bytes ≡ None
unit_short [] h = refl
unit_short (a ∷ []) h = refl
unit_short (a ∷ b ∷ []) h = refl
unit_short (a ∷ b ∷ c ∷ []) h = refl
unit_short (a ∷ b ∷ c ∷ d ∷ rest) h = absurd (omega (arith, h))

pub partner_at : (bytes : List ℕ) → 6 ≤ length bytes → has_partner bytes ≡ ((get_or bytes 4 0 == 92) && (get_or bytes 5 0 == 117) && begins_low (drop 6 bytes))
partner_at [] h = absurd (omega (arith, h))
partner_at (a ∷ []) h = absurd (omega (arith, h))
partner_at (a ∷ b ∷ []) h = absurd (omega (arith, h))
partner_at (a ∷ b ∷ c ∷ []) h = absurd (omega (arith, h))
partner_at (a ∷ b ∷ c ∷ d ∷ []) h = absurd (omega (arith, h))
partner_at (a ∷ b ∷ c ∷ d ∷ e ∷ []) h = absurd (omega (arith, h))
partner_at (a ∷ b ∷ c ∷ d ∷ e ∷ f ∷ rest) h = refl

pub partner_short : (bytes : List ℕ) → length bytes < 6 → has_partner bytes ≡ false
partner_short [] h = refl
partner_short (a ∷ []) h = refl
partner_short (a ∷ b ∷ []) h = refl
partner_short (a ∷ b ∷ c ∷ []) h = refl
partner_short (a ∷ b ∷ c ∷ d ∷ []) h = refl
partner_short (a ∷ b ∷ c ∷ d ∷ e ∷ []) h = refl
partner_short (a ∷ b ∷ c ∷ d ∷ e ∷ f ∷ rest) h = absurd (omega (arith, h))
