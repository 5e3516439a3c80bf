-- Meaning: quoted scalars in one line: YAML 1.2.2, 7.3.1 and 7.3.2.
use Rattle.std.specs.Prelude.{ℕ, Bool, not, ◌&&◌, ◌==◌, nat_lt, if◌then◌else◌, List, [], ◌∷◌, ◌++◌, ◌+◌, ◌-◌, take, length, slice_index, Option, Some, None}
use Rattle.std.specs.Option.{option_map_or}
use Prim.Native.Char.{code}
use Rattle.yl_text.specs.Character.{is_white}
use Rattle.yl_scalar.specs.Allowed.{is_quoted_character}
use Rattle.yl_scalar.specs.Escape.{escape}
use Rattle.yl_scalar.specs.declared.answer.ScalarFault.{ScalarFault}
use Rattle.yl_scalar.specs.declared.answer.ScalarFault.TheVariants.{NotAllowed, BadEscape}

-- what a line makes of a quoted scalar: the scalar ends after so many characters; or it continues
-- after the break, before which there may be a backslash at this index; or there is a fault
pub data Stretch : Type 0 where
  Closes : (text : List ℕ) (place : ℕ) → Stretch
  Breaks : (text : List ℕ) (backslash : Option ℕ) → Stretch
  Faulty : (fault : ScalarFault) (place : ℕ) → Stretch

abbrev pub quote : Bool → ℕ
quote double = if double then code "\"" else code "'"

-- skip: the number of characters left of an escape or a doubled quote that was read. text: the
-- value so far, of which `kept` characters are before the white space at its end that is not
-- escaped. at: the number of characters that were read
abbrev pub stretch : Bool → ℕ → List ℕ → ℕ → ℕ → List ℕ → Stretch
stretch double skip text kept at [] = Breaks (take kept text) None
stretch double skip text kept at (c ∷ cs) =
    if nat_lt 0 skip then stretch double (skip - 1) text kept (at + 1) cs
    else if c == quote double then
    (if not double && slice_index cs 0 == code "'" then stretch double 1 (text ++ c ∷ []) (length text + 1) (at + 1) cs else Closes text (at + 1))
    else if double && c == code "\\" then
    (if length cs == 0 then Breaks text (Some at)
    else option_map_or (λ e. stretch double (e.1 + 1) (text ++ e.0 ∷ []) (length text + 1) (at + 1) cs) (escape cs)
    (Faulty BadEscape at))
    else if is_quoted_character c then stretch double 0 (text ++ c ∷ []) (if is_white c then kept else length text + 1) (at + 1) cs
    else Faulty NotAllowed at
