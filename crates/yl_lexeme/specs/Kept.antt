-- Bridge: what is kept of the lexemes of a line that were read: the unit that may become a key.
use Rattle.std.specs.Prelude.{Bool, not, if◌then◌else◌, List, [], ◌∷◌, Option, Some, None}
use Rattle.yl_lexeme.specs.declared.lexeme.Kind.{Kind}
use Rattle.yl_lexeme.specs.declared.unit.Property.{Property}
use Rattle.yl_lexeme.specs.Lexeme.{is_opening, is_closing, is_property, is_anchor, is_leaf}
use Rattle.yl_lexeme.specs.Keys.{Spot}

-- unit: the position at which the unit of the latest lexemes begins, if a key may begin there.
-- outer: for each open bracket of the line, the position at which its unit begins, if a key may
-- begin there, the innermost bracket first. property: if the latest lexeme is a property, whether
-- it is an anchor, and its position, if a key may begin there
pub record KeyUnitValue (T : Type 0) : Type 0 where
  pub unit : Option T
  pub outer : List (Option T)
  pub property : Option (Bool × Option T)

-- what is kept at the start of a line
abbrev pub no_key_unit : {T : Type 0} → KeyUnitValue T
no_key_unit = record { unit = None; outer = []; property = None }

abbrev pub property_pair : {T : Type 0} → Option (Property T) → Option (Bool × Option T)
property_pair None = None
property_pair (Some p) = Some (p.is_anchor, p.start)

abbrev pub all_but_first : {A : Type 0} → List A → List A
all_but_first [] = []
all_but_first (x ∷ xs) = xs

abbrev pub first_of : {A : Type 0} → List A → Option A
first_of [] = None
first_of (x ∷ xs) = Some x

abbrev pub flattened_option : {A : Type 0} → Option (Option A) → Option A
flattened_option None = None
flattened_option (Some x) = x

-- where the unit begins whose content is this lexeme
abbrev pub content_start : {T : Type 0} → Option T → Option T → Option (Bool × Option T) → Option T
content_start own unit None = own
content_start own unit (Some property) = unit

-- where the properties begin of which this is the last; one of the other kind may be before it
abbrev pub property_start : {T : Type 0} → Bool → Option T → Option (Bool × Option T) → Option T
property_start anchor own None = own
property_start anchor own (Some property) = if (if anchor then not property.0 else property.0) then property.1 else own

-- the unit after one more lexeme; closing: where the unit begins of the bracket that a closing one
-- closes
abbrev pub unit_behind : {T : Type 0} → Kind → Option T → Option T → Option (Bool × Option T) → Option T → Option T
unit_behind kind own unit property closing =
    if is_closing kind then closing
    else if is_leaf kind then content_start own unit property
    else if is_property kind then property_start (is_anchor kind) own property
    else None

-- the units of the open brackets after one more lexeme
abbrev pub outer_behind : {T : Type 0} → Kind → Option T → List (Option T) → List (Option T)
outer_behind kind start outer = if is_closing kind then all_but_first outer else if is_opening kind then start ∷ outer else outer

-- the latest lexeme, if it is a property
abbrev pub property_behind : {T : Type 0} → Kind → Option T → Option (Bool × Option T)
property_behind kind own = if is_property kind then Some (is_anchor kind, own) else None

-- what is kept after one more lexeme
abbrev pub key_unit_behind : {T : Type 0} → Kind → Option T → KeyUnitValue T → KeyUnitValue T
key_unit_behind kind own k = record {
  unit = unit_behind kind own k.unit k.property (flattened_option (first_of k.outer));
  outer = outer_behind kind (content_start own k.unit k.property) k.outer;
  property = property_behind kind own;
}

-- what is kept after the lexemes of a line
abbrev pub key_unit_of : {T : Type 0} → List (Spot T) → KeyUnitValue T
key_unit_of [] = no_key_unit
key_unit_of (x ∷ xs) = key_unit_behind x.kind x.start (key_unit_of xs)
