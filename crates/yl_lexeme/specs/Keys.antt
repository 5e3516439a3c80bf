-- Meaning: the latest lexemes of a line that are one unit, which may be a key: YAML 1.2.2, 7.4.2
-- and 8.2.2. Lexemes are listed with the latest first.
use Rattle.std.specs.Prelude.{ℕ, Bool, not, ◌&&◌, ◌==◌, if◌then◌else◌, List, [], ◌∷◌, ◌+◌, ◌-◌, Option, option_and_then, slice_get}
use Rattle.yl_lexeme.specs.declared.lexeme.Kind.{Kind}
use Rattle.yl_lexeme.specs.Lexeme.{is_opening, is_closing, is_property, is_anchor, is_leaf}

-- a lexeme of the line, and its position, if a key may begin there
pub record Spot (T : Type 0) : Type 0 where
  pub kind : Kind
  pub start : Option T

-- the partner of a closing bracket and all lexemes before it
abbrev pub from_partner : {T : Type 0} → ℕ → List (Spot T) → List (Spot T)
from_partner depth [] = []
from_partner depth (x ∷ xs) =
    if is_closing x.kind then from_partner (depth + 1) xs
    else if is_opening x.kind then (if depth == 1 then x ∷ xs else from_partner (depth - 1) xs)
    else from_partner depth xs

-- the first lexeme of the content that the latest lexemes are (an alias, a scalar or matched
-- brackets), and all before it
abbrev pub from_content : {T : Type 0} → List (Spot T) → List (Spot T)
from_content [] = []
from_content (x ∷ xs) = if is_closing x.kind then from_partner 1 xs else if is_leaf x.kind then x ∷ xs else []

-- the first lexeme of the properties that the latest lexemes are, and all before it: at most one
-- anchor and one tag
abbrev pub from_properties : {T : Type 0} → List (Spot T) → List (Spot T)
from_properties [] = []
from_properties (x ∷ []) = if is_property x.kind then x ∷ [] else []
from_properties (x ∷ y ∷ xs) =
    let is_other = if is_anchor x.kind then not (is_anchor y.kind) else is_anchor y.kind in
    if not (is_property x.kind) then [] else if is_property y.kind && is_other then y ∷ xs else x ∷ y ∷ xs

abbrev pub or_from : {T : Type 0} → List (Spot T) → List (Spot T) → List (Spot T)
or_from [] ys = ys
or_from (x ∷ xs) ys = x ∷ xs

-- the first lexeme of the unit that the latest lexemes are (a content with its properties, or
-- properties alone), and all before it
abbrev pub unit_from : {T : Type 0} → List (Spot T) → List (Spot T) → List (Spot T)
unit_from [] properties = properties
unit_from (x ∷ xs) properties = or_from (from_properties xs) (x ∷ xs)

-- where a key begins of which the latest lexeme is the last: the unit before a Value, which is in
-- one line with the Value
abbrev pub key_start : {T : Type 0} → List (Spot T) → Option T
key_start xs = option_and_then (λ x. x.start) (slice_get (unit_from (from_content xs) (from_properties xs)) 0)
