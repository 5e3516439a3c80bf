-- Meaning: the items that a line's pattern is, in the manner of gitignore. A pattern has parts with `/` between them.
use Rattle.std.specs.Prelude.{ℕ, zero, suc, ◌+◌, ◌-◌, ◌==◌, nat_lt, Bool, true, false, not, ◌&&◌, ◌||◌, if◌then◌else◌, List, [], ◌∷◌, ◌++◌, length, drop, slice_index, position, Option, Some, None}
use Rattle.std.specs.Option.{option_map, option_and_then, option_map_or}
use Prim.Native.Char.{code}
use Rattle.yl_patterns.specs.declared.item.Item.{Item}
use Rattle.yl_patterns.specs.declared.item.Item.TheVariants.{Character, AnyCharacter, Class, Range, Star, Folders}
use Rattle.yl_patterns.specs.declared.piece.Place.{Place}
use Rattle.yl_patterns.specs.declared.piece.Place.TheVariants.{Front, Start, Inside, InClass}
use Rattle.yl_patterns.specs.declared.piece.Piece.{Piece}
use Rattle.yl_patterns.specs.Fits.{is_slash}

-- the character with this index is this one
abbrev pub has : List ℕ → ℕ → ℕ → Bool
has cs k c = nat_lt k (length cs) && (slice_index cs k == c)

-- an item, how many characters it is, and where the next one stands
abbrev pub piece : Item → ℕ → Place → Option Piece
piece item len next = Some (record { item = item; len = len; next = next })

-- what is left of a part has a `]`
abbrev pub has_close : List ℕ → Bool
has_close [] = false
has_close (c ∷ cs) = not (is_slash c) && ((c == code "]") || has_close cs)

-- a class of one character or more ends in this part. Its first character may be a `]`
abbrev pub is_closed : List ℕ → Bool
is_closed [] = false
is_closed (c ∷ cs) = not (is_slash c) && has_close cs

-- `[` or `[!`. Where no class ends it is that character
abbrev pub class_start : List ℕ → Option Piece
class_start cs =
    if has cs 1 (code "!")
    then (if is_closed (drop 2 cs) then piece (Class true) 2 InClass else piece (Character (code "[")) 1 Inside)
    else (if is_closed (drop 1 cs) then piece (Class false) 1 InClass else piece (Character (code "[")) 1 Inside)

-- a range of a class, with the `]` after it, if any
abbrev pub member : List ℕ → ℕ → ℕ → ℕ → Option Piece
member cs first last len =
    if has cs len (code "]") then piece (Range first last) (len + 1) Inside else piece (Range first last) len InClass

-- in a class: a range `a-b`, or one character. There is none where a range runs backwards
abbrev pub class_piece : List ℕ → Option Piece
class_piece cs =
    if has cs 1 (code "-") && nat_lt 2 (length cs) && not (has cs 2 (code "]"))
    then (if nat_lt (slice_index cs 2) (slice_index cs 0) then None else member cs (slice_index cs 0) (slice_index cs 2) 3)
    else member cs (slice_index cs 0) (slice_index cs 0) 1

-- `**/` at the start of a part, or a `*`
abbrev pub star_piece : Bool → Place → List ℕ → Option Piece
star_piece is_start place cs = if is_start && has cs 1 (code "*") && has cs 2 (code "/") then piece Folders 3 place else piece Star 1 Inside

-- the character after a `\`. There is none at a part's end
abbrev pub escaped : List ℕ → Option Piece
escaped cs = if nat_lt 1 (length cs) && not (has cs 1 (code "/")) then piece (Character (slice_index cs 1)) 2 Inside else None

-- outside a class
abbrev pub part_piece : Bool → Place → List ℕ → Option Piece
part_piece is_start place cs =
    let c = slice_index cs 0 in
    if c == code "/" then piece (Character c) 1 Start else
    if c == code "?" then piece AnyCharacter 1 Inside else
    if c == code "*" then star_piece is_start place cs else
    if c == code "\\" then escaped cs else
    if c == code "[" then class_start cs else piece (Character c) 1 Inside

-- the piece with which the text of a pattern goes on
abbrev pub piece_of : Place → List ℕ → Option Piece
piece_of Front cs = part_piece true Front cs
piece_of Start cs = part_piece true Start cs
piece_of Inside cs = part_piece false Inside cs
piece_of InClass cs = class_piece cs

-- a `/` at the end stands for all that lies in a folder, and after nothing but `**/` for all that lies in some folder
abbrev pub last_items : Place → List Item
last_items Front = Star ∷ Character (code "/") ∷ Star ∷ []
last_items Start = Star ∷ []
last_items Inside = []
last_items InClass = []

-- the items of what stands after so many characters of a text
abbrev pub items_after : Place → ℕ → List ℕ → Option (List Item)
items_after place n [] = Some (last_items place)
items_after place (suc n) (c ∷ cs) = items_after place n cs
items_after place zero (c ∷ cs) =
    option_and_then (λ p. option_map (λ is. p.item ∷ is) (items_after p.next (p.len - 1) cs)) (piece_of place (c ∷ cs))

abbrev pub items_of : List ℕ → Option (List Item)
items_of cs = items_after Front 0 cs

-- there is no `/` but at the end
abbrev pub is_one_part : List ℕ → Bool
is_one_part cs = option_map_or (λ k. k + 1 == length cs) (position is_slash cs) true

-- one part alone may lie anywhere
abbrev pub front_items : List ℕ → List Item
front_items cs = if is_one_part cs then Folders ∷ [] else []

-- a `/` in front says that it may not
abbrev pub unanchored : List ℕ → List ℕ
unanchored cs = if has cs 0 (code "/") then drop 1 cs else cs

-- a `/` alone is a name without characters
abbrev pub pattern_items : List ℕ → Option (List Item)
pattern_items cs =
    if length cs == 0 then None else
    if (length cs == 1) && has cs 0 (code "/") then Some [] else option_map (λ is. front_items cs ++ is) (items_of (unanchored cs))
