-- Meaning: the kind of the parse fault of a document. It depends on the lexeme before, on the
-- properties directly before, and on the innermost collection that is open after the closings
-- before the place of the fault (YAML 1.2.2, 9.1; 6.9 and 7.1; 7.4 and 8.2).
use Rattle.std.specs.Prelude.{ℕ, Bool, true, false, not, ◌||◌, ◌==◌, ◌-◌, if◌then◌else◌, List, [], ◌∷◌, ◌+◌, reverse, take, drop, codes}
use Rattle.yl_lexeme.specs.declared.lexeme.Kind.{Kind}
use Rattle.yl_lexeme.specs.Lexeme.{is_opening, is_closing, is_entry, is_key, is_value}
use Rattle.yl_marks.specs.declared.symbol.Symbol.{Symbol}
use Rattle.yl_marks.specs.declared.symbol.Symbol.TheVariants.{OpenSequence, OpenMapping, BeginKey, Close, One}
use Rattle.yl_events.specs.declared.symbol.OpenBlockCollection.{OpenBlockCollection}
use Rattle.yl_events.specs.declared.symbol.OpenBlockCollection.TheVariants.{InSequence, InMapping}
use Rattle.yl_events.specs.declared.fault.ParseFault.{ParseFault}
use Rattle.yl_events.specs.declared.fault.ParseFault.TheVariants.{DocumentStartExpected, PropertiesGivenTwice, CommaOrBracketExpected, KeyOrEndOfMappingExpected, EntryOrEndOfSequenceExpected, SecondNode}

abbrev pub fault_text : ParseFault → List ℕ
fault_text DocumentStartExpected = codes "document start \"---\" expected"
fault_text PropertiesGivenTwice = codes "properties given twice or on an alias"
fault_text CommaOrBracketExpected = codes "comma or closing bracket expected"
fault_text KeyOrEndOfMappingExpected = codes "key or end of mapping expected"
fault_text EntryOrEndOfSequenceExpected = codes "entry or end of sequence expected"
fault_text SecondNode = codes "second node"

-- ---- what is open

-- the number of open brackets, and the open block collections, the innermost first
pub record OpenCollections : Type 0 where
  pub depth : ℕ
  pub blocks : List OpenBlockCollection

-- the innermost block collection, if it is a mapping, has an open indentless sequence or none
abbrev pub with_indentless : Bool → List OpenBlockCollection → List OpenBlockCollection
with_indentless is_open (InMapping _ ∷ blocks) = InMapping is_open ∷ blocks
with_indentless is_open blocks = blocks

abbrev pub blocks_behind : List OpenBlockCollection → Symbol → List OpenBlockCollection
blocks_behind blocks (OpenSequence i) = InSequence ∷ blocks
blocks_behind blocks (OpenMapping i) = InMapping false ∷ blocks
blocks_behind blocks (BeginKey i) = with_indentless false blocks
blocks_behind blocks Close = drop 1 blocks
blocks_behind blocks (One kind i) =
    if is_entry kind || is_key kind || is_value kind then with_indentless (is_entry kind) blocks else blocks

abbrev pub depth_behind : ℕ → Symbol → ℕ
depth_behind depth (One kind i) = if is_opening kind then depth + 1 else if is_closing kind then depth - 1 else depth
depth_behind depth _ = depth

-- within brackets only closings, which come before a marker or the end, change the open blocks
abbrev pub open_behind : OpenCollections → Symbol → OpenCollections
open_behind o Close = record o { blocks = blocks_behind o.blocks Close }
open_behind o w = record { depth = depth_behind o.depth w; blocks = if o.depth == 0 then blocks_behind o.blocks w else o.blocks }

abbrev pub open_after : OpenCollections → List Symbol → OpenCollections
open_after o [] = o
open_after o (w ∷ ws) = open_after (open_behind o w) ws

-- the blocks that are still open after the closings that come next
abbrev pub without_closed : List Symbol → List OpenBlockCollection → List OpenBlockCollection
without_closed (Close ∷ ws) blocks = without_closed ws (drop 1 blocks)
without_closed _ blocks = blocks

-- ---- the properties directly before; the latest symbol is first

-- an anchor, or a tag if the flag is false
abbrev pub has_property : Bool → List Symbol → Bool
has_property anchor (One Kind.Anchor i ∷ ws) = anchor || has_property anchor ws
has_property anchor (One Kind.Tag i ∷ ws) = not anchor || has_property anchor ws
has_property anchor _ = false

-- a second anchor or tag comes, or an alias after properties
abbrev pub is_twice : List Symbol → List Symbol → Bool
is_twice before (One Kind.Anchor i ∷ ws) = has_property true before
is_twice before (One Kind.Tag i ∷ ws) = has_property false before
is_twice before (One Kind.Alias i ∷ ws) = has_property true before || has_property false before
is_twice before _ = false

abbrev pub is_behind_directive : List Symbol → Bool
is_behind_directive (One Kind.Directive i ∷ ws) = true
is_behind_directive _ = false

-- ---- the kind

abbrev pub fault_in_blocks : List OpenBlockCollection → ParseFault
fault_in_blocks [] = SecondNode
fault_in_blocks (InMapping false ∷ blocks) = KeyOrEndOfMappingExpected
fault_in_blocks (_ ∷ blocks) = EntryOrEndOfSequenceExpected

-- by the innermost open collection, after the closings that come next
abbrev pub fault_in : OpenCollections → List Symbol → ParseFault
fault_in o behind = if o.depth == 0 then fault_in_blocks (without_closed behind o.blocks) else CommaOrBracketExpected

-- by the symbols before the fault and after it; the first case that applies
abbrev pub fault_between : List Symbol → List Symbol → ParseFault
fault_between before behind =
    if is_behind_directive (reverse before) then DocumentStartExpected
    else if is_twice (reverse before) behind then PropertiesGivenTwice
    else fault_in (open_after (record { depth = 0; blocks = [] }) before) behind

-- how many of `left` lexemes are left after a symbol
abbrev pub left_behind : Symbol → ℕ → ℕ
left_behind (One kind i) left = left - 1
left_behind _ left = left

-- the number of symbols up to and including the last of the first lexemes, of this number
abbrev pub front_len : ℕ → List Symbol → ℕ
front_len left [] = 0
front_len left (w ∷ ws) = if left == 0 then 0 else front_len (left_behind w left) ws + 1

-- the kind of the fault at the lexeme with this index of the marked document
abbrev pub fault_of : List Symbol → ℕ → ParseFault
fault_of ws place = let n = front_len place ws in fault_between (take n ws) (drop n ws)
