-- Bridge: lexemes by their first character: the indicators of block collections (YAML 1.2.2, 8.2)
-- and of flow collections (7.4), and properties and aliases (6.9 and 7.1).
use Rattle.std.specs.Prelude.{ℕ, Bool, not, ◌&&◌, true, false, ◌==◌, if◌then◌else◌, List, [], ◌+◌, take, Option, Some, None}
use Rattle.std.specs.Bool.{then_some}
use Rattle.std.specs.Option.{option_or, option_map_or}
use Prim.Native.Char.{code}
use Rattle.yl_text.specs.Character.{is_blank}
use Rattle.yl_lexeme.specs.declared.lexeme.Kind.{Kind}
use Rattle.yl_lexeme.specs.declared.lexeme.Kind.TheVariants.{Entry, Key, Value, Comma, SeqOpen, SeqClose, MapOpen, MapClose, Alias, Anchor}
use Rattle.yl_lexeme.specs.Past.{Context, in_flow, may_begin, near}
use Rattle.yl_row.specs.declared.fault.ScanFault.{ScanFault}
use Rattle.yl_row.specs.declared.fault.ScanFault.TheVariants.{NotAllowed, EntryNotAllowed, KeyNotAllowed, ValueNotAllowed, BracketWithoutPartner}
use Rattle.yl_row.specs.declared.fault.PlacedScanFault.{PlacedScanFault}
use Rattle.yl_row.specs.Fault.{fault_at}
use Rattle.yl_row.specs.Step.{FoundLexemeValue, found_in_row, is_value_at, closes, tab_before, name_found, tag_found, tag_len}

-- the kind of lexeme that a character before this text is
abbrev pub sign_at : Context → ℕ → List ℕ → Option Kind
sign_at a c cs =
    if c == code "-" && is_blank (take 1 cs) then Some Entry
    else if c == code "?" && is_blank (take 1 cs) then Some Key
    else if c == code ":" && is_value_at (in_flow a) a.last cs then Some Value
    else if c == code "[" then Some SeqOpen
    else if c == code "{" then Some MapOpen
    else if c == code "]" then Some SeqClose
    else if c == code "}" then Some MapClose
    else if c == code "," then Some Comma
    else None

-- a tab before the lexeme, or else the given fault if no key may begin there
abbrev pub refused : Option ℕ → Bool → ℕ → Context → ScanFault → Option PlacedScanFault
refused tab first at a fault = option_or (tab_before tab at) (then_some (not (may_begin first a)) (fault_at fault at))

-- the fault in a lexeme of this kind at a column
abbrev pub sign_fault : Option ℕ → Bool → ℕ → Context → Kind → Option PlacedScanFault
sign_fault tab first at a Entry = if in_flow a then Some (fault_at EntryNotAllowed at) else refused tab first at a EntryNotAllowed
sign_fault tab first at a Key = if in_flow a then None else refused tab first at a KeyNotAllowed
sign_fault tab first at a Value = if in_flow a then None else option_map_or (tab_before tab) (near at a.start) (refused tab first at a ValueNotAllowed)
sign_fault tab first at a SeqClose = then_some (not (closes true a.brackets)) (fault_at BracketWithoutPartner at)
sign_fault tab first at a MapClose = then_some (not (closes false a.brackets)) (fault_at BracketWithoutPartner at)
sign_fault tab first at a Comma = then_some (not (in_flow a)) (fault_at NotAllowed at)
sign_fault tab first at a _ = None

-- the lexeme of this kind at a column
abbrev pub sign_found : Option ℕ → Bool → ℕ → Context → Kind → FoundLexemeValue
sign_found tab first at a kind = found_in_row kind (at + 1) [] (sign_fault tab first at a kind)

-- an alias, an anchor or a tag, by its indicator and the text after it
abbrev pub named_at : ℕ → ℕ → List ℕ → FoundLexemeValue
named_at at c cs = if c == code "&" then name_found Anchor at cs else if c == code "*" then name_found Alias at cs else tag_found at cs (tag_len cs)
