-- Meaning: one lexeme, from its first character on, by the rest of its line and the lines below:
-- YAML 1.2.2, chapters 6 to 9.
use Rattle.std.specs.Prelude.{ℕ, Bool, true, false, not, ◌&&◌, ◌||◌, ◌==◌, nat_lt, if◌then◌else◌, List, [], ◌∷◌, ◌+◌, take, drop, length, slice_index, Option, Some, None, option_map, codes, option_and_then, unwrap_or}
use Rattle.std.specs.List.{prefix_len, position, list_any}
use Rattle.std.specs.Bool.{then_some}
use Rattle.std.specs.Option.{option_or, option_map_or}
use Rattle.std.specs.Str.{encode_utf8_all}
use Rattle.yl_text.specs.Character.{is_white, is_non_space, is_flow_indicator, is_plain_safe, starts_by, is_marker_of, without_end}
use Prim.Native.Char.{code}
use Rattle.yl_text.specs.Character.{is_blank}
use Rattle.yl_scalar.specs.Allowed.{first_bad}
use Rattle.yl_scalar.specs.Header.{misfit_behind}
use Rattle.yl_scalar.specs.Reading.{ScalarOutcomeValue, Whole, Refused}
use Rattle.yl_scalar.specs.PlainLines.{plain_scalar}
use Rattle.yl_scalar.specs.QuotedSteps.{quoted}
use Rattle.yl_scalar.specs.BlockLines.{block_scalar}
use Rattle.yl_lexeme.specs.declared.lexeme.Style.{Style}
use Rattle.yl_lexeme.specs.declared.lexeme.Style.TheVariants.{Plain, Single, Double, Literal, Folded}
use Rattle.yl_lexeme.specs.declared.lexeme.Kind.{Kind}
use Rattle.yl_lexeme.specs.declared.lexeme.Kind.TheVariants.{Directive, DocStart, DocEnd, Entry, Key, Value, Comma, SeqOpen, SeqClose, MapOpen, MapClose, Alias, Anchor, Tag, Scalar}
use Rattle.yl_row.specs.declared.fault.ScanFault.{ScanFault}
use Rattle.yl_row.specs.declared.fault.ScanFault.TheVariants.{NotAllowed, TabInIndentation, EntryNotAllowed, KeyNotAllowed, ValueNotAllowed, BracketWithoutPartner, EmptyName, BadTag, ContentAfterDocumentEnd}
use Rattle.yl_row.specs.declared.fault.PlacedScanFault.{PlacedScanFault}
use Rattle.yl_row.specs.Fault.{fault_at, of_scalar}
pub use Rattle.yl_lexeme.specs.Directives.{is_directive_place}
use Rattle.yl_lexeme.specs.Past.{Context, in_flow, may_begin, level, near}

-- a lexeme at a position. down: the number of lines from its first to its last one. column: the one
-- after its last character. value: in UTF-8. fault: the first one in it
pub record FoundLexemeValue : Type 0 where
  pub kind : Kind
  pub down : ℕ
  pub column : ℕ
  pub value : List ℕ
  pub fault : Option PlacedScanFault

-- ---- words

-- the number of characters at the front that are of the name of an anchor or an alias, or of a tag
-- (ns-anchor-char, ns-tag-char and more)
abbrev pub name_len : List ℕ → ℕ
name_len = prefix_len (λ c. is_non_space c && not (is_flow_indicator c))

-- the text of a directive ends before a comment after white space, or at the end of the line
-- (l-directive)
abbrev pub directive_len : Bool → List ℕ → ℕ
directive_len behind_space [] = 0
directive_len behind_space (c ∷ cs) = if c == code "#" && behind_space then 0 else 1 + directive_len (is_white c) cs

-- the length of a tag after its `!`, or none if the tag is bad (c-ns-tag-property): no name
-- directly follows the `>` of a verbatim tag
abbrev pub tag_len : List ℕ → Option ℕ
tag_len cs =
    if slice_index cs 0 == code "<"
    then option_and_then (λ end. then_some (name_len (drop (end + 1) cs) == 0) (end + 1)) (position (λ c. c == code ">") cs)
    else Some (name_len cs)

-- ---- places

-- whether a plain scalar may begin with this character before this text (ns-plain-first)
abbrev pub is_plain_start : Bool → ℕ → List ℕ → Bool
is_plain_start flow c cs =
    if c == code "-" || c == code "?" || c == code ":" then starts_by (is_plain_safe flow) cs
    else not (list_any (λ other. c == other) (codes ",[]{}#&*!|>'\"%@`\u{feff}"))

abbrev pub is_quoted_or_closing : Option Kind → Bool
is_quoted_or_closing (Some (Scalar Single)) = true
is_quoted_or_closing (Some (Scalar Double)) = true
is_quoted_or_closing (Some SeqClose) = true
is_quoted_or_closing (Some MapClose) = true
is_quoted_or_closing _ = false

-- whether a colon is a Value, by the text after it (7.4.2: directly after a key like those of JSON
-- it needs no space)
abbrev pub is_value_at : Bool → Option Kind → List ℕ → Bool
is_value_at flow last rest = is_blank (take 1 rest) || (flow && (is_flow_indicator (slice_index rest 0) || is_quoted_or_closing last))

-- whether the innermost bracket is of this kind
abbrev pub closes : Bool → List Kind → Bool
closes sequence [] = false
closes sequence (SeqOpen ∷ ks) = sequence
closes sequence (k ∷ ks) = not sequence

-- ---- faults

-- the fault of the first character that is not allowed in the text that begins at a column
abbrev pub bad_in : ℕ → List ℕ → Option PlacedScanFault
bad_in column cs = option_map (λ i. fault_at NotAllowed (column + i)) (first_bad cs)

-- the fault of the first tab of the row, if the tab is before a column
abbrev pub tab_before : Option ℕ → ℕ → Option PlacedScanFault
tab_before tab column = option_and_then (λ tab. then_some (nat_lt tab column) (fault_at TabInIndentation tab)) tab

-- the first tab of the row, if the row does not begin inside a lexeme
abbrev pub first_tab : Bool → List ℕ → Option ℕ
first_tab inside row = if inside then None else position (λ c. c == code "\t") row

-- ---- the lexeme at a position: the rows below, the first tab of the row, whether the position is
-- the first of the row that is not white space, its column, its context, its character, and the
-- rest of the row after that

abbrev pub found_in_row : Kind → ℕ → List ℕ → Option PlacedScanFault → FoundLexemeValue
found_in_row kind column value fault = record { kind = kind; down = 0; column = column; value = value; fault = fault }

abbrev pub scalar_found : Style → ℕ → ScalarOutcomeValue → FoundLexemeValue
scalar_found style at (Whole e) = record { kind = Scalar style; down = e.down; column = e.column; value = encode_utf8_all e.value; fault = None }
scalar_found style at (Refused fault down column) =
    record { kind = Scalar style; down = 0; column = at; value = []; fault = Some (record { fault = of_scalar fault; down = down; column = column }) }

abbrev pub name_found : Kind → ℕ → List ℕ → FoundLexemeValue
name_found kind at cs =
    let name = take (name_len cs) cs in
    let empty = then_some (name_len cs == 0) (fault_at EmptyName at) in
    found_in_row kind (at + 1 + name_len cs) (encode_utf8_all name) (option_or empty (bad_in (at + 1) name))

abbrev pub tag_found : ℕ → List ℕ → Option ℕ → FoundLexemeValue
tag_found at cs None = found_in_row Tag (at + 1) [] (Some (fault_at BadTag at))
tag_found at cs (Some len) = found_in_row Tag (at + 1 + len) [] (bad_in (at + 1) (take len cs))

-- an anchor, an alias, a tag or a scalar
abbrev pub word_at : List (List ℕ) → ℕ → Context → ℕ → List ℕ → FoundLexemeValue
word_at rows at a c cs =
    if c == code "&" then name_found Anchor at cs
    else if c == code "*" then name_found Alias at cs
    else if c == code "!" then tag_found at cs (tag_len cs)
    else if c == code "'" then scalar_found Single at (quoted false at cs rows)
    else if c == code "\"" then scalar_found Double at (quoted true at cs rows)
    else if c == code "|" && not (in_flow a) then scalar_found Literal at (block_scalar (level a.levels) at cs rows)
    else if c == code ">" && not (in_flow a) then scalar_found Folded at (block_scalar (level a.levels) at cs rows)
    else if is_plain_start (in_flow a) c cs then scalar_found Plain at (plain_scalar (in_flow a) (level a.levels) at (c ∷ cs) rows)
    else found_in_row (Scalar Plain) at [] (Some (fault_at NotAllowed at))

-- refused: a tab before the lexeme, or else the given fault if no key may begin there
abbrev pub block_at : List (List ℕ) → Option ℕ → Bool → ℕ → Context → ℕ → List ℕ → FoundLexemeValue
block_at rows tab first at a c cs =
    let sign = λ (kind : Kind) (fault : Option PlacedScanFault). found_in_row kind (at + 1) [] fault in
    let refused = λ (f : ScanFault). option_or (tab_before tab at) (then_some (not (may_begin first a)) (fault_at f at)) in
    if c == code "-" && is_blank (take 1 cs)
    then sign Entry (if in_flow a then Some (fault_at EntryNotAllowed at) else refused EntryNotAllowed)
    else if c == code "?" && is_blank (take 1 cs) then sign Key (if in_flow a then None else refused KeyNotAllowed)
    else if c == code ":" && is_value_at (in_flow a) a.last cs
    then sign Value (if in_flow a then None else option_map_or (tab_before tab) (near at a.start) (refused ValueNotAllowed))
    else if c == code "[" then sign SeqOpen None
    else if c == code "{" then sign MapOpen None
    else if c == code "]" then sign SeqClose (then_some (not (closes true a.brackets)) (fault_at BracketWithoutPartner at))
    else if c == code "}" then sign MapClose (then_some (not (closes false a.brackets)) (fault_at BracketWithoutPartner at))
    else if c == code "," then sign Comma (then_some (not (in_flow a)) (fault_at NotAllowed at))
    else word_at rows at a c cs

-- document markers (9.1.2) and directives (6.8) are only at the start of a row; after the end
-- marker of a document, only a comment may follow in its row
abbrev pub document_at : ℕ → List ℕ → Context → Option FoundLexemeValue
document_at c cs a =
    let directive = without_end (take (directive_len false (c ∷ cs)) (c ∷ cs)) in
    let behind = option_map (λ i. fault_at ContentAfterDocumentEnd (3 + i)) (misfit_behind (drop 2 cs)) in
    if is_marker_of (code "-") (c ∷ cs) then Some (found_in_row DocStart 3 [] None)
    else if is_marker_of (code ".") (c ∷ cs) then Some (found_in_row DocEnd 3 [] behind)
    else if c == code "%" && is_directive_place a.last
    then Some (found_in_row Directive (length directive) (encode_utf8_all directive) (bad_in 0 directive))
    else None

unfoldable pub found_at : List (List ℕ) → Option ℕ → Bool → ℕ → Context → ℕ → List ℕ → FoundLexemeValue
found_at rows tab first at a c cs = unwrap_or (if at == 0 then document_at c cs a else None) (block_at rows tab first at a c cs)

-- a tab before a position that is the first of its row, outside of brackets: a fault that comes
-- before those in the lexeme
abbrev pub place_fault : Option ℕ → Bool → ℕ → Context → Option PlacedScanFault
place_fault tab first at a = if first && not (in_flow a) then tab_before tab at else None
