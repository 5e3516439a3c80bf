-- Meaning: what the params of a message say (LSP 3.17, 'Text Document Synchronization'). There is none where they have another shape.
use Rattle.std.specs.Prelude.{ℕ, Bool, false, ◌&&◌, ◌==◌, ◌^◌, not, nat_lt, if◌then◌else◌, List, [], ◌∷◌, length, map, codes, bytes_eq, Option, Some, None, is_some, option_and_then, unwrap_or}
use Rattle.std.specs.Option.{option_map, option_map_or}
use Rattle.std.specs.List.{list_all}
use Rattle.std.specs.Char.{is_ascii_digit}
use Rattle.std.specs.Str.Parse.{digits_value}
use Rattle.json.specs.Json.{Json, Items, no_items, item}
use Rattle.json.specs.Find.{get, as_str, as_number, as_bool, as_array, as_object}
use Rattle.yl_units.specs.declared.encoding.Encoding.{Encoding}
use Rattle.yl_units.specs.declared.encoding.Encoding.TheVariants.{Utf8, Utf16, Utf32}
use Rattle.yl_units.specs.declared.place.EditorPlace.{EditorPlace}
use Rattle.yl_lsp.specs.declared.range.Range.{Range}

-- ---- members of an object

-- the member of a member, and so on
abbrev pub path : List (List ℕ) → Json → Option Json
path [] j = Some j
path (name ∷ names) j = option_and_then (path names) (get name j)

abbrev pub text_at : List ℕ → Json → Option (List ℕ)
text_at name j = option_and_then as_str (get name j)

-- a number's own digits
abbrev pub digits_at : List ℕ → Json → Option (List ℕ)
digits_at name j = option_and_then as_number (get name j)

-- a whole number from 0 on that fits 64 bits
abbrev pub whole_number : List ℕ → Option ℕ
whole_number digits =
    if list_all is_ascii_digit digits && not (length digits == 0) && nat_lt (digits_value 10 digits) (2 ^ 64) then Some (digits_value 10 digits) else None

abbrev pub number_at : List ℕ → Json → Option ℕ
number_at name j = option_and_then whole_number (digits_at name j)

-- ---- places and ranges

abbrev pub place_of_numbers : Option ℕ → Option ℕ → Option EditorPlace
place_of_numbers (Some line) (Some units) = Some (record { line = line; units = units })
place_of_numbers _ _ = None

abbrev pub place_in : Json → Option EditorPlace
place_in j = place_of_numbers (number_at (codes "line") j) (number_at (codes "character") j)

abbrev pub range_of_places : Option EditorPlace → Option EditorPlace → Option Range
range_of_places (Some start) (Some end) = Some (record { start = start; end = end })
range_of_places _ _ = None

abbrev pub range_in : Json → Option Range
range_in j = range_of_places (option_and_then place_in (get (codes "start") j)) (option_and_then place_in (get (codes "end") j))

-- ---- changes

pub data ChangeValue : Type 0 where
  Whole : (text : List ℕ) → ChangeValue
  Within : (range : Range) → (text : List ℕ) → ChangeValue
  Unread : ChangeValue  -- of another shape

-- a change to this text of a range, where one is said
abbrev pub change_within : List ℕ → Option Json → ChangeValue
change_within text None = Whole text
change_within text (Some j) = option_map_or (λ range. Within range text) (range_in j) Unread

abbrev pub change_in : Json → ChangeValue
change_in j = option_map_or (λ text. change_within text (get (codes "range") j)) (text_at (codes "text") j) Unread

abbrev pub list_of : Items → List Json
list_of no_items = []
list_of (item j js) = j ∷ list_of js

-- ---- messages

pub record OpenedValue : Type 0 where
  pub uri : List ℕ
  pub version : List ℕ  -- the number as it came
  pub text : List ℕ

abbrev pub opened_of : Option (List ℕ) → Option (List ℕ) → Option (List ℕ) → Option OpenedValue
opened_of (Some uri) (Some version) (Some text) = Some (record { uri = uri; version = version; text = text })
opened_of _ _ _ = None

abbrev pub opened_document : Json → Option OpenedValue
opened_document j = opened_of (text_at (codes "uri") j) (digits_at (codes "version") j) (text_at (codes "text") j)

-- the document that `textDocument/didOpen` opens
abbrev pub opened_in : Json → Option OpenedValue
opened_in j = option_and_then opened_document (get (codes "textDocument") j)

-- the document that a message is about
abbrev pub document_in : Json → Option (List ℕ)
document_in j = option_and_then (text_at (codes "uri")) (get (codes "textDocument") j)

-- its version, as it came
abbrev pub version_in : Json → Option (List ℕ)
version_in j = option_and_then (digits_at (codes "version")) (get (codes "textDocument") j)

-- the changes of `textDocument/didChange`, in their order: one of another shape, where they are no list
abbrev pub changes_in : Json → List ChangeValue
changes_in j = option_map_or (λ js. map change_in (list_of js)) (option_and_then as_array (get (codes "contentChanges") j)) (Unread ∷ [])

-- ---- encodings of columns

-- by the name of a `PositionEncodingKind`
abbrev pub encoding_named : List ℕ → Option Encoding
encoding_named name =
    if bytes_eq name (codes "utf-8") then Some Utf8
    else (if bytes_eq name (codes "utf-16") then Some Utf16 else (if bytes_eq name (codes "utf-32") then Some Utf32 else None))

-- the first that is known, else UTF-16
abbrev pub first_encoding : Items → Encoding
first_encoding no_items = Utf16
first_encoding (item j js) = unwrap_or (option_and_then encoding_named (as_str j)) (first_encoding js)

-- of those that an editor takes, by the params of `initialize`
abbrev pub encoding_in : Json → Encoding
encoding_in j =
    let taken = path (codes "capabilities" ∷ codes "general" ∷ codes "positionEncodings" ∷ []) j in
    option_map_or first_encoding (option_and_then as_array taken) Utf16

-- whether the editor takes a link for the code of a diagnostic, by the params of `initialize`
abbrev pub takes_links : Json → Bool
takes_links j =
    let taken = path (codes "capabilities" ∷ codes "textDocument" ∷ codes "publishDiagnostics" ∷ codes "codeDescriptionSupport" ∷ []) j in
    unwrap_or (option_and_then as_bool taken) false

-- whether the editor takes the names of files to tell of when they change, by the params of `initialize`
abbrev pub takes_watchers : Json → Bool
takes_watchers j =
    let taken = path (codes "capabilities" ∷ codes "workspace" ∷ codes "didChangeWatchedFiles" ∷ codes "dynamicRegistration" ∷ []) j in
    unwrap_or (option_and_then as_bool taken) false

-- ---- settings

pub record SettingsValue : Type 0 where
  pub config : Option (List ℕ)  -- a configuration's text
  pub config_file : Option (List ℕ)  -- a path
  pub most : Option ℕ  -- how many problems of a text are shown at the most

-- a setting that is not there says nothing, and one of another type is a fault
abbrev pub setting : {A : Type 0} → (Json → Option A) → Option Json → Option (Option A)
setting read None = Some None
setting read (Some j) = option_map Some (read j)

abbrev pub settings_of : Option (Option (List ℕ)) → Option (Option (List ℕ)) → Option (Option ℕ) → Option SettingsValue
settings_of (Some config) (Some file) (Some most) = Some (record { config = config; config_file = file; most = most })
settings_of _ _ _ = None

-- the settings of an object; there are none where one is of another type
abbrev pub settings_in : Json → Option SettingsValue
settings_in j =
    if is_some (as_object j)
    then settings_of (setting as_str (get (codes "config") j)) (setting as_str (get (codes "configFile") j))
    (setting (λ n. option_and_then whole_number (as_number n)) (get (codes "maxProblems") j))
    else None

-- where the params of `initialize` and of `workspace/didChangeConfiguration` have this program's settings
abbrev pub first_settings : Json → Option Json
first_settings = path (codes "initializationOptions" ∷ codes "zutkrad" ∷ [])

abbrev pub changed_settings : Json → Option Json
changed_settings = path (codes "settings" ∷ codes "zutkrad" ∷ [])
