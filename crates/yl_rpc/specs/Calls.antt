-- Meaning: what a JSON value is as a message of JSON-RPC 2.0, as LSP uses it (3.17, 'Base Protocol', 'Abstract Message').
use Rattle.std.specs.Prelude.{ℕ, ◌||◌, if◌then◌else◌, Bool, true, false, List, bytes_eq, codes, is_some, Option, Some, None}
use Rattle.std.specs.Option.{option_map_or}
use Rattle.json.specs.Json.{Json, number, string}
use Rattle.json.specs.Find.{as_str, get}

-- what tells a request from others: a number, by its digits, or a text. None where an answer has no request
pub data IdValue : Type 0 where
  Number : (digits : List ℕ) → IdValue
  Text : (text : List ℕ) → IdValue
  Null : IdValue

pub data CallValue : Type 0 where
  Request : (id : IdValue) (method : List ℕ) (params : Option Json) → CallValue
  Notification : (method : List ℕ) (params : Option Json) → CallValue
  Response : CallValue
  Invalid : (id : IdValue) → CallValue

abbrev pub id_of : Json → IdValue
id_of (number digits) = Number digits
id_of (string text) = Text text
id_of _ = Null

-- the id of a message that is no request
abbrev pub id_in : Json → IdValue
id_in j = option_map_or id_of (get (codes "id") j) Null

abbrev pub is_id : IdValue → Bool
is_id (Number digits) = true
is_id (Text text) = true
is_id Null = false

abbrev pub is_version : Json → Bool
is_version j = option_map_or (λ v. option_map_or (λ text. bytes_eq text (codes "2.0")) (as_str v) false) (get (codes "jsonrpc") j) false

-- a message with this method
abbrev pub call_with : Json → List ℕ → CallValue
call_with j method = option_map_or (λ id. if is_id (id_of id) then Request (id_of id) method (get (codes "params") j) else Invalid Null) (get (codes "id") j)
    (Notification method (get (codes "params") j))

-- a message without a method is an answer, where it has a result or an error
abbrev pub answer_of : Json → CallValue
answer_of j = if is_some (get (codes "result") j) || is_some (get (codes "error") j) then Response else Invalid (id_in j)

abbrev pub call_by_method : Json → Option Json → CallValue
call_by_method j None = answer_of j
call_by_method j (Some m) = option_map_or (call_with j) (as_str m) (Invalid (id_in j))

-- a list of messages has no version, and so it is none of them
abbrev pub call_of : Json → CallValue
call_of j = if is_version j then call_by_method j (get (codes "method") j) else Invalid (id_in j)
