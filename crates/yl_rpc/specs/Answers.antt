-- Meaning: answers to requests (LSP 3.17, 'Base Protocol', 'Response Message'), as JSON with no space in it.
use Rattle.std.specs.Prelude.{ℕ, ◌++◌, List, codes}
use Rattle.json.specs.Json.{Json, null, number, string, object, no_members, member}
use Rattle.json.specs.Print.{print}
use Rattle.json.specs.Tree.{json_tokens}
use Rattle.yl_rpc.specs.Calls.{IdValue, Number, Text, Null}
use Rattle.yl_rpc.specs.declared.answers.Code.{Code}
use Rattle.yl_rpc.specs.declared.answers.Code.TheVariants.{ParseError, InvalidRequest, MethodNotFound, InvalidParams, InternalError, ServerNotInitialized}

abbrev pub json_text : Json → List ℕ
json_text j = print (json_tokens j)

abbrev pub id_json : IdValue → Json
id_json (Number digits) = number digits
id_json (Text text) = string text
id_json Null = null

-- LSP's `ErrorCodes`
abbrev pub code_text : Code → List ℕ
code_text ParseError = codes "-32700"
code_text InvalidRequest = codes "-32600"
code_text MethodNotFound = codes "-32601"
code_text InvalidParams = codes "-32602"
code_text InternalError = codes "-32603"
code_text ServerNotInitialized = codes "-32002"

-- the answer to a request that was met
abbrev pub answer : IdValue → Json → Json
answer id result = object (member (codes "id") (id_json id) (member (codes "jsonrpc") (string (codes "2.0")) (member (codes "result") result no_members)))

-- the same, with the result as it is written
abbrev pub answer_text : IdValue → (result : List ℕ) → List ℕ
answer_text id result = codes "{\"id\":" ++ (json_text (id_json id) ++ (codes ",\"jsonrpc\":\"2.0\",\"result\":" ++ (result ++ codes "}")))

-- the answer to one that was not
abbrev pub failure : IdValue → Code → (message : List ℕ) → Json
failure id code message =
    object (member (codes "error") (object (member (codes "code") (number (code_text code)) (member (codes "message") (string message) no_members)))
    (member (codes "id") (id_json id) (member (codes "jsonrpc") (string (codes "2.0")) no_members)))
