-- Laws of JSON as it is written.
use Rattle.std.proofs.Common.{◌≡◌, ℕ, List, [], ◌∷◌, ◌++◌, refl, ap, sym, ◌∙◌, append-nil, append_assoc}
use Rattle.std.specs.Prelude.{codes, fold, Bool, true, false}
use Rattle.std.proofs.lemmas.List.Sums.{fold-append}
use Rattle.json.specs.Json.{Json, null, boolean, number, string, array, object, Items, no_items, item, Members, no_members, member}
use Rattle.json.specs.Print.{print_from, ends, escape_byte, quoted}
use Rattle.json.specs.Token.{end_object}
use Rattle.json.specs.Tree.{items_tokens, json_tokens, members_tokens}
use Rattle.json.proofs.Printed.Tokens.{print_from-append}
use Rattle.yl_rpc.specs.declared.answers.Code.{Code}
use Rattle.yl_rpc.specs.Calls.{IdValue, Number, Text, Null}
use Rattle.yl_rpc.specs.Answers.{answer, answer_text, code_text, failure, id_json, json_text}

pub number_written : (s : List ℕ) → json_text (number s) ≡ s
unfolding print_from
number_written s = append-nil s

pub string_written : (s : List ℕ) → json_text (string s) ≡ quoted s
unfolding print_from
string_written s = append-nil (quoted s)

pub null_written : json_text null ≡ codes "null"
unfolding print_from
null_written = refl

-- what stands before an error's code, between its parts, and after the id
pub failure_written : (id : IdValue) (code : Code) (message : List ℕ)
    → codes "{\"error\":{\"code\":" ++ ((code_text code ++ (codes ",\"message\":" ++ quoted message)) ++ (codes "},\"id\":" ++ (json_text (id_json id) ++ codes ",\"jsonrpc\":\"2.0\"}"))) ≡ json_text (failure id code message)
unfolding print_from escape_byte
failure_written (Number digits) code message = simp append_assoc
failure_written (Text text) code message = simp append_assoc
failure_written Null code message = simp append_assoc

-- ---- a value within a value

items_end : (c : Bool) (js : Items) → fold (λ _ t. ends t) c (items_tokens js) ≡ true
items_end c no_items = refl
items_end c (item j js) = fold-append (λ _ t. ends t) c (json_tokens j) (items_tokens js) ∙ items_end (fold (λ _ t. ends t) c (json_tokens j)) js

members_end : (c : Bool) (ms : Members) → fold (λ _ t. ends t) c (members_tokens ms) ≡ true
members_end c no_members = refl
members_end c (member k j ms) = fold-append (λ _ t. ends t) false (json_tokens j) (members_tokens ms) ∙ members_end (fold (λ _ t. ends t) false (json_tokens j)) ms

value_ends : (c : Bool) (j : Json) → fold (λ _ t. ends t) c (json_tokens j) ≡ true
value_ends c null = refl
value_ends c (boolean b) = refl
value_ends c (number s) = refl
value_ends c (string s) = refl
value_ends c (array js) = items_end false js
value_ends c (object ms) = members_end false ms

-- the last value of an object
last_written : (j : Json) → print_from false (json_tokens j ++ end_object ∷ []) ≡ json_text j ++ codes "}"
unfolding print_from
last_written j = print_from-append false (json_tokens j) (end_object ∷ []) ∙ ap (λ b. print_from false (json_tokens j) ++ print_from b (end_object ∷ [])) (value_ends false j) ∙ refl

-- what follows the id of an answer
after_id : Json → List ℕ
after_id j = codes ",\"jsonrpc\":\"2.0\",\"result\":" ++ (json_text j ++ codes "}")

pub answer_written : (id : IdValue) (j : Json) → answer_text id (json_text j) ≡ json_text (answer id j)
unfolding after_id print_from escape_byte
answer_written (Number digits) j =
    ap (λ l. codes "{\"id\":" ++ (l ++ after_id j)) (append-nil digits) ∙ ap (λ l. codes "{\"id\":" ++ (digits ++ (codes ",\"jsonrpc\":\"2.0\",\"result\":" ++ l))) (sym (last_written j))
answer_written (Text text) j =
    ap (λ l. codes "{\"id\":" ++ (l ++ after_id j)) (append-nil (quoted text))
    ∙ ap (λ l. codes "{\"id\":" ++ (quoted text ++ (codes ",\"jsonrpc\":\"2.0\",\"result\":" ++ l))) (sym (last_written j))
answer_written Null j = ap (λ l. codes "{\"id\":" ++ (codes "null" ++ (codes ",\"jsonrpc\":\"2.0\",\"result\":" ++ l))) (sym (last_written j))
