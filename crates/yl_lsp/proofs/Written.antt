-- Messages as they are put, and as they are printed.
use Rattle.std.proofs.Common.{◌≡◌, ℕ, ◌^◌, ◌<◌, ◌==◌, Bool, true, false, not, cond, List, [], ◌∷◌, ◌++◌, map, codes, decimal, Option, Some, None, refl, sym, ap, ◌∙◌, append-nil, append_assoc}
use Rattle.json.specs.Json.{number, string, Members, no_members, member}
use Rattle.json.specs.Print.{print, quoted, escape, escape_byte}
use Rattle.json.specs.Tree.{json_tokens}
use Rattle.yl_text.specs.declared.finding.RuleId.{RuleId}
use Rattle.yl_text.specs.Finding.{rule_name}
use Rattle.yl_units.specs.declared.encoding.Encoding.{Encoding}
use Rattle.yl_units.specs.declared.encoding.Encoding.TheVariants.{Utf8, Utf16, Utf32}
use Rattle.yl_lsp.specs.declared.range.Range.{Range}
use Rattle.yl_lsp.specs.declared.diagnostic.Code.{Code}
use Rattle.yl_lsp.specs.declared.diagnostic.Code.TheVariants.{Rule, Linked, Lost, More}
use Rattle.yl_lsp.specs.declared.diagnostic.Severity.{Severity}
use Rattle.yl_lsp.specs.declared.diagnostic.Severity.TheVariants.{Information}
use Rattle.yl_lsp.specs.Diagnostics.{DiagnosticValue, rule_link, with_code, range_json, severity_digit, diagnostic_json}
use Rattle.yl_lsp.specs.Messages.{PublicationValue, items_of, version_members, publication, error_message, placed_words, encoding_name, initialize_result, watch_request}
use Rattle.yl_lsp.specs.Reports.{text_start, more_diagnostics}
use Rattle.yl_lsp.specs.Texts.{head_text, tail_text, diagnostic_text, separator, next_text, diagnostics_text, address_text, publication_text}
use Rattle.yl_lsp.proofs.Plain.{name_plain, link_plain, hidden_plain, placed_plain}
use Rattle.yl_lsp.proofs.Printed.{json_then, items_then, members_then, printed}

-- ---- a diagnostic

-- the members after the message
abbrev tail_members : Range → Severity → Members
tail_members range severity = member (codes "range") (range_json range) (member (codes "severity") (number (severity_digit severity)) (member (codes "source") (string (codes "zutkrad")) no_members))

-- a rule's name and its link in their quotes, before what follows
linked_pieces : (name more : List ℕ)
    → codes "{\"code\":" ++ ((34 ∷ (name ++ 34 ∷ [])) ++ (codes ",\"codeDescription\":{\"href\":"
    ++ ((34 ∷ ((codes "https://yamllint.readthedocs.io/en/stable/rules.html#" ++ name) ++ 34 ∷ [])) ++ (codes "},\"message\":" ++ more))))
    ≡ (codes "{\"code\":\"" ++ (name ++ (codes "\",\"codeDescription\":{\"href\":\"https://yamllint.readthedocs.io/en/stable/rules.html#" ++ (name ++ codes "\"},\"message\":")))) ++ more
linked_pieces name more = simp append_assoc

-- the same as members
linked_members : (rule : RuleId) (message : List ℕ) (others : Members) (rest : List ℕ)
    → 123 ∷ members_then false (with_code (Linked rule) (member (codes "message") (string message) others)) rest
    ≡ codes "{\"code\":" ++ (quoted (rule_name rule) ++ (codes ",\"codeDescription\":{\"href\":" ++ (quoted (rule_link rule) ++ (codes "},\"message\":" ++ (quoted message ++ members_then true others rest)))))
unfolding escape_byte
linked_members rule message others rest = refl

head_printed : (code : Code) (message : List ℕ) (others : Members) (rest : List ℕ)
    → 123 ∷ members_then false (with_code code (member (codes "message") (string message) others)) rest ≡ head_text code ++ (quoted message ++ members_then true others rest)
unfolding escape_byte
head_printed (Rule rule) message others rest = simp (name_plain rule, append_assoc)
head_printed (Linked rule) message others rest =
    let more = quoted message ++ members_then true others rest in
    let in_quotes : List ℕ → List ℕ = λ l. 34 ∷ (l ++ 34 ∷ []) in
    let pieces : List ℕ → List ℕ → List ℕ =
    λ name link. codes "{\"code\":" ++ (in_quotes name ++ (codes ",\"codeDescription\":{\"href\":" ++ (in_quotes link ++ (codes "},\"message\":" ++ more)))) in
    linked_members rule message others rest
    ∙ ap (λ l. pieces l (escape (rule_link rule))) (name_plain rule) ∙ ap (pieces (rule_name rule)) (link_plain rule)
    ∙ linked_pieces (rule_name rule) more
head_printed Lost message others rest = refl
head_printed More message others rest = refl

tail_printed : (range : Range) (severity : Severity) (rest : List ℕ) → members_then true (tail_members range severity) rest ≡ tail_text range severity ++ rest
unfolding escape_byte
tail_printed range severity rest = simp append_assoc

diagnostic_printed : (d : DiagnosticValue) (rest : List ℕ) → json_then (diagnostic_json d) rest ≡ diagnostic_text d ++ rest
diagnostic_printed d rest =
    let head = head_text d.code in
    let message = quoted d.message in
    let tail = tail_text d.range d.severity in
    head_printed d.code d.message (tail_members d.range d.severity) rest
    ∙ ap (λ l. head ++ (message ++ l)) (tail_printed d.range d.severity rest)
    ∙ sym (append_assoc head (message ++ tail) rest ∙ ap (λ l. head ++ l) (append_assoc message tail rest))

-- ---- lists of diagnostics

list_printed : (is_first : Bool) (ds : List DiagnosticValue) (rest : List ℕ)
    → items_then (not is_first) (items_of (map diagnostic_json ds)) rest ≡ diagnostics_text is_first ds ++ (93 ∷ rest)
list_printed is_first [] rest = refl
list_printed true (d ∷ ds) rest =
    diagnostic_printed d _ ∙ ap (λ l. diagnostic_text d ++ l) (list_printed false ds rest) ∙ sym (append_assoc (diagnostic_text d) (diagnostics_text false ds) (93 ∷ rest))
list_printed false (d ∷ ds) rest =
    ap (λ l. 44 ∷ l) (diagnostic_printed d _ ∙ ap (λ l. diagnostic_text d ++ l) (list_printed false ds rest) ∙ sym (append_assoc (diagnostic_text d) (diagnostics_text false ds) (93 ∷ rest)))

-- whether what follows a list is the first
abbrev pub is_still_first : Bool → List DiagnosticValue → Bool
is_still_first is_first [] = is_first
is_still_first is_first (d ∷ ds) = false

later_stays : (ds : List DiagnosticValue) → is_still_first false ds ≡ false
later_stays [] = refl
later_stays (d ∷ ds) = refl

pub diagnostics-append : (is_first : Bool) (ds es : List DiagnosticValue)
    → diagnostics_text is_first (ds ++ es) ≡ diagnostics_text is_first ds ++ diagnostics_text (is_still_first is_first ds) es
diagnostics-append is_first [] es = refl
diagnostics-append is_first (d ∷ ds) es =
    ap (λ l. next_text is_first d ++ l) (diagnostics-append false ds es ∙ ap (λ b. diagnostics_text false ds ++ diagnostics_text b es) (later_stays ds))
    ∙ sym (append_assoc (next_text is_first d) (diagnostics_text false ds) (diagnostics_text false es))

pub one_diagnostic : (is_first : Bool) (d : DiagnosticValue) → next_text is_first d ≡ diagnostics_text is_first (d ∷ [])
one_diagnostic is_first d = sym (append-nil (next_text is_first d))

-- ---- how many problems are not shown

-- the pieces before the range
abbrev pub more_front : (front digits : List ℕ) → List ℕ
more_front front digits = front ++ (codes "{\"code\":\"more\",\"message\":\"" ++ (digits ++ (codes " more problems\"" ++ [])))

more_message : (n : ℕ) → n < 2 ^ 64 → quoted (decimal n ++ codes " more problems") ≡ 34 ∷ ((decimal n ++ codes " more problems") ++ 34 ∷ [])
more_message n small = ap (λ l. 34 ∷ (l ++ 34 ∷ [])) (hidden_plain n small)

more_pieces : (front digits tail : List ℕ)
    → more_front front digits ++ tail
    ≡ front ++ (head_text More ++ ((34 ∷ ((digits ++ codes " more problems") ++ 34 ∷ [])) ++ tail))
more_pieces front digits tail = simp append_assoc

pub more_written : (is_first : Bool) (hidden : ℕ) → hidden < 2 ^ 64 → (hidden == 0) ≡ false
    → more_front (separator is_first) (decimal hidden) ++ tail_text text_start Information ≡ diagnostics_text is_first (more_diagnostics hidden)
more_written is_first hidden small some =
    let tail = tail_text text_start Information in
    let d : DiagnosticValue = record { range = text_start; severity = Information; code = More; message = decimal hidden ++ codes " more problems" } in
    more_pieces (separator is_first) (decimal hidden) tail
    ∙ ap (λ l. separator is_first ++ (head_text More ++ (l ++ tail))) (sym (more_message hidden small))
    ∙ one_diagnostic is_first d
    ∙ ap (λ b. diagnostics_text is_first (cond b [] (d ∷ []))) (sym some)

-- ---- messages

address_printed : (uri : List ℕ) (version : Option (List ℕ))
    → 93 ∷ members_then true (member (codes "uri") (string uri) (version_members version)) (125 ∷ []) ≡ address_text uri version
unfolding escape_byte
address_printed uri None = refl
address_printed uri (Some digits) = refl

abbrev publication_front : List ℕ
publication_front = codes "{\"jsonrpc\":\"2.0\",\"method\":\"textDocument/publishDiagnostics\",\"params\":{\"diagnostics\":["

front_printed : (p : PublicationValue) → json_then (publication p) []
    ≡ publication_front ++ items_then false (items_of (map diagnostic_json p.diagnostics)) (members_then true (member (codes "uri") (string p.uri) (version_members p.version)) (125 ∷ []))
unfolding escape_byte
front_printed p = refl

pub publication_written : (p : PublicationValue) → publication_text p.uri p.version p.diagnostics ≡ print (json_tokens (publication p))
publication_written p =
    let ds = diagnostics_text true p.diagnostics in
    sym (printed (publication p) ∙ front_printed p ∙ ap (λ l. publication_front ++ l) (list_printed true p.diagnostics _ ∙ ap (λ l. ds ++ l) (address_printed p.uri p.version)))

-- a message of type `Error` before its text, and after it
abbrev pub error_start : List ℕ
error_start = codes "{\"jsonrpc\":\"2.0\",\"method\":\"window/showMessage\",\"params\":{\"message\":"

abbrev pub error_end : List ℕ
error_end = codes ",\"type\":1}}"

error_then : (text : List ℕ) → json_then (error_message text) [] ≡ error_start ++ (quoted text ++ error_end)
unfolding escape_byte
error_then text = refl

pub error_written : (text : List ℕ) → error_start ++ (quoted text ++ error_end) ≡ print (json_tokens (error_message text))
error_written text = sym (printed (error_message text) ∙ error_then text)

-- the pieces of one about a place of a text
abbrev pub placed_pieces : (text line column : List ℕ) → List ℕ
placed_pieces text line column =
    error_start ++ (codes "\"" ++ (text ++ (codes " at " ++ (line ++ (codes ":" ++ (column ++ (codes "\"" ++ (error_end ++ []))))))))

placed_joined : (text line column : List ℕ)
    → placed_pieces text line column ≡ error_start ++ ((34 ∷ ((text ++ (codes " at " ++ (line ++ (codes ":" ++ column)))) ++ 34 ∷ [])) ++ error_end)
placed_joined text line column = simp append_assoc

pub placed_written : (text : List ℕ) (line column : ℕ) (xs ys zs : List ℕ) → escape text ≡ text → line < 2 ^ 64 → column < 2 ^ 64 → xs ≡ text → ys ≡ decimal line → zs ≡ decimal column
    → placed_pieces xs ys zs ≡ print (json_tokens (error_message (placed_words text line column)))
placed_written text line column xs ys zs plain h k p q r =
    (λ i. placed_pieces (p i) (q i) (r i)) ∙ placed_joined text (decimal line) (decimal column)
    ∙ ap (λ l. error_start ++ ((34 ∷ (l ++ 34 ∷ [])) ++ error_end)) (sym (placed_plain text line column plain h k))
    ∙ error_written (placed_words text line column)

-- the pieces before the version
abbrev pub result_front : (name : List ℕ) → List ℕ
result_front name =
    codes "{\"capabilities\":{\"positionEncoding\":\"" ++ (name
    ++ (codes "\",\"textDocumentSync\":{\"change\":2,\"openClose\":true,\"save\":true},\"workspace\":{\"workspaceFolders\":{\"changeNotifications\":true,\"supported\":true}}},\"serverInfo\":{\"name\":\"zutkrad\",\"version\":" ++ []))

result_then : (e : Encoding) (version : List ℕ) → json_then (initialize_result e version) [] ≡ result_front (encoding_name e) ++ (quoted version ++ codes "}}")
unfolding escape_byte
result_then Utf8 version = refl
result_then Utf16 version = refl
result_then Utf32 version = refl

pub result_written : (e : Encoding) (version : List ℕ) → result_front (encoding_name e) ++ (quoted version ++ codes "}}") ≡ print (json_tokens (initialize_result e version))
result_written e version = sym (printed (initialize_result e version) ∙ result_then e version)

-- the request to tell of changes of files
abbrev pub watch_text : List ℕ
watch_text =
    codes "{\"id\":\"configurations\",\"jsonrpc\":\"2.0\",\"method\":\"client/registerCapability\",\"params\":{\"registrations\":[{\"id\":\"configurations\",\"method\":\"workspace/didChangeWatchedFiles\",\"registerOptions\":{\"watchers\":[{\"globPattern\":\"**/.yamllint\"},{\"globPattern\":\"**/.yamllint.yaml\"},{\"globPattern\":\"**/.yamllint.yml\"}]}}]}}"

watch_then : json_then watch_request [] ≡ watch_text
unfolding escape_byte
watch_then = refl

pub watch_written : watch_text ≡ print (json_tokens watch_request)
watch_written = sym (printed watch_request ∙ watch_then)
