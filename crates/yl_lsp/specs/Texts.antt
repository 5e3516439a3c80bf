-- Bridge: the bytes of diagnostics, in the pieces in which they are put.
use Rattle.std.specs.Prelude.{ℕ, ◌++◌, Bool, true, false, if◌then◌else◌, List, [], ◌∷◌, codes, decimal, Option, Some, None}
use Rattle.json.specs.Print.{quoted}
use Rattle.yl_text.specs.Finding.{rule_name}
use Rattle.yl_lsp.specs.declared.range.Range.{Range}
use Rattle.yl_lsp.specs.declared.diagnostic.Code.{Code}
use Rattle.yl_lsp.specs.declared.diagnostic.Code.TheVariants.{Rule, Linked, Lost, More}
use Rattle.yl_lsp.specs.declared.diagnostic.Severity.{Severity}
use Rattle.yl_lsp.specs.Diagnostics.{DiagnosticValue, severity_digit}

-- what stands before the message
abbrev pub head_text : Code → List ℕ
head_text (Rule rule) = codes "{\"code\":\"" ++ (rule_name rule ++ codes "\",\"message\":")
head_text (Linked rule) =
    codes "{\"code\":\"" ++ (rule_name rule ++ (codes "\",\"codeDescription\":{\"href\":\"https://yamllint.readthedocs.io/en/stable/rules.html#"
    ++ (rule_name rule ++ codes "\"},\"message\":")))
head_text Lost = codes "{\"code\":\"lost\",\"message\":"
head_text More = codes "{\"code\":\"more\",\"message\":"

-- and what stands after it, by the digits of its numbers
abbrev pub tail_of : (end_units end_line start_units start_line severity : List ℕ) → List ℕ
tail_of end_units end_line start_units start_line severity =
    codes ",\"range\":{\"end\":{\"character\":" ++ (end_units ++ (codes ",\"line\":" ++ (end_line
    ++ (codes "},\"start\":{\"character\":" ++ (start_units ++ (codes ",\"line\":" ++ (start_line
    ++ (codes "}},\"severity\":" ++ (severity ++ codes ",\"source\":\"zutkrad\"}")))))))))

abbrev pub tail_text : Range → Severity → List ℕ
tail_text r severity = tail_of (decimal r.end.units) (decimal r.end.line) (decimal r.start.units) (decimal r.start.line) (severity_digit severity)

abbrev pub diagnostic_text : DiagnosticValue → List ℕ
diagnostic_text d = head_text d.code ++ (quoted d.message ++ tail_text d.range d.severity)

-- what stands before a diagnostic of a list
abbrev pub separator : Bool → List ℕ
separator is_first = if is_first then [] else codes ","

abbrev pub next_text : Bool → DiagnosticValue → List ℕ
next_text is_first d = separator is_first ++ diagnostic_text d

-- those of a list, of which this is the beginning or not
abbrev pub diagnostics_text : Bool → List DiagnosticValue → List ℕ
diagnostics_text is_first [] = []
diagnostics_text is_first (d ∷ ds) = next_text is_first d ++ diagnostics_text false ds

-- what stands after the diagnostics of a document
abbrev pub version_text : Option (List ℕ) → List ℕ
version_text None = codes "}}"
version_text (Some digits) = codes ",\"version\":" ++ (digits ++ codes "}}")

abbrev pub address_text : (uri : List ℕ) → Option (List ℕ) → List ℕ
address_text uri version = codes "],\"uri\":" ++ (quoted uri ++ version_text version)

abbrev pub publication_text : (uri : List ℕ) → Option (List ℕ) → List DiagnosticValue → List ℕ
publication_text uri version diagnostics =
    codes "{\"jsonrpc\":\"2.0\",\"method\":\"textDocument/publishDiagnostics\",\"params\":{\"diagnostics\":["
    ++ (diagnostics_text true diagnostics ++ address_text uri version)
