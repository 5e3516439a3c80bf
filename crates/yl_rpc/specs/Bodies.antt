-- Meaning: why a body was not read.
use Rattle.std.specs.Prelude.{◌≡◌, ◌<◌, ℕ, ◌⊎◌, List, length, true, false, IsTrue, None}
use Rattle.std.specs.Str.{IsUtf8}
use Rattle.json.specs.Json.{document}
use Rattle.json.specs.Lex.{tokens}
use Rattle.json.specs.Reads.{opens}
use Rattle.yl_rpc.specs.Depth.{is_too_deep}
use Rattle.yl_rpc.specs.declared.body.BodyFault.{BodyFault}
use Rattle.yl_rpc.specs.declared.body.BodyFault.TheVariants.{NoJson, TooDeep, Memory}

-- a text is no UTF-8, or no JSON value of at most 128 levels
abbrev pub IsNoValue : List ℕ → Type 0
IsNoValue text = IsUtf8 text → document text ≡ None

-- a fault is told of a text, where there was memory for so many bytes before
abbrev pub IsUnread : List ℕ → ℕ → BodyFault → Type 0
IsUnread text room NoJson = IsNoValue text × (is_too_deep text ≡ false)
IsUnread text room TooDeep = IsNoValue text × (is_too_deep text ≡ true)
IsUnread text room Memory = IsTrue (opens (tokens text)) ⊎ (room < length text)
