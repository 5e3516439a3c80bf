-- Meaning: which rules hold for a path, and which files are YAML. A path is the list of its bytes; its names have `/` between them.
use Rattle.std.specs.Prelude.{ℕ, ◌==◌, Bool, if◌then◌else◌, List, [], ◌∷◌, Option, Some, None, unwrap_or}
use Rattle.std.specs.Str.{chars}
use Prim.Native.Char.{code}
use Rattle.yl_config.specs.Settings.{Settings, at_level}
use Rattle.yl_patterns.specs.Patterns.{PatternValue, is_among}
use Rattle.yl_project.specs.Said.{ProjectValue, RuleIgnoreValue}

-- what stands after this byte, if a path begins with it
abbrev pub after_byte : ℕ → List ℕ → Option (List ℕ)
after_byte b [] = None
after_byte b (c ∷ cs) = if c == b then Some cs else None

abbrev pub after_first_slash : List ℕ → Option (List ℕ) → List ℕ
after_first_slash path None = unwrap_or (after_byte (code "/") path) path
after_first_slash path (Some cs) = unwrap_or (after_byte (code "/") cs) path

-- without one `./` or `/` at its front
abbrev pub without_front : List ℕ → List ℕ
without_front path = after_first_slash path (after_byte (code ".") path)

abbrev pub fits : List PatternValue → List ℕ → Bool
fits patterns path = is_among patterns (chars path)

-- without the rules that are off for a path
unfoldable pub without_ignoring : List RuleIgnoreValue → List ℕ → Settings → Settings
without_ignoring [] path s = s
without_ignoring (r ∷ rs) path s = without_ignoring rs path (if fits r.patterns path then at_level r.rule None s else s)

-- none where the path is ignored
abbrev pub settings_for : ProjectValue → List ℕ → Option Settings
settings_for p path =
    if fits p.ignored (without_front path) then None else Some (without_ignoring p.rules (without_front path) p.settings)
