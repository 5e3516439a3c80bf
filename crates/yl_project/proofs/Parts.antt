-- A project from its parts.
use Rattle.std.proofs.Common.{◌≡◌, List, ap, ◌∙◌}
use Rattle.yl_config.specs.Settings.{Settings}
use Rattle.yl_patterns.specs.Patterns.{PatternValue}
use Rattle.yl_project.specs.Said.{ProjectValue, RuleIgnoreValue}

abbrev made : Settings → List RuleIgnoreValue → List PatternValue → List PatternValue → ProjectValue
made settings rules ignored files = record { settings = settings; rules = rules; ignored = ignored; yaml_files = files }

pub parts : (s t : Settings) (rs qs : List RuleIgnoreValue) (is js : List PatternValue) (ys zs : List PatternValue) → s ≡ t → rs ≡ qs → is ≡ js → ys ≡ zs → made s rs is ys ≡ made t qs js zs
parts s t rs qs is js ys zs e f g h =
    ap (λ (x : Settings). made x rs is ys) e ∙ (ap (λ (x : List RuleIgnoreValue). made t x is ys) f
    ∙ (ap (λ (x : List PatternValue). made t qs x ys) g ∙ ap (λ (x : List PatternValue). made t qs js x) h))
