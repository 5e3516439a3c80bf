-- Meaning: yamllint's rule truthy.
use Rattle.std.specs.Prelude.{ℕ, Bool, true, false, not, ◌&&◌, ◌||◌, if◌then◌else◌, List, [], ◌∷◌, ◌++◌, ◌+◌, codes, Option, Some, None, bytes_eq, slice_index_or}
use Rattle.std.specs.List.{items_where_true, join_by, list_any, position_from}
use Rattle.std.specs.Option.{option_map_or}
use Rattle.yl_lexeme.specs.declared.lexeme.Style.TheVariants.{Plain}
use Rattle.yl_lexeme.specs.declared.lexeme.Kind.{Kind}
use Rattle.yl_lexeme.specs.declared.lexeme.Kind.TheVariants.{Scalar}
use Rattle.yl_marks.specs.declared.facts.KeyFacts.{KeyFacts}
use Rattle.yl_text.specs.declared.finding.RuleId.TheVariants.{Truthy}
use Rattle.yl_text.specs.Finding.{FindingValue, one_finding}
use Rattle.yl_lexeme_rules.specs.declared.span.Span.{Span}
use Rattle.yl_lexeme_rules.specs.declared.truthy.TruthyWords.{TruthyWords}
use Rattle.yl_lexeme_rules.specs.declared.truthy.TruthyOptions.{TruthyOptions}

-- the truthy words, in ASCII order
abbrev pub truthy_words : List (List ℕ)
truthy_words = codes "FALSE" ∷ codes "False" ∷ codes "NO" ∷ codes "No" ∷ codes "OFF" ∷ codes "ON"
    ∷ codes "Off" ∷ codes "On" ∷ codes "TRUE" ∷ codes "True" ∷ codes "YES" ∷ codes "Yes"
    ∷ codes "false" ∷ codes "no" ∷ codes "off" ∷ codes "on" ∷ codes "true" ∷ codes "yes" ∷ []

-- the truthy words of the core schema of YAML 1.2 (YAML 1.2.2, 10.3.2)
abbrev pub core_words : List (List ℕ)
core_words =
    codes "FALSE" ∷ codes "False" ∷ codes "TRUE" ∷ codes "True" ∷ codes "false" ∷ codes "true" ∷ []

abbrev pub truthy_index : List ℕ → Option ℕ
truthy_index word = position_from (λ w. bytes_eq w word) 0 truthy_words

-- the message, which lists the words that are allowed
abbrev pub truthy_text : TruthyWords → List ℕ
truthy_text words = codes "truthy value should be one of ["
    ++ (join_by (λ w. w) (codes ", ") (items_where_true words.allowed truthy_words) ++ codes "]")

abbrev pub is_plain : Kind → Bool
is_plain (Scalar Plain) = true
is_plain _ = false

-- a plain scalar without a tag whose value is a truthy word that is not allowed. In a document that
-- declares itself to be one of YAML 1.2, only the words of the core schema are truthy
abbrev pub is_truthy : Bool → TruthyOptions → Kind → List ℕ → KeyFacts → Bool
is_truthy is_1_2 o kind value key = is_plain kind && not key.has_tag && (o.check_keys || not key.is_key)
    && option_map_or (λ i. not (slice_index_or o.allowed_values.allowed i false)) (truthy_index value) false
    && (not is_1_2 || list_any (λ w. bytes_eq w value) core_words)

-- at a lexeme and its value, if the rule is on
abbrev pub truthy : Bool → Option TruthyOptions → Span → List ℕ → KeyFacts → List FindingValue
truthy is_1_2 None x value key = []
truthy is_1_2 (Some o) x value key =
    if is_truthy is_1_2 o x.kind value key
    then one_finding Truthy (x.start.line + 1) (x.start.col + 1) (truthy_text o.allowed_values) else []
