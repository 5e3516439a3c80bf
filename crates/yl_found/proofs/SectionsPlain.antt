-- What is kept of a section is plain, its fault aside.
use Rattle.std.proofs.Common.{◌≡◌, ◌<◌, true, List, [], ◌∷◌, length, map, arith, refl, subst, sym}
use Rattle.std.specs.List.{AllByRecursion}
use Rattle.yl_text.specs.declared.finding.RuleId.{RuleId}
use Rattle.yl_text.specs.Finding.{FindingValue}
use Rattle.yl_text.proofs.Every.{all_then}
use Rattle.yl_config.specs.declared.config.Config.{Config}
use Rattle.yl_record.specs.Records.{RecordValue}
use Rattle.yl_sections.specs.Judge.{kept_of_section}
use Rattle.yl_sections.specs.Kept.{KeptValue}
use Rattle.yl_sections.proofs.Own.{OfSectionRules, own_found, own_kept_comments, own_kept_facts, own_rows}
use Rattle.yl_found.specs.Faultless.{faultless, faultless_one}
use Rattle.yl_found.specs.Plain.{IsPlain, IsWithin, is_kept_rule}

-- the rule is one of which findings are kept
abbrev IsKeptRule : RuleId → Type 0
IsKeptRule rule = is_kept_rule rule ≡ true

of_section_rules : OfSectionRules IsKeptRule
of_section_rules = record {
  lexemes = record { braces = refl; brackets = refl; colons = refl; commas = refl; document_start = refl; hyphens = refl; quoted_strings = refl; truthy = refl };
  comments = refl;
  events = record { anchors = refl; key_duplicates = refl; key_ordering = refl };
}

module _ (config : Config) (rs : List RecordValue) where
  abbrev kept : KeptValue
  kept = kept_of_section config rs

  -- found by such a rule, in the section's lines
  abbrev IsOwn : FindingValue → Type 0
  IsOwn f = IsWithin (length rs) f × IsKeptRule f.rule

  own : AllByRecursion IsOwn kept.found
  own = own_found IsKeptRule of_section_rules config rs IsOwn (λ rule line column text k h. ((omega arith, omega (arith, h)), k))

  section_plain : IsPlain (faultless_one kept)
  section_plain = record {
    sound = refl;
    found = subst (λ n. AllByRecursion (IsWithin n) kept.found) (sym (own_rows config rs)) (all_then IsOwn (IsWithin (length rs)) kept.found (λ f o. o.0) own);
    rules = all_then IsOwn (λ f. IsKeptRule f.rule) kept.found (λ f o. o.1) own;
    facts = subst (λ n. AllByRecursion (λ f. f.line < n) kept.facts) (sym (own_rows config rs)) (own_kept_facts config rs);
    comments = subst (λ n. AllByRecursion (λ c. c.line < n) kept.comments) (sym (own_rows config rs)) (own_kept_comments config rs);
  }

sections_plain : (config : Config) (ss : List (List RecordValue)) → AllByRecursion IsPlain (faultless (map (kept_of_section config) ss))
sections_plain config [] = tt
sections_plain config (s ∷ ss) = (section_plain config s, sections_plain config ss)

-- if this is kept of some sections
pub kept_plain : (config : Config) (ss : List (List RecordValue)) (ks : List KeptValue) → ks ≡ map (kept_of_section config) ss → AllByRecursion IsPlain (faultless ks)
kept_plain config ss ks e = subst (λ (ls : List KeptValue). AllByRecursion IsPlain (faultless ls)) (sym e) (sections_plain config ss)
