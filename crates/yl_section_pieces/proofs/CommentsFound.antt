-- What the rule comments finds in comments, one after another.
use Rattle.std.proofs.Common.{◌≡◌, ℕ, ◌+◌, ◌<◌, ◌≤◌, Bool, true, false, List, [], ◌∷◌, ◌++◌, length, drop, drop-cons, get_or, add-one, refl, sym, ◌∙◌, ap, append_assoc, append-nil}
use Rattle.std.proofs.lemmas.List.{drop_all}
use Rattle.std.specs.List.{flat_map}
use Rattle.yl_text.specs.declared.finding.RuleId.TheVariants.{Comments}
use Rattle.yl_text.specs.Finding.{FindingValue}
use Rattle.yl_lexeme.specs.Lexeme.{PlacedCommentValue}
use Rattle.yl_rules.specs.Comments.{comment_findings}
use Rattle.yl_config.specs.declared.config.Config.{Config}
use Rattle.yl_config.specs.Config.{options_of}
use Rattle.yl_sections.specs.Kept.{is_on, items_if, shown_comment_findings}
use Rattle.yl_sections.proofs.RowJudging.{none_shown}

-- in one comment, if the rule is on
abbrev found_in : Config → PlacedCommentValue → List FindingValue
found_in config c = comment_findings (options_of config).comments c

module _ (config : Config) where
  first_shown : (c : PlacedCommentValue) (cs : List PlacedCommentValue) → shown_comment_findings config (c ∷ cs) ≡ shown_comment_findings config (c ∷ []) ++ shown_comment_findings config cs
  first_shown c cs = by_case (is_on config Comments)
    where
      by_case : (b : Bool) → items_if b (flat_map (found_in config) (c ∷ cs)) ≡ items_if b (flat_map (found_in config) (c ∷ [])) ++ items_if b (flat_map (found_in config) cs)
      by_case true = ap (λ (fs : List FindingValue). fs ++ flat_map (found_in config) cs) (sym (append-nil (found_in config c)))
      by_case false = refl

  module _ (cs : List PlacedCommentValue) (i : ℕ) (found all : List FindingValue) (so_far : found ++ shown_comment_findings config (drop i cs) ≡ all) where
    -- one comment more
    pub found_on : (c d : PlacedCommentValue) → i < length cs → c ≡ get_or cs i c → d ≡ c → (now more : List FindingValue) → more ≡ shown_comment_findings config (d ∷ []) → now ≡ found ++ more
        → now ++ shown_comment_findings config (drop (i + 1) cs) ≡ all
    found_on c d within is same now more more_is now_is =
        let rest = shown_comment_findings config (drop (i + 1) cs) in
        let cut : drop i cs ≡ c ∷ drop (i + 1) cs = drop-cons cs i c within ∙ (λ j. sym is j ∷ drop (sym (add-one i) j) cs) in
        ap (λ (fs : List FindingValue). fs ++ rest) (now_is ∙ ap (λ (fs : List FindingValue). found ++ fs) (more_is ∙ ap (λ (e : PlacedCommentValue). shown_comment_findings config (e ∷ [])) same))
        ∙ append_assoc found (shown_comment_findings config (c ∷ [])) rest
        ∙ ap (λ (fs : List FindingValue). found ++ fs) (sym (first_shown c (drop (i + 1) cs)) ∙ ap (shown_comment_findings config) (sym cut))
        ∙ so_far

    -- no comment is left
    pub found_done : length cs ≤ i → found ≡ all
    found_done past =
        sym (append-nil found)
        ∙ ap (λ (fs : List FindingValue). found ++ fs) (sym (none_shown config) ∙ ap (shown_comment_findings config) (sym (drop_all i cs past)))
        ∙ so_far
