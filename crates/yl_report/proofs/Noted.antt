-- One more comment, and what it marks.
use Rattle.std.proofs.Common.{◌≡◌, ◌<◌, ◌+◌, ℕ, List, [], ◌∷◌, ◌++◌, Bool, true, false, ◌||◌, cond, if◌then◌else◌, refl, sym, ap, ◌∙◌, take, map, length, get_or, append-nil}
use Rattle.std.specs.Prelude.{◌==◌, codes, Option}
use Rattle.std.specs.List.{list_any}
use Rattle.std.specs.Option.{option_map_or}
use Rattle.std.proofs.lemmas.List.{map_more}
use Rattle.std.proofs.lemmas.List.Folds.{list_any-append}
use Rattle.yl_text.specs.declared.finding.RuleId.{RuleId}
use Rattle.yl_lexeme.specs.declared.placed.PlacedComment.{PlacedComment}
use Rattle.yl_lexeme.specs.PlacedComments.{placed_comment_value}
use Rattle.yl_lexeme.specs.Lexeme.{PlacedCommentValue}
use Rattle.yl_report.specs.Directive.{says, disables, switches, is_switched_off, own_line, disables_line}
use Rattle.yl_report.proofs.LastSwitch.{last_or-filter_push}

-- the comment, if there is one, disables
abbrev pub is_disabled_by : RuleId → Option PlacedCommentValue → Bool
is_disabled_by rule o = option_map_or (disables rule) o false

module _ (rule : RuleId) (at : ℕ) (cs : List PlacedCommentValue) (c : PlacedCommentValue) where
  switched_push : (b : Bool) → switches rule at c ≡ b → is_switched_off (cs ++ c ∷ []) rule at ≡ cond b (disables rule c) (is_switched_off cs rule at)
  switched_push true e = ap (is_disabled_by rule) (last_or-filter_push (switches rule at) cs c true e)
  switched_push false e = ap (is_disabled_by rule) (last_or-filter_push (switches rule at) cs c false e)

  own_push : (ls : List ℕ) (b : Bool) → says (codes "# yamllint disable-line") rule c ≡ b → list_any (λ own. own == at) ls ≡ list_any (disables_line rule at) cs
      → list_any (λ own. own == at) (ls ++ (if b then own_line c ∷ [] else [])) ≡ list_any (disables_line rule at) (cs ++ c ∷ [])
  own_push ls true e h =
      list_any-append (λ own. own == at) ls (own_line c ∷ []) ∙ rw (h, list_any-append (disables_line rule at) cs (c ∷ []), e) refl
  own_push ls false e h =
      ap (list_any (λ own. own == at)) (append-nil ls) ∙ h ∙ sym (list_any-append (disables_line rule at) cs (c ∷ []) ∙ rw e (or-false (list_any (disables_line rule at) cs)))
    where
      or-false : (a : Bool) → a || false ≡ a
      or-false true = refl
      or-false false = refl

-- ---- the comment at an index
module _ (rule : RuleId) (at : ℕ) (xs : List PlacedComment) (i : ℕ) (x : PlacedComment) (inside : i < length xs) where
  pub switched_more : (old new : Bool) → old ≡ is_switched_off (map placed_comment_value (take i xs)) rule at
      → new ≡ (if switches rule at (placed_comment_value (get_or xs i x)) then disables rule (placed_comment_value (get_or xs i x)) else old) → new ≡ is_switched_off (map placed_comment_value (take (i + 1) xs)) rule at
  switched_more old new h e =
      let c = placed_comment_value (get_or xs i x) in
      e ∙ ap (λ o. if switches rule at c then disables rule c else o) h ∙ sym (switched_push rule at (map placed_comment_value (take i xs)) c (switches rule at c) refl)
      ∙ ap (λ l. is_switched_off l rule at) (sym (map_more placed_comment_value xs i x inside))

  pub own_more : (old new : List ℕ) → list_any (λ own. own == at) old ≡ list_any (disables_line rule at) (map placed_comment_value (take i xs))
      → new ≡ old ++ (if says (codes "# yamllint disable-line") rule (placed_comment_value (get_or xs i x)) then own_line (placed_comment_value (get_or xs i x)) ∷ [] else [])
      → list_any (λ own. own == at) new ≡ list_any (disables_line rule at) (map placed_comment_value (take (i + 1) xs))
  own_more old new h e =
      let c = placed_comment_value (get_or xs i x) in
      ap (list_any (λ own. own == at)) e ∙ own_push rule at (map placed_comment_value (take i xs)) c old (says (codes "# yamllint disable-line") rule c) refl h
      ∙ ap (list_any (disables_line rule at)) (sym (map_more placed_comment_value xs i x inside))
