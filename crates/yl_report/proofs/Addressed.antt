-- Only comments that begin as all do that silence a rule count.
use Rattle.std.proofs.Common.{◌≡◌, ℕ, List, [], ◌∷◌, ◌++◌, Bool, true, false, ◌||◌, cond, if◌then◌else◌, refl, sym, ap, ◌∙◌, map}
use Rattle.std.specs.Prelude.{◌==◌, codes, nat_le, None}
use Rattle.std.specs.List.{list_any, filter, last_or, starts_with}
use Rattle.std.proofs.lemmas.Bool.{and_parts, and_from, and_right, or_from, false_from_ne_true}
use Rattle.yl_text.specs.Character.{is_blank, without_end}
use Rattle.yl_text.specs.declared.finding.RuleId.{RuleId}
use Rattle.yl_lexeme.specs.declared.placed.PlacedComment.{PlacedComment}
use Rattle.yl_lexeme.specs.PlacedComments.{placed_comment_value}
use Rattle.yl_report.specs.Addressed.{is_addressed_comment}
use Rattle.yl_report.specs.Directive.{says, disables, switches, disables_line, is_silenced}
use Rattle.yl_report.proofs.Noted.{is_disabled_by}

abbrev begins : List ℕ → List ℕ → Bool
begins = starts_with (λ a b. a == b)

-- what begins with a text begins with its front
begins_front : (xs p q : List ℕ) → begins xs (p ++ q) ≡ true → begins xs p ≡ true
begins_front xs [] q e = refl
begins_front [] (n ∷ ns) q e = cc
begins_front (x ∷ xs) (n ∷ ns) q e = let parts = and_parts (n == x) (begins xs (ns ++ q)) e in and_from (n == x) (begins xs ns) parts.0 (begins_front xs ns q parts.1)

-- and so with white space at its end
begins_whole : (xs p : List ℕ) → begins (without_end xs) p ≡ true → begins xs p ≡ true
begins_whole xs [] e = refl
begins_whole [] (n ∷ ns) e = cc
begins_whole (x ∷ xs) (n ∷ ns) e = at (is_blank (x ∷ xs)) (begins_whole xs ns) e
  where
    at : (b : Bool) → (begins (without_end xs) ns ≡ true → begins xs ns ≡ true) → begins (if b then [] else x ∷ without_end xs) (n ∷ ns) ≡ true → begins (x ∷ xs) (n ∷ ns) ≡ true
    at true again h = cc
    at false again h = let parts = and_parts (n == x) (begins (without_end xs) ns) h in and_from (n == x) (begins xs ns) parts.0 (again parts.1)

abbrev address : List ℕ
address = codes "# yamllint "

not_said : (words : List ℕ) (rule : RuleId) (x : PlacedComment) → is_addressed_comment x ≡ false → says (address ++ words) rule (placed_comment_value x) ≡ false
not_said words rule x e =
    let apart : begins (without_end x.text.now) (address ++ words) ≡ false =
    false_from_ne_true _ (λ h. let wrong : true ≡ false = sym (begins_front x.text.now address words (begins_whole x.text.now (address ++ words) h)) ∙ e in cc) in
    rw apart refl

not_switched : (rule : RuleId) (line : ℕ) (x : PlacedComment) → is_addressed_comment x ≡ false → switches rule line (placed_comment_value x) ≡ false
not_switched rule line x e =
    and_right (nat_le x.line line) _ (or_from (disables rule (placed_comment_value x)) (says (codes "# yamllint enable") rule (placed_comment_value x)) (not_said (codes "disable") rule x e) (not_said (codes "enable") rule x e))

not_line : (rule : RuleId) (line : ℕ) (x : PlacedComment) → is_addressed_comment x ≡ false → disables_line rule line (placed_comment_value x) ≡ false
not_line rule line x e = rw (not_said (codes "disable-line") rule x e) refl

-- ---- what does not pass a test may be left out
module _ {X Y : Type 0} (f : X → Y) (keep : X → Bool) (p : Y → Bool) (none : (x : X) → keep x ≡ false → p (f x) ≡ false) where
  filter_kept : (xs : List X) → filter p (map f (filter keep xs)) ≡ filter p (map f xs)
  filter_kept [] = refl
  filter_kept (x ∷ xs) = at (keep x) refl (filter_kept xs)
    where
      at : (b : Bool) → keep x ≡ b → filter p (map f (filter keep xs)) ≡ filter p (map f xs) → filter p (map f (cond b (x ∷ filter keep xs) (filter keep xs))) ≡ filter p (f x ∷ map f xs)
      at true e h = ap (λ l. cond (p (f x)) (f x ∷ l) l) h
      at false e h = rw (none x e) h

  any_kept : (xs : List X) → list_any p (map f (filter keep xs)) ≡ list_any p (map f xs)
  any_kept [] = refl
  any_kept (x ∷ xs) = at (keep x) refl (any_kept xs)
    where
      at : (b : Bool) → keep x ≡ b → list_any p (map f (filter keep xs)) ≡ list_any p (map f xs) → list_any p (map f (cond b (x ∷ filter keep xs) (filter keep xs))) ≡ (p (f x) || list_any p (map f xs))
      at true e h = ap (λ r. p (f x) || r) h
      at false e h = rw (none x e) h

pub is_silenced-addressed : (xs : List PlacedComment) (rule : RuleId) (line : ℕ) → is_silenced (map placed_comment_value (filter is_addressed_comment xs)) rule line ≡ is_silenced (map placed_comment_value xs) rule line
is_silenced-addressed xs rule line =
    let switched = filter_kept placed_comment_value is_addressed_comment (switches rule line) (not_switched rule line) xs in
    let owned = any_kept placed_comment_value is_addressed_comment (disables_line rule line) (not_line rule line) xs in
    λ i. is_disabled_by rule (last_or None (switched i)) || owned i
