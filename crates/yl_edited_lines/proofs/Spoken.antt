-- What is said of the comments that are handed in, and of their values.
use Rattle.std.proofs.Common.{◌≡◌, ℕ, ◌+◌, ◌<◌, List, [], ◌∷◌, ◌++◌, length, take, get_or, Bool, true, false, cond, refl, ap, sym, ◌∙◌, map}
use Rattle.std.proofs.lemmas.List.{take_more}
use Rattle.std.specs.List.{filter}
use Rattle.yl_lexeme.specs.Lexeme.{PlacedCommentValue}
use Rattle.yl_lexeme.specs.declared.placed.PlacedComment.{PlacedComment}
use Rattle.yl_lexeme.specs.PlacedComments.{placed_comment_value}
use Rattle.yl_edited_lines.specs.Switches.{may_switch}

abbrev seen : PlacedComment → PlacedCommentValue
seen = placed_comment_value

pub switches_seen : (cs : List PlacedComment) → map seen (filter (λ c. may_switch (seen c)) cs) ≡ filter may_switch (map seen cs)
switches_seen [] = refl
switches_seen (c ∷ cs) = at (may_switch (seen c)) (switches_seen cs)
  where
    at : (b : Bool) → map seen (filter (λ c. may_switch (seen c)) cs) ≡ filter may_switch (map seen cs)
        → map seen (cond b (c ∷ filter (λ c. may_switch (seen c)) cs) (filter (λ c. may_switch (seen c)) cs)) ≡ cond b (seen c ∷ filter may_switch (map seen cs)) (filter may_switch (map seen cs))
    at true e = ap (λ (ds : List PlacedCommentValue). seen c ∷ ds) e
    at false e = e

abbrev texts : List PlacedComment → List (List ℕ)
texts cs = map (λ c. c.text) (map seen cs)

texts_last : (cs : List PlacedComment) (c : PlacedComment) → texts (cs ++ c ∷ []) ≡ texts cs ++ (seen c).text ∷ []
texts_last [] c = refl
texts_last (d ∷ cs) c = ap (λ ts. (seen d).text ∷ ts) (texts_last cs c)

-- one text more is the same
pub texts_more : (cs ds : List PlacedComment) (i : ℕ) (other : PlacedComment) → i < length cs → i < length ds → texts (take i cs) ≡ texts (take i ds)
    → (seen (get_or cs i other)).text ≡ (seen (get_or ds i other)).text → texts (take (i + 1) cs) ≡ texts (take (i + 1) ds)
texts_more cs ds i other l m before same =
    ap texts (take_more cs i other l)
    ∙ (texts_last (take i cs) (get_or cs i other)
    ∙ (ap (λ ts. ts ++ (seen (get_or cs i other)).text ∷ []) before
    ∙ (ap (λ t. texts (take i ds) ++ t ∷ []) same ∙ (sym (texts_last (take i ds) (get_or ds i other)) ∙ sym (ap texts (take_more ds i other m))))))
