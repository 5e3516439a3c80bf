-- A place for each rule, and what is marked of it there.
use Rattle.std.proofs.Common.{◌≡◌, ◌<◌, ◌≤◌, ◌+◌, ℕ, zero, suc, List, [], ◌∷◌, ◌++◌, refl, sym, ap, ◌∙◌, length, get_or, arith, Option, Some, ◌⊎◌, inl, inr}
use Rattle.std.specs.Prelude.{slice_get}
use Rattle.std.proofs.lemmas.Bool.{cases_lt}
use Rattle.yl_rules.specs.LevelOf.{rule_number}
use Rattle.yl_report.specs.declared.marks.SilencedLines.{SilencedLines}
use Rattle.yl_lexeme.specs.Lexeme.{PlacedCommentValue}
use Rattle.yl_report.specs.Directive.{is_silenced}
use Rattle.yl_report.specs.Silence.{is_silenced_in}
use Rattle.yl_text.specs.declared.finding.RuleId.{RuleId}
use Rattle.yl_text.specs.declared.finding.RuleId.TheVariants.{Anchors, Braces, Brackets, Colons, Commas, Comments, DocumentStart, EmptyLines, Hyphens, Indentation, KeyDuplicates, KeyOrdering, LineLength, NewLineAtEndOfFile, NewLines, QuotedStrings, Syntax, TrailingSpaces, Truthy}

abbrev pub rules_in_order : List RuleId
rules_in_order =
    Anchors ∷ Braces ∷ Brackets ∷ Colons ∷ Commas ∷ Comments ∷ DocumentStart ∷ EmptyLines ∷ Hyphens ∷ Indentation ∷ KeyDuplicates ∷ KeyOrdering ∷ LineLength ∷ NewLineAtEndOfFile ∷ NewLines ∷ QuotedStrings ∷ Syntax ∷ TrailingSpaces ∷ Truthy ∷ []

-- each rule stands at its place
pub at_slot : (rule d : RuleId) → get_or rules_in_order (rule_number rule) d ≡ rule
at_slot Anchors d = refl
at_slot Braces d = refl
at_slot Brackets d = refl
at_slot Colons d = refl
at_slot Commas d = refl
at_slot Comments d = refl
at_slot DocumentStart d = refl
at_slot EmptyLines d = refl
at_slot Hyphens d = refl
at_slot Indentation d = refl
at_slot KeyDuplicates d = refl
at_slot KeyOrdering d = refl
at_slot LineLength d = refl
at_slot NewLineAtEndOfFile d = refl
at_slot NewLines d = refl
at_slot QuotedStrings d = refl
at_slot Syntax d = refl
at_slot TrailingSpaces d = refl
at_slot Truthy d = refl

pub slot_below : (rule : RuleId) → rule_number rule < 19
slot_below Anchors = omega arith
slot_below Braces = omega arith
slot_below Brackets = omega arith
slot_below Colons = omega arith
slot_below Commas = omega arith
slot_below Comments = omega arith
slot_below DocumentStart = omega arith
slot_below EmptyLines = omega arith
slot_below Hyphens = omega arith
slot_below Indentation = omega arith
slot_below KeyDuplicates = omega arith
slot_below KeyOrdering = omega arith
slot_below LineLength = omega arith
slot_below NewLineAtEndOfFile = omega arith
slot_below NewLines = omega arith
slot_below QuotedStrings = omega arith
slot_below Syntax = omega arith
slot_below TrailingSpaces = omega arith
slot_below Truthy = omega arith

pub slice_get-push_below : {X : Type 0} (xs : List X) (x : X) (k : ℕ) → k < length xs → slice_get (xs ++ x ∷ []) k ≡ slice_get xs k
slice_get-push_below [] x k h = absurd (omega arith)
slice_get-push_below (y ∷ ys) x zero h = refl
slice_get-push_below (y ∷ ys) x (suc k) h = slice_get-push_below ys x k (omega arith)

pub slice_get-push_at : {X : Type 0} (xs : List X) (x : X) (k : ℕ) → k ≡ length xs → slice_get (xs ++ x ∷ []) k ≡ Some x
slice_get-push_at [] x zero h = refl
slice_get-push_at [] x (suc k) h = absurd (omega arith)
slice_get-push_at (y ∷ ys) x zero h = absurd (omega arith)
slice_get-push_at (y ∷ ys) x (suc k) h = slice_get-push_at ys x k (omega arith)

-- one more rule
module _ {A : Type 0} (cs : List PlacedCommentValue) (all : List (SilencedLines A)) (m : SilencedLines A) (i : ℕ) (d : RuleId) (long : length all ≡ i)
    (done : (rule : RuleId) (line : ℕ) → rule_number rule < i → is_silenced_in (slice_get all (rule_number rule)) line ≡ is_silenced cs rule line)
    (given : (line : ℕ) → is_silenced_in (Some m) line ≡ is_silenced cs (get_or rules_in_order i d) line) where
  pub marked_more : (rule : RuleId) (line : ℕ) → rule_number rule < i + 1 → is_silenced_in (slice_get (all ++ m ∷ []) (rule_number rule)) line ≡ is_silenced cs rule line
  marked_more rule line h = at (cases_lt (rule_number rule) i)
    where
      at : (rule_number rule < i) ⊎ (i ≤ rule_number rule) → is_silenced_in (slice_get (all ++ m ∷ []) (rule_number rule)) line ≡ is_silenced cs rule line
      at (inl l) = ap (λ (o : Option (SilencedLines A)). is_silenced_in o line) (slice_get-push_below all m (rule_number rule) (omega arith)) ∙ done rule line l
      at (inr l) =
          let here : rule_number rule ≡ i = omega arith in
          let last : rule_number rule ≡ length all = omega arith in
          ap (λ (o : Option (SilencedLines A)). is_silenced_in o line) (slice_get-push_at all m (rule_number rule) last) ∙ given line
          ∙ ap (λ r. is_silenced cs r line) (ap (λ k. get_or rules_in_order k d) (sym here) ∙ at_slot rule d)
