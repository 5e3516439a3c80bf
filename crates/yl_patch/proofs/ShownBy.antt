-- What is shown by the comments that were read.
use Rattle.std.proofs.Common.{◌≡◌, ℕ, Bool, true, false, List, Option, Some, None, refl, ap, sym, subst, ◌∙◌}
use Rattle.std.specs.Prelude.{◌&&◌, IsSome, MatchOption, Vec, is_none}
use Rattle.std.proofs.lemmas.Bool.{and_parts}
use Rattle.std.specs.List.{splice}
use Rattle.std.specs.Option.{option_map}
use Rattle.yl_text.specs.Lines.{RowValue}
use Rattle.yl_report.specs.Report.{ProblemValue}
use Rattle.yl_problem_lists.specs.Showing.{is_shown_by}
use Rattle.yl_problem_lists.specs.declared.showing.Showing.{Showing}
use Rattle.yl_sections.specs.Kept.{KeptValue}
use Rattle.yl_lint.specs.TextReport.{shown}
use Rattle.yl_found.specs.Found.{is_shown}
use Rattle.yl_patch.specs.Patching.{SaysBelow, StaysShown}

-- what is shown below stays, or this says it
pub below_says : {A : Type 0} (o : Option (Showing A)) (known : Bool) (rows after edited : List RowValue) (ks new kept : List KeptValue) (from end : ℕ) → edited ≡ after → kept ≡ splice ks from end new
    → MatchOption o (known ≡ true) (λ s. is_shown_by s ≡ is_shown edited kept) → (known ≡ true → StaysShown rows edited ks new from end) → SaysBelow (option_map (λ s. is_shown_by s) o) rows after ks new from end
below_says None known rows after edited ks new kept from end e f h stays = subst (λ (xs : List RowValue). StaysShown rows xs ks new from end) e (stays h)
below_says (Some s) known rows after edited ks new kept from end e f h stays = λ q.
    ap (λ (says : ProblemValue → Bool). says q) h ∙ (ap (λ (xs : List RowValue). is_shown xs kept q) e ∙ ap (λ (ls : List KeptValue). is_shown after ls q) f)

-- where indentation is judged anew, something says what is shown
pub told_where : {X Y : Type 0} (o : Option X) (p : Option (Showing Y)) (known stays : Bool) (edited : List RowValue) (kept : List KeptValue) → known ≡ (stays && is_none o) → MatchOption p (known ≡ true) (λ s. is_shown_by s ≡ is_shown edited kept) → IsSome o → IsSome p
told_where None p known stays edited kept e h some = absurd (cc)
told_where (Some x) (Some y) known stays edited kept e h some = refl
told_where (Some x) None known stays edited kept e h some = let wrong : false ≡ true = (and_parts stays false (sym e ∙ h)).1 in cc

pub told_in : {X Y V Z : Type 0} (o : Option (Vec X V)) (p : Option Y) (f : Y → Z) → (IsSome o → IsSome p) → IsSome (option_map (λ (v : Vec X V). v.items) o) → IsSome (option_map f p)
told_in None p f h some = absurd (cc)
told_in (Some v) (Some y) f h some = refl
told_in (Some v) None f h some = absurd (let none = h refl in cc)
