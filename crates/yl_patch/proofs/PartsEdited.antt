-- A patch of both lists of a text's problems gives both lists of the edited text.
use Rattle.std.proofs.Common.{◌≡◌, ℕ, ◌+◌, ◌≤◌, Bool, true, false, List, [], ◌∷◌, ◌++◌, length, take, Option, Some, None, refl, ap, sym, subst, ◌∙◌, arith, cond}
use Rattle.std.specs.List.{AllByRecursion, prefix_len, splice}
use Rattle.std.proofs.Math.Numerals.{one-add}
use Rattle.std.proofs.lemmas.Bool.{leb-false, leb-true}
use Rattle.yl_text.proofs.Every.{all_then}
use Rattle.yl_text.specs.Lines.{RowValue}
use Rattle.yl_config.specs.declared.config.Config.{Config}
use Rattle.yl_report.specs.Report.{ProblemValue}
use Rattle.yl_sections.specs.Kept.{KeptValue, rows_kept}
use Rattle.yl_problem_lists.specs.Changes.{PatchValue, moved, patched}
use Rattle.yl_problem_lists.specs.Following.{Follows, FollowsBelow}
use Rattle.yl_problem_lists.specs.Order.{IsInOrder}
use Rattle.yl_problem_lists.specs.Parts.{PartsValue, above, behind, is_upto, parted, shifted, with_fault, without_fault}
use Rattle.yl_problem_lists.proofs.Following.{parts_follow}
use Rattle.yl_problem_lists.proofs.Judged.{judged_above, judged_order}
use Rattle.yl_problem_lists.proofs.Ordered.{all_behind}
use Rattle.yl_found.specs.Faultless.{faultless}
use Rattle.yl_found.specs.Found.{all_parts, found_by, is_shown, parts_of}
use Rattle.yl_patch.specs.Patching.{IsPatchOf, SaysBelow}
use Rattle.yl_found.specs.Plain.{IsPlain}
use Rattle.yl_patch.proofs.AlikeShown.{above_alike, below_alike}
use Rattle.yl_found.proofs.EachFound.{InFirst, found_in_lines}
use Rattle.yl_found.proofs.Ready.{fault_apart, found_in_order}

-- ---- lists parted by a line

all_any : {X : Type 0} (P : X → Type 0) (xs : List X) → ((x : X) → P x) → AllByRecursion P xs
all_any P [] f = tt
all_any P (x ∷ xs) f = (f x, all_any P xs f)

-- those in the first lines are of those that stand there
all_above : (P : ProblemValue → Type 0) (n : ℕ) (ps : List ProblemValue) → AllByRecursion P ps → AllByRecursion (λ q. P q × (is_upto n q ≡ true)) (above n ps)
all_above P n [] h = tt
all_above P n (q ∷ qs) h = at (is_upto n q) refl (all_above P n qs h.1)
  where
    at : (b : Bool) → is_upto n q ≡ b → AllByRecursion (λ r. P r × (is_upto n r ≡ true)) (above n qs) → AllByRecursion (λ r. P r × (is_upto n r ≡ true)) (take (cond b (1 + prefix_len (is_upto n) qs) 0) (q ∷ qs))
    at true e more =
        subst (λ (i : ℕ). AllByRecursion (λ r. P r × (is_upto n r ≡ true)) (take i (q ∷ qs))) (sym (one-add (prefix_len (is_upto n) qs)))
        ((h.0, e), more)
    at false e more = tt

-- ---- an edit

module _ (config : Config) (rows ins : List RowValue) (ks new : List KeptValue) (a b from end : ℕ) (all found : List ProblemValue) (p : PatchValue)
    (within : a ≤ length rows) (ordered : from ≤ end) (within' : end ≤ length ks) (plain : AllByRecursion IsPlain (faultless ks)) (plainₙ : AllByRecursion IsPlain (faultless new)) (first : p.first ≤ a)
    (is : IsPatchOf config rows (splice rows a b ins) ks new from end all found p) where
  abbrev after : List RowValue
  after = splice rows a b ins

  abbrev kept : List KeptValue
  kept = splice ks from end new

  abbrev old : List ProblemValue
  old = found_by config rows ks

  in_order : IsInOrder old
  in_order = found_in_order config rows ks plain

  stays_above : AllByRecursion (λ q. is_shown after kept q ≡ is_shown rows ks q) (above p.first all)
  stays_above =
      let n = length rows + rows_kept ks in
      subst (λ (qs : List ProblemValue). AllByRecursion (λ q. is_shown after kept q ≡ is_shown rows ks q) qs) (sym (judged_above p.old_end p.first (omega (arith, is.old_some)) p.indentation old all in_order is.judged))
      (all_then (λ (q : ProblemValue). InFirst n q × (is_upto p.first q ≡ true)) (λ q. is_shown after kept q ≡ is_shown rows ks q) (above p.first old)
      (λ q h. above_alike rows ins ks new a b from end q within (omega (arith, is.first, first)) h.0.0 (omega (arith, is.first, leb-true q.line p.first h.1)))
      (all_above (InFirst n) p.first old (found_in_lines config rows ks plain n (omega arith) (omega arith))))

  follows_below : (o : Option (ProblemValue → Bool)) → SaysBelow o rows after ks new from end → FollowsBelow o (is_shown after kept) (is_shown rows ks) p all
  follows_below None stays =
      all_then (λ (q : ProblemValue). is_upto p.old_end q ≡ false) (λ q. is_shown after kept (shifted p.old_end p.new_end q) ≡ is_shown rows ks q) (behind p.old_end all)
      (λ q h. below_alike rows after ks new from end p.old_end p.new_end q ordered within' is.old_end is.new_end (omega (arith, is.first, is.old_some)) (omega (arith, is.first, is.new_some)) plain plainₙ stays.file stays.faults stays.comments (leb-false q.line p.old_end h))
      (all_behind p.old_end all (judged_order p.old_end p.indentation old all in_order is.judged))
  follows_below (Some f) says = all_any (λ (q : ProblemValue). f q ≡ is_shown after kept q) (moved p all) says

  follows : Follows (is_shown after kept) (is_shown rows ks) old all found p
  follows = record {
    in_order = in_order;
    lines = omega (arith, is.old_some);
    judged = is.judged;
    told = is.told;
    shown = is.shown;
    suppressed = is.suppressed;
    above = stays_above;
    below = follows_below p.below is.below;
  }

  -- both lists of the edited text are those of the old one, patched
  pub parts_edited : with_fault p.fault (patched p (without_fault (all_parts config rows ks))) ≡ all_parts config after kept
  parts_edited =
      ap (λ (ps : PartsValue). with_fault p.fault (patched p ps)) (fault_apart config rows ks plain)
      ∙ (ap (with_fault p.fault) (sym (parts_follow (is_shown after kept) (is_shown rows ks) old all found p follows))
      ∙ (ap (λ (ps : List ProblemValue). with_fault p.fault (parted (is_shown after kept) ps)) (sym is.all_after)
      ∙ ap (λ (o : Option ProblemValue). with_fault o (parts_of config after kept)) is.fault))
