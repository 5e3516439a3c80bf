-- Which sections are shown of some that stand one after another, and their comments.
use Rattle.std.proofs.Common.{◌≡◌, ℕ, zero, suc, ◌+◌, ◌<◌, ◌≤◌, true, false, List, [], ◌∷◌, ◌++◌, map, take, drop, Option, Some, None, refl, ap, sym, subst, ◌∙◌, arith, ◌⊎◌, inl, inr, append-nil}
use Rattle.std.specs.Prelude.{◌||◌, is_some}
use Rattle.std.specs.List.{AllByRecursion}
use Rattle.std.proofs.lemmas.List.{take-append-drop}
use Rattle.yl_text.specs.declared.finding.RuleId.{RuleId}
use Rattle.yl_lexeme.specs.Lexeme.{PlacedCommentValue}
use Rattle.yl_report.specs.Directive.{is_silenced}
use Rattle.yl_sections.specs.Kept.{KeptValue, SectionFaultValue, unless_fault, rows_kept}
use Rattle.yl_lint.specs.TextReport.{comments_in_sections, moved_comment, shown}
use Rattle.yl_found.specs.Faultless.{faultless}
use Rattle.yl_found.specs.Plain.{IsPlain}
use Rattle.yl_summary.specs.Overview.{IsSound, has_fault}
use Rattle.yl_found.proofs.ReportShown.{plain_shown}
use Rattle.yl_found.proofs.Sections.{comments_two, comments_within}
use Rattle.yl_edited_lines.proofs.Silenced.{moved_high, said_above}
use Rattle.yl_found.proofs.WithoutFaults.{rows_faultless}

-- ---- one after another

-- behind sections without fault, those are shown that would be shown alone
pub shown_both : (xs ys : List KeptValue) → has_fault xs ≡ false → shown (xs ++ ys) ≡ xs ++ shown ys
shown_both [] ys h = refl
shown_both (x ∷ xs) ys h = by x.fault h (shown_both xs ys)
  where
    by : (f : Option SectionFaultValue) → (is_some f || has_fault xs) ≡ false → (has_fault xs ≡ false → shown (xs ++ ys) ≡ xs ++ shown ys) → x ∷ unless_fault f (shown (xs ++ ys)) ≡ x ∷ (xs ++ shown ys)
    by None e later = ap (λ (zs : List KeptValue). x ∷ zs) (later e)
    by (Some f) e later = absurd (cc)

-- behind a fault none is shown
pub shown_covered : (xs ys : List KeptValue) → has_fault xs ≡ true → shown (xs ++ ys) ≡ shown xs
shown_covered [] ys h = absurd (cc)
shown_covered (x ∷ xs) ys h = by x.fault h (shown_covered xs ys)
  where
    by : (f : Option SectionFaultValue) → (is_some f || has_fault xs) ≡ true → (has_fault xs ≡ true → shown (xs ++ ys) ≡ shown xs) → x ∷ unless_fault f (shown (xs ++ ys)) ≡ x ∷ unless_fault f (shown xs)
    by None e later = ap (λ (zs : List KeptValue). x ∷ zs) (later e)
    by (Some f) e later = refl

pub of_sound : (ks : List KeptValue) → AllByRecursion IsSound ks → has_fault ks ≡ false
of_sound [] h = refl
of_sound (k ∷ ks) h = ap (λ (f : Option SectionFaultValue). is_some f || has_fault ks) h.0 ∙ of_sound ks h.1

pub shown_sound : (ks : List KeptValue) → has_fault ks ≡ false → shown ks ≡ ks
shown_sound ks h = ap shown (sym (append-nil ks)) ∙ (shown_both ks [] h ∙ append-nil ks)

pub rows_shown : (ks : List KeptValue) → rows_kept (shown ks) ≤ rows_kept ks
rows_shown [] = omega arith
rows_shown (k ∷ ks) = by k.fault (rows_shown ks)
  where
    by : (f : Option SectionFaultValue) → rows_kept (shown ks) ≤ rows_kept ks → k.rows + rows_kept (unless_fault f (shown ks)) ≤ k.rows + rows_kept ks
    by None h = omega (arith, h)
    by (Some f) h = omega arith

-- ---- comments

comments_faultless : (line : ℕ) (ks : List KeptValue) → comments_in_sections line (faultless ks) ≡ comments_in_sections line ks
comments_faultless line [] = refl
comments_faultless line (k ∷ ks) = ap (λ (cs : List PlacedCommentValue). map (moved_comment line) k.comments ++ cs) (comments_faultless (line + k.rows) ks)

-- those that are shown stand in the lines of their sections
pub shown_comments_within : (high : ℕ) (ks : List KeptValue) → AllByRecursion IsPlain (faultless ks) → rows_kept ks ≤ high → AllByRecursion (λ c. c.line < high) (comments_in_sections 0 (shown ks))
shown_comments_within high ks plain l =
    subst (λ (cs : List PlacedCommentValue). AllByRecursion (λ c. c.line < high) cs) (comments_faultless 0 (shown ks))
    (comments_within 0 high (faultless (shown ks)) (plain_shown ks plain) (omega (arith, l, rows_shown ks, rows_faultless (shown ks))))

-- of a line of the first sections, those behind them say nothing
pub said_by_first : (xs ys : List KeptValue) (rule : RuleId) (line : ℕ) → line < rows_kept xs → is_silenced (comments_in_sections 0 (xs ++ ys)) rule line ≡ is_silenced (comments_in_sections 0 xs) rule line
said_by_first xs ys rule line l =
    let first = rows_kept xs in
    ap (λ (cs : List PlacedCommentValue). is_silenced cs rule line) (comments_two xs ys first refl)
    ∙ said_above (comments_in_sections 0 xs) (map (moved_comment first) (comments_in_sections 0 ys)) first rule line (moved_high first first (comments_in_sections 0 ys) (omega arith)) l

-- of the first sections, those that are shown are all, or all that are shown of the text
first_shown : (n : ℕ) (ks : List KeptValue) → (take n (shown ks) ≡ shown ks) ⊎ (take n (shown ks) ≡ take n ks)
first_shown zero ks = inr refl
first_shown (suc n) [] = inl refl
first_shown (suc n) (k ∷ ks) = by k.fault (first_shown n ks)
  where
    none : (m : ℕ) → take {A = KeptValue} m [] ≡ []
    none zero = refl
    none (suc m) = refl

    more : (take n (shown ks) ≡ shown ks) ⊎ (take n (shown ks) ≡ take n ks) → (k ∷ take n (shown ks) ≡ k ∷ shown ks) ⊎ (k ∷ take n (shown ks) ≡ k ∷ take n ks)
    more (inl e) = inl (ap (λ (ls : List KeptValue). k ∷ ls) e)
    more (inr e) = inr (ap (λ (ls : List KeptValue). k ∷ ls) e)

    by : (f : Option SectionFaultValue) → (take n (shown ks) ≡ shown ks) ⊎ (take n (shown ks) ≡ take n ks) → (k ∷ take n (unless_fault f (shown ks)) ≡ k ∷ unless_fault f (shown ks)) ⊎ (k ∷ take n (unless_fault f (shown ks)) ≡ k ∷ take n ks)
    by None h = more h
    by (Some f) h = inl (ap (λ (ls : List KeptValue). k ∷ ls) (none n))

-- of a line of the first sections, the comments that are shown of them say what all say that are shown
pub said_upto : (ks : List KeptValue) (n : ℕ) (rule : RuleId) (line : ℕ) → line < rows_kept (take n ks) → is_silenced (comments_in_sections 0 (take n (shown ks))) rule line ≡ is_silenced (comments_in_sections 0 (shown ks)) rule line
said_upto ks n rule line l = by (first_shown n ks)
  where
    by : (take n (shown ks) ≡ shown ks) ⊎ (take n (shown ks) ≡ take n ks) → is_silenced (comments_in_sections 0 (take n (shown ks))) rule line ≡ is_silenced (comments_in_sections 0 (shown ks)) rule line
    by (inl e) = ap (λ (ls : List KeptValue). is_silenced (comments_in_sections 0 ls) rule line) e
    by (inr e) =
        sym (ap (λ (ls : List KeptValue). is_silenced (comments_in_sections 0 ls) rule line) (sym (take-append-drop n (shown ks)))
        ∙ said_by_first (take n (shown ks)) (drop n (shown ks)) rule line (subst (λ (ls : List KeptValue). line < rows_kept ls) (sym e) l))
