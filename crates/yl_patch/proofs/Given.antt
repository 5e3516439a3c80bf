-- What is found there is the same by equal lines; and the touched lines lie in the new text.
use Rattle.std.proofs.Common.{◌≡◌, ◌≤◌, ◌<◌, ◌+◌, ◌==◌, ◌∙◌, ℕ, zero, suc, Bool, length, true, false, List, inl, inr, refl, ap, sym, arith}
use Rattle.std.proofs.Math.Bool.{beq}
use Rattle.std.proofs.lemmas.Bool.{cases_lt, eq-eqb}
use Rattle.std.specs.List.{splice}
use Rattle.std.specs.Prelude.{not, slice_get}
use Rattle.yl_text.specs.Lines.{RowValue}
use Rattle.yl_text.specs.Store.{IsRange}
use Rattle.yl_indentation.specs.declared.measure.Measure.{Measure}
use Rattle.yl_settings.specs.declared.options.RuleOptions.{RuleOptions}
use Rattle.yl_sections.specs.Kept.{KeptValue}
use Rattle.yl_patch.specs.Cut.{IsApart, IsInside, is_filled}
use Rattle.yl_patch.specs.Seen.{IsCut}
use Rattle.yl_edited_lines.specs.There.{found_there}
use Rattle.yl_edited_lines.specs.declared.there.Ends.{Ends}
use Rattle.yl_patch.specs.declared.touched.Touched.{Touched}
use Rattle.yl_found.proofs.Given.{never}
use Rattle.yl_patch.proofs.Renewed.{spliced_length}

pub same_bool : (a b : Bool) → not (beq a b) ≡ false → a ≡ b
same_bool true true e = refl
same_bool false false e = refl
same_bool true false e = never (sym e)
same_bool false true e = never (sym e)

pub same_there : (o : RuleOptions) (e : Ends) (b d : Measure) (xs ys : List RowValue) (ks : List KeptValue) → b ≡ d → xs ≡ ys → found_there o e b xs ks ≡ found_there o e d ys ks
same_there o e b d xs ys ks g h = rw (g, h) refl

-- the touched lines lie in the new text
pub window_fits : (rows ins edited : List RowValue) (a b : ℕ) (t : Touched) → a ≤ b → b ≤ length rows → IsInside t a b (length ins) (length rows) → edited ≡ splice rows a b ins → IsRange t.first t.new_end (length edited)
window_fits rows ins edited a b t l m inside is =
    let n = spliced_length rows ins a b l m in
    let here = ap (λ (xs : List RowValue). length xs) is in record {
      ordered = omega (arith, inside.new_some);
      within = omega (arith, inside.fits, inside.back, n, here);
    }

-- ---- where the touched lines stand

some_first : (n : ℕ) → (n == 0) ≡ false → 0 < n
some_first zero h = never (sym h)
some_first (suc n) h = omega arith

some_behind : (n m : ℕ) → n ≤ m → (n == m) ≡ false → n < m
some_behind n m l h = elim (cases_lt n m) [
  | inl lower ↦ lower
  | inr past ↦ never (sym (sym (eq-eqb n m (omega (arith, l, past))) ∙ h))
]

-- an edit of lines that stand apart, where they stand
pub is_cut : (rows ins : List RowValue) (a b first old_end count lines : ℕ) (t : Touched) (e : Ends) → IsApart rows ins a b first old_end count → t.first ≡ first → t.old_end ≡ old_end → t.new_end ≡ t.first + count
    → lines ≡ length rows → e.begins ≡ (t.first == 0) → e.ends ≡ (t.old_end == lines) → IsCut rows ins a b first old_end count t e
is_cut rows ins a b first old_end count lines t e h f o n len begins ends = record {
  inside = record {
    begins = omega (arith, f, h.begins);
    ends = omega (arith, o, h.ends);
    back = omega (arith, o, h.back);
    old_some = omega (arith, f, o, h.old_some);
    new_some = omega (arith, n, h.new_some);
    fits = omega (arith, f, o, n, h.fits);
  };
  first = f;
  old_end = o;
  new_end = n;
  begins_text = begins;
  ends_text = ends ∙ ap (λ k. t.old_end == k) len;
  old_seam = λ x. ap (λ k. is_filled (slice_get rows k)) f ∙ h.old_seam (omega (arith, f, some_first t.first (sym begins ∙ x)));
  new_seam = λ x. ap (λ k. is_filled (slice_get (splice rows a b ins) k)) f ∙ h.new_seam (omega (arith, f, some_first t.first (sym begins ∙ x)));
  behind_seam = λ x.
      let low : t.old_end ≤ lines = omega (arith, o, h.back, len) in
      ap (λ k. is_filled (slice_get rows k)) o ∙ h.behind_seam (omega (arith, o, len, some_behind t.old_end lines low (sym ends ∙ x)));
}
