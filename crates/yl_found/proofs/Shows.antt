-- What is shown by the comments of the first sections, and by those of all.
use Rattle.std.proofs.Common.{◌≡◌, ℕ, ◌≤◌, List, [], ◌∷◌, length, take, Option, Some, None, ap, arith}
use Rattle.std.proofs.lemmas.List.{take_all}
use Rattle.yl_text.specs.Lines.{RowValue}
use Rattle.yl_report.specs.Directive.{disables_file, is_silenced}
use Rattle.yl_report.specs.Silence.{is_file_silenced_by, is_silenced_at}
use Rattle.yl_report.specs.declared.silence.Silences.{Silences}
use Rattle.yl_problem_lists.specs.Showing.{is_shown_by, shows}
use Rattle.yl_sections.specs.Kept.{KeptValue, SectionFaultValue, unless_fault, rows_kept}
use Rattle.yl_lint.specs.TextReport.{comments_in_sections, first_text, shown}
use Rattle.yl_found.specs.Found.{is_shown}
use Rattle.yl_found.specs.ShownUpto.{is_shown_upto}

short_unless : (o : Option SectionFaultValue) (ks : List KeptValue) (n : ℕ) → length ks ≤ n → length (unless_fault o ks) ≤ n
short_unless None ks n l = l
short_unless (Some f) ks n l = omega arith

shown_short : (ks : List KeptValue) → length (shown ks) ≤ length ks
shown_short [] = omega arith
shown_short (k ∷ ks) = let l = short_unless k.fault (shown ks) (length ks) (shown_short ks) in omega (arith, l)

-- of all sections
pub upto_all : (n : ℕ) (rows : List RowValue) (ks : List KeptValue) → length ks ≤ n → is_shown_upto n rows ks ≡ is_shown rows ks
upto_all n rows ks l =
    let l' = shown_short ks in
    ap (λ (xs : List KeptValue). shows (disables_file (first_text rows)) (is_silenced (comments_in_sections 0 xs)) (rows_kept (shown ks))) (take_all n (shown ks) (omega (arith, l, l')))

-- by the comments that were read
pub shown_by : {A : Type 0} (s : Silences A) (last n : ℕ) (rows : List RowValue) (ks : List KeptValue) → is_file_silenced_by s ≡ disables_file (first_text rows) → is_silenced_at s ≡ is_silenced (comments_in_sections 0 (take n (shown ks)))
    → last ≡ rows_kept (shown ks) → is_shown_by (record { silences = s; last = last }) ≡ is_shown_upto n rows ks
unfolding is_shown_by
shown_by s last n rows ks a b c = λ i p. shows (a i) (b i) (c i) p
