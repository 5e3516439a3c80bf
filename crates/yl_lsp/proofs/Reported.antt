-- The first problems of a report, and those that are not shown.
use Rattle.std.proofs.Common.{◌≡◌, ℕ, zero, suc, ◌+◌, ◌-◌, ◌<◌, ◌≤◌, ◌==◌, min, true, List, [], ◌∷◌, ◌++◌, length, take, drop, get_or, map, refl, sym, ap, ◌∙◌, arith, take-append-drop}
use Rattle.std.proofs.lemmas.Bool.{ne_eqb}
use Rattle.std.proofs.lemmas.List.{map-append, take_min, take_more}
use Rattle.yl_report.specs.Report.{ProblemValue}
use Rattle.yl_lsp.specs.Diagnostics.{DiagnosticValue}
use Rattle.yl_lsp.specs.Reports.{ReportValue, problem_diagnostic, more_diagnostics, report_diagnostics}
use Rattle.yl_lsp.specs.Texts.{next_text, diagnostics_text}
use Rattle.yl_lsp.proofs.Written.{is_still_first, diagnostics-append, one_diagnostic}

-- after no problem comes the first diagnostic
still_first : (f : ProblemValue → DiagnosticValue) (xs : List ProblemValue) (i : ℕ) → i ≤ length xs → is_still_first true (map f (take i xs)) ≡ (i == 0)
still_first f xs zero h = refl
still_first f [] (suc i) h = absurd (omega arith)
still_first f (x ∷ xs) (suc i) h = sym (ne_eqb (suc i) 0 (λ e. omega arith))

-- the diagnostics after so many problems
abbrev pub later_text : (ProblemValue → DiagnosticValue) → List ProblemValue → ℕ → List ℕ
later_text f xs i = diagnostics_text (is_still_first true (map f (take (i + 1) xs))) (map f (drop (i + 1) xs))

module _ (f : ProblemValue → DiagnosticValue) (xs : List ProblemValue) (i : ℕ) (x : ProblemValue) (is : x ≡ get_or xs i x) (inside : i < length xs) (y : DiagnosticValue) (shown : y ≡ f x) where
  -- the problems before one, and that one
  pub problem_put : diagnostics_text true (map f (take i xs)) ++ next_text (i == 0) y ≡ diagnostics_text true (map f (take (i + 1) xs))
  problem_put =
      let front = map f (take i xs) in
      let here = f (get_or xs i x) in
      ap (λ z. diagnostics_text true front ++ next_text (i == 0) z) (shown ∙ ap f is)
      ∙ ap (λ b. diagnostics_text true front ++ next_text b here) (sym (still_first f xs i (omega (arith, inside))))
      ∙ ap (λ l. diagnostics_text true front ++ l) (one_diagnostic (is_still_first true front) here)
      ∙ sym (ap (diagnostics_text true) (ap (map f) (take_more xs i x inside) ∙ map-append f (take i xs) (get_or xs i x ∷ [])) ∙ diagnostics-append true front (here ∷ []))

  -- and those after it
  pub problem_whole : (diagnostics_text true (map f (take i xs)) ++ next_text (i == 0) y) ++ later_text f xs i ≡ diagnostics_text true (map f xs)
  problem_whole =
      ap (λ l. l ++ later_text f xs i) problem_put ∙ sym (diagnostics-append true (map f (take (i + 1) xs)) (map f (drop (i + 1) xs)))
      ∙ ap (diagnostics_text true) (sym (map-append f (take (i + 1) xs) (drop (i + 1) xs)) ∙ ap (map f) (take-append-drop (i + 1) xs))

-- the problems that are shown, and how many are not
pub report_put : (r : ReportValue) (shown hidden : ℕ) → shown ≡ min r.how.most (length r.problems) → hidden ≡ length r.problems - shown
    → diagnostics_text true (map (problem_diagnostic r.how r.rows) (take shown r.problems)) ++ diagnostics_text (shown == 0) (more_diagnostics hidden) ≡ diagnostics_text true (report_diagnostics r)
report_put r shown hidden p q =
    let f = problem_diagnostic r.how r.rows in
    let xs = r.problems in
    let front : take shown xs ≡ take r.how.most xs = ap (λ n. take n xs) p ∙ take_min r.how.most xs in
    let rest : hidden ≡ length xs - r.how.most = omega arith in
    ap (λ b. diagnostics_text true (map f (take shown xs)) ++ diagnostics_text b (more_diagnostics hidden)) (sym (still_first f xs shown (omega arith)))
    ∙ sym (diagnostics-append true (map f (take shown xs)) (more_diagnostics hidden))
    ∙ ap (λ l. diagnostics_text true (map f l ++ more_diagnostics hidden)) front
    ∙ ap (λ n. diagnostics_text true (map f (take r.how.most xs) ++ more_diagnostics n)) rest
