-- What rules of a kind find stands in a report as if they alone had found something.
use Rattle.std.proofs.Common.{◌≡◌, ℕ, Bool, true, false, cond, List, [], ◌∷◌, Option, Some, None, refl, ap, sym, ◌∙◌}
use Rattle.std.specs.List.{cons_option, filter}
use Rattle.yl_text.specs.Finding.{FindingValue}
use Rattle.yl_text.specs.declared.finding.RuleId.{RuleId}
use Rattle.yl_rules.specs.declared.level.Level.{Level}
use Rattle.yl_rules.specs.Levels.{LevelTable}
use Rattle.yl_report.specs.Report.{ProblemValue, is_reported, report_of, sorted_once}
use Rattle.yl_report.proofs.Heard.{sorted_filter}
use Rattle.yl_problem_lists.proofs.Faults.{leveled, with}
use Rattle.yl_problem_lists.proofs.Ordered.{filter_swap}

module _ (kind : RuleId → Bool) where
  -- of a finding, and of a problem
  abbrev found_by : FindingValue → Bool
  found_by f = kind f.rule

  abbrev told_by : ProblemValue → Bool
  told_by p = kind p.rule

  either : (b : Bool) (ps qs : List ProblemValue) → ps ≡ qs → ps ≡ cond b qs qs
  either true ps qs h = h
  either false ps qs h = h

  one_kind : (o : Option Level) (x : FindingValue) (ps qs : List ProblemValue) → filter told_by ps ≡ qs → filter told_by (cons_option (with o x) ps) ≡ cond (found_by x) (cons_option (with o x) qs) qs
  one_kind None x ps qs h = either (found_by x) (filter told_by ps) qs h
  one_kind (Some level) x ps qs h =
      ap (λ rs. cond (found_by x) (record { line = x.line; column = x.column; level = level; rule = x.rule; message = x.message } ∷ rs) rs) h

  level_of_one : (levels : LevelTable) (b : Bool) (x : FindingValue) (fs : List FindingValue) → cond b (cons_option (with (levels x.rule) x) (leveled levels fs)) (leveled levels fs) ≡ leveled levels (cond b (x ∷ fs) fs)
  level_of_one levels true x fs = refl
  level_of_one levels false x fs = refl

  levels_of_kind : (levels : LevelTable) (xs : List FindingValue) → filter told_by (leveled levels xs) ≡ leveled levels (filter found_by xs)
  levels_of_kind levels [] = refl
  levels_of_kind levels (x ∷ xs) =
      one_kind (levels x.rule) x (leveled levels xs) (leveled levels (filter found_by xs)) (levels_of_kind levels xs) ∙ level_of_one levels (found_by x) x (filter found_by xs)

  pub kind_report : (levels : LevelTable) (silenced : RuleId → ℕ → Bool) (found : List FindingValue) → filter told_by (report_of levels false silenced found) ≡ report_of levels false silenced (filter found_by found)
  kind_report levels silenced found =
      let on = filter (is_reported levels silenced) found in
      levels_of_kind levels (sorted_once on)
      ∙ ap (leveled levels) (sym (sorted_filter found_by on) ∙ ap sorted_once (filter_swap found_by (is_reported levels silenced) found))
