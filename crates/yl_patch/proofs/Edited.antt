-- What is seen of an edit in the touched lines says what is found once it is made.
use Rattle.std.proofs.Common.{◌≡◌, ℕ, ◌+◌, ◌-◌, ◌≤◌, ◌++◌, true, false, List, length, map, take, drop, Some, refl, ap, sym, subst, ◌∙◌, arith}
use Rattle.std.specs.List.{AllByRecursion, splice}
use Rattle.std.proofs.lemmas.List.{length-map, take-map, drop-map}
use Rattle.yl_text.specs.Finding.{FindingValue}
use Rattle.yl_text.specs.Lines.{RowValue}
use Rattle.yl_rules.specs.Levels.{LevelTable}
use Rattle.yl_indentation.specs.declared.measure.Measure.{Measure}
use Rattle.yl_indentation.specs.declared.options.IndentationOptions.{IndentationOptions}
use Rattle.yl_indentation.specs.Measures.{and_later, empty_measure}
use Rattle.yl_settings.specs.declared.options.RuleOptions.{RuleOptions}
use Rattle.yl_config.specs.declared.config.Config.{Config}
use Rattle.yl_config.specs.Config.{levels_of, options_of}
use Rattle.yl_report.specs.Heard.{nothing_silenced}
use Rattle.yl_report.specs.Report.{ProblemValue, report_of}
use Rattle.yl_problem_lists.specs.Following.{IsJudgedAgain}
use Rattle.yl_problem_lists.specs.Order.{IsInOrder}
use Rattle.yl_problem_lists.specs.Parts.{above, behind, shifted}
use Rattle.yl_sections.specs.Kept.{KeptValue, rows_kept}
use Rattle.yl_lint.specs.Onward.{indentation_in_sections, onward_in_sections}
use Rattle.yl_lint.specs.TextReport.{moved}
use Rattle.yl_edited_lines.specs.There.{found_there, lines_there}
use Rattle.yl_edited_lines.specs.declared.there.Ends.{Ends}
use Rattle.yl_lint.proofs.Arranged.{arranged, lower}
use Rattle.yl_lint.proofs.LineParts.{if_none}
use Rattle.yl_summary.proofs.Walks.{measured, rows_until}
use Rattle.yl_found.specs.Faultless.{faultless, faultless_one}
use Rattle.yl_found.specs.Found.{found_by}
use Rattle.yl_found.specs.Plain.{IsPlain}
use Rattle.yl_patch.specs.Seen.{AreFoundAlike, IsSeen, measure_upto, new_lines_of, sections_between}
use Rattle.yl_patch.specs.declared.touched.Touched.{Touched}
use Rattle.yl_patch.proofs.Again.{indentation_faultless, judged_again}
use Rattle.yl_patch.proofs.Parts.{part, part_alike}
use Rattle.yl_found.proofs.Ready.{found_in_order}
use Rattle.yl_patch.proofs.Renewed.{end_is, fit, fit', found_is, found_judged, plain_above, plain_below, plain_there, renewed, silent, was_judged}
use Rattle.yl_found.proofs.WithoutFaults.{faultless_between, measured_faultless, onward_faultless, rows_faultless, splice_faultless}

module _ (config : Config) (rows ins : List RowValue) (ks new : List KeptValue) (a b from end : ℕ) (t : Touched) (found : List FindingValue) (seen : IsSeen config rows ins ks new a b from end t found)
    (ordered : a ≤ b) (within : from ≤ end) (within' : end ≤ length ks) (plain : AllByRecursion IsPlain (faultless ks)) (plainₙ : AllByRecursion IsPlain (faultless new)) where
  abbrev o : RuleOptions
  o = options_of config

  abbrev l : LevelTable
  l = levels_of config

  abbrev e : Ends
  e = seen.ends

  abbrev all : List KeptValue
  all = faultless ks

  -- the measure of the facts up to the touched sections, of those with them, and of those with the new ones
  abbrev upto : Measure
  upto = measured (take from all)

  abbrev one : Measure
  one = measure_upto upto (sections_between from end all)

  abbrev other : Measure
  other = measure_upto upto (faultless new)

  above_is : upto ≡ measured (take from ks)
  above_is = ap measured (take-map faultless_one from ks) ∙ measured_faultless (take from ks)

  one_is : one ≡ measure_upto (measured (take from ks)) (sections_between from end ks)
  one_is = ap (λ (m : Measure). measure_upto m (sections_between from end all)) above_is ∙ ap (and_later (measured (take from ks))) (ap measured (faultless_between from end ks) ∙ measured_faultless (sections_between from end ks))

  other_is : other ≡ measure_upto (measured (take from ks)) new
  other_is = ap (λ (m : Measure). measure_upto m (faultless new)) above_is ∙ ap (and_later (measured (take from ks))) (measured_faultless new)

  within_all : end ≤ length all
  within_all = subst (λ n. end ≤ n) (sym (length-map ks faultless_one)) within'

  first_is : t.first ≡ rows_kept (take from all)
  first_is = seen.cut.first ∙ sym (ap rows_kept (take-map faultless_one from ks) ∙ rows_faultless (take from ks))

  old_end_is : t.old_end ≡ t.first + rows_kept (sections_between from end all)
  old_end_is =
      omega (arith, seen.cut.first, seen.cut.old_end, rows_until ks from end within within', ap rows_kept (faultless_between from end ks), rows_faultless (sections_between from end ks))

  -- what is found in the old text, where indentation below is judged behind facts of this measure
  abbrev judged : Measure → List ProblemValue
  judged before = found_judged config rows all from end t before

  abbrev pub all_judged : List ProblemValue
  all_judged = judged other

  was : found_by config rows ks ≡ judged one
  was =
      found_is config rows ks plain
      ∙ was_judged config rows ins all (faultless new) a b from end t ordered within within_all seen.cut.inside plain first_is old_end_is e seen.cut.begins_text seen.cut.ends_text seen.cut.old_seam seen.cut.behind_seam

  there : found ≡ map (moved t.first) (found_there o e upto (new_lines_of t a b rows ins) (faultless new))
  there =
      let qs = new_lines_of t a b rows ins in
      seen.there
      ∙ (ap (λ (fs : List FindingValue). map (moved t.first) (lines_there o e qs ++ fs)) (sym (onward_faultless o.indentation 0 (measured (take from ks)) new))
      ∙ ap (λ (m : Measure). map (moved t.first) (found_there o e m qs (faultless new))) (sym above_is))

  pub found_edited : AllByRecursion IsPlain (faultless (splice ks from end new))
      → found_by config (splice rows a b ins) (splice ks from end new) ≡ above t.first all_judged ++ (arranged l silent found ++ map (shifted t.old_end t.new_end) (behind t.old_end all_judged))
  found_edited plain' =
      let cut = seen.cut in
      let rows' = splice rows a b ins in
      found_is config rows' (splice ks from end new) plain'
      ∙ (ap (λ (xs : List KeptValue). arranged l silent (part o true true empty_measure rows' xs)) (sym (splice_faultless ks new from end))
      ∙ sym (renewed config rows ins all (faultless new) a b from end t ordered within within_all cut.inside plain first_is old_end_is e cut.begins_text cut.ends_text cut.old_seam cut.behind_seam plainₙ
      (cut.new_end ∙ ap (λ n. t.first + n) (sym (rows_faultless new))) cut.new_seam (arranged l silent found) all_judged refl (ap (λ (fs : List FindingValue). arranged l silent fs) there)))

  -- it is what was found, where facts of either measure have the same found below
  pub judged_alike : AreFoundAlike (measure_upto (measured (take from ks)) (sections_between from end ks)) (measure_upto (measured (take from ks)) new) (drop end ks) → all_judged ≡ found_by config rows ks
  judged_alike same =
      let below = drop end all in
      let at : (p : IndentationOptions) (line : ℕ) (m : Measure) → onward_in_sections p line m below ≡ onward_in_sections p line m (drop end ks) =
      λ p line m. ap (onward_in_sections p line m) (drop-map faultless_one end ks) ∙ onward_faultless p line m (drop end ks) in
      let alike : AreFoundAlike one other below =
      λ p line.
      at p line one
      ∙ (ap (λ (m : Measure). onward_in_sections p line m (drop end ks)) one_is ∙ (same p line ∙ (ap (λ (m : Measure). onward_in_sections p line m (drop end ks)) (sym other_is) ∙ sym (at p line other)))) in
      let fs = take t.first rows in
      let ps = take (t.old_end - t.first) (drop t.first rows) in
      let bs = drop t.old_end rows in
      sym
      (was
      ∙ ap
      (λ (xs : List FindingValue).
      arranged l silent (part o true false empty_measure fs (take from all))
      ++ map (lower (length fs)) (arranged l silent (part o (if_none fs true) (if_none bs true) upto ps (take (end - from) (drop from all))) ++ map (lower (length ps)) (arranged l silent xs)))
      (part_alike o false true one other bs below alike))

  abbrev pub indentation_anew : List ProblemValue
  indentation_anew = report_of l false nothing_silenced (indentation_in_sections o.indentation t.old_end (measure_upto (measured (take from ks)) new) (drop end ks))

  -- else it differs in its indentation below alone
  pub judged_anew : IsJudgedAgain t.old_end (Some indentation_anew) (found_by config rows ks) all_judged
  judged_anew =
      let cut = seen.cut in
      let below = drop end all in
      let here = plain_above config rows ins all (faultless new) a b from end t ordered within within_all cut.inside plain first_is old_end_is e cut.begins_text cut.ends_text cut.old_seam cut.behind_seam in
      let touched = plain_there config rows ins all (faultless new) a b from end t ordered within within_all cut.inside plain first_is old_end_is e cut.begins_text cut.ends_text cut.old_seam cut.behind_seam in
      let behind_is = plain_below config rows ins all (faultless new) a b from end t ordered within within_all cut.inside plain first_is old_end_is e cut.begins_text cut.ends_text cut.old_seam cut.behind_seam in
      let fs_fit = fit config rows ins all (faultless new) a b from end t ordered within within_all cut.inside plain first_is old_end_is e cut.begins_text cut.ends_text cut.old_seam cut.behind_seam in
      let ps_fit = fit' config rows ins all (faultless new) a b from end t ordered within within_all cut.inside plain first_is old_end_is e cut.begins_text cut.ends_text cut.old_seam cut.behind_seam in
      let line = end_is config rows ins all (faultless new) a b from end t ordered within within_all cut.inside plain first_is old_end_is e cut.begins_text cut.ends_text cut.old_seam cut.behind_seam in
      let fs = take t.first rows in
      let ps = take (t.old_end - t.first) (drop t.first rows) in
      let bs = drop t.old_end rows in
      let order = subst (λ (qs : List ProblemValue). IsInOrder qs) was (found_in_order config rows ks plain) in
      let again = judged_again l o fs ps bs (take from all) (sections_between from end all) below here touched behind_is fs_fit ps_fit one other order in
      let told : report_of l false nothing_silenced (indentation_in_sections o.indentation (length fs + length ps) other below) ≡ indentation_anew =
      ap (λ (xs : List FindingValue). report_of l false nothing_silenced xs)
      (ap (λ (n : ℕ). indentation_in_sections o.indentation n other below) line
      ∙ (ap (indentation_in_sections o.indentation t.old_end other) (drop-map faultless_one end ks)
      ∙ (indentation_faultless o.indentation t.old_end other (drop end ks) ∙ ap (λ (m : Measure). indentation_in_sections o.indentation t.old_end m (drop end ks)) other_is))) in
      subst (λ (qs : List ProblemValue). IsJudgedAgain t.old_end (Some indentation_anew) qs all_judged) (sym was)
      (subst (λ (is : List ProblemValue). IsJudgedAgain t.old_end (Some is) (judged one) all_judged) told (subst (λ (n : ℕ). IsJudgedAgain n (Some (report_of l false nothing_silenced (indentation_in_sections o.indentation (length fs + length ps) other below))) (judged one) all_judged) line again))
