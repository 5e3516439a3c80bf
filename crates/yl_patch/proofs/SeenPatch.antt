-- What is seen of an edit in the touched lines, parted by what is shown up to there, makes a patch of both lists.
use Rattle.std.proofs.Common.{◌≡◌, ℕ, ◌+◌, ◌-◌, ◌≤◌, Bool, false, List, ◌++◌, length, map, take, drop, ap, sym, subst, ◌∙◌, arith, rules}
use Rattle.std.specs.Prelude.{Option, Some, None, IsSome, MatchOption, Vec, not}
use Rattle.std.specs.Option.{option_map}
use Rattle.std.specs.List.{AllByRecursion, filter, splice}
use Rattle.std.proofs.lemmas.List.{drop-map, length-take, same_lists, places, take-map}
use Rattle.yl_text.proofs.Every.{all_drop, all_take, all_then}
use Rattle.yl_text.specs.Finding.{FindingValue}
use Rattle.yl_text.specs.Lines.{RowValue}
use Rattle.yl_indentation.specs.declared.measure.Measure.{Measure}
use Rattle.yl_indentation.specs.Measures.{measure_of}
use Rattle.yl_config.specs.declared.config.Config.{Config}
use Rattle.yl_config.specs.Config.{levels_of, options_of}
use Rattle.yl_report.specs.Directive.{disables_file, is_silenced}
use Rattle.yl_report.specs.Heard.{nothing_silenced}
use Rattle.yl_report.specs.Report.{ProblemValue, report_of}
use Rattle.yl_sections.specs.Kept.{KeptValue, rows_kept}
use Rattle.yl_lint.specs.Onward.{indentation_in_sections}
use Rattle.yl_lint.specs.TextReport.{comments_in_sections, facts_in_sections, first_text, shown}
use Rattle.yl_problem_lists.specs.Changes.{PatchValue, patched}
use Rattle.yl_problem_lists.specs.Following.{IsJudgedAgain, found_after}
use Rattle.yl_problem_lists.specs.Parts.{above, behind, shifted, with_fault, without_fault}
use Rattle.yl_problem_lists.specs.Showing.{shows}
use Rattle.yl_found.specs.Faultless.{faultless, faultless_one}
use Rattle.yl_found.specs.Found.{all_parts, fault_told, found_by}
use Rattle.yl_patch.specs.Patching.{SaysBelow}
use Rattle.yl_found.specs.Plain.{IsPlain}
use Rattle.yl_patch.specs.Seen.{AreFoundAlike, IsSeen, measure_upto, new_lines_of, sections_between}
use Rattle.yl_patch.specs.declared.touched.Touched.{Touched}
use Rattle.yl_found.proofs.EachFound.{InFirst}
use Rattle.yl_patch.proofs.PartsEdited.{parts_edited}
use Rattle.yl_patch.proofs.Edited.{all_judged, found_edited, indentation_anew, judged_alike, judged_anew}
use Rattle.yl_patch.proofs.ShownThere.{rows_upto, shown_upto, suppressed_upto, there_in_first}
use Rattle.yl_summary.proofs.Walks.{rows_both}

-- those that were put in place of some are among all
plain_put : (ks new : List KeptValue) (from end : ℕ) → from ≤ length ks → AllByRecursion IsPlain (faultless (splice ks from end new)) → AllByRecursion IsPlain (faultless new)
plain_put ks new from end l plain =
    let all = splice ks from end new in
    let e : take (length new) (drop from all) ≡ new = same_lists _ _ (search (rules, places)) (λ n d o. grind (arith, places)) in
    let there = all_take IsPlain (drop from (faultless all)) (length new) (all_drop IsPlain (faultless all) from plain) in
    subst (λ (ls : List KeptValue). AllByRecursion IsPlain ls)
    (ap (take (length new)) (drop-map faultless_one from all) ∙ (take-map faultless_one (length new) (drop from all) ∙ ap faultless e)) there

-- more sections have no fewer lines
rows_more : (ks : List KeptValue) (n m : ℕ) → n ≤ m → rows_kept (take n ks) ≤ rows_kept (take m ks)
rows_more ks n m l =
    let e : take m ks ≡ take n ks ++ take (m - n) (drop n ks) = same_lists _ _ (search (rules, places)) (λ k d o. grind (arith, places)) in
    omega (arith, ap rows_kept e, rows_both (take n ks) (take (m - n) (drop n ks)))

module _ (config : Config) (rows ins : List RowValue) (ks new : List KeptValue) (a b from end : ℕ) (t : Touched) (found : List FindingValue) (seen : IsSeen config rows ins ks new a b from end t found)
    (range : a ≤ b) (within : b ≤ length rows) (ordered : from ≤ end) (within' : end ≤ length ks) (plain : AllByRecursion IsPlain (faultless ks)) (plain' : AllByRecursion IsPlain (faultless (splice ks from end new))) where
  abbrev after : List RowValue
  after = splice rows a b ins

  abbrev kept : List KeptValue
  kept = splice ks from end new

  abbrev put : List ProblemValue
  put = report_of (levels_of config) false nothing_silenced found

  pub plainₙ : AllByRecursion IsPlain (faultless new)
  plainₙ = plain_put ks new from end (omega (arith, ordered, within')) plain'

  put_in_first : (n : ℕ) → from + length new ≤ n → AllByRecursion (InFirst (rows_kept (take n kept))) put
  put_in_first n l =
      let cut = seen.cut in
      let few = rows_kept new in
      let lines : length (new_lines_of t a b rows ins) ≤ few = omega (arith, cut.new_end, length-take (t.new_end - t.first) (drop t.first after)) in
      let top = rows_upto ks new from end (omega (arith, ordered, within')) in
      let most = rows_more kept (from + length new) n l in
      all_then (InFirst (t.first + few)) (InFirst (rows_kept (take n kept))) put (λ q h. (h.0, omega (arith, h.1, cut.first, top, most)))
      (there_in_first (levels_of config) false nothing_silenced (options_of config) seen.ends (measure_of (facts_in_sections (take from ks))) t.first few (new_lines_of t a b rows ins) new found seen.there plainₙ lines (omega arith))

  -- below, the same is found behind the facts above as before, or this is the indentation there
  abbrev pub SaysIndentation : Option (List ProblemValue) → Type 0
  SaysIndentation None = AreFoundAlike (measure_upto (measure_of (facts_in_sections (take from ks))) (sections_between from end ks)) (measure_upto (measure_of (facts_in_sections (take from ks))) new) (drop end ks)
  SaysIndentation (Some is) = is ≡ indentation_anew config rows ins ks new a b from end t found seen range ordered within' plain plainₙ

  -- as it is found
  pub says_indentation : {A : Type 0} (o : Option (Vec ProblemValue A)) (above : Measure) → above ≡ measure_of (facts_in_sections (take from ks))
      → MatchOption o (AreFoundAlike (measure_upto above (sections_between from end ks)) (measure_upto above new) (drop end ks))
      (λ v. v.items ≡ report_of (levels_of config) false nothing_silenced (indentation_in_sections (options_of config).indentation t.old_end (measure_upto above new) (drop end ks)))
      → SaysIndentation (option_map (λ v. v.items) o)
  says_indentation None above is h = subst (λ (m : Measure). AreFoundAlike (measure_upto m (sections_between from end ks)) (measure_upto m new) (drop end ks)) is h
  says_indentation (Some v) above is h =
      h ∙ ap (λ (m : Measure). report_of (levels_of config) false nothing_silenced (indentation_in_sections (options_of config).indentation t.old_end (measure_upto m new) (drop end ks))) is

  judged_as : (o : Option (List ProblemValue)) → SaysIndentation o → IsJudgedAgain t.old_end o (found_by config rows ks) (all_judged config rows ins ks new a b from end t found seen range ordered within' plain plainₙ)
  judged_as None same = judged_alike config rows ins ks new a b from end t found seen range ordered within' plain plainₙ same
  judged_as (Some is) e =
      subst (λ (qs : List ProblemValue). IsJudgedAgain t.old_end (Some qs) (found_by config rows ks) (all_judged config rows ins ks new a b from end t found seen range ordered within' plain plainₙ)) (sym e)
      (judged_anew config rows ins ks new a b from end t found seen range ordered within' plain plainₙ)

  -- a patch of the touched lines, whose parts are told apart by the comments up to some section behind them, and which says what is shown below,
  -- gives both lists of the edited text
  pub seen_patch : (n : ℕ) (says : ProblemValue → Bool) (p : PatchValue) → from + length new ≤ n
      → ((q : ProblemValue) → says q ≡ shows (disables_file (first_text after)) (is_silenced (comments_in_sections 0 (take n (shown kept)))) (rows_kept (shown kept)) q)
      → p.first ≡ t.first → p.old_end ≡ t.old_end → p.new_end ≡ t.new_end → SaysIndentation p.indentation → (IsSome p.indentation → IsSome p.below)
      → p.shown ≡ filter says put → p.suppressed ≡ filter (λ q. not (says q)) put → SaysBelow p.below rows after ks new from end → p.fault ≡ fault_told config after kept
      → with_fault p.fault (patched p (without_fault (all_parts config rows ks))) ≡ all_parts config after kept
  seen_patch n says p l upto first old_end new_end indentation told shown_is suppressed_is below fault =
      let cut = seen.cut in
      let inside = cut.inside in
      let low = put_in_first n l in
      let all = all_judged config rows ins ks new a b from end t found seen range ordered within' plain plainₙ in
      let after_is : found_by config after kept ≡ found_after p put all =
      found_edited config rows ins ks new a b from end t found seen range ordered within' plain plainₙ plain'
      ∙ sym (ap (λ (i : ℕ). above i all ++ (put ++ map (shifted p.old_end p.new_end) (behind p.old_end all))) first
      ∙ (ap (λ (i : ℕ). above t.first all ++ (put ++ map (shifted i p.new_end) (behind i all))) old_end
      ∙ ap (λ (i : ℕ). above t.first all ++ (put ++ map (shifted t.old_end i) (behind t.old_end all))) new_end)) in
      parts_edited config rows ins ks new a b from end all put p (omega (arith, range, within)) ordered within' plain plainₙ (omega (arith, first, inside.begins)) (record {
        first = first ∙ cut.first;
        old_end = old_end ∙ cut.old_end;
        new_end = omega (arith, new_end, cut.new_end, cut.first);
        old_some = omega (arith, first, old_end, inside.old_some);
        new_some = omega (arith, first, new_end, inside.new_some);
        judged = subst (λ (n : ℕ). IsJudgedAgain n p.indentation (found_by config rows ks) all) (sym old_end) (judged_as p.indentation indentation);
        told = told;
        all_after = after_is;
        shown = shown_is ∙ shown_upto after kept n says upto put low;
        suppressed = suppressed_is ∙ suppressed_upto after kept n says upto put low;
        below = below;
        fault = fault;
      })
