-- The report of a text is what is shown of all that is found in it, with the fault in its place.
use Rattle.std.proofs.Common.{◌≡◌, ℕ, ◌+◌, Bool, true, false, List, [], ◌∷◌, ◌++◌, Option, Some, None, refl, ap, sym, subst, ◌∙◌, arith, ◌⊎◌, inl, inr, append-nil}
use Rattle.std.specs.Prelude.{◌&&◌, not, nat_lt, slice_get}
use Rattle.std.specs.List.{AllByRecursion, filter}
use Rattle.std.proofs.lemmas.Bool.{lt-ltb, le-ltb}
use Rattle.std.proofs.lemmas.List.{map-append}
use Rattle.std.proofs.lemmas.List.Elements.{filter-append}
use Rattle.std.specs.Option.{option_map_or}
use Rattle.yl_text.proofs.Every.{all_back, all_front, all_then}
use Rattle.yl_text.specs.Finding.{FindingValue}
use Rattle.yl_text.specs.Lines.{RowValue}
use Rattle.yl_text.specs.Store.{end_of_lines}
use Rattle.yl_text.specs.declared.finding.RuleId.{RuleId}
use Rattle.yl_text.specs.declared.finding.RuleId.TheVariants.{Syntax}
use Rattle.yl_text.specs.declared.position.Pos.{Pos}
use Rattle.yl_rules.specs.Levels.{LevelTable}
use Rattle.yl_indentation.specs.declared.options.IndentationOptions.{IndentationOptions}
use Rattle.yl_indentation.specs.Measures.{and_later, empty_measure}
use Rattle.yl_config.specs.declared.config.Config.{Config}
use Rattle.yl_config.specs.Config.{levels_of, options_of}
use Rattle.yl_report.specs.Directive.{disables_file, is_silenced}
use Rattle.yl_report.specs.Heard.{is_heard, nothing_silenced}
use Rattle.yl_report.specs.Report.{ProblemValue, is_syntax, report_of}
use Rattle.yl_report.proofs.Heard.{heard_report}
use Rattle.yl_sections.specs.Kept.{KeptValue, SectionFaultValue, Here, Behind, unless_fault, rows_kept}
use Rattle.yl_lint.specs.Onward.{onward_in_sections}
use Rattle.yl_lint.specs.TextReport.{comments_in_sections, fault_in_sections, findings_in_lines, findings_in_sections, first_text, report_by, report_of_kept, shown, finding_of_fault}
use Rattle.yl_lint.specs.Unsilenced.{unsilenced_of_kept}
use Rattle.yl_lint.proofs.Onward.{whole_looks_back}
use Rattle.yl_problem_lists.specs.Parts.{parted, with_fault}
use Rattle.yl_problem_lists.specs.Showing.{is_hidden, is_of_lines, shows}
use Rattle.yl_problem_lists.proofs.Faults.{fault_comes}
use Rattle.yl_problem_lists.proofs.Ordered.{filter_all, filter_none}
use Rattle.yl_found.specs.Faultless.{faultless, faultless_one}
use Rattle.yl_found.specs.Found.{all_parts, fault_told, found_by}
use Rattle.yl_found.specs.Plain.{IsPlain, is_of_section}
use Rattle.yl_found.proofs.RuleKinds.{AreOf, in_lines_of, in_sections_of, lines_no_fault, section_no_fault, section_not_lines}
use Rattle.yl_lint.proofs.LineParts.{Between}
use Rattle.yl_found.proofs.Passing.{filter_both, filter_report}
use Rattle.yl_found.proofs.Sections.{no_fault, sections_between, sections_both, shown_plain}
use Rattle.yl_summary.proofs.Walks.{measured}
use Rattle.yl_found.proofs.WithoutFaults.{onward_faultless, rows_faultless}

-- ---- sections that are shown, and those behind the first with a fault

abbrev behind_fault : Option SectionFaultValue → List KeptValue → List KeptValue → List KeptValue
behind_fault None ks later = later
behind_fault (Some f) ks later = ks

abbrev pub hidden : List KeptValue → List KeptValue
hidden [] = []
hidden (k ∷ ks) = behind_fault k.fault ks (hidden ks)

pub shown_and_hidden : (ks : List KeptValue) → shown ks ++ hidden ks ≡ ks
shown_and_hidden [] = refl
shown_and_hidden (k ∷ ks) = ap (λ (ls : List KeptValue). k ∷ ls) (one_shown k.fault (shown ks) (hidden ks) ks (shown_and_hidden ks))
  where
    one_shown : (f : Option SectionFaultValue) (xs ys ls : List KeptValue) → xs ++ ys ≡ ls → unless_fault f xs ++ behind_fault f ls ys ≡ ls
    one_shown None xs ys ls e = e
    one_shown (Some f) xs ys ls e = refl

-- ---- as if none had a fault

pub faultless_both : (ks : List KeptValue) → faultless ks ≡ faultless (shown ks) ++ faultless (hidden ks)
faultless_both ks = ap faultless (sym (shown_and_hidden ks)) ∙ map-append faultless_one (shown ks) (hidden ks)

plain_both : (ks : List KeptValue) → AllByRecursion IsPlain (faultless ks) → AllByRecursion IsPlain (faultless (shown ks) ++ faultless (hidden ks))
plain_both ks plain = subst (λ (ls : List KeptValue). AllByRecursion IsPlain ls) (faultless_both ks) plain

pub plain_shown : (ks : List KeptValue) → AllByRecursion IsPlain (faultless ks) → AllByRecursion IsPlain (faultless (shown ks))
plain_shown ks plain = all_front IsPlain (faultless (shown ks)) (faultless (hidden ks)) (plain_both ks plain)

pub plain_hidden : (ks : List KeptValue) → AllByRecursion IsPlain (faultless ks) → AllByRecursion IsPlain (faultless (hidden ks))
plain_hidden ks plain = all_back IsPlain (faultless (shown ks)) (faultless (hidden ks)) (plain_both ks plain)

-- ---- the text's fault

-- there is none, or one, of rule `syntax`
pub fault_of_all : (line : ℕ) (end : Pos) (ks : List KeptValue) → (fault_in_sections line end ks ≡ []) ⊎ ((x : FindingValue) × (fault_in_sections line end ks ≡ x ∷ []) × (x.rule ≡ Syntax))
fault_of_all line end [] = inl refl
fault_of_all line end (k ∷ ks) = by k.fault (fault_of_all (line + k.rows) end ks)
  where
    by : (f : Option SectionFaultValue) → (fault_in_sections (line + k.rows) end ks ≡ []) ⊎ ((x : FindingValue) × (fault_in_sections (line + k.rows) end ks ≡ x ∷ []) × (x.rule ≡ Syntax))
        → (option_map_or (λ f. finding_of_fault line k.rows end ks f ∷ []) f (fault_in_sections (line + k.rows) end ks) ≡ []) ⊎ ((x : FindingValue) × (option_map_or (λ f. finding_of_fault line k.rows end ks f ∷ []) f (fault_in_sections (line + k.rows) end ks) ≡ x ∷ []) × (x.rule ≡ Syntax))
    by None later = later
    by (Some (Here p text)) later = inr (_, refl, refl)
    by (Some (Behind text)) later = inr (_, refl, refl)

-- ---- what is hidden

-- as of problems
abbrev is_left : ℕ → FindingValue → Bool
is_left last f = not (not (is_of_lines f.rule) && nat_lt last f.line)

lines_left : (last : ℕ) (fs : List FindingValue) → AreOf is_of_lines fs → AllByRecursion (λ f. is_left last f ≡ true) fs
lines_left last [] h = tt
lines_left last (f ∷ fs) h = (ap (λ b. not (not b && nat_lt last f.line)) h.0, lines_left last fs h.1)

upto_left : (last : ℕ) (fs : List FindingValue) → Between 0 last fs → AllByRecursion (λ f. is_left last f ≡ true) fs
upto_left last [] h = tt
upto_left last (f ∷ fs) h = (ap (λ b. not (not (is_of_lines f.rule) && b)) (le-ltb last f.line h.0.1) ∙ left (is_of_lines f.rule), upto_left last fs h.1)
  where
    left : (b : Bool) → not (not b && false) ≡ true
    left true = refl
    left false = refl

none_left : (last high : ℕ) (fs : List FindingValue) → Between last high fs → AreOf is_of_section fs → AllByRecursion (λ f. is_left last f ≡ false) fs
none_left last high [] h k = tt
none_left last high (f ∷ fs) h k =
    (ap (λ b. not (not b && nat_lt last f.line)) (section_not_lines f.rule k.0) ∙ ap (λ b. not b) (lt-ltb last f.line h.0.0), none_left last high fs h.1 k.1)

-- ---- the report

never : (ps : List ProblemValue) → filter (λ p. false) ps ≡ []
never [] = refl
never (p ∷ ps) = never ps

module _ (levels : LevelTable) (s : RuleId → ℕ → Bool) (last high : ℕ) (in_lines above behind : List FindingValue)
    (lines : AreOf is_of_lines in_lines) (low : Between 0 last above) (sections : AreOf is_of_section above) (far : Between last high behind) (sections' : AreOf is_of_section behind) where
  abbrev found : List ProblemValue
  found = report_of levels false nothing_silenced (in_lines ++ (above ++ behind))

  left_of_all : filter (is_left last) (in_lines ++ (above ++ behind)) ≡ in_lines ++ above
  left_of_all =
      let p = is_left last in
      filter-append p in_lines (above ++ behind)
      ∙ (ap (λ (fs : List FindingValue). fs ++ filter p (above ++ behind)) (filter_all p in_lines (lines_left last in_lines lines))
      ∙ ap (λ (fs : List FindingValue). in_lines ++ fs)
      (filter-append p above behind
      ∙ (ap (λ (fs : List FindingValue). fs ++ filter p behind) (filter_all p above (upto_left last above low))
      ∙ (ap (λ (fs : List FindingValue). above ++ fs) (filter_none p behind (none_left last high behind far sections')) ∙ append-nil above))))

  shown_is : filter (shows false s last) found ≡ report_of levels false s (in_lines ++ above)
  shown_is =
      let p = λ (q : ProblemValue). not (is_hidden last q) in
      sym (filter_both (is_heard s) p found)
      ∙ (ap (filter (is_heard s)) (filter_report levels p (is_left last) (λ level f. refl) nothing_silenced (in_lines ++ (above ++ behind)) ∙ ap (report_of levels false nothing_silenced) left_of_all)
      ∙ heard_report levels false s (in_lines ++ above))

  parts_shown : (file : Bool) → (parted (shows file s last) found).shown ≡ report_of levels file s (in_lines ++ above)
  parts_shown true = never found
  parts_shown false = shown_is

  abbrev parts_with : Bool → List FindingValue → List ProblemValue
  parts_with file fs = (with_fault (slice_get (report_of levels file nothing_silenced fs) 0) (parted (shows file s last) found)).shown

  -- with the fault, if there is one
  report_with : (file : Bool) (fs : List FindingValue) → (fs ≡ []) ⊎ ((x : FindingValue) × (fs ≡ x ∷ []) × (x.rule ≡ Syntax)) → report_of levels file s (in_lines ++ (fs ++ above)) ≡ parts_with file fs
  report_with file fs (inl e) = ap (λ (gs : List FindingValue). report_of levels file s (in_lines ++ (gs ++ above))) e ∙ (sym (parts_shown file) ∙ (none file ∙ ap (parts_with file) (sym e)))
    where
      none : (b : Bool) → (parted (shows b s last) found).shown ≡ parts_with b []
      none true = refl
      none false = refl
  report_with file fs (inr (x, e, r)) =
      ap (λ (gs : List FindingValue). report_of levels file s (in_lines ++ (gs ++ above))) e
      ∙ (fault_comes levels file s nothing_silenced x in_lines above (parted (shows file s last) found) (ap is_syntax r)
      (all_then (λ (f : FindingValue). is_of_lines f.rule ≡ true) (λ f. is_syntax f.rule ≡ false) in_lines (λ f h. lines_no_fault f.rule h) lines)
      (all_then (λ (f : FindingValue). is_of_section f.rule ≡ true) (λ f. is_syntax f.rule ≡ false) above (λ f h. section_no_fault f.rule h) sections) (parts_shown file)
      ∙ ap (parts_with file) (sym e))

module _ (config : Config) (rows : List RowValue) (ks : List KeptValue) (plain : AllByRecursion IsPlain (faultless ks)) where
  abbrev oi : IndentationOptions
  oi = (options_of config).indentation

  abbrev in_lines : List FindingValue
  in_lines = findings_in_lines (options_of config) rows

  abbrev top : List KeptValue
  top = faultless (shown ks)

  abbrev rest : List KeptValue
  rest = faultless (hidden ks)

  abbrev last : ℕ
  last = rows_kept (shown ks)

  abbrev above : List FindingValue
  above = onward_in_sections oi 0 empty_measure top

  abbrev behind : List FindingValue
  behind = onward_in_sections oi last (and_later empty_measure (measured top)) rest

  -- all that is found
  pub found_whole : found_by config rows ks ≡ report_of (levels_of config) false nothing_silenced (in_lines ++ onward_in_sections oi 0 empty_measure (faultless ks))
  unfolding unsilenced_of_kept
  found_whole =
      let all = faultless ks in
      let l = levels_of config in
      ap (λ (fs : List FindingValue). report_of l false nothing_silenced (in_lines ++ (fs ++ findings_in_sections oi (measured (shown all)) 0 empty_measure (shown all)))) (no_fault 0 (end_of_lines rows) all plain)
      ∙ (ap (λ (ls : List KeptValue). report_of l false nothing_silenced (in_lines ++ findings_in_sections oi (measured ls) 0 empty_measure ls)) (shown_plain all plain)
      ∙ ap (λ (fs : List FindingValue). report_of l false nothing_silenced (in_lines ++ fs)) (whole_looks_back oi all))

  -- up to the first section with a fault, and behind it
  found_is : found_by config rows ks ≡ report_of (levels_of config) false nothing_silenced (in_lines ++ (above ++ behind))
  found_is =
      found_whole
      ∙ ap (λ (fs : List FindingValue). report_of (levels_of config) false nothing_silenced (in_lines ++ fs))
      (ap (onward_in_sections oi 0 empty_measure) (faultless_both ks) ∙ sections_both oi empty_measure 0 last top rest (omega (arith, rows_faultless (shown ks))))

  report_is : report_by config rows ks ≡ report_of (levels_of config) (disables_file (first_text rows)) (is_silenced (comments_in_sections 0 (shown ks))) (in_lines ++ (fault_in_sections 0 (end_of_lines rows) ks ++ above))
  unfolding report_of_kept
  report_is =
      ap (λ (fs : List FindingValue). report_of (levels_of config) (disables_file (first_text rows)) (is_silenced (comments_in_sections 0 (shown ks))) (in_lines ++ (fault_in_sections 0 (end_of_lines rows) ks ++ fs)))
      (whole_looks_back oi (shown ks) ∙ sym (onward_faultless oi 0 empty_measure (shown ks)))

  low : Between 0 last above
  low = sections_between oi empty_measure 0 last top (plain_shown ks plain) (omega (arith, rows_faultless (shown ks)))

  far : Between last (last + rows_kept rest) behind
  far = sections_between oi (and_later empty_measure (measured top)) last (last + rows_kept rest) rest (plain_hidden ks plain) (omega arith)

  pub report_shown : report_by config rows ks ≡ (all_parts config rows ks).shown
  report_shown =
      let file = disables_file (first_text rows) in
      let s = is_silenced (comments_in_sections 0 (shown ks)) in
      let fs = fault_in_sections 0 (end_of_lines rows) ks in
      report_is
      ∙ (report_with (levels_of config) s last (last + rows_kept rest) in_lines above behind (in_lines_of (options_of config) rows) low (in_sections_of oi 0 empty_measure top (plain_shown ks plain)) far (in_sections_of oi last (and_later empty_measure (measured top)) rest (plain_hidden ks plain))
      file fs (fault_of_all 0 (end_of_lines rows) ks)
      ∙ ap (λ (ps : List ProblemValue). (with_fault (fault_told config rows ks) (parted (shows file s last) ps)).shown) (sym found_is))
