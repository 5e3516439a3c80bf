-- What the indentation of sections shows is said by the facts up to each place.
use Rattle.std.proofs.Common.{◌≡◌, refl, sym, ◌∙◌, ap, ℕ, ◌+◌, List, [], ◌∷◌, ◌++◌, append_assoc, map, Option, Some, None}
use Rattle.std.proofs.lemmas.Grind.{flat_map-append}
use Rattle.yl_text.specs.Finding.{FindingValue}
use Rattle.yl_text.specs.Store.{end_of_lines}
use Rattle.yl_indentation.specs.declared.measure.Measure.{Measure}
use Rattle.yl_indentation.specs.declared.options.IndentationOptions.{IndentationOptions}
use Rattle.yl_indentation.specs.Measures.{empty_measure, and_later, measure_of}
use Rattle.yl_indentation.proofs.Measured.{and_later_assoc, and_later_unknown, measure_is_local}
use Rattle.yl_indentation.proofs.Onward.{both_count, facts_count, problems_look_back}
use Rattle.yl_report.specs.Directive.{disables_file, is_silenced}
use Rattle.yl_report.specs.Report.{report_of}
use Rattle.yl_config.specs.Config.{levels_of, options_of}
use Rattle.yl_sections.specs.Kept.{KeptValue, SectionFaultValue, unless_fault}
use Rattle.yl_lint.specs.TextReport.{comments_in_sections, facts_in_sections, fault_in_sections, findings_in_lines, findings_in_section, findings_in_sections, first_text, moved, report_of_kept, shown}
use Rattle.yl_lint.specs.Onward.{onward_in_section, onward_in_sections, line_behind, SectionsLookBack, FirstSectionsLookBack, ShownLooksBack, FoundLooksBack, ReportLooksBack}

-- the measure up to the end of a section and of more
measure_through : (before : Measure) (k : KeptValue) (ks : List KeptValue)
    → and_later before (measure_of (facts_in_sections (k ∷ ks))) ≡ and_later (and_later before (measure_of k.facts)) (measure_of (facts_in_sections ks))
measure_through before k ks =
    ap (and_later before) (measure_is_local k.facts (facts_in_sections ks)) ∙ sym (and_later_assoc before (measure_of k.facts) (measure_of (facts_in_sections ks)))

pub sections_look_back : SectionsLookBack
sections_look_back o later line before [] h = refl
sections_look_back o later line before (k ∷ ks) h =
    let next = and_later before (measure_of k.facts) in
    let more = measure_of (facts_in_sections ks) in
    let rest = findings_in_sections o (and_later (and_later next more) later) (line + k.rows) next ks in
    ap (λ (m : Measure). findings_in_sections o (and_later m later) line before (k ∷ ks)) (measure_through before k ks)
    ∙ (ap (λ (m : Measure). findings_in_section o m line before k ++ rest) (and_later_assoc next more later)
    ∙ (ap (λ (zs : List FindingValue). map (moved line) (k.found ++ zs) ++ rest) (problems_look_back o before (and_later more later) k.facts h)
    ∙ ap (λ (zs : List FindingValue). onward_in_section o line before k ++ zs) (sections_look_back o later (line + k.rows) next ks (both_count before (measure_of k.facts) h (facts_count k.facts)))))

-- by the measure of a text's sections
pub whole_looks_back : (o : IndentationOptions) (ks : List KeptValue) → findings_in_sections o (measure_of (facts_in_sections ks)) 0 empty_measure ks ≡ onward_in_sections o 0 empty_measure ks
whole_looks_back o ks =
    ap (λ (m : Measure). findings_in_sections o m 0 empty_measure ks) (sym (and_later_unknown (measure_of (facts_in_sections ks)))) ∙ sections_look_back o empty_measure 0 empty_measure ks (facts_count [])

measure_both : (ks ls : List KeptValue) → measure_of (facts_in_sections (ks ++ ls)) ≡ and_later (measure_of (facts_in_sections ks)) (measure_of (facts_in_sections ls))
measure_both ks ls = ap measure_of (flat_map-append (λ (k : KeptValue). k.facts) ks ls) ∙ measure_is_local (facts_in_sections ks) (facts_in_sections ls)

pub onward_both : (o : IndentationOptions) (line : ℕ) (before : Measure) (ks ls : List KeptValue)
    → onward_in_sections o line before (ks ++ ls) ≡ onward_in_sections o line before ks ++ onward_in_sections o (line_behind line ks) (and_later before (measure_of (facts_in_sections ks))) ls
onward_both o line before [] ls = ap (λ (m : Measure). onward_in_sections o line m ls) (sym (and_later_unknown before))
onward_both o line before (k ∷ ks) ls =
    let next = and_later before (measure_of k.facts) in
    let here = onward_in_section o line before k in
    let more = onward_in_sections o (line + k.rows) next ks in
    ap (λ (zs : List FindingValue). here ++ zs) (onward_both o (line + k.rows) next ks ls)
    ∙ (sym (append_assoc here more (onward_in_sections o (line_behind (line + k.rows) ks) (and_later next (measure_of (facts_in_sections ks))) ls))
    ∙ ap (λ (m : Measure). (here ++ more) ++ onward_in_sections o (line_behind (line + k.rows) ks) m ls) (sym (measure_through before k ks)))

pub first_look_back : FirstSectionsLookBack
first_look_back o ks ls =
    whole_looks_back o (ks ++ ls)
    ∙ (onward_both o 0 empty_measure ks ls
    ∙ ap (λ (zs : List FindingValue). zs ++ onward_in_sections o (line_behind 0 ks) (measure_of (facts_in_sections ks)) ls) (sym (whole_looks_back o ks)))

-- the sections that a fault hides
abbrev behind_fault : Option SectionFaultValue → List KeptValue → List KeptValue → List KeptValue
behind_fault None ks later = later
behind_fault (Some f) ks later = ks

abbrev hidden : List KeptValue → List KeptValue
hidden [] = []
hidden (k ∷ ks) = behind_fault k.fault ks (hidden ks)

one_shown : (f : Option SectionFaultValue) (xs ys ks : List KeptValue) → xs ++ ys ≡ ks → unless_fault f xs ++ behind_fault f ks ys ≡ ks
one_shown None xs ys ks e = e
one_shown (Some f) xs ys ks e = refl

shown_and_hidden : (ks : List KeptValue) → shown ks ++ hidden ks ≡ ks
shown_and_hidden [] = refl
shown_and_hidden (k ∷ ks) = ap (λ (ls : List KeptValue). k ∷ ls) (one_shown k.fault (shown ks) (hidden ks) ks (shown_and_hidden ks))

-- the first sections, by the measure of all and by their own
pub front_looks_back : (o : IndentationOptions) (ks ls : List KeptValue)
    → findings_in_sections o (measure_of (facts_in_sections (ks ++ ls))) 0 empty_measure ks ≡ findings_in_sections o (measure_of (facts_in_sections ks)) 0 empty_measure ks
front_looks_back o ks ls =
    ap (λ (m : Measure). findings_in_sections o m 0 empty_measure ks) (measure_both ks ls)
    ∙ (sections_look_back o (measure_of (facts_in_sections ls)) 0 empty_measure ks (facts_count []) ∙ sym (whole_looks_back o ks))

pub shown_looks_back : ShownLooksBack
shown_looks_back o ks =
    ap (λ (ls : List KeptValue). findings_in_sections o (measure_of (facts_in_sections ls)) 0 empty_measure (shown ks)) (sym (shown_and_hidden ks)) ∙ front_looks_back o (shown ks) (hidden ks)

pub found_looks_back : FoundLooksBack
found_looks_back config in_lines end ks = ap (λ (zs : List FindingValue). in_lines ++ (fault_in_sections 0 end ks ++ zs)) (whole_looks_back (options_of config).indentation (shown ks))

pub report_looks_back : ReportLooksBack
unfolding report_of_kept
report_looks_back config rows ks =
    ap (report_of (levels_of config) (disables_file (first_text rows)) (is_silenced (comments_in_sections 0 (shown ks)))) (found_looks_back config (findings_in_lines (options_of config) rows) (end_of_lines rows) ks)
