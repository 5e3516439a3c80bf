-- The text's fault, by the first section with one; and all that is found but it.
use Rattle.std.proofs.Common.{◌≡◌, ℕ, zero, suc, ◌+◌, ◌≤◌, Bool, true, false, List, [], ◌∷◌, ◌++◌, length, take, drop, Option, Some, None, cond, refl, ap, sym, subst, ◌∙◌, arith}
use Rattle.std.specs.Prelude.{is_some, slice_get}
use Rattle.std.specs.List.{AllByRecursion, cons_option, filter, filter_map}
use Rattle.std.specs.Option.{option_map, option_to_list, option_map_or}
use Rattle.std.proofs.lemmas.List.{length-append, take-append-drop, take_all}
use Rattle.std.proofs.lemmas.Option.{slice_get_within}
use Rattle.yl_text.specs.Finding.{FindingValue}
use Rattle.yl_text.specs.Lines.{RowValue}
use Rattle.yl_text.specs.Store.{end_of_lines}
use Rattle.yl_text.specs.declared.finding.RuleId.{RuleId}
use Rattle.yl_text.specs.declared.position.Pos.{Pos}
use Rattle.yl_rules.specs.Levels.{LevelTable}
use Rattle.yl_rules.specs.declared.level.Level.{Level}
use Rattle.yl_indentation.specs.declared.measure.Measure.{Measure}
use Rattle.yl_indentation.specs.Measures.{empty_measure}
use Rattle.yl_config.specs.declared.config.Config.{Config}
use Rattle.yl_config.specs.Config.{levels_of, options_of}
use Rattle.yl_report.specs.Heard.{nothing_silenced}
use Rattle.yl_problem_lists.specs.Parts.{is_no_fault}
use Rattle.yl_report.specs.Report.{ProblemValue, is_reported, report_of, sorted_once, with_level}
use Rattle.yl_sections.specs.Kept.{KeptValue, SectionFaultValue, Here, Behind, rows_kept}
use Rattle.yl_sections.specs.Owned.{section_fault_value}
use Rattle.yl_sections.specs.declared.fault.SectionFault.{SectionFault}
use Rattle.yl_sections.proofs.KeptRows.{got}
use Rattle.yl_lint.specs.TextReport.{fault_in_sections, finding_of_fault, findings_in_lines, findings_in_sections, shown}
use Rattle.yl_lint.specs.Unsilenced.{unsilenced_of_kept}
use Rattle.yl_found.specs.Faultless.{faultless}
use Rattle.yl_found.specs.Found.{all_parts, found_by}
use Rattle.yl_found.specs.Plain.{IsPlain}
use Rattle.yl_summary.specs.Overview.{IsFirstFault, IsSound}
use Rattle.yl_found.proofs.Ready.{no_fault_in, none_shown, none_told}
use Rattle.yl_summary.proofs.Walks.{measured}
use Rattle.yl_edited_lines.proofs.Pushed.{one_at}
use Rattle.yl_found.proofs.ShownSections.{of_sound, shown_sound}
use Rattle.yl_found.proofs.WithoutFaults.{findings_faultless, measured_faultless, sound_faultless}

-- ---- the fault

behind_sound : (line : ℕ) (end : Pos) (xs ys : List KeptValue) → AllByRecursion IsSound xs → fault_in_sections line end (xs ++ ys) ≡ fault_in_sections (line + rows_kept xs) end ys
behind_sound line end [] ys h = ap (λ (n : ℕ). fault_in_sections n end ys) (omega arith)
behind_sound line end (x ∷ xs) ys h =
    ap (λ (f : Option SectionFaultValue). option_map_or (λ f. finding_of_fault line x.rows end (xs ++ ys) f ∷ []) f (fault_in_sections (line + x.rows) end (xs ++ ys))) h.0
    ∙ (behind_sound (line + x.rows) end xs ys h.1 ∙ ap (λ (n : ℕ). fault_in_sections n end ys) (omega arith))

-- it is that of the first section with one
pub fault_first : (ks : List KeptValue) (n row : ℕ) (end : Pos) (k : KeptValue) (f : SectionFaultValue) → IsFirstFault ks n row → slice_get ks n ≡ Some k → k.fault ≡ Some f
    → fault_in_sections 0 end ks ≡ finding_of_fault row k.rows end (drop (n + 1) ks) f ∷ []
fault_first ks n row end k f first e is =
    let line : 0 + rows_kept (take n ks) ≡ row = omega (arith, first.rows) in
    let rest = drop (n + 1) ks in
    ap (fault_in_sections 0 end) (sym (take-append-drop n ks))
    ∙ (behind_sound 0 end (take n ks) (drop n ks) first.upto.sound
    ∙ (ap (λ (m : ℕ). fault_in_sections m end (drop n ks)) line
    ∙ (ap (fault_in_sections row end) (one_at ks n k (slice_get_within ks n k e) (got ks n k e))
    ∙ ap (λ (o : Option SectionFaultValue). option_map_or (λ f. finding_of_fault row k.rows end rest f ∷ []) o (fault_in_sections (row + k.rows) end rest)) is)))

-- where none has one
pub fault_none : (ks : List KeptValue) (n row : ℕ) (end : Pos) → IsFirstFault ks n row → length ks ≤ n → fault_in_sections 0 end ks ≡ []
fault_none ks n row end first l = no_fault_in 0 end ks (subst (λ (xs : List KeptValue). AllByRecursion IsSound xs) (take_all n ks l) first.upto.sound)

pub no_such : {X : Type 0} (ks : List KeptValue) (n row : ℕ) (k : KeptValue) (o : Option SectionFault) → IsFirstFault ks n row → slice_get ks n ≡ Some k → option_map section_fault_value o ≡ k.fault → ((f : SectionFault) → o ≡ Some f → ⊥) → X
no_such ks n row k None first e is none = absurd (not_there (ap is_some is ∙ first.next k e))
  where
    not_there : false ≡ true → ⊥
    not_there e = cc
no_such ks n row k (Some f) first e is none = absurd (none f refl)

-- of the sections behind it the next one alone counts
finding_by_next : (line rows : ℕ) (end : Pos) (k : KeptValue) (xs ys : List KeptValue) (f : SectionFaultValue) → finding_of_fault line rows end (k ∷ xs) f ≡ finding_of_fault line rows end (k ∷ ys) f
finding_by_next line rows end k xs ys (Here p text) = refl
finding_by_next line rows end k xs ys (Behind text) = refl

pub fault_before : (ks : List KeptValue) (n row : ℕ) (end : Pos) (k next : KeptValue) (f : SectionFaultValue) → IsFirstFault ks n row → slice_get ks n ≡ Some k → slice_get ks (n + 1) ≡ Some next → k.fault ≡ Some f
    → fault_in_sections 0 end ks ≡ finding_of_fault row k.rows end (next ∷ []) f ∷ []
fault_before ks n row end k next f first e g is =
    let m = slice_get_within ks (n + 1) next g in
    fault_first ks n row end k f first e is
    ∙ ap (λ (x : FindingValue). x ∷ [])
    (ap (λ (xs : List KeptValue). finding_of_fault row k.rows end xs f) (one_at ks (n + 1) next m (got ks (n + 1) next g)) ∙ finding_by_next row k.rows end next (drop (n + 1 + 1) ks) [] f)

pub fault_last : (ks : List KeptValue) (n row : ℕ) (end : Pos) (k : KeptValue) (f : SectionFaultValue) → IsFirstFault ks n row → slice_get ks n ≡ Some k → length ks ≤ n + 1 → k.fault ≡ Some f
    → fault_in_sections 0 end ks ≡ finding_of_fault row k.rows end [] f ∷ []
fault_last ks n row end k f first e l is =
    fault_first ks n row end k f first e is ∙ ap (λ (xs : List KeptValue). finding_of_fault row k.rows end xs f ∷ []) (none_left ks (n + 1) l)
  where
    none_left : (xs : List KeptValue) (i : ℕ) → length xs ≤ i → drop i xs ≡ []
    none_left [] zero h = refl
    none_left [] (suc i) h = refl
    none_left (x ∷ xs) zero h = absurd (omega (arith, h))
    none_left (x ∷ xs) (suc i) h = none_left xs i (omega (arith, h))

-- ---- what is told of it

abbrev told_at : FindingValue → Option Level → Option ProblemValue
told_at x p = option_map (λ level. record { line = x.line; column = x.column; level = level; rule = x.rule; message = x.message }) p

at_most : (x : FindingValue) (p : Option Level) → length (cons_option (told_at x p) []) ≤ 1
at_most x None = omega arith
at_most x (Some level) = omega arith

told_one : (levels : LevelTable) (x : FindingValue) (b : Bool) → is_reported levels nothing_silenced x ≡ b → length (report_of levels false nothing_silenced (x ∷ [])) ≤ 1
told_one levels x b e =
    let now : report_of levels false nothing_silenced (x ∷ []) ≡ filter_map (with_level levels) (sorted_once (cond b (x ∷ []) [])) =
    ap (λ (c : Bool). filter_map (with_level levels) (sorted_once (cond c (x ∷ []) []))) e in
    let few = by b in
    omega (arith, ap (λ ps. length ps) now, few)
  where
    by : (b : Bool) → length (filter_map (with_level levels) (sorted_once (cond b (x ∷ []) []))) ≤ 1
    by false = omega arith
    by true = at_most x (levels x.rule)

-- at most one problem
pub told_few : (levels : LevelTable) (fs : List FindingValue) → length fs ≤ 1 → length (report_of levels false nothing_silenced fs) ≤ 1
told_few levels [] l = omega arith
told_few levels (x ∷ []) l = told_one levels x _ refl
told_few levels (x ∷ y ∷ fs) l = absurd (omega (arith, l))

pub told_as : (l m : LevelTable) (file : Bool) (s : RuleId → ℕ → Bool) (xs ys : List FindingValue) → l ≡ m → file ≡ false → s ≡ nothing_silenced → xs ≡ ys → report_of l file s xs ≡ report_of m false nothing_silenced ys
told_as l m file s xs ys a b c d = rw (a, b, c, d) refl

-- what is taken from the end of a list of at most one
pub popped : {X : Type 0} (old new : List X) (r : Option X) → length old ≤ 1 → (r ≡ None → length old ≡ 0) → old ≡ new ++ option_to_list r → r ≡ slice_get old 0
popped [] new None l none is = refl
popped (o ∷ os) new None l none is = absurd (omega (arith, none refl))
popped old [] (Some x) l none is = ap (λ ys. slice_get ys 0) (sym is)
popped old (y ∷ ys) (Some x) l none is = absurd (omega (arith, l, ap (λ zs. length zs) is, length-append ys (x ∷ [])))

pub fault_few : (line : ℕ) (end : Pos) (ks : List KeptValue) → length (fault_in_sections line end ks) ≤ 1
fault_few line end [] = omega arith
fault_few line end (k ∷ ks) = by k.fault (fault_few (line + k.rows) end ks)
  where
    by : (o : Option SectionFaultValue) → length (fault_in_sections (line + k.rows) end ks) ≤ 1 → length (option_map_or (λ f. finding_of_fault line k.rows end ks f ∷ []) o (fault_in_sections (line + k.rows) end ks)) ≤ 1
    by None h = h
    by (Some f) h = omega arith

-- none is shown where no section has one
pub told_none : (config : Config) (rows : List RowValue) (ks : List KeptValue) (n row : ℕ) → AllByRecursion IsPlain (faultless ks) → IsFirstFault ks n row → length ks ≤ n → filter is_no_fault (all_parts config rows ks).shown ≡ (all_parts config rows ks).shown
told_none config rows ks n row plain first l = none_shown config rows ks plain (none_told config rows ks (subst (λ (xs : List KeptValue). AllByRecursion IsSound xs) (take_all n ks l) first.upto.sound))

-- ---- all that is found but it

pub found_all : (config : Config) (rows : List RowValue) (ks : List KeptValue)
    → report_of (levels_of config) false nothing_silenced (findings_in_lines (options_of config) rows ++ findings_in_sections (options_of config).indentation (measured ks) 0 empty_measure ks) ≡ found_by config rows ks
unfolding unsilenced_of_kept
found_all config rows ks =
    let o = options_of config in
    let l = levels_of config in
    let qs = faultless ks in
    let sound = sound_faultless ks in
    let whole = shown_sound qs (of_sound qs sound) in
    let end = end_of_lines rows in
    sym (ap (λ (fs : List FindingValue). report_of l false nothing_silenced (findings_in_lines o rows ++ (fs ++ findings_in_sections o.indentation (measured (shown qs)) 0 empty_measure (shown qs)))) (no_fault_in 0 end qs sound)
    ∙ (ap (λ (seen : List KeptValue). report_of l false nothing_silenced (findings_in_lines o rows ++ findings_in_sections o.indentation (measured seen) 0 empty_measure seen)) whole
    ∙ (ap (λ (w : Measure). report_of l false nothing_silenced (findings_in_lines o rows ++ findings_in_sections o.indentation w 0 empty_measure qs)) (measured_faultless ks)
    ∙ ap (λ (fs : List FindingValue). report_of l false nothing_silenced (findings_in_lines o rows ++ fs)) (findings_faultless o.indentation (measured ks) 0 empty_measure ks))))
