-- Sections and their pieces make the same report.
use Rattle.std.proofs.Common.{◌≡◌, ℕ, Bool, true, false, List, ◌++◌, refl, ap, sym, subst, ◌∙◌}
use Rattle.yl_text.specs.declared.position.Pos.{Pos}
use Rattle.yl_text.specs.declared.finding.RuleId.{RuleId}
use Rattle.yl_text.specs.Finding.{FindingValue}
use Rattle.yl_text.specs.Store.{end_of_lines}
use Rattle.yl_lexeme.specs.Lexeme.{PlacedCommentValue}
use Rattle.yl_indentation.specs.declared.measure.Measure.{Measure}
use Rattle.yl_indentation.specs.declared.options.IndentationOptions.{IndentationOptions}
use Rattle.yl_indentation.specs.Measures.{empty_measure}
use Rattle.yl_rules.specs.Levels.{LevelTable}
use Rattle.yl_report.specs.Directive.{disables_file, is_silenced}
use Rattle.yl_report.specs.Report.{report_of}
use Rattle.yl_config.specs.declared.config.Config.{Config}
use Rattle.yl_config.specs.Config.{levels_of, options_of}
use Rattle.yl_sections.specs.Kept.{KeptValue}
use Rattle.yl_lint.specs.Onward.{indentation_in_sections, onward_in_sections, onward_of_kept}
use Rattle.yl_lint.specs.TextReport.{comments_in_sections, fault_in_sections, findings_in_lines, first_text, shown}
use Rattle.yl_lint.proofs.Arranged.{AreSame, arranged_same}
use Rattle.yl_lint.proofs.Onward.{report_looks_back}
use Rattle.yl_piece_reports.specs.Cuts.{AreCutsOf}
use Rattle.yl_piece_reports.specs.Laws.{PiecesReport}
use Rattle.yl_piece_reports.proofs.CutFound.{all_found, found_in}
use Rattle.yl_piece_reports.proofs.CutItems.{AreCut, all_comments, flat}
use Rattle.yl_piece_reports.proofs.CutShown.{all_faults, all_shown}
use Rattle.yl_piece_reports.proofs.Indented.{all_indented, found_apart}
use Rattle.yl_piece_reports.proofs.Same.{same_both, same_is, same_then, same_turned}

-- ---- what is found

all_onward : (o : IndentationOptions) (line : ℕ) (before : Measure) (ks : List KeptValue) (cs : List (List KeptValue)) → AreCut ks cs
    → AreSame (onward_in_sections o line before (flat cs)) (onward_in_sections o line before ks)
all_onward o line before ks cs h =
    let ps = flat cs in
    let xs = found_in line ps ++ indentation_in_sections o line before ps in
    let ys = found_in line ks ++ indentation_in_sections o line before ks in
    same_then (onward_in_sections o line before ps) xs (onward_in_sections o line before ks) (found_apart o line before ps)
    (same_then xs ys (onward_in_sections o line before ks)
    (same_both (found_in line ps) (indentation_in_sections o line before ps) (found_in line ks) (indentation_in_sections o line before ks) (all_found line ks cs h)
    (same_is (indentation_in_sections o line before ps) (indentation_in_sections o line before ks) (all_indented o line before ks cs h)))
    (same_turned (onward_in_sections o line before ks) ys (found_apart o line before ks)))

pub cuts_onward : (o : IndentationOptions) (line : ℕ) (before : Measure) (ks ps : List KeptValue) → AreCutsOf ks ps
    → AreSame (onward_in_sections o line before ps) (onward_in_sections o line before ks)
cuts_onward o line before ks ps h =
    subst (λ (qs : List KeptValue). AreSame (onward_in_sections o line before qs) (onward_in_sections o line before ks)) (sym h.all) (all_onward o line before ks h.cuts h.each)

pub cuts_comments : (line : ℕ) (ks ps : List KeptValue) → AreCutsOf ks ps → comments_in_sections line ps ≡ comments_in_sections line ks
cuts_comments line ks ps h = ap (comments_in_sections line) h.all ∙ all_comments line ks h.cuts h.each

pub cuts_faults : (line : ℕ) (end : Pos) (ks ps : List KeptValue) → AreCutsOf ks ps → fault_in_sections line end ps ≡ fault_in_sections line end ks
cuts_faults line end ks ps h = ap (fault_in_sections line end) h.all ∙ all_faults line end ks h.cuts h.each

pub cuts_shown : (ks ps : List KeptValue) → AreCutsOf ks ps → AreCutsOf (shown ks) (shown ps)
cuts_shown ks ps h = subst (λ (qs : List KeptValue). AreCutsOf (shown ks) (shown qs)) (sym h.all) (all_shown ks h.cuts h.each)

pub cuts_found : (config : Config) (in_lines : List FindingValue) (end : Pos) (ks ps : List KeptValue) → AreCutsOf ks ps
    → AreSame (onward_of_kept config in_lines end ps) (onward_of_kept config in_lines end ks)
cuts_found config in_lines end ks ps h =
    let o = (options_of config).indentation in
    let fault = fault_in_sections 0 end ps in
    let fault' = fault_in_sections 0 end ks in
    let found = onward_in_sections o 0 empty_measure (shown ps) in
    let found' = onward_in_sections o 0 empty_measure (shown ks) in
    same_both in_lines (fault ++ found) in_lines (fault' ++ found') (same_is in_lines in_lines refl)
    (same_both fault found fault' found' (same_is fault fault' (cuts_faults 0 end ks ps h)) (cuts_onward o 0 empty_measure (shown ks) (shown ps) (cuts_shown ks ps h)))

-- ---- the report

pub report_same : (levels : LevelTable) (file : Bool) (s : RuleId → ℕ → Bool) (xs ys : List FindingValue) → AreSame xs ys → report_of levels file s xs ≡ report_of levels file s ys
report_same levels true s xs ys h = refl
report_same levels false s xs ys h = arranged_same levels s xs ys h

pub pieces_report : PiecesReport
pieces_report config rows ks ps h =
    let levels = levels_of config in
    let file = disables_file (first_text rows) in
    let in_lines = findings_in_lines (options_of config) rows in
    let end = end_of_lines rows in
    let found = onward_of_kept config in_lines end ps in
    let found' = onward_of_kept config in_lines end ks in
    report_looks_back config rows ps
    ∙ (ap (λ (cs : List PlacedCommentValue). report_of levels file (is_silenced cs) found) (cuts_comments 0 (shown ks) (shown ps) (cuts_shown ks ps h))
    ∙ (report_same levels file (is_silenced (comments_in_sections 0 (shown ks))) found found' (cuts_found config in_lines end ks ps h)
    ∙ sym (report_looks_back config rows ks)))
