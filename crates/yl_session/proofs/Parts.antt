-- What a session keeps of what is found in a text stays where the lines are read alike; what is shown of it is the text's report.
use Rattle.std.proofs.Common.{◌≡◌, ℕ, Bool, true, List, map, ap, sym, subst, ◌∙◌}
use Rattle.std.specs.Prelude.{Option, Some, None, Vec, MatchOption, slice_get}
use Rattle.yl_text.specs.declared.position.Pos.{Pos}
use Rattle.yl_text.specs.Finding.{FindingValue}
use Rattle.yl_text.specs.Lines.{RowValue}
use Rattle.yl_text.specs.Store.{end_of_lines}
use Rattle.yl_config.specs.declared.config.Config.{Config}
use Rattle.yl_config.specs.Config.{levels_of, options_of}
use Rattle.yl_report.specs.Directive.{disables_file, is_silenced}
use Rattle.yl_report.specs.Heard.{nothing_silenced}
use Rattle.yl_record.specs.Records.{RecordValue, characters_in}
use Rattle.yl_report.specs.Report.{report_of}
use Rattle.yl_sections.specs.Judge.{kept_of_section}
use Rattle.yl_sections.specs.Kept.{KeptValue, rows_kept}
use Rattle.yl_sections.specs.Sections.{sections}
use Rattle.yl_rescan.specs.Held.{AreHeld}
use Rattle.yl_lint.specs.TextReport.{comments_in_sections, fault_in_sections, findings_in_lines, first_text, report_by, shown}
use Rattle.yl_lint.specs.Computed.{report}
use Rattle.yl_lint.specs.Unsilenced.{unsilenced_of_kept}
use Rattle.yl_summary.specs.Overview.{AreOverviews}
use Rattle.yl_summary.specs.declared.overview.Overview.{Overview}
use Rattle.yl_problem_lists.specs.Parts.{PartsValue, parted, with_fault, without_fault}
use Rattle.yl_problem_lists.specs.Changes.{patch_in, patched}
use Rattle.yl_problem_lists.specs.Rooms.{IsReadyFor}
use Rattle.yl_problem_lists.specs.declared.change.Change.TheVariants.{Patch, Stay}
use Rattle.yl_problem_lists.specs.declared.change.LinesPatch.{LinesPatch}
use Rattle.yl_problem_lists.specs.Showing.{shows}
use Rattle.yl_found.specs.Faultless.{faultless}
use Rattle.yl_found.specs.Found.{all_parts}
use Rattle.yl_found.proofs.ReportShown.{report_shown}
use Rattle.yl_found.proofs.SectionsPlain.{kept_plain}
use Rattle.yl_edited_lines.specs.Alike.{AreReadAlike}
use Rattle.yl_session.specs.Known.{AreOverviewsAfter}
use Rattle.yl_session.specs.Parts.{Makes}
use Rattle.yl_session.proofs.HeldReport.{held_report}

-- by what is found in the lines, the first of them and where they end
abbrev parts_by : Config → List FindingValue → List ℕ → Pos → List KeptValue → PartsValue
parts_by config found first end ks =
    with_fault (slice_get (report_of (levels_of config) (disables_file first) nothing_silenced (fault_in_sections 0 end ks)) 0)
    (parted (λ p. shows (disables_file first) (is_silenced (comments_in_sections 0 (shown ks))) (rows_kept (shown ks)) p) (unsilenced_of_kept config found end (faultless ks)))

parts_alike : (config : Config) (old new : List RowValue) (ks : List KeptValue) → AreReadAlike config old new → all_parts config new ks ≡ all_parts config old ks
parts_alike config old new ks h =
    ap (λ (fs : List FindingValue). parts_by config fs (first_text new) (end_of_lines new) ks) h.found
    ∙ (ap (λ (t : List ℕ). parts_by config (findings_in_lines (options_of config) old) t (end_of_lines new) ks) h.first
    ∙ ap (λ (p : Pos). parts_by config (findings_in_lines (options_of config) old) (first_text old) p ks) h.end)

-- where the lines are read alike and the same is kept, nothing becomes of the problems
pub stays : {A : Type 0} (config : Config) (old new : List RowValue) (ks ls : List KeptValue) → AreReadAlike config old new → ls ≡ ks → Makes {A = A} config old new ks ls Stay
stays config old new ks ls alike same = record { ready = tt; parts = sym (ap (all_parts config new) same ∙ parts_alike config old new ks alike) }

-- and a patch that is ready makes of both lists those of the edited text
pub patches : {A : Type 0} (config : Config) (rows new : List RowValue) (ks ls : List KeptValue) (p : LinesPatch A) → IsReadyFor p (all_parts config rows ks)
    → with_fault p.fault (patched (patch_in p) (without_fault (all_parts config rows ks))) ≡ all_parts config new ls → Makes config rows new ks ls (Patch p)
patches config rows new ks ls p ready parts = record { ready = ready; parts = parts }

-- where the lines and what is kept are the same
pub parts_same : (config : Config) (ps qs : List RowValue) (ks ls : List KeptValue) (found : PartsValue) → ps ≡ qs → ls ≡ ks → found ≡ all_parts config ps ks → found ≡ all_parts config qs ls
parts_same config ps qs ks ls found lines same h = h ∙ (ap (λ (xs : List RowValue). all_parts config xs ks) lines ∙ ap (all_parts config qs) (sym same))

-- ---- what is shown

-- the report is what is shown, whatever is kept of what stands below a fault
pub shown_is_report : (config : Config) (ps : List RowValue) (cut : Option ℕ) (rs : List RecordValue) (ks : List KeptValue) → AreHeld (characters_in ps) cut rs → ks ≡ map (kept_of_section config) (sections rs)
    → (all_parts config ps ks).shown ≡ report config ps
shown_is_report config ps cut rs ks held is =
    sym (report_shown config ps ks (kept_plain config (sections rs) ks is)) ∙ (ap (λ (ls : List KeptValue). report_by config ps ls) is ∙ held_report config ps cut rs held)

-- ---- what is known of sections

-- the old overviews stay where the sections do
pub known_after : {A : Type 0} (o : Option (Vec Overview A)) (stay : Bool) (ks us ls : List KeptValue) (os : List Overview) → AreOverviews ks os → (stay ≡ true → ls ≡ ks) → us ≡ ls → MatchOption o (stay ≡ true) (λ v. AreOverviews us v.items)
    → AreOverviewsAfter ls os o
known_after None stay ks us ls os known same is h = subst (λ (xs : List KeptValue). AreOverviews xs os) (sym (same h)) known
known_after (Some v) stay ks us ls os known same is h = subst (λ (xs : List KeptValue). AreOverviews xs v.items) is h
