-- The report of a text, by records that are kept behind a scan fault.
use Rattle.std.proofs.Common.{◌≡◌, ◌++◌, ℕ, List, [], ◌∷◌, map, length, take, drop, refl, ap, sym, ◌∙◌, Option, Some, None}
use Rattle.std.proofs.lemmas.List.{map-append}
use Rattle.std.specs.List.{AllByRecursion}
use Rattle.yl_text.specs.declared.position.Pos.{Pos}
use Rattle.yl_text.specs.Finding.{FindingValue}
use Rattle.yl_text.specs.Lines.{RowValue}
use Rattle.yl_text.specs.Store.{end_of_lines}
use Rattle.yl_config.specs.declared.config.Config.{Config}
use Rattle.yl_config.specs.Config.{options_of}
use Rattle.yl_record.specs.Records.{RecordValue, characters_in, records}
use Rattle.yl_sections.specs.Sections.{sections}
use Rattle.yl_sections.specs.Kept.{KeptValue}
use Rattle.yl_sections.specs.Judge.{kept_of_section}
use Rattle.yl_lint.specs.TextReport.{findings_in_lines, first_text, report_of_kept}
use Rattle.yl_lint.specs.Computed.{report}
use Rattle.yl_rescan.specs.Held.{AreHeld, IsCutAt}
use Rattle.yl_rescan.proofs.Cut.{fails, held_sections, quiet, stops_at, true_sections}
use Rattle.yl_sections.proofs.Quiet.{IsQuietRow, kept_longer}
use Rattle.yl_sections.proofs.QuietSections.{grown, grown_behind}
use Rattle.yl_session.proofs.HeldShown.{longer, longer_behind, same_report}
use Rattle.yl_rescan.proofs.Stops.{sections_here}

-- what is kept of sections of which the last has quiet rows more
kept_behind : (config : Config) (qs s : List RecordValue) (ss : List (List RecordValue)) → AllByRecursion IsQuietRow qs
    → map (kept_of_section config) (grown_behind qs s ss) ≡ longer_behind (length qs) (kept_of_section config s) (map (kept_of_section config) ss)
kept_behind config qs s [] h = ap (λ (k : KeptValue). k ∷ []) (kept_longer config s qs h)
kept_behind config qs s (t ∷ ss) h = ap (λ (ks : List KeptValue). kept_of_section config s ∷ ks) (kept_behind config qs t ss h)

pub kept_grown : (config : Config) (qs : List RecordValue) (ss : List (List RecordValue)) → AllByRecursion IsQuietRow qs
    → map (kept_of_section config) (grown qs ss) ≡ longer (length qs) (map (kept_of_section config) ss)
kept_grown config qs [] h = refl
kept_grown config qs (s ∷ ss) h = kept_behind config qs s ss h

-- ---- records that are cut

cut_report : (t : List (List ℕ)) (cut : ℕ) (rs : List RecordValue) (config : Config) (in_lines : List FindingValue) (first : List ℕ) (end : Pos) → IsCutAt t cut rs
    → report_of_kept config in_lines first end (map (kept_of_section config) (sections rs)) ≡ report_of_kept config in_lines first end (map (kept_of_section config) (sections (records t)))
cut_report t cut rs config in_lines first end c =
    let stopped = stops_at t cut rs c in
    let f = kept_of_section config in
    let above = sections (take cut (records t)) in
    let below = drop cut (records t) in
    let ks = map f above in
    let more = map f (sections (drop cut rs)) in
    let held : map f (sections rs) ≡ ks ++ more = ap (map f) (held_sections t cut rs c) ∙ map-append f above (sections (drop cut rs)) in
    let whole : map f (sections (records t)) ≡ longer (length below) ks = ap (map f) (true_sections t cut stopped) ∙ kept_grown config below above (quiet t cut stopped) in
    ap (report_of_kept config in_lines first end) held
    ∙ (same_report config in_lines first end (length below) ks more (sections_here config above (fails t cut stopped)) ∙ ap (report_of_kept config in_lines first end) (sym whole))

-- the report of a text is that of the records that are kept of it
held_by : (config : Config) (rows : List RowValue) (cut : Option ℕ) (rs : List RecordValue) (in_lines : List FindingValue) (first : List ℕ) (end : Pos) → AreHeld (characters_in rows) cut rs
    → report_of_kept config in_lines first end (map (kept_of_section config) (sections rs)) ≡ report_of_kept config in_lines first end (map (kept_of_section config) (sections (records (characters_in rows))))
held_by config rows None rs in_lines first end h = ap (λ (es : List RecordValue). report_of_kept config in_lines first end (map (kept_of_section config) (sections es))) h
held_by config rows (Some cut) rs in_lines first end h = cut_report (characters_in rows) cut rs config in_lines first end h

pub held_report : (config : Config) (rows : List RowValue) (cut : Option ℕ) (rs : List RecordValue) → AreHeld (characters_in rows) cut rs
    → report_of_kept config (findings_in_lines (options_of config) rows) (first_text rows) (end_of_lines rows) (map (kept_of_section config) (sections rs)) ≡ report config rows
unfolding report
held_report config rows cut rs h = held_by config rows cut rs (findings_in_lines (options_of config) rows) (first_text rows) (end_of_lines rows) h
