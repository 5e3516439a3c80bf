-- One report, from one kept value for each section.
use Rattle.std.proofs.Common.{◌≡◌, List, [], ◌∷◌, map, refl, ap, sym, subst, ◌∙◌, Result, Ok, Err}
use Rattle.std.specs.Prelude.{IfOk}
use Rattle.yl_text.specs.Lines.{RowValue}
use Rattle.yl_report.specs.Report.{ProblemValue}
use Rattle.yl_config.specs.declared.config.Config.{Config}
use Rattle.yl_record.specs.Records.{RecordValue}
use Rattle.yl_sections.specs.Kept.{KeptValue}
use Rattle.yl_sections.specs.Judge.{KeptIsComputed, kept_of_section}
use Rattle.yl_sections.specs.Laws.{OneKept}
use Rattle.yl_sections.specs.Sections.{sections}
use Rattle.yl_lint.specs.TextReport.{AreKept, IsReport, Reporter, records_of, report_by}
use Rattle.yl_lint.specs.Computed.{ReportIsComputed, kept_of_text, report}
use Rattle.yl_lint.specs.Laws.{HasReport, OneReport}

both : {X : Type 0} (x y : X) (xs ys : List X) → x ≡ y → xs ≡ ys → x ∷ xs ≡ y ∷ ys
both x y xs ys e f = cc

are_one : OneKept → (config : Config) (ss : List (List RecordValue)) (ks ls : List KeptValue) → AreKept config ss ks → AreKept config ss ls → ks ≡ ls
are_one one config [] [] [] h k = refl
are_one one config [] [] (l ∷ ls) h k = absurd k
are_one one config [] (x ∷ ks) ls h k = absurd h
are_one one config (s ∷ ss) [] ls h k = absurd h
are_one one config (s ∷ ss) (x ∷ ks) [] h k = absurd k
are_one one config (s ∷ ss) (x ∷ ks) (l ∷ ls) h k = both x l ks ls (one config s x l h.0 k.0) (are_one one config ss ks ls h.1 k.1)

are_computed : KeptIsComputed → (config : Config) (ss : List (List RecordValue)) → AreKept config ss (map (kept_of_section config) ss)
are_computed computed config [] = tt
are_computed computed config (s ∷ ss) = (computed config s, are_computed computed config ss)

pub one_report : OneKept → OneReport
one_report one config rows xs ys h k =
    h.put ∙ (ap (report_by config rows) (are_one one config (sections (records_of rows)) h.kept k.kept h.are k.are) ∙ sym k.put)

pub computed_report : KeptIsComputed → ReportIsComputed
unfolding report
computed_report computed config rows = record { kept = kept_of_text config rows; are = are_computed computed config (sections (records_of rows)); put = refl }

pub has_report : KeptIsComputed → HasReport
has_report computed config rows = (report config rows, computed_report computed config rows)

-- what is the computed list is the report
pub is_report : (config : Config) (rows : List RowValue) (problems : List ProblemValue) → IsReport config rows (report config rows) → problems ≡ report config rows → IsReport config rows problems
is_report config rows problems h same = subst (IsReport config rows) (sym same) h

pub if_report : {X E : Type 0} (config : Config) (rows : List RowValue) (items : X → List ProblemValue) (r : Result X E) → IsReport config rows (report config rows) → IfOk r (λ v. items v ≡ report config rows)
    → IfOk r (λ v. IsReport config rows (items v))
if_report config rows items (Ok v) h same = is_report config rows (items v) h same
if_report config rows items (Err e) h same = tt

-- what computes the report tells it
abbrev pub reporter : ReportIsComputed → (config : Config) → Reporter config
reporter computed config = record { tells = report config; is = computed config }

-- the one report is the computed one
pub same_report : OneReport → ReportIsComputed → (config : Config) (rows : List RowValue) (problems : List ProblemValue) → IsReport config rows problems → problems ≡ report config rows
same_report one computed config rows problems h = one config rows problems (report config rows) h (computed config rows)
