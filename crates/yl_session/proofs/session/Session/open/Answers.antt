use Rattle.std.proofs.Common.{◌≡◌, ◌≤◌, ℕ, List, None, length, map, ap, refl, subst, sym, ◌∙◌}
use Rattle.yl_text.specs.declared.TheConstants.{MAX_BYTES}
use Rattle.yl_text.specs.Fault.{IsText}
use Rattle.yl_text.specs.Lines.{RowValue, IsLines}
use Rattle.yl_text.specs.Store.{AreLines}
use Rattle.yl_config.specs.declared.config.Config.{Config}
use Rattle.yl_record.specs.Records.{RecordValue}
use Rattle.yl_sections.specs.Judge.{kept_of_section}
use Rattle.yl_sections.specs.Kept.{KeptValue}
use Rattle.yl_sections.specs.Sections.{sections}
use Rattle.yl_lint.specs.TextReport.{records_of}
use Rattle.yl_lint.specs.Computed.{kept_of_text, report}
use Rattle.yl_problem_lists.specs.Parts.{PartsValue}
use Rattle.yl_found.specs.Found.{all_parts}
use Rattle.yl_lint.proofs.Reported.{is_report}
use Rattle.yl_session.proofs.Parts.{shown_is_report}
use Rattle.yl_session.proofs.session.Session.open.Goals as goal

-- rows that are the lines of a text
are_lines : (t : List ℕ) (rows stored : List RowValue) → stored ≡ rows → IsLines t rows → IsText t → AreLines stored
are_lines t rows stored same lines text =
    let P : List ℕ → Type 0 = λ u. IsLines u rows in
    let S : List ℕ → Type 0 = λ u. length u ≤ MAX_BYTES in
    subst AreLines (sym same) (record { lines = subst P (sym lines.joined) lines; short = subst S (sym lines.joined) text.short })

-- what is kept of a text's sections is kept by its records
kept_by : {rs : List RecordValue} {ks : List KeptValue} (config : Config) (ps : List RowValue) → rs ≡ records_of ps → ks ≡ kept_of_text config ps → ks ≡ map (kept_of_section config) (sections rs)
kept_by config ps records kept = kept ∙ ap (λ (es : List RecordValue). map (kept_of_section config) (sections es)) (sym records)

-- what is shown is the report
shown_first : {rs : List RecordValue} {ks : List KeptValue} {found : PartsValue} (config : Config) (ps : List RowValue) → rs ≡ records_of ps → ks ≡ kept_of_text config ps → found ≡ all_parts config ps ks → found.shown ≡ report config ps
shown_first {rs = rs} {ks = ks} config ps records kept found = ap (λ (qs : PartsValue). qs.shown) found ∙ shown_is_report config ps None rs ks records (kept_by config ps records kept)

pub invariant_of-result : goal.invariant_of-result
invariant_of-result g c =
    let config = c.args.config in
    let rows = g.S.Lines.rows c.in-Ok.store in
    let begun = c.in-Ok-begin.ensures in (
      are_lines c.args.bytes.now c.in_ok-rows.rows.items rows c.in-Ok.ensures.ok c.in_ok-rows.ensures.lines c.in_ok-rows.ensures.text,
      begun.records,
      kept_by config rows begun.records begun.kept,
      shown_first config rows begun.records begun.kept begun.found,
      begun.overviews,
      begun.found,
    )

pub returns-clause-shown : goal.returns-clause-shown
returns-clause-shown g c =
    let P : List RowValue → Type 0 = λ rows. IsLines c.args.bytes.now rows in
    let config = c.args.config in
    let rows = g.S.Lines.rows c.in-Ok.store in
    let begun = c.in-Ok-begin.ensures in
    record { config = refl; lines = subst P (sym c.in-Ok.ensures.ok) c.in_ok-rows.ensures.lines; problems = is_report config rows c.in-Ok-begin.begun.found.shown.items (c.one_report.ensures.computed config rows) (shown_first config rows begun.records begun.kept begun.found) }
