-- A document that has a fault at a lexeme of a row.
use Rattle.std.proofs.Common.{◌≡◌, ◌+◌, ◌-◌, ◌<◌, ◌++◌, ◌∷◌, [], ℕ, List, Some, ap, arith, length, map, slice_get, subst, sym, ◌∙◌}
use Rattle.std.proofs.lemmas.List.{length-append}
use Rattle.yl_text.specs.declared.position.Pos.{Pos}
use Rattle.yl_lexeme.specs.Lexeme.{LexemeValue}
use Rattle.yl_marks.specs.Keys.{lexeme_at_line}
use Rattle.yl_events.specs.declared.fault.PlacedParseFault.{PlacedParseFault}
use Rattle.yl_events.specs.Event.{start_at, start_of}
use Rattle.yl_events.specs.Faults as parse
use Rattle.yl_config.specs.declared.config.Config.{Config}
use Rattle.yl_record.specs.Records.{RecordValue}
use Rattle.yl_sections.specs.declared.document_judge.DocumentJudge.{DocumentJudge}
use Rattle.yl_sections.specs.declared.section_judge.StoppedDocument.{StoppedDocument}
use Rattle.yl_sections.specs.Judging.{IsLine, IsStopped, Reads, ReadsRows, Stops, StopsIn, spaces_of}
use Rattle.yl_sections.specs.Sections.{lexemes_from, lexemes_of}
use Rattle.yl_sections.proofs.Lines.{has_line}
use Rattle.yl_sections.proofs.RowJudging.{has_some, left_is, line_of_placed, moved, row_line, row_some, some_at}

module _ {A : Type 0} (config : Config) (rs : List RecordValue) (r : RecordValue) (d e : DocumentJudge A) (fault : PlacedParseFault) (line : List LexemeValue) (count n spaces : ℕ) (at : n ≡ length rs)
    (are : line ≡ map (lexeme_at_line n) r.entry.lexemes) (some : 0 < length r.entry.lexemes) (spaces_are : spaces ≡ r.indentation) (long : length line ≡ count) (h : ReadsRows config rs d)
    (stops : (xs : List LexemeValue) (ns : List ℕ) (left : List LexemeValue) → IsLine ns spaces line left → Reads config xs ns (line ++ left) d → Stops config xs ns d.rows.reader.count count fault e)
    (s : StoppedDocument A) (found : s.found.items ≡ e.rows.found.items) (facts : s.facts.items ≡ e.rows.facts.items) (place : s.place ≡ start_at line (fault.place - d.rows.reader.count)) (text : s.text.now ≡ parse.fault_text fault.kind) where
  module _ (more : List RecordValue) where
    abbrev all : List RecordValue
    all = rs ++ r ∷ more

    abbrev left : List LexemeValue
    left = lexemes_from (length rs + 1) more

    reads : Reads config (lexemes_of all) (spaces_of all) (line ++ left) d
    reads = subst (λ (ys : List LexemeValue). Reads config (lexemes_of all) (spaces_of all) ys d) (left_is rs more r n line at are) (h (r ∷ more) (has_some rs more r some))

    stopped : Stops config (lexemes_of all) (spaces_of all) d.rows.reader.count count fault e
    stopped = stops (lexemes_of all) (spaces_of all) left (row_line rs more r n spaces line at spaces_are are some) reads

    within : fault.place - d.rows.reader.count < length line
    within = omega (arith, stopped.there.0, stopped.there.1, long)

    lexeme : (x : LexemeValue) × (slice_get line (fault.place - d.rows.reader.count) ≡ Some x)
    lexeme = some_at line (fault.place - d.rows.reader.count) within

    here : slice_get (lexemes_of all) fault.place ≡ Some lexeme.0
    here =
        ap (λ k. slice_get (lexemes_of all) k) {x = fault.place} {y = d.rows.reader.count + (fault.place - d.rows.reader.count)} (omega (arith, stopped.there.0))
        ∙ (has_line (lexemes_of all) reads.front line left d.rows.reader.count reads.whole reads.read (fault.place - d.rows.reader.count) within ∙ lexeme.1)

    begins : lexeme.0.start ≡ s.place
    begins = sym (place ∙ ap start_of lexeme.1)

    pub on_line : s.place.line ≡ n
    on_line = ap (λ (p : Pos). p.line) (sym begins) ∙ line_of_placed n r.entry.lexemes (fault.place - d.rows.reader.count) lexeme.0 (ap (λ (ys : List LexemeValue). slice_get ys (fault.place - d.rows.reader.count)) (sym are) ∙ lexeme.1)

    is_stopped : IsStopped config all s
    is_stopped = record {
      fault = fault;
      lexeme = lexeme.0;
      told = stopped.fault;
      there = here;
      place = begins;
      text = text;
      found = found ∙ stopped.found;
      facts = facts ∙ stopped.facts;
    }

  pub stopped_in : StopsIn config (rs ++ r ∷ []) s × (s.place.line + 1 ≡ length (rs ++ r ∷ []))
  stopped_in =
      let last : s.place.line ≡ n = on_line [] in
      let count : length (rs ++ r ∷ []) ≡ length rs + 1 = length-append rs (r ∷ []) in (
        record {
          some = row_some rs r some;
          line = omega (arith, last, at, count);
          stopped = λ more. moved rs more r (λ es k. IsStopped config es s) (is_stopped more);
        },
        omega (arith, last, at, count),
      )
