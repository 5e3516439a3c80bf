use Rattle.std.proofs.Common.{rules, Err, ◌≡◌, ◌≢◌, ℕ, List, sym, ◌∙◌, ap}
use Rattle.yl_text.specs.declared.row.Break.{Break}
use Rattle.yl_text.specs.declared.row.Break.TheVariants.{No}
use Rattle.yl_text.specs.Lines.{RowValue, lines_of}
use Rattle.yl_text.specs.Split.{lines_behind}
use Rattle.yl_text.proofs.Cut.{behind_break, behind_none}
use Rattle.yl_project.specs.Texts.{with_lines}
use Rattle.yl_project.proofs.Adding.{with_lines-fails, with_lines-first, with_lines-none}
use Rattle.yl_project.proofs.texts.add_lines.Goals as goal

abbrev line : List ℕ → Break → RowValue
line text end = record { text = text; end = end }

pub returns-in_err-add_line : goal.returns-in_err-add_line
returns-in_err-add_line g c =
    let first = c.cut_line-first.result in
    let same : c.from_residual.result ≡ Err c.in_err-add_line.field-0.0 = search rules in
    rw same (λ is_bad. sym c.loop-rest.invariant.same
    ∙ with_lines-fails c.loop-rest.patterns (line first.line.now first.end) (lines_behind first.end first.rest.now) (lines_of c.loop-rest.rest.now) c.cut_line-first.ensures.first (c.in_err-add_line.ensures is_bad))

pub returns-then-eq : goal.returns-then-eq
returns-then-eq g c =
    let first = c.cut_line-first.result in
    let new = c.add_line.new.patterns in
    let last : first.end ≡ No = search rules in
    sym c.loop-rest.invariant.same
    ∙ (sym (with_lines-first c.loop-rest.patterns new (line first.line.now first.end) (lines_behind first.end first.rest.now) (lines_of c.loop-rest.rest.now) c.cut_line-first.ensures.first c.in_ok-add_line.ensures)
    ∙ with_lines-none new (lines_behind first.end first.rest.now) (behind_none first.end first.rest.now last))

pub loop-rest-smaller : goal.loop-rest-smaller
loop-rest-smaller g c =
    let more : c.cut_line-first.result.end ≢ No = search rules in
    c.cut_line-first.ensures.smaller more

pub loop-rest-preserved : goal.loop-rest-preserved
loop-rest-preserved g c =
    let first = c.cut_line-first.result in
    let new = c.add_line.new.patterns in
    let more : first.end ≢ No = search rules in
    record {
      utf8 = c.cut_line-first.ensures.utf8;
      same = ap (λ (lines : List RowValue). with_lines new lines) (sym (behind_break first.end first.rest.now more))
          ∙ (with_lines-first c.loop-rest.patterns new (line first.line.now first.end) (lines_behind first.end first.rest.now) (lines_of c.loop-rest.rest.now) c.cut_line-first.ensures.first c.in_ok-add_line.ensures
          ∙ c.loop-rest.invariant.same);
    }
