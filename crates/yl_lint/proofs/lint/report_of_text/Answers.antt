use Rattle.std.proofs.Common.{rules, ◌≡◌, ◌≢◌, ◌∙◌, ◌∷◌, [], refl, ℕ, List, ap, subst, sym, length, arith}
use denote.Enum.Bare.{same_true}
use Rattle.std.specs.Prelude.{IfOk}
use Rattle.yl_text.specs.contracts.row.Break.{the_type}
use Rattle.yl_text.specs.declared.row.Break.TheVariants.{No}
use Rattle.yl_text.specs.Lines.{RowValue, lines_from, lines_of}
use Rattle.yl_text.proofs.Computed.{line}
use Rattle.yl_text.proofs.Cut.{behind_break, behind_none}
use Rattle.yl_record.specs.Records.{characters_in}
use Rattle.yl_lint.specs.Left.{KeepsLeft, lines_left}
use Rattle.yl_lint.specs.TextReport.{first_text}
use Rattle.yl_lint.specs.Computed.{kept_of_text, report}
use Rattle.yl_lint.proofs.Reported.{if_report}
use Rattle.yl_lint.proofs.Passed.{end_more, first_fits, first_short, if_same, report_so, start_end}
use Rattle.yl_lint.proofs.lint.report_of_text.Goals as goal

pub loop-sections-init : goal.loop-sections-init
loop-sections-init g c =
    let rows = lines_of c.args.text.now in
    let r = lines_from c.args.text.now in
    record {
      utf8 = c.utf8.text;
      found = c.start-lines.ensures.left rows;
      kept = c.start-sections.ensures.kept c.args.config.now (characters_in rows);
      end = start_end c.start-lines.result.runs r.0 r.1 c.start-lines.ensures.count c.start-lines.ensures.last;
      whole = c.start-sections.ensures.whole;
      fed = c.start-sections.ensures.fed ∙ sym c.start-lines.ensures.count;
      counted = search rules;
      within = omega (arith, c.start-lines.ensures.count);
    }

pub pass-requires-in-loop-sections-clause-fits : goal.pass-requires-in-loop-sections-clause-fits
pass-requires-in-loop-sections-clause-fits g c =
    let next = c.cut_line-next.result in
    let short = first_fits c.loop-sections.rest.now (line next.line.now next.end) _ c.cut_line-next.ensures.first in
    omega (arith, short, c.loop-sections.invariant.within, c.requires)

pub report_of_read-requires-clause-last : goal.report_of_read-requires-clause-last
report_of_read-requires-clause-last g c =
    let next = c.cut_line-next.result in
    let short = first_short c.loop-sections.rest.now (line next.line.now next.end) _ c.cut_line-next.ensures.first in
    omega (arith, short, c.loop-sections.invariant.within, c.requires, ap (λ (t : List ℕ). length t) c.in_ok-pass.ensures.last)

pub returns-then-eq : goal.returns-then-eq
returns-then-eq g c =
    let config = c.args.config.now in
    let rows = lines_of c.args.text.now in
    let next = c.cut_line-next.result in
    let row = line next.line.now next.end in
    let old = c.loop-sections in
    let lines = c.pass.new.self in
    let sections = c.pass-in-loop-sections.new.self in
    let last : next.end ≡ No = same_true the_type (search rules) _ _ (sym c.if-eq.ensures) in
    let one : lines_of old.rest.now ≡ row ∷ [] = c.cut_line-next.ensures.first ∙ ap (λ (rs : List RowValue). row ∷ rs) (behind_none next.end next.rest.now last) in
    let found = c.in_ok-pass.ensures.left [] ∙ (ap (lines_left old.lines) (sym one) ∙ old.invariant.found) in
    let first = ap first_text c.cut_line.ensures.first in
    let end = end_more old.lines.runs lines.runs next.line.now row [] c.in_ok-pass.ensures.count c.in_ok-pass.ensures.last refl
    ∙ (ap (Rattle.yl_lint.proofs.Passed.end_left old.lines.runs.count old.lines.runs.last) (sym one) ∙ old.invariant.end) in
    let all = kept_of_text config rows in
    let kept = c.in_ok-pass-2.ensures.kept [] all (subst (λ (rs : List RowValue). KeepsLeft config old.sections (characters_in rs) all) one old.invariant.kept) in
    let is : IfOk c.report_of_read.result (λ v. v.items ≡ report config rows) = if_same c.report_of_read.result (λ v. v.items) _ (report config rows) (report_so config rows _ _ _ _ found first end refl) (c.report_of_read.ensures all kept) in
    if_report config rows (λ v. v.items) c.report_of_read.result (c.one_report.ensures.computed config rows) is

pub loop-sections-smaller : goal.loop-sections-smaller
loop-sections-smaller g c =
    let more : c.cut_line-next.result.end ≢ No = search rules in
    c.cut_line-next.ensures.smaller more

pub loop-sections-preserved : goal.loop-sections-preserved
loop-sections-preserved g c =
    let config = c.args.config.now in
    let next = c.cut_line-next.result in
    let row = line next.line.now next.end in
    let rows = lines_of next.rest.now in
    let old = c.loop-sections in
    let more : next.end ≢ No = search rules in
    let some : lines_of old.rest.now ≡ row ∷ rows = c.cut_line-next.ensures.first ∙ ap (λ (rs : List RowValue). row ∷ rs) (behind_break next.end next.rest.now more) in
    record {
      utf8 = c.cut_line-next.ensures.utf8;
      found = c.in_ok-pass.ensures.left rows ∙ (ap (lines_left old.lines) (sym some) ∙ old.invariant.found);
      kept = c.in_ok-pass-2.ensures.kept (characters_in rows) (kept_of_text config (lines_of c.args.text.now)) (subst (λ (rs : List RowValue). KeepsLeft config old.sections (characters_in rs) (kept_of_text config (lines_of c.args.text.now))) some old.invariant.kept);
      end = end_more old.lines.runs c.pass.new.self.runs next.line.now row rows c.in_ok-pass.ensures.count c.in_ok-pass.ensures.last refl
          ∙ (ap (Rattle.yl_lint.proofs.Passed.end_left old.lines.runs.count old.lines.runs.last) (sym some) ∙ old.invariant.end);
      whole = c.in_ok-pass-2.ensures.whole;
      fed = omega (arith, c.in_ok-pass-2.ensures.fed, c.in_ok-pass.ensures.count, old.invariant.fed);
      counted = omega (arith, c.in_ok-pass-2.ensures.lines, c.in_ok-pass.ensures.count, old.invariant.counted);
      within = omega (arith, c.cut_line-next.ensures.smaller more, c.in_ok-pass.ensures.count, old.invariant.within);
    }
