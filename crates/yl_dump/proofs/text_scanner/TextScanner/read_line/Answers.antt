use Rattle.std.proofs.Common.{arith, ◌≡◌, ℕ, List, ◌∷◌, ap, ◌∙◌, drop, sym}
use Rattle.std.specs.Str.{chars}
use Rattle.std.proofs.lemmas.Grind.{common_steps}
use Rattle.yl_text.proofs.Computed.{line}
use Rattle.yl_scan.specs.Output.{output_with_step}
use Rattle.yl_scan.specs.Remaining.{remaining_output}
use Rattle.yl_scan.specs.Scanner.{state_before}
use Rattle.yl_scan.specs.Step.{step_value, characters_of}
use Rattle.yl_dump.specs.TextScan.{TextScannerValue, rows_of}
use Rattle.yl_dump.proofs.Rows.{next_fits, next_inside, not_done, characters-next}
use Rattle.yl_text.specs.declared.row.Break.TheVariants.{No}
use Rattle.yl_dump.proofs.text_scanner.TextScanner.read_line.Goals as goal

pub feed_text-requires-clause-fits : goal.feed_text-requires-clause-fits
feed_text-requires-clause-fits g c =
    let s = c.self.inside in
    let rows : rows_of s.is_done s.rest.now ≡ c.args.self.now.rows = ap (λ (v : TextScannerValue). v.rows) c.self.view_is in
    next_fits s.is_done s.rest.now s.scanner.line s.meter.lines c.args.self.now.rows (line c.cut_line-first.result.line.now c.cut_line-first.result.end) _ rows c.requires c.self.invariant c.cut_line-first.ensures.first

pub returns-clause-told : goal.returns-clause-told
returns-clause-told g c =
    let s = c.self.inside in
    let left_over = rows_of c.eq-self-inside.result c.cut_line-first.result.rest.now in
    let rows : rows_of s.is_done s.rest.now ≡ c.args.self.now.rows = ap (λ (v : TextScannerValue). v.rows) c.self.view_is in
    let passed : left_over ≡ drop 1 c.args.self.now.rows = grind (arith, common_steps) steps 40000000 in
    let read = characters-next s.is_done s.rest.now c.args.self.now.rows (line c.cut_line-first.result.line.now c.cut_line-first.result.end) _ left_over rows c.requires c.cut_line-first.ensures.first passed in
    let from = chars c.cut_line-first.result.line.now ∷ characters_of left_over in
    ap (λ (l : List (List ℕ)). remaining_output c.args.self.now.line c.args.self.now.stand l) read
    ∙ ap (λ (v : TextScannerValue). remaining_output v.line v.stand from) (sym c.self.view_is)
    ∙ c.in_ok-step.ensures.told (characters_of left_over)
    ∙ ap (λ (v : TextScannerValue). output_with_step v.line (step_value v.line (state_before v.stand) c.in_ok-step.step) (remaining_output c.feed_text.new.self.line c.feed_text.new.self.stand (characters_of left_over))) c.self.view_is

pub invariant_of-self-2 : goal.invariant_of-self-2
invariant_of-self-2 g c not_last =
    let s = c.self.inside in
    let rows : rows_of s.is_done s.rest.now ≡ c.args.self.now.rows = ap (λ (v : TextScannerValue). v.rows) c.self.view_is in
    let fits = c.self.invariant (not_done s.is_done s.rest.now c.args.self.now.rows rows c.requires) in
    let some : c.cut_line-first.result.end ≡ No → ⊥ = λ e. grind (arith, common_steps, e, not_last, c.eq-self-inside.ensures) in
    next_inside s.scanner.line s.meter.lines s.rest.now c.cut_line-first.result.rest.now c.feed_text.new.self.line c.feed_text.new.meter.lines
    fits (c.cut_line-first.ensures.smaller some) c.in_ok-step.ensures.line (ap (λ m. m.lines) c.in_ok-step.ensures.meter)
