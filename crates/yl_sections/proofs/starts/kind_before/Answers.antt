use Rattle.std.proofs.Common.{◌≡◌, ◌+◌, ◌-◌, ◌<◌, ℕ, List, Some, None, length, take, arith, ap, sym, ◌∙◌}
use Rattle.std.specs.List.{slice_get}
use Rattle.yl_lexeme.specs.Lexeme.{LexemeValue}
use Rattle.yl_record.specs.Records.{RecordValue}
use Rattle.yl_sections.specs.Sections.{last_kind_from}
use Rattle.yl_sections.specs.Local.{kind_after}
use Rattle.yl_sections.proofs.KeptRows.{last_step, last_none, last_some}
use Rattle.yl_sections.proofs.starts.kind_before.Goals as goal

-- the row before
step : (es : List RecordValue) (row i : ℕ) (e : RecordValue) (xs : List LexemeValue) → 0 < row → slice_get es (row - 1) ≡ Some e → xs ≡ e.entry.lexemes → kind_after None (take row es) ≡ kind_after None (take i es)
    → last_kind_from (kind_after None (take (row - 1) es)) xs ≡ kind_after None (take i es)
step es row i e xs l at is whole =
    let n : row - 1 + 1 ≡ row = omega (arith, l) in
    ap (λ (ys : List LexemeValue). last_kind_from (kind_after None (take (row - 1) es)) ys) is
    ∙ (sym (last_step None es (row - 1) e at) ∙ (ap (λ k. kind_after None (take k es)) n ∙ whole))

pub returns-then-lexemes-gt0 : goal.returns-then-lexemes-gt0
returns-then-lexemes-gt0 g c =
    let xs = c.lexemes-lexemes.result.now in
    let some : 0 < length xs = omega arith in
    c.last_kind.ensures
    ∙ (sym (last_some (kind_after None (take (c.loop-row.row - 1) c.args.records.now)) xs some)
    ∙ step c.args.records.now c.loop-row.row c.args.i c.get.result.now xs c.loop-row-test.true c.get.ensures c.lexemes-lexemes.ensures c.loop-row.invariant.last)

pub loop-row-preserved : goal.loop-row-preserved
loop-row-preserved g c =
    let xs = c.lexemes-lexemes.result.now in
    record {
      within = omega (arith, c.loop-row.invariant.within);
      last = sym (last_none (kind_after None (take (c.loop-row.row - 1) c.args.records.now)) xs (λ h. omega (arith, h)))
          ∙ step c.args.records.now c.loop-row.row c.args.i c.get.result.now xs c.loop-row-test.true c.get.ensures c.lexemes-lexemes.ensures c.loop-row.invariant.last;
    }
