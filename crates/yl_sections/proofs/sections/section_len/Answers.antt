use Rattle.std.proofs.Common.{sym, ◌∙◌}
use Rattle.yl_sections.proofs.Rows.{counted_here, counted_more}
use Rattle.yl_sections.proofs.sections.section_len.Goals as goal

pub returns-then-is_section_start-clause-count : goal.returns-then-is_section_start-clause-count
returns-then-is_section_start-clause-count g c =
    counted_here c.args.records.now c.loop-i.i c.index-records-i.result c.loop-i-test.true c.index-records-i.is c.loop-i.last c.lexemes-lexemes.result.now _ c.lexemes-lexemes.ensures
    (sym c.is_section_start.ensures ∙ c.if-is_section_start.true) c.loop-i.invariant

pub loop-i-preserved : goal.loop-i-preserved
loop-i-preserved g c =
    counted_more c.args.records.now c.loop-i.i c.index-records-i.result c.loop-i-test.true c.index-records-i.is c.loop-i.last c.lexemes-lexemes.result.now c.last_kind-last.result _ c.lexemes-lexemes.ensures
    (sym c.is_section_start.ensures ∙ c.if-is_section_start.false) c.last_kind-last.ensures c.loop-i.invariant
