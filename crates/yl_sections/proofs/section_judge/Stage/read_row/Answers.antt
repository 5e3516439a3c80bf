use Rattle.std.proofs.Common.{◌∙◌, ◌<◌, length, subst, sym}
use Rattle.yl_sections.specs.Judging.{has_begun}
use Rattle.yl_sections.proofs.Lines.{on_ok}
use Rattle.yl_sections.proofs.Sequence.{not_zero}
use Rattle.yl_sections.proofs.Staging.{always, at_empty, begun_ready, commented_so, count_empty, counted_so, documents_if, empty_list}
use Rattle.yl_sections.proofs.section_judge.Stage.read_row.Goals as goal

pub returns-then-is_empty-clause-at : goal.returns-then-is_empty-clause-at
returns-then-is_empty-clause-at g c = λ rs at h.
    at_empty rs c.args.row.now (sym c.lexemes.ensures ∙ empty_list c.lexemes.result.now (sym c.is_empty.ensures ∙ c.if-is_empty.true)) c.args.config.now c.args.self.now h

pub returns-then-is_empty-clause-documents : goal.returns-then-is_empty-clause-documents
returns-then-is_empty-clause-documents g c = λ rs at h.
    count_empty rs c.args.row.now (sym c.lexemes.ensures ∙ empty_list c.lexemes.result.now (sym c.is_empty.ensures ∙ c.if-is_empty.true)) c.args.meter.now.documents

pub returns-clause-at : goal.returns-clause-at
returns-clause-at g c = λ rs at h.
    let left : 0 < length c.lexemes.result.now = not_zero (length c.lexemes.result.now) (sym c.is_empty.ensures ∙ c.if-is_empty.false) in
    let some : 0 < length c.args.row.now.entry.lexemes = subst (λ ys. 0 < length ys) c.lexemes.ensures left in
    c.read.ensures.at c.args.config.now rs at some (begun_ready rs c.args.row.now c.args.config.now c.args.self.now c.begin.new.self c.in_ok-begin.ensures.begun h)

pub returns-clause-commented : goal.returns-clause-commented
returns-clause-commented g c = λ rs at h.
    let left : 0 < length c.lexemes.result.now = not_zero (length c.lexemes.result.now) (sym c.is_empty.ensures ∙ c.if-is_empty.false) in
    let some : 0 < length c.args.row.now.entry.lexemes = subst (λ ys. 0 < length ys) c.lexemes.ensures left in
    on_ok c.read.result (λ keeps. commented_so rs c.args.row.now c.args.config.now c.args.self.now c.begin.new.self c.read.new.self c.in_ok-begin.ensures.begun h keeps)
    (c.read.ensures.comments c.args.config.now rs at some (begun_ready rs c.args.row.now c.args.config.now c.args.self.now c.begin.new.self c.in_ok-begin.ensures.begun h))

pub returns-clause-documents : goal.returns-clause-documents
returns-clause-documents g c = λ rs at h.
    let left : 0 < length c.lexemes.result.now = not_zero (length c.lexemes.result.now) (sym c.is_empty.ensures ∙ c.if-is_empty.false) in
    let some : 0 < length c.args.row.now.entry.lexemes = subst (λ ys. 0 < length ys) c.lexemes.ensures left in
    always c.read.result
    (counted_so rs c.args.row.now c.args.config.now c.args.self.now c.args.meter.now.documents c.begin.new.meter.documents h some (documents_if (has_begun c.args.self.now) c.args.meter.now c.begin.new.meter c.in_ok-begin.ensures.counted))
