use Rattle.std.proofs.Common.{◌∙◌, List, ap}
use Rattle.yl_lexeme.specs.Lexeme.{LexemeValue}
use Rattle.yl_sections.specs.Sections.{is_section_start, last_kind_from}
use Rattle.yl_sections.proofs.SectionsJudging.{counted_next, judged_next}
use Rattle.yl_sections.proofs.judging.SectionsJudge.read.Goals as goal

pub returns-clause-judged : goal.returns-clause-judged
returns-clause-judged g c = λ rs h.
    let self = c.args.self.now in
    let r = c.args.row.now in
    judged_next c.args.config.now rs r self (record { alloc = self.alloc; last = c.last_kind-self.result; judge = c.read.new.self; kept = c.turn.new.kept }) c.turn.new.judge c.is_section_start-starts.result h
    (c.is_section_start-starts.ensures ∙ ap (λ (ys : List LexemeValue). is_section_start self.last ys) c.lexemes.ensures)
    (c.last_kind-self.ensures ∙ ap (λ (ys : List LexemeValue). last_kind_from self.last ys) c.lexemes-2.ensures)
    c.in_ok-turn.ensures.turns c.in_ok-turn.ensures.stays c.in_ok-read.ensures.judged

pub returns-clause-documents : goal.returns-clause-documents
returns-clause-documents g c = λ rs h.
    let self = c.args.self.now in
    let r = c.args.row.now in
    counted_next c.args.config.now rs r self (record { alloc = self.alloc; last = c.last_kind-self.result; judge = c.read.new.self; kept = c.turn.new.kept }) c.turn.new.judge c.is_section_start-starts.result h
    (c.is_section_start-starts.ensures ∙ ap (λ (ys : List LexemeValue). is_section_start self.last ys) c.lexemes.ensures)
    (c.last_kind-self.ensures ∙ ap (λ (ys : List LexemeValue). last_kind_from self.last ys) c.lexemes-2.ensures)
    c.in_ok-turn.ensures.turns c.in_ok-turn.ensures.stays c.args.meter.now.documents c.read.new.meter.documents c.in_ok-read.ensures.documents
