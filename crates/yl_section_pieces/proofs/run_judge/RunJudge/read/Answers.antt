use Rattle.std.proofs.Common.{◌≡◌, ◌++◌, ◌∷◌, ◌∙◌, [], List, None, ap, map, sym}
use Rattle.yl_events.specs.Event.{EventValue}
use Rattle.yl_pieces.specs.Events.{events_in, without_anchor}
use Rattle.yl_pieces.specs.Told.{fault_in}
use Rattle.yl_section_pieces.proofs.RunsJudged.{no_fault, row_more}
use Rattle.yl_section_pieces.proofs.run_judge.RunJudge.read.Goals as goal

pub returns-then-has_fault : goal.returns-then-has_fault
returns-then-has_fault g c = λ config o s openings rs was sound. absurd (cc)

pub returns : goal.returns
returns g c = λ config o s openings rs was sound.
    let r = c.args.row.now in
    let judged = c.in_ok-read.ensures.judged config s rs was.rows in
    let none : fault_in s 1 (rs ++ r ∷ []) ≡ None = no_fault _ _ (c.has_fault.ensures config s (rs ++ r ∷ []) judged) c.if-has_fault.false in
    let more = map without_anchor c.events-events.result in
    let told : events_in s 1 (rs ++ r ∷ []) ≡ events_in s 1 rs ++ more =
    c.in_ok-read.ensures.events config s rs was.rows none ∙ ap (λ (es : List EventValue). events_in s 1 rs ++ map without_anchor es) (sym c.events-events.ensures) in
    row_more config o s openings rs r more told c.args.self.now _ was judged none (λ t es is. c.in_ok-push_events.ensures.names t es is) (λ es all finds. c.in_ok-push_events.ensures.rules es all finds)
