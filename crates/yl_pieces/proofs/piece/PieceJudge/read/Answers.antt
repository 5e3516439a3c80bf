use Rattle.std.proofs.Common.{◌≡◌, true, false, [], ◌∷◌, Option, inl, inr, refl, subst, arith, rules, tests}
use Rattle.std.specs.Prelude.{is_some}
use Rattle.yl_pieces.specs.declared.piece.PieceFault.{PieceFault}
use Rattle.yl_pieces.specs.Piece.{IsAfter}
use Rattle.yl_pieces.proofs.EventsOfRow.{row_held, row_stopped}
use Rattle.yl_pieces.proofs.PieceMore.{comments_more, going, has_stopped, line_more, now_stopped, stopped_more}
use Rattle.yl_pieces.proofs.piece.PieceJudge.read.Goals as goal

pub returns-then-is_some-clause-judged : goal.returns-then-is_some-clause-judged
returns-then-is_some-clause-judged g c = λ config s rs h.
    let j = c.args.self.now in
    let some : is_some j.fault ≡ true = search (rules, tests) in
    inr (stopped_more config s rs c.args.row.now j (has_stopped config s rs j some h))

pub returns-then-is_some-clause-events : goal.returns-then-is_some-clause-events
returns-then-is_some-clause-events g c = λ config s rs h.
    let j = c.args.self.now in
    let r = c.args.row.now in
    let some : is_some j.fault ≡ true = search (rules, tests) in
    let stopped = has_stopped config s rs j some h in
    row_stopped s rs r j stopped.fault (stopped.there (r ∷ []))

pub returns-in-Some-2-clause-judged : goal.returns-in-Some-2-clause-judged
returns-in-Some-2-clause-judged g c = λ config s rs h.
    let j = c.args.self.now in
    let r = c.args.row.now in
    let none : is_some j.fault ≡ false = search (rules, tests) in
    let go = going config s rs j none h in
    let after = c.in_ok-fault.ensures.judged config s go.rows.from rs go.line go.rows.go_on go.rows.read in
    inr (now_stopped config s rs r _ c.in-Some-2.fault (subst (λ (o : Option PieceFault). IsAfter o config s go.rows.from rs r c.read_row.new.rows) c.in-Some-2.is after) go.comments refl)

pub returns-in-Some-2-clause-events : goal.returns-in-Some-2-clause-events
returns-in-Some-2-clause-events g c = λ config s rs h.
    let j = c.args.self.now in
    let r = c.args.row.now in
    let none : is_some j.fault ≡ false = search (rules, tests) in
    let go = going config s rs j none h in
    let after = c.in_ok-fault.ensures.judged config s go.rows.from rs go.line go.rows.go_on go.rows.read in
    let stops = subst (λ (o : Option PieceFault). IsAfter o config s go.rows.from rs r c.read_row.new.rows) c.in-Some-2.is after in
    row_stopped s rs r _ stops.fault (stops.there [])

pub returns-clause-judged : goal.returns-clause-judged
returns-clause-judged g c = λ config s rs h.
    let j = c.args.self.now in
    let r = c.args.row.now in
    let none : is_some j.fault ≡ false = search (rules, tests) in
    let go = going config s rs j none h in
    let after = c.in_ok-fault.ensures.judged config s go.rows.from rs go.line go.rows.go_on go.rows.read in
    inl (record {
      none = go.none;
      line = line_more rs r j.line c.in-Some.next go.line (omega (arith, c.in-Some.ensures));
      rows = record { from = go.rows.from; go_on = go.rows.go_on; read = subst (λ (o : Option PieceFault). IsAfter o config s go.rows.from rs r c.read_row.new.rows) c.in_default-2.is after };
      comments = comments_more rs r j.comments c.read.new.self j.line go.line go.comments c.in_ok-read.ensures.last c.in_ok-read.ensures.comment;
    })

pub returns-clause-events : goal.returns-clause-events
returns-clause-events g c = λ config s rs h sound.
    let j = c.args.self.now in
    let r = c.args.row.now in
    let none : is_some j.fault ≡ false = search (rules, tests) in
    let go = going config s rs j none h in
    let told = c.in_ok-fault.ensures.events config s go.rows.from rs go.line go.rows.go_on go.rows.read c.in_default-2.is in
    row_held s rs r _ j.line (omega (arith, c.in-Some.ensures)) told
