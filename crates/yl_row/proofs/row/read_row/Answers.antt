use Rattle.std.proofs.Common.{◌≡◌, ◌&&◌, ◌+◌, ap, sym, ◌∙◌, drop, eqb, false}
use Rattle.yl_lexeme.specs.Surroundings.{surroundings_value}
use Rattle.yl_lexeme.specs.Known.{new_row, no_surroundings}
use Rattle.yl_row.specs.Step.{bad_in}
use Rattle.yl_row.specs.Entries.{comment_or, comment_of}
use Rattle.yl_row.specs.Run.{row_reading_by}
use Rattle.yl_row.specs.Rows.{behind_sign, reading_with_lexemes, reading_after}
use Rattle.yl_row.proofs.RowSteps.{at_comment, at_lexeme, at_sign, behind_column, read_from, rest_of}
use Rattle.yl_row.proofs.row.read_row.Goals as goal
use Rattle.yl_row.proofs.row.read_row.Goals.{then-fresh, else-fresh}

pub loop-at-init : goal.loop-at-init
loop-at-init g c = λ rows.
    let begins : c.if-fresh.behind_space ≡ (c.args.fresh && eqb c.args.skip 0) = elim c.if-fresh.branch [ then-fresh w ↦ rw w.if-fresh.true w.behind_space-is | else-fresh w ↦ rw w.if-fresh.false (w.behind_space-is ∙ w.if-fresh.false) ] in
    ap (reading_with_lexemes c.args.lexemes.now.items) (read_from rows c.args.tab c.args.fresh (surroundings_value c.args.surroundings.now) c.args.skip c.args.fresh c.args.row.now
    ∙ ap (λ b. row_reading_by rows c.args.tab 0 b c.args.fresh c.args.skip (surroundings_value c.args.surroundings.now) (drop c.args.skip c.args.row.now)) (sym begins))

pub returns-then-begins_comment-clause-read : goal.returns-then-begins_comment-clause-read
returns-then-begins_comment-clause-read g c = λ rows.
    c.loop-at.invariant rows
    ∙ ap (reading_with_lexemes c.loop-at.lexemes.items) (at_comment rows c.args.tab c.loop-at.behind_space c.loop-at.first c.loop-at.at (surroundings_value c.loop-at.surroundings) c.args.row.now c.index-row-at.result c.loop-at-test.true c.index-row-at.is (sym c.is_white.ensures ∙ c.if-is_white.false) (sym c.begins_comment.ensures ∙ c.if-begins_comment.true)
    ∙ ap (λ cs. comment_or (comment_of c.loop-at.at cs) (new_row (surroundings_value c.loop-at.surroundings)) no_surroundings (bad_in c.loop-at.at cs)) (sym (rest_of c.args.row.now c.loop-at.at))
    ∙ c.in_ok-end.ensures.read rows c.args.tab c.args.row.now (surroundings_value c.loop-at.surroundings))

pub returns-then-begins_comment-clause-rests : goal.returns-then-begins_comment-clause-rests
returns-then-begins_comment-clause-rests g c = c.in_ok-end.ensures.rests c.args.row.now

pub returns-in-Some-2-clause-read : goal.returns-in-Some-2-clause-read
returns-in-Some-2-clause-read g c = λ rows.
    c.loop-at.invariant rows
    ∙ ap (reading_with_lexemes c.loop-at.lexemes.items) (at_sign rows c.args.tab c.loop-at.behind_space c.loop-at.first c.loop-at.at (surroundings_value c.loop-at.surroundings) c.args.row.now c.index-row-at.result c.loop-at-test.true c.index-row-at.is
    (surroundings_value c.reach.new.self) c.in_ok-reach.ensures (sym c.is_white.ensures ∙ c.if-is_white.false) (sym c.begins_comment.ensures ∙ c.if-begins_comment.false) c.in-Some.kind c.in-Some.ensures.kind)
    ∙ c.in_ok-fault.ensures (λ skip k. row_reading_by rows c.args.tab skip false false (c.loop-at.at + 1) k (drop (c.loop-at.at + 1) c.args.row.now))
    ∙ ap (λ r. reading_with_lexemes c.take_sign.new.lexemes.items (behind_sign (surroundings_value c.take_sign.new.surroundings) (λ skip k. row_reading_by rows c.args.tab skip false false (c.loop-at.at + 1) k (drop (c.loop-at.at + 1) c.args.row.now)) r)) c.in-Some-2.is

pub loop-at-preserved-in-Some : goal.loop-at-preserved-in-Some
loop-at-preserved-in-Some g c = λ rows.
    c.loop-at.invariant rows
    ∙ ap (reading_with_lexemes c.loop-at.lexemes.items) (at_sign rows c.args.tab c.loop-at.behind_space c.loop-at.first c.loop-at.at (surroundings_value c.loop-at.surroundings) c.args.row.now c.index-row-at.result c.loop-at-test.true c.index-row-at.is
    (surroundings_value c.reach.new.self) c.in_ok-reach.ensures (sym c.is_white.ensures ∙ c.if-is_white.false) (sym c.begins_comment.ensures ∙ c.if-begins_comment.false) c.in-Some.kind c.in-Some.ensures.kind)
    ∙ c.in_ok-fault.ensures (λ skip k. row_reading_by rows c.args.tab skip false false (c.loop-at.at + 1) k (drop (c.loop-at.at + 1) c.args.row.now))
    ∙ ap (λ r. reading_with_lexemes c.take_sign.new.lexemes.items (behind_sign (surroundings_value c.take_sign.new.surroundings) (λ skip k. row_reading_by rows c.args.tab skip false false (c.loop-at.at + 1) k (drop (c.loop-at.at + 1) c.args.row.now)) r)) c.in_default-2.is

pub returns-in-Opens-clause-read : goal.returns-in-Opens-clause-read
returns-in-Opens-clause-read g c = λ rows.
    c.loop-at.invariant rows
    ∙ ap (reading_with_lexemes c.loop-at.lexemes.items) (at_lexeme rows c.args.tab c.loop-at.behind_space c.loop-at.first c.loop-at.at (surroundings_value c.loop-at.surroundings) c.args.row.now c.index-row-at.result c.loop-at-test.true c.index-row-at.is
    (surroundings_value c.reach.new.self) c.in_ok-reach.ensures (sym c.is_white.ensures ∙ c.if-is_white.false) (sym c.begins_comment.ensures ∙ c.if-begins_comment.false))
    ∙ c.in_ok-column.ensures.read rows (λ skip k. row_reading_by rows c.args.tab skip false false (c.loop-at.at + 1) k (drop (c.loop-at.at + 1) c.args.row.now))
    ∙ ap (λ r. reading_with_lexemes c.lexeme.new.lexemes.items (reading_after rows c.loop-at.at (surroundings_value c.lexeme.new.surroundings) (λ skip k. row_reading_by rows c.args.tab skip false false (c.loop-at.at + 1) k (drop (c.loop-at.at + 1) c.args.row.now)) r)) c.in-Opens.is

pub returns-in-Stops-clause-read : goal.returns-in-Stops-clause-read
returns-in-Stops-clause-read g c = λ rows.
    c.loop-at.invariant rows
    ∙ ap (reading_with_lexemes c.loop-at.lexemes.items) (at_lexeme rows c.args.tab c.loop-at.behind_space c.loop-at.first c.loop-at.at (surroundings_value c.loop-at.surroundings) c.args.row.now c.index-row-at.result c.loop-at-test.true c.index-row-at.is
    (surroundings_value c.reach.new.self) c.in_ok-reach.ensures (sym c.is_white.ensures ∙ c.if-is_white.false) (sym c.begins_comment.ensures ∙ c.if-begins_comment.false))
    ∙ c.in_ok-column.ensures.read rows (λ skip k. row_reading_by rows c.args.tab skip false false (c.loop-at.at + 1) k (drop (c.loop-at.at + 1) c.args.row.now))
    ∙ ap (λ r. reading_with_lexemes c.lexeme.new.lexemes.items (reading_after rows c.loop-at.at (surroundings_value c.lexeme.new.surroundings) (λ skip k. row_reading_by rows c.args.tab skip false false (c.loop-at.at + 1) k (drop (c.loop-at.at + 1) c.args.row.now)) r)) c.in-Stops.is

pub loop-at-preserved : goal.loop-at-preserved
loop-at-preserved g c = λ rows.
    c.loop-at.invariant rows
    ∙ ap (reading_with_lexemes c.loop-at.lexemes.items) (at_lexeme rows c.args.tab c.loop-at.behind_space c.loop-at.first c.loop-at.at (surroundings_value c.loop-at.surroundings) c.args.row.now c.index-row-at.result c.loop-at-test.true c.index-row-at.is
    (surroundings_value c.reach.new.self) c.in_ok-reach.ensures (sym c.is_white.ensures ∙ c.if-is_white.false) (sym c.begins_comment.ensures ∙ c.if-begins_comment.false))
    ∙ c.in_ok-column.ensures.read rows (λ skip k. row_reading_by rows c.args.tab skip false false (c.loop-at.at + 1) k (drop (c.loop-at.at + 1) c.args.row.now))
    ∙ ap (λ r. reading_with_lexemes c.lexeme.new.lexemes.items (reading_after rows c.loop-at.at (surroundings_value c.lexeme.new.surroundings) (λ skip k. row_reading_by rows c.args.tab skip false false (c.loop-at.at + 1) k (drop (c.loop-at.at + 1) c.args.row.now)) r)) c.in-Behind.is
    ∙ ap (reading_with_lexemes c.lexeme.new.lexemes.items) (behind_column rows c.args.tab false (surroundings_value c.lexeme.new.surroundings) c.in-Behind.column c.loop-at.at c.args.row.now
    ∙ ap (λ n. row_reading_by rows c.args.tab 0 false false n (surroundings_value c.lexeme.new.surroundings) (drop n c.args.row.now)) (sym c.max-at.ensures))
