use Rattle.std.proofs.Common.{◌≡◌, ◌+◌, ◌-◌, ◌<◌, ◌^◌, ℕ, List, length, take, drop, arith}
use Rattle.std.proofs.lemmas.List.{length-take}
use Rattle.std.specs.Str.{chars}
use Rattle.yl_units.specs.Places.{IsReached, row_chars}
use Rattle.yl_units.proofs.Counting.{units_most}
use Rattle.yl_units.proofs.Rows.{reached_from, reached_on, short_row, bytes_most}
use Rattle.yl_units.proofs.walk.Reached.go_to.Goals as goal

pub overflow_add-result-2 : goal.overflow_add-result-2
overflow_add-result-2 g c =
    let ps = g.S.Lines.rows c.args.lines.now in
    let from = c.start_before-from.result in
    let w = c.walk_over-walked.result in
    let old = reached_from c.args.encoding ps c.args.self from c.args.line c.requires.reached c.start_before-from.ensures.which in
    let is = reached_on c.args.encoding ps from c.args.line (c.args.col - from.col) w.characters w.byte w.units (chars c.text_from.result.now) c.start_before-from.ensures.at_line old c.text_from.ensures c.walk_over-walked.ensures.characters c.walk_over-walked.ensures.byte c.walk_over-walked.ensures.units in
    let cs = row_chars ps c.args.line in
    let k = from.col + w.characters in
    record { fits = omega (arith, is.byte, bytes_most (take k cs), length-take k cs, short_row ps c.requires.lines c.args.line) }

pub overflow_add-result-3 : goal.overflow_add-result-3
overflow_add-result-3 g c =
    let ps = g.S.Lines.rows c.args.lines.now in
    let from = c.start_before-from.result in
    let w = c.walk_over-walked.result in
    let old = reached_from c.args.encoding ps c.args.self from c.args.line c.requires.reached c.start_before-from.ensures.which in
    let is = reached_on c.args.encoding ps from c.args.line (c.args.col - from.col) w.characters w.byte w.units (chars c.text_from.result.now) c.start_before-from.ensures.at_line old c.text_from.ensures c.walk_over-walked.ensures.characters c.walk_over-walked.ensures.byte c.walk_over-walked.ensures.units in
    let cs = row_chars ps c.args.line in
    let k = from.col + w.characters in
    record { fits = omega (arith, is.units, units_most c.args.encoding (take k cs), bytes_most (take k cs), length-take k cs, short_row ps c.requires.lines c.args.line) }

pub returns-clause-reached : goal.returns-clause-reached
returns-clause-reached g c =
    let ps = g.S.Lines.rows c.args.lines.now in
    let from = c.start_before-from.result in
    let w = c.walk_over-walked.result in
    let old = reached_from c.args.encoding ps c.args.self from c.args.line c.requires.reached c.start_before-from.ensures.which in
    reached_on c.args.encoding ps from c.args.line (c.args.col - from.col) w.characters w.byte w.units (chars c.text_from.result.now) c.start_before-from.ensures.at_line old c.text_from.ensures c.walk_over-walked.ensures.characters c.walk_over-walked.ensures.byte c.walk_over-walked.ensures.units
