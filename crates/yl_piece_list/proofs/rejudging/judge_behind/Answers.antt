use Rattle.std.proofs.Common.{◌+◌, ◌-◌}
use Rattle.yl_rejudge.specs.Places.{changed_sections}
use Rattle.yl_piece_list.proofs.ShorterPiece.{behind_kept}
use Rattle.yl_piece_list.proofs.rejudging.judge_behind.Goals as goal

pub returns-clause-kept : goal.returns-clause-kept
returns-clause-kept g c = λ x there.
    let y = c.in_ok-shorter_piece.field-0 in
    behind_kept c.args.config.now x (record { kept = y.kept; before = y.before }) (c.args.from - c.args.last.row)
    (changed_sections (c.args.last.section + 1) c.args.from c.args.z c.args.records.now)
    c.in_ok-judged.judged.items c.new-all.result.items c.push.new.self.items c.append.new.self.items
    (c.in_ok-shorter_piece.ensures x there) c.in_ok-judged.ensures.kept c.new-all.ensures.items c.in_ok-push.ensures.items c.in_ok-append.ensures.items
