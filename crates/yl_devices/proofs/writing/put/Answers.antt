use Rattle.std.proofs.Common.{rules, refl, ◌≡◌, []}
use Rattle.yl_devices.proofs.Pieces.{front_more, front_after, passes_all, on_err}
use Rattle.yl_devices.proofs.writing.put.Goals as goal

pub returns-in_err-flush-clause-err : goal.returns-in_err-flush-clause-err
returns-in_err-flush-clause-err g c = on_err c.from_residual.result (front_more _ _ c.args.waiting.now.items c.args.piece.now (search rules))

pub returns-in_err-write_piece-clause-err : goal.returns-in_err-write_piece-clause-err
returns-in_err-write_piece-clause-err g c =
    on_err c.from_residual-in_err-write_piece.result
    (front_after _ _ _ c.args.waiting.now.items c.args.piece.now _ refl (search rules) c.in_err-write_piece.ensures.err)

pub returns-in_ok-write_piece-clause-ok : goal.returns-in_ok-write_piece-clause-ok
returns-in_ok-write_piece-clause-ok g c =
    let none : c.try_extend_from_slice-2.new.self.items ≡ [] = search rules in
    passes_all _ _ _ c.args.waiting.now.items c.args.piece.now _ (search rules) none c.in_ok-write_piece.ensures.ok
