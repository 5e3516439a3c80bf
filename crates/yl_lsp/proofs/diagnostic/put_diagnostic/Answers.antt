use Rattle.yl_devices.proofs.Pieces.{on_err}
use Rattle.yl_frames.proofs.Outcomes.{fault_then, ok_then}
use Rattle.yl_lsp.specs.Texts.{head_text, tail_text}
use Rattle.yl_lsp.proofs.diagnostic.put_diagnostic.Goals as goal

pub returns-in_err-put_text-clause-err : goal.returns-in_err-put_text-clause-err
returns-in_err-put_text-clause-err g c =
    let laws = g.met.P.Pieces in
    let d = c.args.diagnostic.now in
    on_err c.from_residual-in_err-put_text.result (laws.broken_after _ _ _ (head_text d.code) _ c.in_ok-put_head.ensures.ok (laws.broken_before _ _ _ (tail_text d.range d.severity) c.in_err-put_text.ensures.err))

pub returns-clause-ok : goal.returns-clause-ok
returns-clause-ok g c =
    let laws = g.met.P.Pieces in
    ok_then c.put_tail.result c.put_tail.ensures.ok (λ q. laws.joined _ _ _ _ _ c.in_ok-put_head.ensures.ok (laws.joined _ _ _ _ _ c.in_ok-put_text.ensures.ok q))

pub returns-clause-err : goal.returns-clause-err
returns-clause-err g c =
    let laws = g.met.P.Pieces in
    fault_then c.put_tail.result c.put_tail.ensures.err (λ q. laws.broken_after _ _ _ _ _ c.in_ok-put_head.ensures.ok (laws.broken_after _ _ _ _ _ c.in_ok-put_text.ensures.ok q))
