use Rattle.std.proofs.Common.{ℕ, List, ◌++◌, codes, subst}
use Rattle.json.specs.Print.{quoted}
use Rattle.yl_devices.proofs.Pieces.{on_err}
use Rattle.yl_frames.proofs.Outcomes.{fault_then, ok_then}
use Rattle.yl_lsp.proofs.Written.{error_written}
use Rattle.yl_lsp.proofs.message.ErrorMessageBody.put.Goals as goal

pub returns-in_err-put-clause-err : goal.returns-in_err-put-clause-err
returns-in_err-put-clause-err g c =
    let text = c.args.self.now.text.now in
    on_err c.from_residual.result (subst (λ (l : List ℕ). g.P.Pieces.breaks c.args.to.now l c.put.new.self) (error_written text)
    (g.met.P.Pieces.broken_before _ _ _ (quoted text ++ codes ",\"type\":1}}") c.in_err-put.ensures.err))

pub returns-in_err-put_text-clause-err : goal.returns-in_err-put_text-clause-err
returns-in_err-put_text-clause-err g c =
    let laws = g.met.P.Pieces in
    let text = c.args.self.now.text.now in
    on_err c.from_residual-in_err-put_text.result (subst (λ (l : List ℕ). g.P.Pieces.breaks c.args.to.now l c.put_text.new.to) (error_written text)
    (laws.broken_after _ _ _ _ _ c.in_ok-put.ensures.ok (laws.broken_before _ _ _ (codes ",\"type\":1}}") c.in_err-put_text.ensures.err)))

pub returns-clause-ok : goal.returns-clause-ok
returns-clause-ok g c =
    let laws = g.met.P.Pieces in
    ok_then c.put-2.result c.put-2.ensures.ok (λ q. subst (λ (l : List ℕ). g.P.Pieces.puts c.args.to.now l c.put-2.new.self) (error_written c.args.self.now.text.now)
    (laws.joined _ _ _ _ _ c.in_ok-put.ensures.ok (laws.joined _ _ _ _ _ c.in_ok-put_text.ensures.ok q)))

pub returns-clause-err : goal.returns-clause-err
returns-clause-err g c =
    let laws = g.met.P.Pieces in
    fault_then c.put-2.result c.put-2.ensures.err (λ q. subst (λ (l : List ℕ). g.P.Pieces.breaks c.args.to.now l c.put-2.new.self) (error_written c.args.self.now.text.now)
    (laws.broken_after _ _ _ _ _ c.in_ok-put.ensures.ok (laws.broken_after _ _ _ _ _ c.in_ok-put_text.ensures.ok q)))
