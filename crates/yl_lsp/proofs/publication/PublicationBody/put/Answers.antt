use Rattle.std.proofs.Common.{ℕ, List, ◌++◌, true, subst}
use Rattle.yl_devices.proofs.Pieces.{on_err}
use Rattle.yl_frames.proofs.Outcomes.{fault_then, ok_then}
use Rattle.yl_lsp.specs.Shown.{publication_value}
use Rattle.yl_lsp.specs.Texts.{address_text, diagnostics_text}
use Rattle.yl_lsp.proofs.Written.{publication_written}
use Rattle.yl_lsp.proofs.publication.PublicationBody.put.Goals as goal

pub returns-in_err-put-clause-err : goal.returns-in_err-put-clause-err
returns-in_err-put-clause-err g c =
    let p = publication_value c.args.self.now in
    on_err c.from_residual.result (subst (λ (l : List ℕ). g.P.Pieces.breaks c.args.to.now l c.put.new.self) (publication_written p)
    (g.met.P.Pieces.broken_before _ _ _ (diagnostics_text true p.diagnostics ++ address_text p.uri p.version) c.in_err-put.ensures.err))

pub returns-in_err-put_content-clause-err : goal.returns-in_err-put_content-clause-err
returns-in_err-put_content-clause-err g c =
    let laws = g.met.P.Pieces in
    let p = publication_value c.args.self.now in
    on_err c.from_residual-in_err-put_content.result (subst (λ (l : List ℕ). g.P.Pieces.breaks c.args.to.now l c.put_content.new.to) (publication_written p)
    (laws.broken_after _ _ _ _ _ c.in_ok-put.ensures.ok (laws.broken_before _ _ _ (address_text p.uri p.version) c.in_err-put_content.ensures.err)))

pub returns-clause-ok : goal.returns-clause-ok
returns-clause-ok g c =
    let laws = g.met.P.Pieces in
    let p = publication_value c.args.self.now in
    ok_then c.put_address.result c.put_address.ensures.ok (λ q. subst (λ (l : List ℕ). g.P.Pieces.puts c.args.to.now l c.put_address.new.to) (publication_written p)
    (laws.joined _ _ _ _ _ c.in_ok-put.ensures.ok (laws.joined _ _ _ _ _ c.in_ok-put_content.ensures.ok q)))

pub returns-clause-err : goal.returns-clause-err
returns-clause-err g c =
    let laws = g.met.P.Pieces in
    let p = publication_value c.args.self.now in
    fault_then c.put_address.result c.put_address.ensures.err (λ q. subst (λ (l : List ℕ). g.P.Pieces.breaks c.args.to.now l c.put_address.new.to) (publication_written p)
    (laws.broken_after _ _ _ _ _ c.in_ok-put.ensures.ok (laws.broken_after _ _ _ _ _ c.in_ok-put_content.ensures.ok q)))
