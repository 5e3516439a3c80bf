use Rattle.std.proofs.Common.{◌++◌}
use Rattle.std.specs.Option.{option_map}
use Rattle.json.specs.Print.{quoted}
use Rattle.yl_devices.proofs.Pieces.{on_err}
use Rattle.yl_frames.proofs.Outcomes.{fault_then, ok_then}
use Rattle.yl_lsp.specs.Texts.{version_text}
use Rattle.yl_lsp.proofs.publication.put_address.Goals as goal

pub returns-in_err-put-clause-err : goal.returns-in_err-put-clause-err
returns-in_err-put-clause-err g c =
    on_err c.from_residual.result (g.met.P.Pieces.broken_before _ _ _ (quoted c.args.uri.now ++ version_text (option_map (λ t. t.now) c.args.version)) c.in_err-put.ensures.err)

pub returns-in_err-put_text-clause-err : goal.returns-in_err-put_text-clause-err
returns-in_err-put_text-clause-err g c =
    let laws = g.met.P.Pieces in
    on_err c.from_residual-in_err-put_text.result (laws.broken_after _ _ _ _ _ c.in_ok-put.ensures.ok
    (laws.broken_before _ _ _ (version_text (option_map (λ t. t.now) c.args.version)) c.in_err-put_text.ensures.err))

pub returns-clause-ok : goal.returns-clause-ok
returns-clause-ok g c =
    let laws = g.met.P.Pieces in
    ok_then c.put_version.result c.put_version.ensures.ok (λ q. laws.joined _ _ _ _ _ c.in_ok-put.ensures.ok (laws.joined _ _ _ _ _ c.in_ok-put_text.ensures.ok q))

pub returns-clause-err : goal.returns-clause-err
returns-clause-err g c =
    let laws = g.met.P.Pieces in
    fault_then c.put_version.result c.put_version.ensures.err (λ q. laws.broken_after _ _ _ _ _ c.in_ok-put.ensures.ok (laws.broken_after _ _ _ _ _ c.in_ok-put_text.ensures.ok q))
