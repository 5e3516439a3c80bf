use Rattle.std.proofs.Common.{◌≡◌, ℕ, List, ◌++◌, codes, ap, ◌∙◌, subst}
use Rattle.json.specs.Print.{quoted}
use Rattle.yl_devices.proofs.Pieces.{on_err}
use Rattle.yl_frames.proofs.Outcomes.{fault_then, ok_then}
use Rattle.yl_lsp.specs.Messages.{encoding_name}
use Rattle.yl_lsp.proofs.Written.{result_front, result_written}
use Rattle.yl_lsp.proofs.message.InitializeResultBody.put.Goals as goal

pub returns-in_err-put_parts-clause-err : goal.returns-in_err-put_parts-clause-err
returns-in_err-put_parts-clause-err g c =
    let r = c.args.self.now in
    let name : c.as_bytes.result.now ≡ encoding_name r.encoding = c.as_bytes.ensures.value ∙ c.encoding_name.ensures in
    let end = quoted r.version.now ++ codes "}}" in
    on_err c.from_residual.result (subst (λ (l : List ℕ). g.P.Pieces.breaks c.args.to.now l c.put_parts.new.to) (ap (λ n. result_front n ++ end) name ∙ result_written r.encoding r.version.now)
    (g.met.P.Pieces.broken_before _ _ _ end c.in_err-put_parts.ensures.err))

pub returns-in_err-put_text-clause-err : goal.returns-in_err-put_text-clause-err
returns-in_err-put_text-clause-err g c =
    let laws = g.met.P.Pieces in
    let r = c.args.self.now in
    let name : c.as_bytes.result.now ≡ encoding_name r.encoding = c.as_bytes.ensures.value ∙ c.encoding_name.ensures in
    let end = quoted r.version.now ++ codes "}}" in
    on_err c.from_residual-in_err-put_text.result (subst (λ (l : List ℕ). g.P.Pieces.breaks c.args.to.now l c.put_text.new.to) (ap (λ n. result_front n ++ end) name ∙ result_written r.encoding r.version.now)
    (laws.broken_after _ _ _ _ _ c.in_ok-put_parts.ensures.ok (laws.broken_before _ _ _ (codes "}}") c.in_err-put_text.ensures.err)))

pub returns-clause-ok : goal.returns-clause-ok
returns-clause-ok g c =
    let laws = g.met.P.Pieces in
    let r = c.args.self.now in
    let name : c.as_bytes.result.now ≡ encoding_name r.encoding = c.as_bytes.ensures.value ∙ c.encoding_name.ensures in
    let end = quoted r.version.now ++ codes "}}" in
    ok_then c.put.result c.put.ensures.ok (λ q. subst (λ (l : List ℕ). g.P.Pieces.puts c.args.to.now l c.put.new.self) (ap (λ n. result_front n ++ end) name ∙ result_written r.encoding r.version.now)
    (laws.joined _ _ _ _ _ c.in_ok-put_parts.ensures.ok (laws.joined _ _ _ _ _ c.in_ok-put_text.ensures.ok q)))

pub returns-clause-err : goal.returns-clause-err
returns-clause-err g c =
    let laws = g.met.P.Pieces in
    let r = c.args.self.now in
    let name : c.as_bytes.result.now ≡ encoding_name r.encoding = c.as_bytes.ensures.value ∙ c.encoding_name.ensures in
    let end = quoted r.version.now ++ codes "}}" in
    fault_then c.put.result c.put.ensures.err (λ q. subst (λ (l : List ℕ). g.P.Pieces.breaks c.args.to.now l c.put.new.self) (ap (λ n. result_front n ++ end) name ∙ result_written r.encoding r.version.now)
    (laws.broken_after _ _ _ _ _ c.in_ok-put_parts.ensures.ok (laws.broken_after _ _ _ _ _ c.in_ok-put_text.ensures.ok q)))
