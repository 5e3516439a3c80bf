use Rattle.std.proofs.Common.{ℕ, List, arith, ◌∙◌, subst}
use Rattle.yl_frames.proofs.Outcomes.{fault_then, ok_then}
use Rattle.yl_lsp.proofs.Written.{placed_written}
use Rattle.yl_lsp.proofs.message.PlacedErrorBody.put.Goals as goal

pub returns-clause-ok : goal.returns-clause-ok
returns-clause-ok g c =
    let m = c.args.self.now in
    let whole =
    placed_written m.text.now m.line m.column _ _ _ m.plain (omega arith) (omega arith) c.as_bytes.ensures.value (c.as_bytes-2.ensures.value ∙ c.format.ensures.text) (c.as_bytes-3.ensures.value ∙ c.format-2.ensures.text) in
    ok_then c.put_parts.result c.put_parts.ensures.ok (subst (λ (l : List ℕ). g.P.Pieces.puts c.args.to.now l c.put_parts.new.to) whole)

pub returns-clause-err : goal.returns-clause-err
returns-clause-err g c =
    let m = c.args.self.now in
    let whole =
    placed_written m.text.now m.line m.column _ _ _ m.plain (omega arith) (omega arith) c.as_bytes.ensures.value (c.as_bytes-2.ensures.value ∙ c.format.ensures.text) (c.as_bytes-3.ensures.value ∙ c.format-2.ensures.text) in
    fault_then c.put_parts.result c.put_parts.ensures.err (subst (λ (l : List ℕ). g.P.Pieces.breaks c.args.to.now l c.put_parts.new.to) whole)
