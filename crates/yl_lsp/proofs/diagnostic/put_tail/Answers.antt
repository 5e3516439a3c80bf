use Rattle.std.proofs.Common.{◌≡◌, ℕ, List, decimal, ◌∙◌, subst}
use Rattle.yl_frames.proofs.Outcomes.{fault_then, ok_then}
use Rattle.yl_lsp.specs.Diagnostics.{severity_digit}
use Rattle.yl_lsp.specs.Texts.{tail_of, tail_text}
use Rattle.yl_lsp.proofs.diagnostic.put_tail.Goals as goal

pub returns-clause-ok : goal.returns-clause-ok
returns-clause-ok g c =
    let end_units : c.as_bytes.result.now ≡ decimal c.args.range.end.units = c.as_bytes.ensures.value ∙ c.format.ensures.text in
    let end_line : c.as_bytes-2.result.now ≡ decimal c.args.range.end.line = c.as_bytes-2.ensures.value ∙ c.format-2.ensures.text in
    let start_units : c.as_bytes-3.result.now ≡ decimal c.args.range.start.units = c.as_bytes-3.ensures.value ∙ c.format-3.ensures.text in
    let start_line : c.as_bytes-4.result.now ≡ decimal c.args.range.start.line = c.as_bytes-4.ensures.value ∙ c.format-4.ensures.text in
    let severity : c.digit.result.now ≡ severity_digit c.args.severity = c.digit.ensures in
    let pieces : tail_of c.as_bytes.result.now c.as_bytes-2.result.now c.as_bytes-3.result.now c.as_bytes-4.result.now c.digit.result.now ≡ tail_text c.args.range c.args.severity =
    λ i. tail_of (end_units i) (end_line i) (start_units i) (start_line i) (severity i) in
    ok_then c.put_parts.result c.put_parts.ensures.ok (subst (λ (l : List ℕ). g.P.Pieces.puts c.args.to.now l c.put_parts.new.to) pieces)

pub returns-clause-err : goal.returns-clause-err
returns-clause-err g c =
    let end_units : c.as_bytes.result.now ≡ decimal c.args.range.end.units = c.as_bytes.ensures.value ∙ c.format.ensures.text in
    let end_line : c.as_bytes-2.result.now ≡ decimal c.args.range.end.line = c.as_bytes-2.ensures.value ∙ c.format-2.ensures.text in
    let start_units : c.as_bytes-3.result.now ≡ decimal c.args.range.start.units = c.as_bytes-3.ensures.value ∙ c.format-3.ensures.text in
    let start_line : c.as_bytes-4.result.now ≡ decimal c.args.range.start.line = c.as_bytes-4.ensures.value ∙ c.format-4.ensures.text in
    let severity : c.digit.result.now ≡ severity_digit c.args.severity = c.digit.ensures in
    let pieces : tail_of c.as_bytes.result.now c.as_bytes-2.result.now c.as_bytes-3.result.now c.as_bytes-4.result.now c.digit.result.now ≡ tail_text c.args.range c.args.severity =
    λ i. tail_of (end_units i) (end_line i) (start_units i) (start_line i) (severity i) in
    fault_then c.put_parts.result c.put_parts.ensures.err (subst (λ (l : List ℕ). g.P.Pieces.breaks c.args.to.now l c.put_parts.new.to) pieces)
