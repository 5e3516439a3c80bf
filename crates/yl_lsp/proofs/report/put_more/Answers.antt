use Rattle.std.proofs.Common.{◌≡◌, ℕ, List, ◌++◌, ◌^◌, ◌<◌, decimal, arith, ap, ◌∙◌, subst}
use Rattle.std.proofs.lemmas.Bool.{ne_eqb}
use Rattle.yl_devices.proofs.Pieces.{on_err}
use Rattle.yl_frames.proofs.Outcomes.{fault_then, ok_then}
use Rattle.yl_lsp.specs.declared.diagnostic.Severity.TheVariants.{Information}
use Rattle.yl_lsp.specs.Reports.{text_start, more_diagnostics}
use Rattle.yl_lsp.specs.Texts.{separator, tail_text, diagnostics_text}
use Rattle.yl_lsp.proofs.Written.{more_front, more_written}
use Rattle.yl_lsp.proofs.report.put_more.Goals as goal

pub returns-in_err-put_parts-clause-err : goal.returns-in_err-put_parts-clause-err
returns-in_err-put_parts-clause-err g c =
    let tail = tail_text text_start Information in
    let small : c.args.hidden < 2 ^ 64 = omega arith in
    let front : c.separator.result.now ≡ separator c.args.is_first = c.separator.ensures in
    let digits : c.as_bytes.result.now ≡ decimal c.args.hidden = c.as_bytes.ensures.value ∙ c.format.ensures.text in
    let pieces : more_front c.separator.result.now c.as_bytes.result.now ≡ more_front (separator c.args.is_first) (decimal c.args.hidden) = λ i. more_front (front i) (digits i) in
    let whole : more_front c.separator.result.now c.as_bytes.result.now ++ tail ≡ diagnostics_text c.args.is_first (more_diagnostics c.args.hidden) =
    ap (λ l. l ++ tail) pieces ∙ more_written c.args.is_first c.args.hidden small (ne_eqb c.args.hidden 0 c.if-hidden-eq0.false) in
    on_err c.from_residual.result (subst (λ (l : List ℕ). g.P.Pieces.breaks c.args.to.now l c.put_parts.new.to) whole (g.met.P.Pieces.broken_before _ _ _ tail c.in_err-put_parts.ensures.err))

pub returns-clause-ok : goal.returns-clause-ok
returns-clause-ok g c =
    let tail = tail_text text_start Information in
    let small : c.args.hidden < 2 ^ 64 = omega arith in
    let front : c.separator.result.now ≡ separator c.args.is_first = c.separator.ensures in
    let digits : c.as_bytes.result.now ≡ decimal c.args.hidden = c.as_bytes.ensures.value ∙ c.format.ensures.text in
    let pieces : more_front c.separator.result.now c.as_bytes.result.now ≡ more_front (separator c.args.is_first) (decimal c.args.hidden) = λ i. more_front (front i) (digits i) in
    let whole : more_front c.separator.result.now c.as_bytes.result.now ++ tail ≡ diagnostics_text c.args.is_first (more_diagnostics c.args.hidden) =
    ap (λ l. l ++ tail) pieces ∙ more_written c.args.is_first c.args.hidden small (ne_eqb c.args.hidden 0 c.if-hidden-eq0.false) in
    ok_then c.put_tail.result c.put_tail.ensures.ok (λ q. subst (λ (l : List ℕ). g.P.Pieces.puts c.args.to.now l c.put_tail.new.to) whole
    (g.met.P.Pieces.joined _ _ _ _ _ c.in_ok-put_parts.ensures.ok q))

pub returns-clause-err : goal.returns-clause-err
returns-clause-err g c =
    let tail = tail_text text_start Information in
    let small : c.args.hidden < 2 ^ 64 = omega arith in
    let front : c.separator.result.now ≡ separator c.args.is_first = c.separator.ensures in
    let digits : c.as_bytes.result.now ≡ decimal c.args.hidden = c.as_bytes.ensures.value ∙ c.format.ensures.text in
    let pieces : more_front c.separator.result.now c.as_bytes.result.now ≡ more_front (separator c.args.is_first) (decimal c.args.hidden) = λ i. more_front (front i) (digits i) in
    let whole : more_front c.separator.result.now c.as_bytes.result.now ++ tail ≡ diagnostics_text c.args.is_first (more_diagnostics c.args.hidden) =
    ap (λ l. l ++ tail) pieces ∙ more_written c.args.is_first c.args.hidden small (ne_eqb c.args.hidden 0 c.if-hidden-eq0.false) in
    fault_then c.put_tail.result c.put_tail.ensures.err (λ q. subst (λ (l : List ℕ). g.P.Pieces.breaks c.args.to.now l c.put_tail.new.to) whole
    (g.met.P.Pieces.broken_after _ _ _ _ _ c.in_ok-put_parts.ensures.ok q))
