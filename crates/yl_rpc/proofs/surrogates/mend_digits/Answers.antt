use Rattle.std.proofs.Common.{◌∙◌, ap, sym}
use Rattle.yl_rpc.specs.Surrogates.{is_lone}
use Rattle.yl_rpc.proofs.Mended.{all_from, digits_kept}
use Rattle.yl_rpc.proofs.surrogates.mend_digits.Goals as goal

pub returns-else-is_lone : goal.returns-else-is_lone
returns-else-is_lone c =
    let body = c.args.body.now in
    digits_kept body c.args.i c.args.is_partner (ap (is_lone c.args.is_partner) (sym (all_from body c.args.i)) ∙ sym c.is_lone.ensures ∙ c.if-is_lone.false)
