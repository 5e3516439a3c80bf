use Rattle.std.proofs.Common.{◌≡◌, length, get_or, ap, sym, arith}
use Rattle.std.proofs.lemmas.List.{get_or_read}
use Rattle.std.proofs.lemmas.Str.{length-encode, len_utf8_bounds}
use Rattle.std.specs.Char.{encode_utf8}
use Rattle.yl_scalar.proofs.Encodes.{length_more}
use Rattle.yl_scalar.proofs.folding.utf8_len.Goals as goal

pub loop-c-preserved : goal.loop-c-preserved
loop-c-preserved c =
    let cs = c.args.characters.now in
    let i = c.loop-c.c-index in
    let more = length_more cs i (omega arith) in
    let item : get_or cs i 0 ≡ c.c-item.result = sym (get_or_read cs i _ (omega arith) c.c-item.is 0) in
    let bounds = len_utf8_bounds c.c-item.result in
    let own : length (encode_utf8 (get_or cs i 0)) ≡ length (encode_utf8 c.c-item.result) = ap (λ x. length (encode_utf8 x)) item in
    record {
      bytes = omega (arith, more, own, c.loop-c.invariant.bytes, c.char_len-len.ensures, length-encode c.c-item.result);
      most = omega (arith, c.loop-c.invariant.most, c.char_len-len.ensures, bounds.1);
    }
