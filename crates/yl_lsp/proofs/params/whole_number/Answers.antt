use Rattle.std.proofs.Common.{◌≡◌, false}
use Rattle.std.specs.Char.{is_ascii_digit}
use Rattle.std.specs.List.{list_all}
use Rattle.yl_lsp.proofs.Numbers.{none_but_digits}
use Rattle.yl_lsp.proofs.params.whole_number.Goals as goal

pub returns-else-are_digits : goal.returns-else-are_digits
returns-else-are_digits c =
    let other : list_all is_ascii_digit c.args.digits.now ≡ false = cc in
    none_but_digits c.args.digits.now other
