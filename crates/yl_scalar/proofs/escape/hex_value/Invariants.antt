use Rattle.std.proofs.Common.{◌≡◌, ◌<◌, ◌^◌, take, true}
use Rattle.std.specs.List.{list_all}
use Rattle.std.specs.Char.{is_digit}
use Rattle.std.specs.Str.Parse.{digits_value}
use Rattle.yl_scalar.proofs.escape.hex_value.Given as goal

abbrev pub invariant-loop-c : goal.invariant-loop-c
invariant-loop-c l = record {
  value : l.value ≡ digits_value 16 (take l.c-index l.digits);
  small : l.value < 16 ^ l.c-index;
  digits : list_all (λ c. is_digit c 16) (take l.c-index l.digits) ≡ true;
}
