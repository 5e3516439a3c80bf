use Rattle.std.proofs.Common.{◌≡◌, ◌≤◌, drop}
use Rattle.yl_settings.specs.Words.{digits_behind}
use Rattle.yl_settings.proofs.words.digits_value.Given as goal

-- the digits that were read and those that are still to be read make the number
abbrev pub invariant-loop-digit : goal.invariant-loop-digit
invariant-loop-digit l = record {
  small : l.value ≤ 1000000;
  number : digits_behind l.value (drop l.digit-index l.digits) ≡ digits_behind 0 l.digits;
}
