-- An edit has one answer.
use Rattle.std.proofs.Common.{ℕ, List, length, refl, sym, ◌∙◌, ap, subst, arith}
use Rattle.std.proofs.lemmas.List.{take_all}
use Rattle.std.proofs.lemmas.Str.{utf8_valid_len-IsValidUpTo}
use Rattle.std.specs.Str.{IsUtf8, IsValidUpTo}
use Rattle.yl_text.specs.declared.fault.TextFault.TheVariants.{NotUtf8, Range, TooLarge, Memory}
use Rattle.yl_text.specs.Edit.{EditHasOneFault, EditHasNoFaultBeside}

not_utf8 : (t : List ℕ) (n : ℕ) → IsValidUpTo t n → ¬ (IsUtf8 t)
not_utf8 t n v u = v.longest (length t) v.short (subst IsUtf8 (sym (take_all (length t) t (omega arith))) u)

pub one_fault : EditHasOneFault
one_fault ps from to t (NotUtf8 n) (NotUtf8 m) h k = ap NotUtf8 (sym (utf8_valid_len-IsValidUpTo t n h) ∙ utf8_valid_len-IsValidUpTo t m k)
one_fault ps from to t (NotUtf8 n) Range h k = absurd (not_utf8 t n h k.0)
one_fault ps from to t (NotUtf8 n) TooLarge h k = absurd (not_utf8 t n h k.0)
one_fault ps from to t (NotUtf8 n) Memory h k = absurd k
one_fault ps from to t Range (NotUtf8 m) h k = absurd (not_utf8 t m k h.0)
one_fault ps from to t Range Range h k = refl
one_fault ps from to t Range TooLarge h k = absurd (h.1 k.1)
one_fault ps from to t Range Memory h k = absurd k
one_fault ps from to t TooLarge (NotUtf8 m) h k = absurd (not_utf8 t m k h.0)
one_fault ps from to t TooLarge Range h k = absurd (k.1 h.1)
one_fault ps from to t TooLarge TooLarge h k = refl
one_fault ps from to t TooLarge Memory h k = absurd k
one_fault ps from to t Memory (NotUtf8 m) h k = absurd h
one_fault ps from to t Memory Range h k = absurd h
one_fault ps from to t Memory TooLarge h k = absurd h
one_fault ps from to t Memory Memory h k = absurd h

pub no_fault_beside : EditHasNoFaultBeside
no_fault_beside ps from to t (NotUtf8 n) can h = not_utf8 t n h can.utf8
no_fault_beside ps from to t Range can h = h.1 can.range
no_fault_beside ps from to t TooLarge can h = let short = can.short in let long = h.2 in omega arith
no_fault_beside ps from to t Memory can h = h
