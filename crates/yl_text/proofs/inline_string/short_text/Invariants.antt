use Rattle.std.proofs.Common.{◌≡◌, take}
use Rattle.yl_text.proofs.inline_string.short_text.Given as goal

abbrev pub invariant-loop-c : goal.invariant-loop-c
invariant-loop-c l = l.bytes.items ≡ take l.c-index l.characters
