use Rattle.std.proofs.Common.{◌≡◌, take}
use Rattle.std.specs.List.{list_all}
use Rattle.yl_dump.specs.Quoting.{stands_for_itself}
use Rattle.yl_dump.proofs.quoting.is_plain_text.Given as goal

abbrev pub invariant-loop-byte : goal.invariant-loop-byte
invariant-loop-byte l = l.plain ≡ list_all stands_for_itself (take l.byte-index l.text)
