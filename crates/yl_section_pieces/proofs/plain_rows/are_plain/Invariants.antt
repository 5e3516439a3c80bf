use Rattle.std.proofs.Common.{drop}
use Rattle.yl_sections.proofs.Rows.{seen}
use Rattle.yl_section_pieces.specs.PlainRows.{ArePlain}
use Rattle.yl_section_pieces.proofs.plain_rows.are_plain.Given as goal

abbrev pub invariant-loop-i : goal.invariant-loop-i
invariant-loop-i g l = ArePlain (drop l.i (seen l.rows)) → ArePlain (seen l.rows)
