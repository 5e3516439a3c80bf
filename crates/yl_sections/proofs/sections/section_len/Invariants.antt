use Rattle.std.proofs.Common.{◌≡◌, ◌+◌, drop, map, None}
use Rattle.yl_sections.specs.Sections.{row_count}
use Rattle.yl_sections.proofs.sections.section_len.Given as goal

abbrev pub invariant-loop-i : goal.invariant-loop-i
invariant-loop-i g l = l.i + row_count l.last (drop l.i (map (λ r. r.now) l.records)) ≡ row_count None (map (λ r. r.now) l.records)
