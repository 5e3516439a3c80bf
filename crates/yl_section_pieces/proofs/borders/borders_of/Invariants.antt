use Rattle.std.proofs.Common.{map, take}
use Rattle.yl_section_pieces.specs.BorderJudge.{HasReadRows}
use Rattle.yl_section_pieces.specs.Borders.{AreDue}
use Rattle.yl_section_pieces.proofs.borders.borders_of.Given as goal

abbrev pub invariant-loop-row : goal.invariant-loop-row
invariant-loop-row g l = record {
  judged : HasReadRows l.config (take l.row-index (map (λ r. r.now) l.rows)) l.judge;
  due : AreDue (map (λ r. r.now) l.rows) l.borders.due l.borders.all.items;
}
