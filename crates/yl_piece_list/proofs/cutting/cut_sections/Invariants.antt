use Rattle.std.proofs.Common.{◌≡◌, length, map, take}
use Rattle.yl_sections.specs.Local.{row_total}
use Rattle.yl_sections.specs.Sections.{sections}
use Rattle.yl_section_pieces.specs.Sections.{AreKeptSections}
use Rattle.yl_piece_list.proofs.cutting.cut_sections.Given as goal

abbrev pub invariant-loop-kept : goal.invariant-loop-kept
invariant-loop-kept g l = record {
  row : l.row ≡ row_total (take (length l.yielded) (sections (map (λ r. r.now) l.rows)));
  cut : AreKeptSections l.config (take (length l.yielded) (sections (map (λ r. r.now) l.rows))) l.pieces.items;
}
