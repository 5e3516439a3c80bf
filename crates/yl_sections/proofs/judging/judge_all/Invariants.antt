use Rattle.std.proofs.Common.{◌≡◌, ◌+◌, take}
use Rattle.yl_sections.specs.Judging.{JudgesAll}
use Rattle.yl_sections.specs.Kept.{documents_in}
use Rattle.yl_sections.specs.Sections.{sections}
use Rattle.yl_sections.proofs.Rows.{seen}
use Rattle.yl_sections.proofs.judging.judge_all.Given as goal

abbrev pub invariant-loop-record : goal.invariant-loop-record
invariant-loop-record g l = record {
  judged : JudgesAll l.config (seen (take l.record-index l.records)) l.judge;
  documents : l.meter.documents ≡ l.fn.meter.documents + documents_in (sections (seen (take l.record-index l.records)));
  lines : l.meter.lines ≡ l.fn.meter.lines;
}
