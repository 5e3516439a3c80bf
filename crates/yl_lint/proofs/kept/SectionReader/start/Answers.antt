use Rattle.std.proofs.Common.{[], ◌∙◌, List, ap, map}
use Rattle.yl_record.specs.Records.{RecordValue}
use Rattle.yl_sections.specs.Judge.{kept_of_section}
use Rattle.yl_sections.specs.Sections.{sections}
use Rattle.yl_sections.proofs.Stateless.{kept_without_states}
use Rattle.yl_lint.proofs.kept.SectionReader.start.Goals as goal

pub returns-clause-kept : goal.returns-clause-kept
returns-clause-kept g c = λ config rows. record {
  judged = [];
  judges = c.new.ensures config;
  whole = ap (λ (rs : List RecordValue). map (kept_of_section config) (sections rs)) (c.start_without_states.ensures.told rows) ∙ kept_without_states config rows;
}
