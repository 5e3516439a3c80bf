use Rattle.yl_sections.proofs.SectionDocuments as documents
use Rattle.yl_sections.proofs.laws.sections_are_documents.Goals as goal

pub returns : goal.returns
returns c = documents.sections_are_documents
