use Rattle.yl_indentation.proofs.Measured.{problems_are_by_documents}
use Rattle.yl_indentation.proofs.problems_are_by_documents.Goals as goal

pub returns : goal.returns
returns c = problems_are_by_documents
