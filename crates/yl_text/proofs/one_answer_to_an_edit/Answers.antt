use Rattle.yl_text.proofs.Answering.{fault_or_none}
use Rattle.yl_text.proofs.Edited.{edit_is_splice}
use Rattle.yl_text.proofs.OneAnswer.{one_fault, no_fault_beside}
use Rattle.yl_text.proofs.one_answer_to_an_edit.Goals as goal

pub returns-clause-splice : goal.returns-clause-splice
returns-clause-splice c = edit_is_splice

pub returns-clause-one_fault : goal.returns-clause-one_fault
returns-clause-one_fault c = one_fault

pub returns-clause-fault_or_none : goal.returns-clause-fault_or_none
returns-clause-fault_or_none c = fault_or_none

pub returns-clause-not_both : goal.returns-clause-not_both
returns-clause-not_both c = no_fault_beside
