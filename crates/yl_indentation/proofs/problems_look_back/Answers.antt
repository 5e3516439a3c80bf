use Rattle.yl_indentation.proofs.Onward.{facts_count, problems_look_back, problems_of_some, text_onward, text_looks_back}
use Rattle.yl_indentation.proofs.problems_look_back.Goals as goal

pub returns-clause-facts : goal.returns-clause-facts
returns-clause-facts c = facts_count

pub returns-clause-onward : goal.returns-clause-onward
returns-clause-onward c = problems_look_back

pub returns-clause-some : goal.returns-clause-some
returns-clause-some c = problems_of_some

pub returns-clause-whole : goal.returns-clause-whole
returns-clause-whole c = text_onward

pub returns-clause-text : goal.returns-clause-text
returns-clause-text c = text_looks_back
