use Rattle.yl_indentation.proofs.FactsAlike as alike
use Rattle.yl_indentation.proofs.fact_reader.facts_are_alike.Goals as goal

pub returns : goal.returns
returns c = alike.facts_are_alike
