use Rattle.yl_events.proofs.Answered as answered
use Rattle.yl_events.proofs.Counts.{fault_inside}
use Rattle.yl_events.proofs.laws.one_fault.Goals as goal

pub returns-clause-one : goal.returns-clause-one
returns-clause-one c = answered.one_fault

pub returns-clause-none : goal.returns-clause-none
returns-clause-none c = answered.no_fault

pub returns-clause-inside : goal.returns-clause-inside
returns-clause-inside c = fault_inside
