use Rattle.yl_lint.proofs.Onward.{sections_look_back, first_look_back, shown_looks_back, found_looks_back, report_looks_back}
use Rattle.yl_lint.proofs.laws.indentation_looks_back.Goals as goal

pub returns-clause-sections : goal.returns-clause-sections
returns-clause-sections c = sections_look_back

pub returns-clause-first : goal.returns-clause-first
returns-clause-first c = first_look_back

pub returns-clause-shown : goal.returns-clause-shown
returns-clause-shown c = shown_looks_back

pub returns-clause-found : goal.returns-clause-found
returns-clause-found c = found_looks_back

pub returns-clause-report : goal.returns-clause-report
returns-clause-report c = report_looks_back
