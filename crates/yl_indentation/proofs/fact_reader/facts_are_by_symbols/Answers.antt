use Rattle.yl_indentation.proofs.BySymbols.{by_symbols, go_on, as_counted, none_counts}
use Rattle.yl_indentation.proofs.fact_reader.facts_are_by_symbols.Goals as goal

pub returns-clause-all : goal.returns-clause-all
returns-clause-all c = by_symbols

pub returns-clause-go_on : goal.returns-clause-go_on
returns-clause-go_on c = λ d tokens counted indentations ws later. go_on tokens indentations d counted ws later

pub returns-clause-counted : goal.returns-clause-counted
returns-clause-counted c = λ d tokens counted other indentations ws h. as_counted tokens indentations d counted other ws h

pub returns-clause-none : goal.returns-clause-none
returns-clause-none c = λ d tokens counted indentations ws h. none_counts tokens indentations d counted ws h
