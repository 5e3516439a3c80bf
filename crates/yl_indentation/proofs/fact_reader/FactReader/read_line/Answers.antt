use Rattle.yl_indentation.proofs.LineFacts.{after_more, facts_more}
use Rattle.yl_indentation.proofs.fact_reader.FactReader.read_line.Goals as goal

pub loop-symbol-preserved : goal.loop-symbol-preserved
loop-symbol-preserved g c = record {
  facts = λ tokens ns of_line indented names. facts_more tokens ns c.args.first c.args.counted c.args.indentation c.args.line.now of_line indented
      c.args.symbols.now c.loop-symbol.symbol-index _ c.loop-symbol.self _ c.loop-symbol.facts.items _ _ c.loop-symbol-test.true names
      c.in_ok-read_symbol_of_line.ensures.facts c.in_ok-read_symbol_of_line.ensures.after (c.loop-symbol.invariant.facts tokens ns of_line indented names);
  after = λ tokens ns of_line indented names. after_more tokens ns c.args.first c.args.counted c.args.indentation c.args.line.now of_line indented
      c.args.symbols.now c.loop-symbol.symbol-index _ c.loop-symbol.self _ _ c.loop-symbol-test.true names
      c.in_ok-read_symbol_of_line.ensures.after (c.loop-symbol.invariant.after tokens ns of_line indented names);
}
