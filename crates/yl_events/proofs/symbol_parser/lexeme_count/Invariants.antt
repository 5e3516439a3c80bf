use Rattle.std.proofs.Common.{◌≡◌, ◌≤◌, ◌+◌, drop}
use Rattle.yl_events.specs.Derives.{lexeme_count}
use Rattle.yl_events.proofs.symbol_parser.lexeme_count.Given as goal

abbrev pub invariant-loop-symbol : goal.invariant-loop-symbol
invariant-loop-symbol l = record {
  count : l.count + lexeme_count (drop l.symbol-index l.symbols) ≡ lexeme_count l.symbols;
  within : l.count ≤ l.symbol-index;
}
