use Rattle.std.proofs.Common.{◌≡◌, ◌≤◌, ◌<◌, ◌+◌, ◌++◌, ℕ, List, length, drop}
use Rattle.yl_marks.specs.declared.token.Token.{Token}
use Rattle.yl_indentation.specs.LineFacts.{AreIndented, IsLine, NameIndices}
use Rattle.yl_indentation.specs.SymbolFacts.{behind_symbols, facts_left}
use Rattle.yl_indentation.proofs.fact_reader.FactReader.read_line.Given as goal

abbrev pub invariant-loop-symbol : goal.invariant-loop-symbol
invariant-loop-symbol g l =
    record {
      facts : (tokens : List Token) (indentations : List ℕ) → IsLine tokens l.first l.line → AreIndented indentations l.indentation l.line
          → NameIndices (λ i. (l.first ≤ i) × (i < l.first + length l.line)) l.symbols
          → l.facts.items ++ facts_left l.self tokens l.counted indentations (drop l.symbol-index l.symbols)
          ≡ l.fn.facts.items ++ facts_left l.fn.self tokens l.counted indentations l.symbols;
      after : (tokens : List Token) (indentations : List ℕ) → IsLine tokens l.first l.line → AreIndented indentations l.indentation l.line
          → NameIndices (λ i. (l.first ≤ i) × (i < l.first + length l.line)) l.symbols
          → behind_symbols tokens indentations l.self (drop l.symbol-index l.symbols) ≡ behind_symbols tokens indentations l.fn.self l.symbols;
    }
