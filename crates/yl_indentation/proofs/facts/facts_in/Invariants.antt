use Rattle.std.proofs.Common.{◌≡◌, ◌++◌, map, drop}
use Rattle.yl_marks.specs.Keys.{lexeme_at_line, token_of}
use Rattle.yl_indentation.specs.Elements.{element_of}
use Rattle.yl_indentation.specs.SlimElements.{slim_element}
use Rattle.yl_indentation.specs.Context.{nothing_open, facts_in}
use Rattle.yl_indentation.proofs.facts.facts_in.Given as goal

abbrev pub invariant-loop-mark : goal.invariant-loop-mark
invariant-loop-mark g l =
    let tokens = map token_of (map (λ x. lexeme_at_line x.line x.lexeme.now) l.lexemes) in
    l.facts.items ++ facts_in l.context (map (λ m. slim_element (element_of tokens l.counted l.indentations m)) (drop l.mark-index l.marks))
    ≡ facts_in nothing_open (map (λ m. slim_element (element_of tokens l.counted l.indentations m)) l.marks)
