use Rattle.std.proofs.Common.{[], ◌++◌, ◌∙◌, List, ap, map, subst, sym}
use Rattle.yl_lexeme.specs.Lexeme.{LexemeValue}
use Rattle.yl_events.specs.declared.symbol.Outline.{Outline}
use Rattle.yl_events.specs.Seen.{LineValue, event_seen}
use Rattle.yl_tree.specs.TreeRules.{Finds}
use Rattle.yl_sections.proofs.document_judge.found_in_tree.Goals as goal

pub returns-clause-whole : goal.returns-clause-whole
returns-clause-whole g c = λ all none finds.
    let at : List LexemeValue → LineValue = λ ys. record { lexemes = ys; first = c.args.count; waiting = c.args.waiting.now } in
    let of_none = ap at c.no_lexemes.ensures in
    c.finish.ensures all
    (c.in_ok-push_events.ensures [] all
    (subst (λ (os : List Outline). Finds c.args.tree (map (event_seen c.lexemes_of_line.result) os ++ []) all) (sym c.deref.ensures.value)
    (subst (λ (l : LineValue). Finds c.args.tree (map (event_seen l) c.args.reader.now.outlines.items ++ []) all) (sym (c.lexemes_of_line.ensures ∙ of_none)) finds)))
