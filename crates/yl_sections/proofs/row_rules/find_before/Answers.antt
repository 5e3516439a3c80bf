use Rattle.std.proofs.Common.{◌≡◌, ◌++◌, ◌∙◌, [], List, append-nil, append_assoc, ap, drop, map, subst, sym, take}
use Rattle.std.proofs.lemmas.List.{take-append-drop}
use Rattle.yl_lexeme.specs.Lexeme.{LexemeValue}
use Rattle.yl_marks.specs.declared.facts.KeyFacts.{KeyFacts}
use Rattle.yl_marks.specs.Keys.{lexeme_at_line}
use Rattle.yl_lexeme_rules.specs.LexemesLeft.{IsVersion, lexemes_left}
use Rattle.yl_sections.proofs.Lines.{front_mapped, on_ok}
use Rattle.yl_sections.proofs.row_rules.find_before.Goals as goal

pub returns : goal.returns
returns g c = λ v rest h.
    let f = lexeme_at_line c.args.row.now.line in
    let all = map f c.args.row.now.lexemes.now in
    let n = c.args.count in
    let front = map f c.split_at.result.0.now in
    let front_is : front ≡ take n all = front_mapped f c.args.row.now.lexemes.now n c.split_at.result.0.now c.split_at.ensures.front in
    let parts : all ++ rest ≡ front ++ (drop n all ++ rest) =
    ap (λ (ys : List LexemeValue). ys ++ rest) (sym (take-append-drop n all)) ∙ (append_assoc (take n all) (drop n all) rest ∙ ap (λ (ys : List LexemeValue). ys ++ (drop n all ++ rest)) (sym front_is)) in
    let version = subst (λ (ys : List LexemeValue). IsVersion v c.args.rules.now ys) parts h in
    let read = c.in_ok-read_row.ensures.found v (drop n all ++ rest) [] [] version in
    let left = λ (ys : List LexemeValue) (ks : List KeyFacts). c.args.found.now.items ++ lexemes_left v c.args.options.now c.args.rules.now ys ks in
    on_ok c.finish.result
    (λ told. told ∙ (read ∙ (ap (λ (ys : List LexemeValue). left ys (c.split_at-2.result.0.now ++ [])) (append-nil front ∙ front_is)
    ∙ ap (λ (ks : List KeyFacts). left (take n all) ks) (append-nil c.split_at-2.result.0.now ∙ c.split_at-2.ensures.front))))
    (c.finish.ensures v [])
