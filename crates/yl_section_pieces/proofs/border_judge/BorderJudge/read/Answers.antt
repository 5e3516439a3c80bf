use Rattle.std.proofs.Common.{◌≡◌, ◌<◌, ◌≤◌, ◌+◌, ◌++◌, ◌∷◌, [], List, length, arith, subst}
use Rattle.std.specs.List.{AllByRecursion}
use Rattle.std.proofs.lemmas.List.{length-append}
use Rattle.yl_text.proofs.Every.{all_then}
use Rattle.yl_lexeme.specs.Lexeme.{LexemeValue}
use Rattle.yl_pieces.specs.State.{start_state}
use Rattle.yl_section_pieces.proofs.CutState.{end_lower, end_more}
use Rattle.yl_section_pieces.proofs.border_judge.BorderJudge.read.Goals as goal

pub returns : goal.returns
returns g c = λ config rs h.
    let r = c.args.row.now in
    let old = c.args.self.now.lexeme_rows in
    let new = c.max-self.result in
    let rows = c.rows_of.result in
    let lexemes : AllByRecursion (λ (x : LexemeValue). x.end.line < rows) r.entry.lexemes
    = subst (λ (xs : List LexemeValue). AllByRecursion (λ (x : LexemeValue). x.end.line < rows) xs) c.lexemes.ensures c.rows_of.ensures.within in
    let more : old ≤ new = omega (arith, c.max-self.ensures) in
    let low : length rs + rows ≤ new = omega (arith, c.max-self.ensures, c.from.ensures, h.rows) in
    let many : length (rs ++ r ∷ []) ≡ length rs + 1 = length-append rs (r ∷ []) in
    record {
      rows = omega (arith, c.in-Some.ensures, h.rows, many);
      lexemes =
          end_more new 0 rs r (end_lower old new 0 rs more h.lexemes)
          (all_then (λ (x : LexemeValue). x.end.line < rows) (λ (x : LexemeValue). 0 + length rs + x.end.line < new) r.entry.lexemes (λ x e. omega (arith, e, low)) lexemes);
      judged = c.in_ok-read.ensures.judged config start_state rs h.judged;
    }
