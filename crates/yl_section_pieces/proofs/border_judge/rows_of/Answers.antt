use Rattle.std.proofs.Common.{◌<◌, ◌+◌, ◌^◌, arith, ap, subst, sym, ℕ}
use Rattle.yl_text.specs.declared.position.Pos.{Pos}
use Rattle.yl_lexeme.specs.Lexeme.{LexemeValue}
use Rattle.yl_section_pieces.proofs.CutLoops.{IsGreater, all_more, max_greater}
use Rattle.yl_section_pieces.proofs.border_judge.rows_of.Goals as goal

pub loop-lexeme-preserved : goal.loop-lexeme-preserved
loop-lexeme-preserved g c =
    let x = c.lexeme-item.result in
    let there = ap (λ (p : Pos). p.line) c.end.ensures in
    let max : IsGreater c.loop-lexeme.rows (c.from.result + 1) c.max-rows.result = subst (λ (m : ℕ). IsGreater c.loop-lexeme.rows (c.from.result + 1) m) (sym c.max-rows.ensures) (max_greater c.loop-lexeme.rows (c.from.result + 1)) in
    record {
      within =
          all_more (λ (y : LexemeValue). y.end.line < c.loop-lexeme.rows) (λ (y : LexemeValue). y.end.line < c.max-rows.result) c.args.lexemes.now c.loop-lexeme.lexeme-index x c.loop-lexeme-test.true c.lexeme-item.is
          (λ y h. omega (arith, h, max.left)) c.loop-lexeme.invariant.within (omega (arith, there, c.from.ensures, max.right));
      few = max.only (2 ^ 32) c.loop-lexeme.invariant.few (omega arith);
    }
