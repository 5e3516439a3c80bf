use Rattle.std.proofs.Common.{◌≡◌, ◌∙◌, List, [], ◌∷◌, ◌++◌, ap, sym, append_assoc}
use Rattle.yl_lexeme.specs.Lexeme.{LexemeValue}
use Rattle.yl_retyped.proofs.lexemes.is_last_retyped.Goals as goal

-- the last two of a list
last_two : (xs rest front : List LexemeValue) (p x : LexemeValue) → xs ≡ rest ++ x ∷ [] → rest ≡ front ++ p ∷ [] → xs ≡ front ++ p ∷ x ∷ []
last_two xs rest front p x e f = e ∙ (ap (λ (ls : List LexemeValue). ls ++ x ∷ []) f ∙ append_assoc front (p ∷ []) (x ∷ []))

pub returns-in_ok-is_quiet-2 : goal.returns-in_ok-is_quiet-2
returns-in_ok-is_quiet-2 g c = λ h.
    let first = c.in-Some-Some.ensures.cases in
    let second = c.in-Some-Some.ensures'.cases in
    let third = c.in-Some.ensures.cases in
    let front = c.are_same.ensures c.if-not-are_same.false in
    record {
      front = c.in-Some.field-0-1.now;
      p = c.in-Some.before.now;
      x = c.in-Some-Some.x.now;
      y = c.in-Some-Some.y.now;
      old = last_two c.args.old.now c.in-Some-Some.old_front.now c.in-Some.field-0-1.now c.in-Some.before.now c.in-Some-Some.x.now first.0 third.0;
      new = last_two c.args.new.now c.in-Some-Some.old_front.now c.in-Some.field-0-1.now c.in-Some.before.now c.in-Some-Some.y.now
          (second.0 ∙ ap (λ (ls : List LexemeValue). ls ++ c.in-Some-Some.y.now ∷ []) (sym front)) third.0;
      retyped = c.is_value_retyped.ensures c.if-not-is_value_retyped.false;
      quiet = c.in_ok-is_quiet.ensures c.if-branch.true;
      new_quiet = c.in_ok-is_quiet-2.ensures h;
    }
