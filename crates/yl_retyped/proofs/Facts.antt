-- The keys of a document say nothing of a value that is typed anew.
use Rattle.std.proofs.Common.{◌≡◌, ◌||◌, ◌&&◌, ℕ, suc, Bool, true, false, cond, not, is_some, List, [], ◌∷◌, ◌++◌, map, None, length, refl, ap, arith}
use Rattle.yl_lexeme.specs.declared.lexeme.Kind.{Kind}
use Rattle.yl_lexeme.specs.declared.lexeme.Kind.TheVariants.{Entry, Value}
use Rattle.yl_lexeme.specs.Lexeme.{LexemeValue, is_key, is_property, is_value}
use Rattle.yl_lexeme.specs.Keys.{Spot, key_start}
use Rattle.yl_marks.specs.declared.symbol.KeyedToken.{KeyedToken}
use Rattle.yl_marks.specs.declared.symbol.KeyStart.{KeyStart}
use Rattle.yl_marks.specs.declared.symbol.Marking.{Marking}
use Rattle.yl_marks.specs.declared.facts.KeyFacts.{KeyFacts}
use Rattle.yl_marks.specs.Keys.{token_of, tokens_of_line, key_at, keyed_token, keyed_tokens}
use Rattle.yl_marks.specs.Marks.{marking}
use Rattle.yl_marks.specs.Facts.{end_in_key, end_in_tag, facts_at, facts_from, is_value_next, key_facts}
use Rattle.yl_marks.proofs.ByLines.{nothing_here}
use Rattle.yl_retyped.specs.Retyped.{asks_for_value, no_key}
use Rattle.yl_retyped.proofs.Typed.{IsRetyped, AreBelow}
use Rattle.yl_retyped.proofs.Statements.{SayNothing}

-- ---- no key ends at it: the next lexeme is in a later line

no_key_at : (column : ℕ) (b : Bool) (spots : List (Spot KeyStart)) → spots ≡ [] → is_some (cond b (key_at column (key_start spots)) None) ≡ false
no_key_at column true spots e = ap (λ (l : List (Spot KeyStart)). is_some (key_at column (key_start l))) e
no_key_at column false spots e = refl

none_next : (x : KeyedToken) (before : List KeyedToken) (zs : List LexemeValue) → AreBelow x.start.line zs → is_value_next (keyed_tokens (x ∷ before) (map token_of zs)) ≡ false
none_next x before [] h = refl
none_next x before (z ∷ zs) h =
    no_key_at z.start.col (is_value z.kind) (tokens_of_line z.start.line (x ∷ before)) (nothing_here z.start.line (x ∷ before) (λ e. absurd (omega (arith, h.0, e))))

-- ---- the lexeme before it is no Key and no property

is_neither : (k : Kind) → asks_for_value k ≡ true → (is_property k ≡ false) × (is_key k ≡ false)
is_neither Entry h = (refl, refl)
is_neither Value h = (refl, refl)
is_neither _ h = cc

no_key_before : (m : Marking) (ms : List Marking) → asks_for_value m.piece.kind ≡ true → end_in_key (m ∷ ms) ≡ false
no_key_before m ms h = let neither = is_neither m.piece.kind h in rw (neither.0, neither.1)

no_tag_before : (m : Marking) (ms : List Marking) → asks_for_value m.piece.kind ≡ true → end_in_tag (m ∷ ms) ≡ false
no_tag_before m ms h = rw (is_neither m.piece.kind h).0

-- ---- all of it

nothing_said : (next key begins tag : Bool) → next ≡ false → key ≡ false → tag ≡ false → (let f : KeyFacts = record { is_key = next || key; has_tag = not begins && tag } in f ≡ no_key)
nothing_said next key true tag e g h = rw (e, g)
nothing_said next key false tag e g h = rw (e, g, h)

module _ (p x y : LexemeValue) (post : List LexemeValue) (h : IsRetyped p x y post) (all : List KeyedToken) where
  says_nothing : (ms : List Marking) (before : List KeyedToken) (i : ℕ) (pre : List LexemeValue) →
      SayNothing (suc (length pre)) (facts_from all ms i (keyed_tokens before (map token_of (pre ++ p ∷ x ∷ post))))
  says_nothing ms before i [] =
      let q = keyed_token (token_of p) before in
      let r = keyed_token (token_of x) (q ∷ before) in
      let m = marking all i q in
      let m' = marking all (suc i) r in
      let behind = keyed_tokens (r ∷ q ∷ before) (map token_of post) in
      let now : facts_at (m ∷ ms) m' behind ≡ no_key =
      nothing_said (is_value_next behind) (end_in_key (m ∷ ms)) m'.begins_key (end_in_tag (m ∷ ms)) (none_next r (q ∷ before) post h.last) (no_key_before m ms h.before)
      (no_tag_before m ms h.before) in
      let facts = facts_from all (m' ∷ m ∷ ms) (suc (suc i)) behind in
      record {
        before = facts_at ms m (r ∷ behind) ∷ [];
        after = facts;
        parts = ap (λ f. facts_at ms m (r ∷ behind) ∷ f ∷ facts) now;
        len = refl;
      }
  says_nothing ms before i (z ∷ pre) =
      let q = keyed_token (token_of z) before in
      let m = marking all i q in
      let next = keyed_tokens (q ∷ before) (map token_of (pre ++ p ∷ x ∷ post)) in
      let s = says_nothing (m ∷ ms) (q ∷ before) (suc i) pre in
      record { before = facts_at ms m next ∷ s.before; after = s.after; parts = ap (λ fs. facts_at ms m next ∷ fs) s.parts; len = ap suc s.len }

pub keys_stay : (pre : List LexemeValue) (p x y : LexemeValue) (post : List LexemeValue) → IsRetyped p x y post
    → SayNothing (suc (length pre)) (key_facts (pre ++ p ∷ x ∷ post))
keys_stay pre p x y post h = says_nothing p x y post h (keyed_tokens [] (map token_of (pre ++ p ∷ x ∷ post))) [] [] 0 pre
