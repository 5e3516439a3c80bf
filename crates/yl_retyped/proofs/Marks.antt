-- No mark stands between a value that is typed anew and the lexeme before it: no key begins there, and it is not the first of its line.
use Rattle.std.proofs.Common.{◌≡◌, ◌≢◌, ◌≤◌, ◌<◌, ◌+◌, ◌||◌, ◌==◌, ℕ, suc, Bool, true, false, cond, List, [], ◌∷◌, ◌++◌, map, Option, Some, None, length, refl, sym, ◌∙◌, ap, subst, append_assoc, arith}
use Rattle.std.proofs.lemmas.Bool.{ne_eqb, le-ltb}
use Rattle.std.proofs.lemmas.List.{length-append}
use Rattle.yl_lexeme.specs.declared.lexeme.Kind.{Kind}
use Rattle.yl_lexeme.specs.declared.lexeme.Kind.TheVariants.{Scalar}
use Rattle.yl_lexeme.specs.Lexeme.{LexemeValue, is_document_marker, is_entry, is_key, is_value}
use Rattle.yl_lexeme.specs.Past.{is_near}
use Rattle.yl_lexeme.specs.Keys.{key_start}
use Rattle.yl_marks.specs.declared.token.Token.{Token}
use Rattle.yl_marks.specs.declared.symbol.Symbol.{Symbol}
use Rattle.yl_marks.specs.declared.symbol.Symbol.TheVariants.{OpenSequence, OpenMapping, BeginKey, Close, One}
use Rattle.yl_marks.specs.declared.symbol.KeyedToken.{KeyedToken}
use Rattle.yl_marks.specs.declared.symbol.KeyStart.{KeyStart}
use Rattle.yl_marks.specs.declared.symbol.OpenBlock.{OpenBlock}
use Rattle.yl_marks.specs.declared.symbol.Marking.{Marking}
use Rattle.yl_marks.specs.Keys.{token_of, place_of, tokens_of_line, key_at, keyed_token, keyed_tokens}
use Rattle.yl_marks.specs.Marks.{is_at, begins_key, closes_collection, collections_left, closings, closings_of_all, collection_to_open, opening, key_mark, marks_at, open_behind, marking, marks, open_behind_all, symbols_of_lexemes}
use Rattle.yl_marks.specs.Unmarked.{may_have_marks}
use Rattle.yl_marks.proofs.Within.{Starts, of_key}
use Rattle.yl_marks.proofs.ByLines.{nothing_here}
use Rattle.yl_marks.proofs.Unmarked.{unmarked_marks}
use Rattle.yl_retyped.specs.Retyped.{is_scalar}
use Rattle.yl_retyped.proofs.Typed.{IsRetyped, AreBelow}
use Rattle.yl_retyped.proofs.Symbols.{NoneAt, StandsBehind}

-- ---- the places at which the keys of a Value's line may begin

abbrev IsElsewhere : ℕ → Option KeyStart → Type 0
IsElsewhere n None = Unit {0}
IsElsewhere n (Some key) = key.index ≢ n

-- none of this line is the lexeme of this index
abbrev AreElsewhere : ℕ → ℕ → List KeyedToken → Type 0
AreElsewhere n line before = Starts KeyStart (IsElsewhere n) tt (tokens_of_line line before)

place_elsewhere : (n i : ℕ) (q : KeyedToken) → i ≢ n → IsElsewhere n (place_of i q)
place_elsewhere n i q h = by_case q.may_begin
  where
    by_case : (b : Bool) → IsElsewhere n (cond b (Some (record { index = i; column = q.start.col })) None)
    by_case true = h
    by_case false = tt

one_more : (n line : ℕ) (q : KeyedToken) (before : List KeyedToken) → length before ≢ n → AreElsewhere n line before → AreElsewhere n line (q ∷ before)
one_more n line q before other h = by_case (q.start.line == line)
  where
    by_case : (b : Bool) → Starts KeyStart (IsElsewhere n) tt (cond b (record { kind = q.kind; start = place_of (length before) q } ∷ tokens_of_line line before) [])
    by_case true = (place_elsewhere n (length before) q other, h)
    by_case false = tt

-- lexemes of lesser indices
all_before : (n line : ℕ) (before : List KeyedToken) → length before ≤ n → AreElsewhere n line before
all_before n line [] h = tt
all_before n line (q ∷ before) h = one_more n line q before (λ e. absurd (omega (arith, h, e))) (all_before n line before (omega (arith, h)))

-- lexemes behind that of this index, which is in another line
all_behind : (n line : ℕ) (x : KeyedToken) (older : List KeyedToken) → length older ≡ n → x.start.line ≢ line → (ps : List KeyedToken) → AreElsewhere n line (ps ++ x ∷ older)
all_behind n line x older len other [] = subst (Starts KeyStart (IsElsewhere n) tt) (sym (nothing_here line (x ∷ older) other)) tt
all_behind n line x older len other (q ∷ ps) =
    one_more n line q (ps ++ x ∷ older) (λ e. absurd (omega (arith, length-append ps (x ∷ older), len, e))) (all_behind n line x older len other ps)

-- ---- no key begins there

key_elsewhere : (n column : ℕ) (key : Option KeyStart) → IsElsewhere n key → is_at n (key_at column key) ≡ false
key_elsewhere n column None h = refl
key_elsewhere n column (Some key) h = by_case (is_near column key.column)
  where
    by_case : (b : Bool) → is_at n (cond b (Some key.index) None) ≡ false
    by_case true = ne_eqb key.index n h
    by_case false = refl

only_if_value : (n : ℕ) (b : Bool) (key : Option ℕ) → is_at n key ≡ false → is_at n (cond b key None) ≡ false
only_if_value n true key h = h
only_if_value n false key h = refl

no_key_of : (n : ℕ) (z : Token) (before : List KeyedToken) → AreElsewhere n z.start.line before → is_at n (keyed_token z before).key ≡ false
no_key_of n z before h =
    let spots = tokens_of_line z.start.line before in
    only_if_value n (is_value z.kind) (key_at z.start.col (key_start spots)) (key_elsewhere n z.start.col (key_start spots) (of_key KeyStart (IsElsewhere n) tt spots h))

one_more_key : (n : ℕ) (q : KeyedToken) (qs : List KeyedToken) → is_at n q.key ≡ false → begins_key n qs ≡ false → begins_key n (q ∷ qs) ≡ false
one_more_key n q qs h g = ap (λ b. b || begins_key n qs) h ∙ g

-- that of lexemes below it
none_below : (n : ℕ) (x : KeyedToken) (older : List KeyedToken) → length older ≡ n → (ps : List KeyedToken) (zs : List LexemeValue) → AreBelow x.start.line zs →
    begins_key n (keyed_tokens (ps ++ x ∷ older) (map token_of zs)) ≡ false
none_below n x older len ps [] h = refl
none_below n x older len ps (z ∷ zs) h =
    let q = keyed_token (token_of z) (ps ++ x ∷ older) in
    one_more_key n q (keyed_tokens (q ∷ ps ++ x ∷ older) (map token_of zs))
    (no_key_of n (token_of z) (ps ++ x ∷ older) (all_behind n z.start.line x older len (λ e. absurd (omega (arith, h.0, e))) ps))
    (none_below n x older len (q ∷ ps) zs h.1)

-- of any lexemes, those behind it below it
none_there : (before : List KeyedToken) (xs : List LexemeValue) (x : LexemeValue) (post : List LexemeValue) (n : ℕ) → n ≡ length before + length xs → AreBelow x.start.line post →
    begins_key n (keyed_tokens before (map token_of (xs ++ x ∷ post))) ≡ false
none_there before [] x post n at h =
    let q = keyed_token (token_of x) before in
    one_more_key n q (keyed_tokens (q ∷ before) (map token_of post))
    (no_key_of n (token_of x) before (all_before n x.start.line before (omega (arith, at))))
    (none_below n q before (omega (arith, at)) [] post h)
none_there before (z ∷ xs) x post n at h =
    let q = keyed_token (token_of z) before in
    one_more_key n q (keyed_tokens (q ∷ before) (map token_of (xs ++ x ∷ post)))
    (no_key_of n (token_of z) before (all_before n z.start.line before (omega (arith, at))))
    (none_there (q ∷ before) xs x post n (omega (arith, at)) h)

-- ---- marks hold lexemes of their own indices

none_of_both : (n : ℕ) (ws vs : List Symbol) → NoneAt n ws → NoneAt n vs → NoneAt n (ws ++ vs)
none_of_both n [] vs a b = b
none_of_both n (OpenSequence i ∷ ws) vs a b = none_of_both n ws vs a b
none_of_both n (OpenMapping i ∷ ws) vs a b = none_of_both n ws vs a b
none_of_both n (BeginKey i ∷ ws) vs a b = none_of_both n ws vs a b
none_of_both n (Close ∷ ws) vs a b = none_of_both n ws vs a b
none_of_both n (One kind i ∷ ws) vs a b = (a.0, none_of_both n ws vs a.1 b)

none_of_all : (n : ℕ) (cs : List OpenBlock) → NoneAt n (closings_of_all cs)
none_of_all n [] = tt
none_of_all n (c ∷ cs) = none_of_all n cs

none_of_closings : (n : ℕ) (m : Marking) (cs : List OpenBlock) → NoneAt n (closings m cs)
none_of_closings n m [] = tt
none_of_closings n m (c ∷ cs) = by_case (closes_collection m c) (none_of_closings n m cs)
  where
    by_case : (b : Bool) → NoneAt n (closings m cs) → NoneAt n (cond b (Close ∷ closings m cs) [])
    by_case true h = h
    by_case false h = tt

none_of_opening : (n : ℕ) (new : Option Bool) (i : ℕ) → NoneAt n (opening new i)
none_of_opening n None i = tt
none_of_opening n (Some true) i = tt
none_of_opening n (Some false) i = tt

none_of_key : (n : ℕ) (b : Bool) (i : ℕ) → NoneAt n (key_mark b i)
none_of_key n true i = tt
none_of_key n false i = tt

-- the marks before a lexeme
abbrev before_one : Marking → ℕ → List OpenBlock → List Symbol
before_one m i cs = closings m cs ++ opening (collection_to_open m (collections_left m cs)) i ++ key_mark m.begins_key i

none_before_one : (n : ℕ) (m : Marking) (i : ℕ) (cs : List OpenBlock) → NoneAt n (before_one m i cs)
none_before_one n m i cs =
    let new = collection_to_open m (collections_left m cs) in
    none_of_both n (closings m cs ++ opening new i) (key_mark m.begins_key i)
    (none_of_both n (closings m cs) (opening new i) (none_of_closings n m cs) (none_of_opening n new i)) (none_of_key n m.begins_key i)

none_of_other : (n : ℕ) (m : Marking) (i : ℕ) (cs : List OpenBlock) → i ≢ n → NoneAt n (marks_at m i cs)
none_of_other n m i cs h = none_of_both n (before_one m i cs) (One m.piece.kind i ∷ []) (none_before_one n m i cs) (h, tt)

none_of_later : (n : ℕ) (all : List KeyedToken) (cs : List OpenBlock) (i : ℕ) (qs : List KeyedToken) → n < i → NoneAt n (marks all cs i qs)
none_of_later n all cs i [] h = tt
none_of_later n all cs i (q ∷ qs) h =
    let m = marking all i q in
    none_of_both n (marks_at m i cs) (marks all (open_behind m cs) (suc i) qs) (none_of_other n m i cs (λ e. absurd (omega (arith, h, e))))
    (none_of_later n all (open_behind m cs) (suc i) qs (omega (arith, h)))

-- ---- a scalar that is not first in its line has no marks

is_other : (k : Kind) → is_scalar k ≡ true → (is_document_marker k ≡ false) × (is_entry k ≡ false) × (is_key k ≡ false) × (is_value k ≡ false)
is_other (Scalar style) h = (refl, refl, refl, refl)
is_other _ h = cc

is_unmarked : (m : Marking) → is_scalar m.piece.kind ≡ true → m.piece.is_first ≡ false → m.begins_key ≡ false → may_have_marks m ≡ false
is_unmarked m h first begins = let other = is_other m.piece.kind h in rw (first, other.0, other.1, begins, other.2, other.3)

-- ---- all of it

stands_on : (k kind : Kind) (n : ℕ) (ws vs : List Symbol) → NoneAt n ws → StandsBehind k kind n vs → StandsBehind k kind n (ws ++ vs)
stands_on k kind n ws vs none s = record {
  front = ws ++ s.front;
  index = s.index;
  back = s.back;
  parts = ap (λ us. ws ++ us) s.parts ∙ sym (append_assoc ws s.front (One k s.index ∷ One kind n ∷ s.back));
  other = s.other;
  none_before = none_of_both n ws s.front none s.none_before;
  none_behind = s.none_behind;
}

in_a_row : (first second back tail front : List Symbol) (a b : Symbol) → first ≡ front ++ a ∷ [] → second ≡ b ∷ [] →
    (first ++ (second ++ back)) ++ tail ≡ front ++ a ∷ b ∷ (back ++ tail)
in_a_row first second back tail front a b e g =
    ap (λ ws. (ws ++ (second ++ back)) ++ tail) e
    ∙ ap (λ ws. ((front ++ a ∷ []) ++ (ws ++ back)) ++ tail) g
    ∙ append_assoc (front ++ a ∷ []) (b ∷ back) tail
    ∙ append_assoc front (a ∷ []) (b ∷ back ++ tail)

module _ (p x y : LexemeValue) (post : List LexemeValue) (h : IsRetyped p x y post) (all : List KeyedToken) where
  alone : (cs : List OpenBlock) (before : List KeyedToken) (n : ℕ) → begins_key n all ≡ false →
      (let m = marking all n (keyed_token (token_of x) (keyed_token (token_of p) before ∷ before)) in marks_at m n cs ≡ One x.kind n ∷ [])
  alone cs before n none =
      let m = marking all n (keyed_token (token_of x) (keyed_token (token_of p) before ∷ before)) in
      let beside : p.end.line ≡ x.start.line = h.beside in
      unmarked_marks m n cs (is_unmarked m h.scalar (le-ltb p.end.line x.start.line (omega (arith, beside))) none)

  stands_here : (cs : List OpenBlock) (before : List KeyedToken) (i : ℕ) → begins_key (suc i) all ≡ false → (tail : List Symbol) → NoneAt (suc i) tail →
      StandsBehind p.kind x.kind (suc i) (marks all cs i (keyed_tokens before (map token_of (p ∷ x ∷ post))) ++ tail)
  stands_here cs before i none tail none_tail =
      let q = keyed_token (token_of p) before in
      let r = keyed_token (token_of x) (q ∷ before) in
      let m = marking all i q in
      let opened = open_behind m cs in
      let opened_behind = open_behind (marking all (suc i) r) opened in
      let rest = keyed_tokens (r ∷ q ∷ before) (map token_of post) in
      let back = marks all opened_behind (suc (suc i)) rest in
      record {
        front = before_one m i cs;
        index = i;
        back = back ++ tail;
        parts = in_a_row (marks_at m i cs) (marks_at (marking all (suc i) r) (suc i) opened) back tail (before_one m i cs) (One p.kind i) (One x.kind (suc i)) refl
            (alone opened before (suc i) none);
        other = λ e. absurd (omega (arith, e));
        none_before = none_before_one (suc i) m i cs;
        none_behind = none_of_both (suc i) back tail (none_of_later (suc i) all opened_behind (suc (suc i)) rest (omega arith)) none_tail;
      }

  stands : (n : ℕ) → begins_key n all ≡ false → (cs : List OpenBlock) (before : List KeyedToken) (pre : List LexemeValue) → length before + suc (length pre) ≡ n →
      (tail : List Symbol) → NoneAt n tail → StandsBehind p.kind x.kind n (marks all cs (length before) (keyed_tokens before (map token_of (pre ++ p ∷ x ∷ post))) ++ tail)
  stands n none cs before [] at tail none_tail = here n (omega (arith, at)) none none_tail
    where
      here : (k : ℕ) → suc (length before) ≡ k → begins_key k all ≡ false → NoneAt k tail →
          StandsBehind p.kind x.kind k (marks all cs (length before) (keyed_tokens before (map token_of (p ∷ x ∷ post))) ++ tail)
      here k e f g =
          subst (λ k. StandsBehind p.kind x.kind k (marks all cs (length before) (keyed_tokens before (map token_of (p ∷ x ∷ post))) ++ tail)) e
          (stands_here cs before (length before) (ap (λ k. begins_key k all) e ∙ f) tail (subst (λ k. NoneAt k tail) (sym e) g))
  stands n none cs before (z ∷ pre) at tail none_tail =
      let q = keyed_token (token_of z) before in
      let m = marking all (length before) q in
      let rest = marks all (open_behind m cs) (suc (length before)) (keyed_tokens (q ∷ before) (map token_of (pre ++ p ∷ x ∷ post))) in
      subst (StandsBehind p.kind x.kind n) (sym (append_assoc (marks_at m (length before) cs) rest tail))
      (stands_on p.kind x.kind n (marks_at m (length before) cs) (rest ++ tail) (none_of_other n m (length before) cs (λ e. absurd (omega (arith, at, e))))
      (stands n none (open_behind m cs) (q ∷ before) pre (omega (arith, at)) tail none_tail))

pub marks_stay : (pre : List LexemeValue) (p x y : LexemeValue) (post : List LexemeValue) → IsRetyped p x y post
    → StandsBehind p.kind x.kind (suc (length pre)) (symbols_of_lexemes (pre ++ p ∷ x ∷ post))
marks_stay pre p x y post h =
    let n = suc (length pre) in
    let all = keyed_tokens [] (map token_of (pre ++ p ∷ x ∷ post)) in
    let none : begins_key n all ≡ false =
    ap (λ l. begins_key n (keyed_tokens [] (map token_of l))) (sym (append_assoc pre (p ∷ []) (x ∷ post)))
    ∙ none_there [] (pre ++ p ∷ []) x post n (omega (arith, length-append pre (p ∷ []))) h.last in
    stands p x y post h all n none [] [] pre (omega arith) (closings_of_all (open_behind_all all [] 0 all)) (none_of_all n (open_behind_all all [] 0 all))
