-- The lexemes of a line, by what is kept of those that have been read.
use Rattle.std.proofs.Common.{◌<◌, get_or, drop-cons, append_assoc, ◌+◌, ◌||◌, Bool, true, false, cond, nat_lt, None, zero, arith, add-one, ◌≡◌, ℕ, suc, List, [], ◌∷◌, ◌++◌, Option, Some, ◌≤◌, length, drop, refl, sym, ◌∙◌, ap, append-nil}
use Rattle.std.proofs.lemmas.List.{drop_all}
use Rattle.std.proofs.lemmas.Bool.{ltb-false}
use Rattle.std.specs.List.{list_any}
use Rattle.yl_lexeme.specs.Lexeme.{is_value}
use Rattle.yl_lexeme.specs.Keys.{Spot, key_start}
use Rattle.yl_lexeme.specs.Kept.{KeyUnitValue, key_unit_behind, key_unit_of}
use Rattle.yl_lexeme.proofs.Units.{keeps}
use Rattle.yl_marks.specs.declared.token.Token.{Token}
use Rattle.yl_marks.specs.declared.symbol.KeyedToken.{KeyedToken}
use Rattle.yl_marks.specs.declared.symbol.KeyStart.{KeyStart}
use Rattle.yl_marks.specs.Keys.{depth_behind, is_first, may_begin, key_at, place_of, keyed_token_at}
use Rattle.yl_marks.specs.ByLine.{line_pieces, depth_behind_all, latest_of}

abbrev pub kept_pieces : ℕ → ℕ → Option KeyedToken → KeyUnitValue KeyStart → List Token → List KeyedToken
kept_pieces count depth latest kept [] = []
kept_pieces count depth latest kept (x ∷ xs) =
    let p = keyed_token_at x depth latest kept.unit in
    p ∷ kept_pieces (suc count) (depth_behind x.kind depth) (Some p) (key_unit_behind x.kind (place_of count p) kept) xs

-- what is kept of a line suffices to read on
pub kept_suffices : (count depth : ℕ) (latest : Option KeyedToken) (line : List (Spot KeyStart)) (xs : List Token) →
    kept_pieces count depth latest (key_unit_of line) xs ≡ line_pieces count depth latest line xs
kept_suffices count depth latest line [] = refl
kept_suffices count depth latest line (x ∷ xs) =
    ap (λ k. keyed_token_at x depth latest k ∷ kept_pieces (suc count) (depth_behind x.kind depth) (Some (keyed_token_at x depth latest k))
    (key_unit_behind x.kind (place_of count (keyed_token_at x depth latest k)) (key_unit_of line)) xs) (keeps line)
    ∙ (let p = keyed_token_at x depth latest (key_start line) in
    ap (λ ps. p ∷ ps) (kept_suffices (suc count) (depth_behind x.kind depth) (Some p) (record { kind = x.kind; start = place_of count p } ∷ line) xs))

pub all_read : (count depth : ℕ) (latest : Option KeyedToken) (kept : KeyUnitValue KeyStart) (xs : List Token) (i : ℕ) (ps all : List KeyedToken) → length xs ≤ i →
    ps ++ kept_pieces count depth latest kept (drop i xs) ≡ all → ps ≡ all
all_read count depth latest kept xs i ps all h e =
    sym (append-nil ps) ∙ sym (ap (λ l. ps ++ kept_pieces count depth latest kept l) (drop_all i xs h)) ∙ e

-- ---- behind a line's last Value nothing asks for what is kept

left_false : (a b : Bool) → (a || b) ≡ false → a ≡ false
left_false true b h = cc
left_false false b h = refl

right_false : (a b : Bool) → (a || b) ≡ false → b ≡ false
right_false true b h = cc
right_false false b h = h

abbrev pub keyed : Token → ℕ → Option KeyedToken → Option ℕ → KeyedToken
keyed x depth latest key = record {
  kind = x.kind;
  start = x.start;
  end_line = x.end_line;
  depth = depth;
  is_first = is_first x.start.line latest;
  may_begin = may_begin x.start.line depth latest;
  key = key;
}

pub keyless : (x : Token) (depth : ℕ) (latest : Option KeyedToken) (unit : Option KeyStart) → is_value x.kind ≡ false → keyed_token_at x depth latest unit ≡ keyed x depth latest None
keyless x depth latest unit h = ap (λ b. keyed x depth latest (cond b (key_at x.start.col unit) None)) h

not_asked : (count depth : ℕ) (latest : Option KeyedToken) (kept other : KeyUnitValue KeyStart) (xs : List Token) → list_any (λ x. is_value x.kind) xs ≡ false →
    kept_pieces count depth latest kept xs ≡ kept_pieces count depth latest other xs
not_asked count depth latest kept other [] h = refl
not_asked count depth latest kept other (x ∷ xs) h =
    let none : is_value x.kind ≡ false = left_false _ _ h in
    let same : keyed_token_at x depth latest kept.unit ≡ keyed_token_at x depth latest other.unit = keyless x depth latest kept.unit none ∙ sym (keyless x depth latest other.unit none) in
    let p = keyed_token_at x depth latest other.unit in
    ap (λ p. p ∷ kept_pieces (suc count) (depth_behind x.kind depth) (Some p) (key_unit_behind x.kind (place_of count p) kept) xs) same
    ∙ ap (λ ps. p ∷ ps) (not_asked (suc count) _ _ (key_unit_behind x.kind (place_of count p) kept) (key_unit_behind x.kind (place_of count p) other) xs (right_false _ _ h))

none_behind : (xs : List Token) (j : ℕ) → list_any (λ x. is_value x.kind) xs ≡ false → list_any (λ x. is_value x.kind) (drop j xs) ≡ false
none_behind xs zero h = h
none_behind [] (suc j) h = h
none_behind (x ∷ xs) (suc j) h = none_behind xs j (right_false _ _ h)

none_from : (xs : List Token) (last i : ℕ) → last ≤ i → list_any (λ x. is_value x.kind) (drop (suc last) xs) ≡ false → list_any (λ x. is_value x.kind) (drop (suc i) xs) ≡ false
none_from [] last i h g = refl
none_from (x ∷ xs) zero i h g = none_behind xs i g
none_from (x ∷ xs) (suc last) zero h g = absurd (omega arith)
none_from (x ∷ xs) (suc last) (suc i) h g = none_from xs last i (omega arith) g

pub kept_if_asked : (count depth : ℕ) (latest : Option KeyedToken) (old passed new : KeyUnitValue KeyStart) (xs : List Token) (last i : ℕ) →
    list_any (λ x. is_value x.kind) (drop (last + 1) xs) ≡ false → new ≡ cond (nat_lt i last) passed old →
    kept_pieces count depth latest new (drop (i + 1) xs) ≡ kept_pieces count depth latest passed (drop (i + 1) xs)
kept_if_asked count depth latest old passed new xs last i h g = by_case (nat_lt i last) refl
  where
    by_case : (b : Bool) → nat_lt i last ≡ b → kept_pieces count depth latest new (drop (i + 1) xs) ≡ kept_pieces count depth latest passed (drop (i + 1) xs)
    by_case true e = ap (λ k. kept_pieces count depth latest k (drop (i + 1) xs)) (g ∙ ap (λ b. cond b passed old) e)
    by_case false e =
        ap (λ k. kept_pieces count depth latest k (drop (i + 1) xs)) (g ∙ ap (λ b. cond b passed old) e)
        ∙ not_asked count depth latest old passed (drop (i + 1) xs)
        (ap (λ n. list_any (λ x. is_value x.kind) (drop n xs)) (add-one i)
        ∙ none_from xs last i (ltb-false i last e) (ap (λ n. list_any (λ x. is_value x.kind) (drop n xs)) (sym (add-one last)) ∙ h))

-- ---- one more lexeme

module _ (count depth : ℕ) (latest : Option KeyedToken) (kept : KeyUnitValue KeyStart) (xs : List Token) (i : ℕ) (d : Token) (p : KeyedToken) (key : Option KeyStart) (depth' : ℕ) (inside : i < length xs)
    (at : key ≡ kept.unit) (is : p ≡ keyed_token_at (get_or xs i d) depth latest key) (deep : depth' ≡ depth_behind p.kind depth) where
  abbrev behind : List KeyedToken
  behind = kept_pieces (count + 1) depth' (Some p) (key_unit_behind p.kind (place_of count p) kept) (drop (i + 1) xs)

  one_read : kept_pieces count depth latest kept (drop i xs) ≡ p ∷ behind
  one_read =
      ap (kept_pieces count depth latest kept) (drop-cons xs i d inside)
      ∙ ap (λ (q : KeyedToken). q ∷ kept_pieces (suc count) (depth_behind q.kind depth) (Some q) (key_unit_behind q.kind (place_of count q) kept) (drop (suc i) xs)) (sym (is ∙ ap (keyed_token_at (get_or xs i d) depth latest) at))
      ∙ ap (λ n. p ∷ kept_pieces (suc count) n (Some p) (key_unit_behind p.kind (place_of count p) kept) (drop (suc i) xs)) (sym deep)
      ∙ ap (λ n. p ∷ kept_pieces n depth' (Some p) (key_unit_behind p.kind (place_of count p) kept) (drop (suc i) xs)) (sym (add-one count))
      ∙ ap (λ n. p ∷ kept_pieces (count + 1) depth' (Some p) (key_unit_behind p.kind (place_of count p) kept) (drop n xs)) (sym (add-one i))

  pub pieces_step : (ps qs all : List KeyedToken) → qs ≡ ps ++ p ∷ [] → ps ++ kept_pieces count depth latest kept (drop i xs) ≡ all → qs ++ behind ≡ all
  pieces_step ps qs all e h = ap (λ l. l ++ behind) e ∙ append_assoc ps (p ∷ []) behind ∙ ap (λ l. ps ++ l) (sym one_read) ∙ h

  pub latest_step : (last : Option KeyedToken) → latest_of latest (kept_pieces count depth latest kept (drop i xs)) ≡ last → latest_of (Some p) behind ≡ last
  latest_step last h = ap (latest_of latest) (sym one_read) ∙ h

  pub depth_step : (n : ℕ) → depth_behind_all depth (drop i xs) ≡ n → depth_behind_all depth' (drop (i + 1) xs) ≡ n
  depth_step n h =
      ap (λ m. depth_behind_all m (drop (i + 1) xs)) (deep ∙ ap (λ (q : KeyedToken). depth_behind q.kind depth) is)
      ∙ ap (λ m. depth_behind_all (depth_behind (get_or xs i d).kind depth) (drop m xs)) (add-one i)
      ∙ ap (depth_behind_all depth) (sym (drop-cons xs i d inside)) ∙ h
