-- The lines of a document's lexemes.
use Rattle.std.proofs.lemmas.List.{drop_all}
use Rattle.std.proofs.Common.{◌<◌, ◌≤◌, get_or, slice_get, drop-cons, ◌≡◌, ◌≢◌, ◌==◌, ℕ, suc, Bool, true, false, cond, if◌then◌else◌, List, [], ◌∷◌, ◌++◌, Option, Some, None, length, take, drop, refl, sym, ◌∙◌, ap, subst, eqb, eqb-true, eq-eqb}
use Rattle.std.proofs.lemmas.Bool.{eqb-false, ne_eqb}
use Rattle.yl_marks.specs.declared.token.Token.{Token}
use Rattle.yl_marks.specs.ByLine.{before_lines, by_line}

-- ---- the first line

-- how many of the first tokens begin in this line
abbrev pub run_len : ℕ → List Token → ℕ
run_len line [] = 0
run_len line (x ∷ xs) = if x.start.line == line then suc (run_len line xs) else 0

module _ (x y : Token) (ys : List Token) where
  run_here : x.start.line ≡ y.start.line → run_len x.start.line (y ∷ ys) ≡ suc (run_len x.start.line ys)
  run_here e = ap (λ b. cond b (suc (run_len x.start.line ys)) 0) (eq-eqb y.start.line x.start.line (sym e))

  run_there : (x.start.line ≡ y.start.line → ⊥) → run_len x.start.line (y ∷ ys) ≡ 0
  run_there n = ap (λ b. cond b (suc (run_len x.start.line ys)) 0) (ne_eqb y.start.line x.start.line (λ e. n (sym e)))

pub one_run : (x : Token) (xs : List Token) → by_line (x ∷ xs) ≡ (x ∷ take (run_len x.start.line xs) xs) ∷ by_line (drop (run_len x.start.line xs) xs)
one_run x [] = refl
one_run x (y ∷ ys) = ap (before_lines x) (one_run y ys) ∙ by_case (eqb x.start.line y.start.line) refl (one_run y ys)
  where
    by_case : (b : Bool) → eqb x.start.line y.start.line ≡ b → by_line (y ∷ ys) ≡ (y ∷ take (run_len y.start.line ys) ys) ∷ by_line (drop (run_len y.start.line ys) ys) →
        before_lines x ((y ∷ take (run_len y.start.line ys) ys) ∷ by_line (drop (run_len y.start.line ys) ys))
        ≡ (x ∷ take (run_len x.start.line (y ∷ ys)) (y ∷ ys)) ∷ by_line (drop (run_len x.start.line (y ∷ ys)) (y ∷ ys))
    by_case true h ih =
        let e : x.start.line ≡ y.start.line = eqb-true _ _ h in
        ap (λ b. cond b ((x ∷ y ∷ take (run_len y.start.line ys) ys) ∷ by_line (drop (run_len y.start.line ys) ys))
        ((x ∷ []) ∷ (y ∷ take (run_len y.start.line ys) ys) ∷ by_line (drop (run_len y.start.line ys) ys))) h
        ∙ ap (λ l. (x ∷ y ∷ take (run_len l ys) ys) ∷ by_line (drop (run_len l ys) ys)) (sym e)
        ∙ ap (λ n. (x ∷ take n (y ∷ ys)) ∷ by_line (drop n (y ∷ ys))) (sym (run_here x y ys e))
    by_case false h ih =
        ap (λ b. cond b ((x ∷ y ∷ take (run_len y.start.line ys) ys) ∷ by_line (drop (run_len y.start.line ys) ys))
        ((x ∷ []) ∷ (y ∷ take (run_len y.start.line ys) ys) ∷ by_line (drop (run_len y.start.line ys) ys))) h
        ∙ ap (λ ls. (x ∷ []) ∷ ls) (sym ih)
        ∙ ap (λ n. (x ∷ take n (y ∷ ys)) ∷ by_line (drop n (y ∷ ys))) (sym (run_there x y ys (eqb-false _ _ h)))

pub run_ends : (line i : ℕ) (ts : List Token) (d : Token) → i < length ts → ((get_or ts i d).start.line ≡ line → ⊥) → run_len line (drop i ts) ≡ 0
run_ends line i ts d h n =
    ap (run_len line) (drop-cons ts i d h)
    ∙ ap (λ b. cond b (suc (run_len line (drop (suc i) ts))) 0) (ne_eqb (get_or ts i d).start.line line n)

pub run_whole : (line i : ℕ) (ts : List Token) → length ts ≤ i → run_len line (drop i ts) ≡ 0
run_whole line i ts h = ap (run_len line) (drop_all i ts h)

pub first_run : (ts : List Token) (x : Token) (n : ℕ) → Some x ≡ slice_get ts 0 → n ≡ run_len x.start.line ts → by_line ts ≡ take n ts ∷ by_line (drop n ts)
first_run [] x n e h = cc
first_run (y ∷ ys) x n e h =
    let same : x ≡ y = cc in
    let len : n ≡ suc (run_len y.start.line ys) =
    h ∙ ap (λ (x : Token). run_len x.start.line (y ∷ ys)) same ∙ ap (λ b. cond b (suc (run_len y.start.line ys)) 0) (eq-eqb y.start.line y.start.line refl) in
    one_run y ys ∙ ap (λ n. take n (y ∷ ys) ∷ by_line (drop n (y ∷ ys))) (sym len)

-- ---- all lines: each is not empty and begins in one line, and the next one in another

abbrev pub InLine : ℕ → List Token → Type 0
InLine line [] = Unit {0}
InLine line (x ∷ xs) = (x.start.line ≡ line) × InLine line xs

abbrev pub IsOther : Option ℕ → ℕ → Type 0
IsOther None line = Unit {0}
IsOther (Some other) line = other ≢ line

abbrev pub AreLines : Option ℕ → List (List Token) → Type 0
AreLines latest [] = Unit {0}
AreLines latest ([] ∷ ls) = ⊥
AreLines latest ((x ∷ xs) ∷ ls) = IsOther latest x.start.line × (InLine x.start.line xs × AreLines (Some x.start.line) ls)

abbrev pub joined : List (List Token) → List Token
joined [] = []
joined (l ∷ ls) = l ++ joined ls

lines_before : (x : Token) (ls : List (List Token)) → AreLines None ls → AreLines None (before_lines x ls)
lines_before x [] h = (tt, (tt, tt))
lines_before x ([] ∷ ls) h = absurd h
lines_before x ((y ∷ ys) ∷ ls) h = by_case (eqb x.start.line y.start.line) refl
  where
    by_case : (b : Bool) → eqb x.start.line y.start.line ≡ b → AreLines None (cond b ((x ∷ y ∷ ys) ∷ ls) ((x ∷ []) ∷ (y ∷ ys) ∷ ls))
    by_case true e =
        let same : y.start.line ≡ x.start.line = sym (eqb-true _ _ e) in
        (tt, ((same, subst (λ l. InLine l ys) same h.1.0), subst (λ l. AreLines (Some l) ls) same h.1.1))
    by_case false e = (tt, (tt, (eqb-false _ _ e, (h.1.0, h.1.1))))

pub are_lines : (xs : List Token) → AreLines None (by_line xs)
are_lines [] = tt
are_lines (x ∷ xs) = lines_before x (by_line xs) (are_lines xs)

joined_before : (x : Token) (ls : List (List Token)) → joined (before_lines x ls) ≡ x ∷ joined ls
joined_before x [] = refl
joined_before x ([] ∷ ls) = refl
joined_before x ((y ∷ ys) ∷ ls) = by_case (eqb x.start.line y.start.line)
  where
    by_case : (b : Bool) → joined (cond b ((x ∷ y ∷ ys) ∷ ls) ((x ∷ []) ∷ (y ∷ ys) ∷ ls)) ≡ x ∷ joined ((y ∷ ys) ∷ ls)
    by_case true = refl
    by_case false = refl

pub joined_lines : (xs : List Token) → joined (by_line xs) ≡ xs
joined_lines [] = refl
joined_lines (x ∷ xs) = joined_before x (by_line xs) ∙ ap (λ l. x ∷ l) (joined_lines xs)
