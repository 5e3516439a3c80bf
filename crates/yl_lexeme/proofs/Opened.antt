-- The columns that are kept are those that are open.
use Rattle.std.proofs.Common.{◌≡◌, ℕ, ◌+◌, ◌-◌, ◌<◌, ◌≤◌, ◌⊎◌, Bool, true, false, not, ◌&&◌, ◌||◌, cond, List, [], ◌∷◌, refl, ap, sym, ◌∙◌, arith, eqb, ltb, leb, ⊎_elim}
use Rattle.std.specs.Prelude.{Option, Some, None, unwrap_or}
use Rattle.std.specs.List.{list_any}
use Rattle.std.proofs.lemmas.Bool.{eqb-true, ltb-true, ltb-false, leb-true, leb-false, lt-ltb, le-ltb, le-leb, eq-eqb, ne_eqb, cases_eq, and_parts, and_right, and_from, or_cases, or_left, not-true}
use Rattle.yl_lexeme.specs.declared.lexeme.Kind.{Kind}
use Rattle.yl_lexeme.specs.declared.lexeme.Kind.TheVariants.{DocStart, DocEnd}
use Rattle.yl_lexeme.specs.Lexeme.{is_document_marker, is_entry, is_key, is_value}
use Rattle.yl_lexeme.specs.Past.{PastLexeme, with_column, up_to, cut, levels}
use Rattle.yl_lexeme.specs.Columns.{is_column, is_open, is_falling, ColumnsAreOpen, ColumnsFall}

-- this column is among these
abbrev among : ℕ → List ℕ → Bool
among column ls = list_any (λ l. eqb l (column + 1)) ls

-- ---- the greatest comes first

rest_falls : (l : ℕ) (ls : List ℕ) → is_falling (l ∷ ls) ≡ true → is_falling ls ≡ true
rest_falls l [] h = refl
rest_falls l (m ∷ ls) h = (and_parts (ltb m l) (is_falling (m ∷ ls)) h).1

next_less : (l m : ℕ) (ls : List ℕ) → is_falling (l ∷ m ∷ ls) ≡ true → m < l
next_less l m ls h = ltb-true m l (and_parts (ltb m l) (is_falling (m ∷ ls)) h).0

none_greater : (column l : ℕ) (ls : List ℕ) → is_falling (l ∷ ls) ≡ true → among column (l ∷ ls) ≡ true → column + 1 ≤ l
none_greater column l [] f h = by_case (or_cases (eqb l (column + 1)) false h)
  where
    by_case : (eqb l (column + 1) ≡ true) ⊎ (false ≡ true) → column + 1 ≤ l
    by_case = ⊎_elim (λ e. let same : l ≡ column + 1 = eqb-true l (column + 1) e in omega arith) (λ e. cc)
none_greater column l (m ∷ ls) f h =
    let less : m < l = next_less l m ls f in
    ⊎_elim
    (λ e. let same : l ≡ column + 1 = eqb-true l (column + 1) e in omega arith)
    (λ e. let low : column + 1 ≤ m = none_greater column m ls (rest_falls l (m ∷ ls) f) e in omega arith)
    (or_cases (eqb l (column + 1)) (among column (m ∷ ls)) h)

up_to_falls : (column : ℕ) (ls : List ℕ) → is_falling ls ≡ true → is_falling (up_to column ls) ≡ true
up_to_falls column [] f = refl
up_to_falls column (l ∷ ls) f = by_test (ltb (column + 1) l) (up_to_falls column ls (rest_falls l ls f))
  where
    by_test : (b : Bool) → is_falling (up_to column ls) ≡ true → is_falling (cond b (up_to column ls) (l ∷ ls)) ≡ true
    by_test true below = below
    by_test false below = f

abbrev Left : ℕ → ℕ → List ℕ → Bool
Left column c ls = among c ls && not (ltb column c)

-- without the columns that are greater
up_to_among : (column c : ℕ) (ls : List ℕ) → is_falling ls ≡ true → among c (up_to column ls) ≡ Left column c ls
up_to_among column c [] f = refl
up_to_among column c (l ∷ ls) f = by_test (ltb (column + 1) l) refl (up_to_among column c ls (rest_falls l ls f))
  where
    gone : column + 1 < l → (b : Bool) → eqb l (c + 1) ≡ b → (among c ls && not (ltb column c)) ≡ ((b || among c ls) && not (ltb column c))
    gone less true e =
        let same : l ≡ c + 1 = eqb-true l (c + 1) e in
        rw (lt-ltb column c (omega arith)) (and_right (among c ls) false refl)
    gone less false e = refl

    stays : l ≤ column + 1 → (b : Bool) → among c (l ∷ ls) ≡ b → b ≡ (b && not (ltb column c))
    stays low true e =
        let most : c + 1 ≤ l = none_greater c l ls f e in
        rw (le-ltb column c (omega arith)) refl
    stays low false e = refl

    by_test : (b : Bool) → ltb (column + 1) l ≡ b → among c (up_to column ls) ≡ Left column c ls → among c (cond b (up_to column ls) (l ∷ ls)) ≡ Left column c (l ∷ ls)
    by_test true e below = below ∙ gone (ltb-true (column + 1) l e) (eqb l (c + 1)) refl
    by_test false e below = stays (ltb-false (column + 1) l e) (among c (l ∷ ls)) refl

cut_falls : (removes : Bool) (column : ℕ) (ls : List ℕ) → is_falling ls ≡ true → is_falling (cut removes column ls) ≡ true
cut_falls true column ls f = up_to_falls column ls f
cut_falls false column ls f = f

-- ---- one column more

with_falls : (g : ℕ) (ls : List ℕ) → is_falling ls ≡ true → is_falling (with_column g ls) ≡ true
with_falls g [] f = by_test (leb 0 g)
  where
    by_test : (b : Bool) → is_falling (cond b ((g + 1) ∷ []) []) ≡ true
    by_test true = refl
    by_test false = refl
with_falls g (l ∷ ls) f = by_test (leb l g) refl
  where
    by_test : (b : Bool) → leb l g ≡ b → is_falling (cond b ((g + 1) ∷ l ∷ ls) (l ∷ ls)) ≡ true
    by_test true e = let low : l ≤ g = leb-true l g e in and_from (ltb l (g + 1)) (is_falling (l ∷ ls)) (lt-ltb l (g + 1) (omega arith)) f
    by_test false e = f

shifted : (g c : ℕ) → eqb (g + 1) (c + 1) ≡ eqb g c
shifted g c = ⊎_elim
    (λ (e : g ≡ c). let next : g + 1 ≡ c + 1 = omega arith in eq-eqb (g + 1) (c + 1) next ∙ sym (eq-eqb g c e))
    (λ (n : g ≡ c → ⊥). ne_eqb (g + 1) (c + 1) (λ e. n (omega arith)) ∙ sym (ne_eqb g c n))
    (cases_eq g c)

with_among : (g c : ℕ) (ls : List ℕ) → ((k : ℕ) → among k ls ≡ true → k ≤ g) → among c (with_column g ls) ≡ (eqb g c || among c ls)
with_among g c [] h = rw (le-leb 0 g (omega arith), shifted g c) refl
with_among g c (l ∷ ls) h = by_test (leb l g) refl
  where
    found : (b : Bool) → eqb g c ≡ b → l ≡ g + 1 → among c (l ∷ ls) ≡ (b || among c (l ∷ ls))
    found true e s = let same : g ≡ c = eqb-true g c e in or_left (eqb l (c + 1)) (among c ls) (eq-eqb l (c + 1) (omega arith))
    found false e s = refl

    by_test : (b : Bool) → leb l g ≡ b → among c (cond b ((g + 1) ∷ l ∷ ls) (l ∷ ls)) ≡ (eqb g c || among c (l ∷ ls))
    by_test true e = ap (λ b. b || among c (l ∷ ls)) (shifted g c)
    by_test false e =
        let above : g < l = leb-false l g e in
        let own : among (l - 1) (l ∷ ls) ≡ true = or_left (eqb l (l - 1 + 1)) (among (l - 1) ls) (eq-eqb l (l - 1 + 1) (omega arith)) in
        let most : l - 1 ≤ g = h (l - 1) own in
        found (eqb g c) refl (omega arith)

-- ---- behind one more lexeme

marker_gives_none : (k : Kind) → is_document_marker k ≡ true → ((is_entry k || is_key k) ≡ false) × (is_value k ≡ false)
marker_gives_none DocStart h = (refl, refl)
marker_gives_none DocEnd h = (refl, refl)
marker_gives_none _ h = cc

module _ (column : ℕ) (own : ℕ) (xs : List PastLexeme) (ls : List ℕ) (falls : is_falling ls ≡ true) (same : (k : ℕ) → among k ls ≡ is_open k xs) (c : ℕ) where
  abbrev behind : (m f e v first : Bool) → List ℕ
  behind m f e v first =
      cond m [] (cond f ls (cond e (with_column column (cut first column ls)) (cond v (with_column own (cut first column ls)) (cut first column ls))))

  abbrev given_by : (f e v : Bool) → Option ℕ
  given_by f e v = cond f None (cond e (Some column) (cond v (Some own) None))

  abbrev closed_by : (m f first : Bool) → ℕ → Bool
  closed_by m f first k = m || (first && not f && ltb column k)

  abbrev Rightwards : (m f e v first : Bool) → Type 0
  Rightwards m f e v first = (given k : ℕ) → given_by f e v ≡ Some given → is_open k xs ≡ true → closed_by m f first k ≡ false → k ≤ given

  all_true : (b : Bool) → b ≡ (b && true)
  all_true true = refl
  all_true false = refl

  cut_among : (first : Bool) (k : ℕ) → among k (cut first column ls) ≡ (is_open k xs && not (closed_by false false first k))
  cut_among true k = up_to_among column k ls falls ∙ ap (λ b. b && not (ltb column k)) (same k)
  cut_among false k = same k ∙ all_true (is_open k xs)

  -- where a column is given
  given_more : (first : Bool) (g : ℕ) → ((k : ℕ) → is_open k xs ≡ true → closed_by false false first k ≡ false → k ≤ g) →
      among c (with_column g (cut first column ls)) ≡ (eqb g c || (is_open c xs && not (closed_by false false first c)))
  given_more first g h =
      with_among g c (cut first column ls)
      (λ k here.
      let parts = and_parts (is_open k xs) (not (closed_by false false first k)) (sym (cut_among first k) ∙ here) in
      h k parts.0 (not-true (closed_by false false first k) parts.1))
      ∙ ap (λ b. eqb g c || b) (cut_among first c)

  more : (m f e v first : Bool) → (m ≡ true → (e ≡ false) × (v ≡ false)) → Rightwards m f e v first →
      among c (behind m f e v first) ≡ (is_column c (given_by f e v) || (is_open c xs && not (closed_by m f first c)))
  more true true e v first none right = sym (and_right (is_open c xs) false refl)
  more true false e v first none right = rw ((none refl).0, (none refl).1) (sym (and_right (is_open c xs) false refl))
  more false true e v true none right = same c ∙ all_true (is_open c xs)
  more false true e v false none right = same c ∙ all_true (is_open c xs)
  more false false true v first none right = given_more first column (λ k. right column k refl)
  more false false false true first none right = given_more first own (λ k. right own k refl)
  more false false false false first none right = cut_among first c

-- ---- all of them

falling : (m f e v first : Bool) (column own : ℕ) (ls : List ℕ) → is_falling ls ≡ true →
    is_falling (cond m [] (cond f ls (cond e (with_column column (cut first column ls)) (cond v (with_column own (cut first column ls)) (cut first column ls))))) ≡ true
falling true f e v first column own ls h = refl
falling false true e v first column own ls h = h
falling false false true v first column own ls h = with_falls column (cut first column ls) (cut_falls first column ls h)
falling false false false true first column own ls h = with_falls own (cut first column ls) (cut_falls first column ls h)
falling false false false false first column own ls h = cut_falls first column ls h

pub columns_fall : ColumnsFall
columns_fall [] = refl
columns_fall (x ∷ xs) = falling (is_document_marker x.kind) x.flow (is_entry x.kind || is_key x.kind) (is_value x.kind) x.first x.column (unwrap_or x.key x.column) (levels xs) (columns_fall xs)

pub columns_are_open : ColumnsAreOpen
columns_are_open [] right column = refl
columns_are_open (x ∷ xs) right column =
    more x.column (unwrap_or x.key x.column) xs (levels xs) (columns_fall xs) (columns_are_open xs right.0) column
    (is_document_marker x.kind) x.flow (is_entry x.kind || is_key x.kind) (is_value x.kind) x.first (marker_gives_none x.kind) right.1
