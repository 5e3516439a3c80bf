-- Sections of rows that others may follow.
use Rattle.std.proofs.Common.{◌≡◌, ℕ, zero, suc, ◌+◌, ◌-◌, ◌<◌, ◌≤◌, Bool, true, false, cond, List, [], ◌∷◌, ◌++◌, length, map, take, take_all, drop, Option, None, refl, ap, sym, ◌∙◌, append-nil, arith, Bor}
use Rattle.std.proofs.lemmas.List.{take-append-le, drop-append-le, drop-drop, take-map, drop-map, length-drop}
use Rattle.yl_lexeme.specs.declared.lexeme.Kind.{Kind}
use Rattle.yl_record.specs.Records.{RecordValue}
use Rattle.yl_sections.specs.Sections.{is_section_start, last_kind_from, sections, later_sections, row_count, lexemes_of}
use Rattle.yl_sections.specs.Kept.{KeptValue, document_count, documents_in}
use Rattle.yl_sections.proofs.Rows.{seen, length-seen}
use Rattle.yl_sections.proofs.Cuts.{first_section, some_rows}

abbrev count_if : Bool → ℕ → ℕ
count_if b n = cond b 0 (suc n)

by_start : (b : Bool) (n m len : ℕ) → (n < len → m ≡ n) → count_if b n < suc len → count_if b m ≡ count_if b n
by_start true n m len f l = refl
by_start false n m len f l = ap suc (f (omega (arith, l)))

-- where a section begins among these rows, it does so whatever follows
pub count_before : (last : Option Kind) (rs more : List RecordValue) → row_count last rs < length rs → row_count last (rs ++ more) ≡ row_count last rs
count_before last [] more l = absurd (omega (arith, l))
count_before last (r ∷ rs) more l =
    let k = last_kind_from last r.entry.lexemes in
    by_start (is_section_start last r.entry.lexemes) (row_count k rs) (row_count k (rs ++ more)) (length rs) (count_before k rs more) l

some_sections : (xs more : List RecordValue) → 0 < length xs → later_sections (xs ++ more) ≡ sections (xs ++ more)
some_sections [] more l = absurd (omega (arith, l))
some_sections (x ∷ xs) more l = refl

sections_before : (rs more : List RecordValue) → row_count None rs < length rs → sections (rs ++ more) ≡ take (row_count None rs) rs ∷ sections (drop (row_count None rs) rs ++ more)
sections_before rs more l =
    let n = row_count None rs in
    let some : 0 < length (drop n rs) = omega (arith, l, length-drop n rs) in
    first_section (rs ++ more)
    ∙ (ap (λ k. take k (rs ++ more) ∷ later_sections (drop k (rs ++ more))) (count_before None rs more l)
    ∙ (ap (λ (xs : List RecordValue). xs ∷ later_sections (drop n (rs ++ more))) (take-append-le n rs more (omega (arith, l)))
    ∙ (ap (λ (xs : List RecordValue). take n rs ∷ later_sections xs) (drop-append-le n rs more (omega (arith, l)))
    ∙ ap (λ (ss : List (List RecordValue)). take n rs ∷ ss) (some_sections (drop n rs) more some))))

-- the first section of rows behind references
pub split_before : (rs first rest : List (Bor RecordValue)) (n : ℕ) (more : List RecordValue) → n ≡ row_count None (seen rs) → n < length rs → first ≡ take n rs → rest ≡ drop n rs
    → sections (seen rs ++ more) ≡ seen first ∷ sections (seen rest ++ more)
split_before rs first rest n more e l f r =
    let within : row_count None (seen rs) < length (seen rs) = omega (arith, e, l, length-seen rs) in
    sections_before (seen rs) more within
    ∙ (ap (λ k. take k (seen rs) ∷ sections (drop k (seen rs) ++ more)) (sym e)
    ∙ (ap (λ (xs : List RecordValue). xs ∷ sections (drop n (seen rs) ++ more)) (take-map (λ (x : Bor RecordValue). x.now) n rs)
    ∙ (ap (λ (xs : List RecordValue). seen (take n rs) ∷ sections (xs ++ more)) (drop-map (λ (x : Bor RecordValue). x.now) n rs)
    ∙ (ap (λ (xs : List (Bor RecordValue)). seen xs ∷ sections (seen (drop n rs) ++ more)) (sym f) ∙ ap (λ (xs : List (Bor RecordValue)). seen first ∷ sections (seen xs ++ more)) (sym r)))))

some_count : (rs : List (Bor RecordValue)) → 0 < length rs → 0 < row_count None (seen rs)
some_count [] l = absurd (omega (arith, l))
some_count (r ∷ rs) l = omega (arith, some_rows r.now (seen rs))

-- a section has a row
pub some_before : (rs : List (Bor RecordValue)) (n : ℕ) → n ≡ row_count None (seen rs) → n < length rs → 0 < n
some_before rs n e l = omega (arith, e, some_count rs (omega (arith, l)))

none_after : (rs : List RecordValue) → length rs ≤ row_count None rs → drop (row_count None rs) rs ≡ []
none_after rs l = none (row_count None rs) rs l where
  none : (n : ℕ) (xs : List RecordValue) → length xs ≤ n → drop n xs ≡ []
  none zero [] l = refl
  none zero (x ∷ xs) l = absurd (omega (arith, l))
  none (suc n) [] l = refl
  none (suc n) (x ∷ xs) l = none n xs (omega (arith, l))

all_before : (n : ℕ) (xs : List RecordValue) → length xs ≤ n → take n xs ≡ xs
all_before zero [] l = refl
all_before zero (x ∷ xs) l = absurd (omega (arith, l))
all_before (suc n) [] l = refl
all_before (suc n) (x ∷ xs) l = ap (λ (ys : List RecordValue). x ∷ ys) (all_before n xs (omega (arith, l)))

-- rows among which no section begins are one
pub one_section : (rs : List RecordValue) → length rs ≤ row_count None rs → sections rs ≡ rs ∷ []
one_section rs l =
    first_section rs
    ∙ (ap (λ (xs : List RecordValue). xs ∷ later_sections (drop (row_count None rs) rs)) (all_before (row_count None rs) rs l)
    ∙ ap (λ (xs : List RecordValue). rs ∷ later_sections xs) (none_after rs l))

-- all rows from one on
pub all_from : (all : List (Bor RecordValue)) (k : ℕ) → take (length all - k) (drop k all) ≡ drop k all
all_from all k = take_all (length all - k) (drop k all) (omega (arith, length-drop k all))

-- rows of which so many are judged, and the section after them, which so many rows have
module _ (all : List (Bor RecordValue)) (judged n : ℕ) (counted : n ≡ row_count None (seen (drop judged all))) where
  abbrev left : List (Bor RecordValue)
  left = drop judged all

  abbrev pub section : List RecordValue
  section = seen (take (judged + n - judged) left)

  left_seen : drop judged (seen all) ≡ seen left
  left_seen = drop-map (λ (x : Bor RecordValue). x.now) judged all

  below_seen : seen (drop n left) ≡ drop (judged + n) (seen all)
  below_seen = ap (λ (xs : List (Bor RecordValue)). seen xs) (drop-drop n judged all) ∙ sym (drop-map (λ (x : Bor RecordValue). x.now) (judged + n) all)

  pub cut : (more : List RecordValue) → n < length all - judged → sections (drop judged (seen all) ++ more) ≡ section ∷ sections (drop (judged + n) (seen all) ++ more)
  cut more l =
      let len : length left ≡ length all - judged = length-drop judged all in
      let front : take (judged + n - judged) left ≡ take n left = ap (λ k. take k left) (omega arith) in
      ap (λ (xs : List RecordValue). sections (xs ++ more)) left_seen
      ∙ (split_before left (take (judged + n - judged) left) (drop n left) n more counted (omega (arith, l, len)) front refl
      ∙ ap (λ (xs : List RecordValue). section ∷ sections (xs ++ more)) below_seen)

  -- it has a row
  pub some_row : n < length all - judged → 0 < n
  some_row l = some_before left n counted (omega (arith, l, length-drop judged all))

  -- no other begins among them
  pub last_one : length all - judged ≤ n → sections (drop judged (seen all)) ≡ drop judged (seen all) ∷ []
  last_one l =
      let rows : length (drop judged (seen all)) ≡ length (seen all) - judged = length-drop judged (seen all) in
      let count : row_count None (drop judged (seen all)) ≡ n = ap (λ (xs : List RecordValue). row_count None xs) left_seen ∙ sym counted in
      one_section (drop judged (seen all)) (omega (arith, rows, count, l, length-seen all))

-- rows that nothing follows
pub with_none : (f : List (List RecordValue) → ℕ) (rs : List RecordValue) → f (sections (rs ++ [])) ≡ f (sections rs)
with_none f rs = ap (λ (xs : List RecordValue). f (sections xs)) (append-nil rs)

-- the rows that are left
pub last_seen : (all rest : List (Bor RecordValue)) (n : ℕ) → rest ≡ drop n all → seen rest ≡ drop n (seen all)
last_seen all rest n e = ap (λ (xs : List (Bor RecordValue)). seen xs) e ∙ sym (drop-map (λ (x : Bor RecordValue). x.now) n all)

-- what is kept of all, once the last is judged
pub kept_with_last : (f : List RecordValue → KeptValue) (old some all : List KeptValue) (rs last : List RecordValue) (k : KeptValue) → sections last ≡ last ∷ [] → k ≡ f last → all ≡ some ++ k ∷ [] → old ≡ []
    → some ++ map f (sections (last ++ [])) ≡ old ++ map f (sections (rs ++ [])) → all ≡ map f (sections rs)
kept_with_last f old some all rs last k one is pushed none whole =
    pushed
    ∙ (ap (λ (x : KeptValue). some ++ x ∷ []) is
    ∙ (ap (λ (ss : List (List RecordValue)). some ++ map f ss) (sym one)
    ∙ (ap (λ (xs : List RecordValue). some ++ map f (sections xs)) (sym (append-nil last))
    ∙ (whole ∙ (ap (λ (ks : List KeptValue). ks ++ map f (sections (rs ++ []))) none ∙ ap (λ (xs : List RecordValue). map f (sections xs)) (append-nil rs))))))

-- and how many documents there are
pub documents_with_last : (rs last : List RecordValue) (old some all : ℕ) → sections last ≡ last ∷ [] → all ≡ some + document_count (lexemes_of last)
    → some + documents_in (sections (last ++ [])) ≡ old + documents_in (sections (rs ++ [])) → all ≡ old + documents_in (sections rs)
documents_with_last rs last old some all one is whole =
    let here : documents_in (sections (last ++ [])) ≡ document_count (lexemes_of last) + 0 = with_none documents_in last ∙ ap documents_in one in
    omega (arith, here, is, whole, with_none documents_in rs)
