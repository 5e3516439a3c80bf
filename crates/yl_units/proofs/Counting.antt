-- Units and columns of characters.
use Rattle.std.proofs.Common.{◌≡◌, ℕ, zero, suc, ◌+◌, ◌-◌, ◌≤◌, ◌<◌, ◌⊎◌, inl, inr, Bool, true, false, cond, leb, List, [], ◌∷◌, ◌++◌, length, take, drop, get_or, refl, sym, ◌∙◌, ap, subst, arith, zero-add, add_assoc, length-append}
use Rattle.std.proofs.lemmas.Bool.{cases_lt}
use Rattle.std.proofs.lemmas.List.{at_drop_more}
use Rattle.std.proofs.lemmas.Bool.Decides.{nat_tests}
use Rattle.std.proofs.lemmas.Str.{length-encode, len_utf8_bounds}
use Rattle.std.proofs.Math.Utf8.{encode, encodes}
use Rattle.yl_units.specs.declared.encoding.Encoding.{Encoding}
use Rattle.yl_units.specs.declared.encoding.Encoding.TheVariants.{Utf8, Utf16, Utf32}
use Rattle.yl_units.specs.Units.{width_of, units_of, column_of}
use Rattle.yl_units.specs.Places.{ColumnsAreLast, ColumnsAreWithin}

-- a test of two numbers
leb_yes : (m n : ℕ) → m ≤ n → leb m n ≡ true
leb_yes m n h = grind (arith, nat_tests)

leb_no : (m n : ℕ) → n < m → leb m n ≡ false
leb_no m n h = grind (arith, nat_tests)

-- a character has a unit at the least, and no more units than bytes
pub width_bounds : (e : Encoding) (c : ℕ) → (1 ≤ width_of e c) × (width_of e c ≤ length (encode c))
width_bounds Utf8 c = let h = len_utf8_bounds c in (omega (arith, length-encode c, h.0), omega arith)
width_bounds Utf16 c = let h = len_utf8_bounds c in let n = length-encode c in elim (cases_lt c 65536) [
  | inl small ↦ (grind (arith, nat_tests), grind (arith, nat_tests))
  | inr large ↦ (grind (arith, nat_tests), grind (arith, nat_tests))
]
width_bounds Utf32 c = let h = len_utf8_bounds c in (omega arith, omega (arith, length-encode c, h.0))

pub units-append : (e : Encoding) (xs ys : List ℕ) → units_of e (xs ++ ys) ≡ units_of e xs + units_of e ys
units-append e [] ys = sym (zero-add (units_of e ys))
units-append e (x ∷ xs) ys = ap (λ n. width_of e x + n) (units-append e xs ys) ∙ sym (add_assoc (width_of e x) (units_of e xs) (units_of e ys))

pub units_most : (e : Encoding) (cs : List ℕ) → units_of e cs ≤ length (encodes cs)
units_most e [] = omega arith
units_most e (c ∷ cs) = omega (arith, (width_bounds e c).1, units_most e cs, length-append (encode c) (encodes cs))

-- the column at the first character
column_some : (e : Encoding) (c : ℕ) (cs : List ℕ) (units : ℕ) → width_of e c ≤ units → column_of e (c ∷ cs) units ≡ suc (column_of e cs (units - width_of e c))
column_some e c cs units h = ap (λ b. cond b (suc (column_of e cs (units - width_of e c))) 0) (leb_yes (width_of e c) units h)

column_none : (e : Encoding) (c : ℕ) (cs : List ℕ) (units : ℕ) → units < width_of e c → column_of e (c ∷ cs) units ≡ 0
column_none e c cs units h = ap (λ b. cond b (suc (column_of e cs (units - width_of e c))) 0) (leb_no (width_of e c) units h)

pub column_within : ColumnsAreWithin
column_within e [] units = omega arith
column_within e (c ∷ cs) units = elim (cases_lt units (width_of e c)) [
  | inl few ↦ omega (arith, column_none e c cs units few)
  | inr enough ↦ omega (arith, column_some e c cs units enough, column_within e cs (units - width_of e c))
]

pub column_last : ColumnsAreLast
column_last e cs units zero h = (λ _. omega arith, λ _. omega arith)
column_last e [] units (suc n) h = absurd (omega arith)
column_last e (c ∷ cs) units (suc n) h = elim (cases_lt units (width_of e c)) [
  | inl few ↦ (λ past. absurd (omega (arith, column_none e c cs units few)), λ fits. absurd (omega arith))
  | inr enough ↦
      let next = column_last e cs (units - width_of e c) n (omega arith) in
      let is = column_some e c cs units enough in
      (λ past. let fits = next.0 (omega arith) in omega arith, λ fits. let past = next.1 (omega arith) in omega arith)
]

-- the units before a column lead back to it
pub column_back : (e : Encoding) (cs : List ℕ) (n : ℕ) → n ≤ length cs → column_of e cs (units_of e (take n cs)) ≡ n
column_back e [] zero h = refl
column_back e [] (suc n) h = absurd (omega arith)
column_back e (c ∷ cs) zero h = column_none e c cs 0 (omega (arith, (width_bounds e c).0))
column_back e (c ∷ cs) (suc n) h =
    let w = width_of e c in
    let rest : w + units_of e (take n cs) - w ≡ units_of e (take n cs) = omega arith in
    column_some e c cs (w + units_of e (take n cs)) (omega arith) ∙ ap (λ m. suc (column_of e cs m)) rest ∙ ap suc (column_back e cs n (omega arith))

-- a step over the character at a column
pub column_at : (e : Encoding) (cs : List ℕ) (n c units : ℕ) → (n < length cs) × (c ≡ get_or cs n c) → column_of e (drop n cs) units ≡ column_of e (c ∷ drop (n + 1) cs) units
column_at e cs n c units h = at_drop_more (λ l. column_of e l units) cs n c h.0 ∙ ap (λ d. column_of e (d ∷ drop (n + 1) cs) units) (sym h.1)

pub column_stop : (e : Encoding) (cs : List ℕ) (n c units : ℕ) → (n < length cs) × (c ≡ get_or cs n c) → units < width_of e c → column_of e (drop n cs) units ≡ 0
column_stop e cs n c units h few = column_at e cs n c units h ∙ column_none e c (drop (n + 1) cs) units few

pub column_step : (e : Encoding) (cs : List ℕ) (n c units : ℕ) → (n < length cs) × (c ≡ get_or cs n c) → width_of e c ≤ units → column_of e (drop n cs) units ≡ 1 + column_of e (drop (n + 1) cs) (units - width_of e c)
column_step e cs n c units h enough = omega (arith, column_at e cs n c units h ∙ column_some e c (drop (n + 1) cs) units enough)
