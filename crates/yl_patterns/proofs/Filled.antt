-- Tables that are filled from their end.
use Rattle.std.proofs.Common.{◌≡◌, ◌+◌, ◌-◌, ◌<◌, ◌≤◌, ℕ, inl, inr, Bool, false, List, ◌∷◌, length, get_or, set, drop, sym, ap, ◌∙◌, subst, arith}
use Rattle.std.proofs.lemmas.Bool.{cases_order}
use Rattle.std.proofs.lemmas.List.{at_drop_more, get_or-set_same, get_or-set_other, get_or-drop, drop-drop, length-drop}
use Rattle.yl_patterns.specs.Tables.{IsTable}

-- from a place on a table has what a test answers
pub record IsFrom (test : List ℕ → Bool) (cs : List ℕ) (table : List Bool) (i : ℕ) : Type 0 where
  pub at : (k : ℕ) → i ≤ k → k ≤ length cs → get_or table k false ≡ test (drop k cs)

-- and before a place
pub record IsBefore (test : List ℕ → Bool) (cs : List ℕ) (table : List Bool) (i : ℕ) : Type 0 where
  pub at : (k : ℕ) → k < i → get_or table k false ≡ test (drop k cs)

pub from_step : (test : List ℕ → Bool) (cs : List ℕ) (table : List Bool) (i : ℕ) (v : Bool) → i < length table → v ≡ test (drop i cs) → IsFrom test cs table (i + 1) → IsFrom test cs (set table i v) i
from_step test cs table i v h e rest = record {
  at = λ k from within. elim (cases_order i k) [
    | inl same ↦ subst (λ (n : ℕ). get_or (set table i v) n false ≡ test (drop n cs)) same (get_or-set_same table i v false h ∙ e)
    | inr (inl above) ↦ get_or-set_other table i k v false (omega arith) ∙ rest.at k (omega arith) within
    | inr (inr below) ↦ absurd (omega arith)
  ];
}

pub before_step : (test : List ℕ → Bool) (cs : List ℕ) (table : List Bool) (i n : ℕ) (v : Bool) → n ≤ i → IsBefore test cs table n → IsBefore test cs (set table i v) n
before_step test cs table i n v h rest = record { at = λ k below. get_or-set_other table i k v false (omega arith) ∙ rest.at k below }

pub before_fewer : (test : List ℕ → Bool) (cs : List ℕ) (table : List Bool) (i n : ℕ) → i ≤ n → IsBefore test cs table n → IsBefore test cs table i
before_fewer test cs table i n h rest = record { at = λ k below. rest.at k (omega arith) }

pub table_from : (test : List ℕ → Bool) (cs : List ℕ) (table : List Bool) (i : ℕ) → i ≤ 0 → length table ≡ length cs + 1 → IsFrom test cs table i → IsTable test cs table
table_from test cs table i none n h = record { len = n; at = λ k within. h.at k (omega arith) within }

pub from_table : (test : List ℕ → Bool) (cs : List ℕ) (table : List Bool) → IsTable test cs table → IsBefore test cs table (length cs)
from_table test cs table h = record { at = λ k below. h.at k (omega arith) }

-- at the end alone
pub from_end : (test : List ℕ → Bool) (cs : List ℕ) (table : List Bool) → get_or table (length cs) false ≡ test (drop (length cs) cs) → IsFrom test cs table (length cs)
from_end test cs table e = record {
  at = λ k from within. let same : length cs ≡ k = omega arith in subst (λ (n : ℕ). get_or table n false ≡ test (drop n cs)) same e;
}

pub table-drop : (test : List ℕ → Bool) (cs : List ℕ) (table : List Bool) (n : ℕ) → n ≤ length cs → IsTable test cs table → IsTable test (drop n cs) (drop n table)
table-drop test cs table n h t = record {
  len = omega (arith, length-drop n cs, length-drop n table, t.len);
  at = λ k within. get_or-drop n table k false ∙ t.at (n + k) (omega (arith, length-drop n cs)) ∙ ap test (sym (drop-drop k n cs));
}

-- a place inside a text, and its character
pub record IsAt (cs : List ℕ) (table : List Bool) (k c : ℕ) : Type 0 where
  pub some : 0 < k
  pub within : k ≤ length cs
  pub len : length table ≡ length cs + 1
  pub read : c ≡ get_or cs (k - 1) c

-- what stands from there on
pub at_place : (test : List ℕ → Bool) (cs : List ℕ) (table : List Bool) (k c : ℕ) → IsAt cs table k c → test (drop (k - 1) cs) ≡ test (c ∷ drop k cs)
at_place test cs table k c at =
    let next : k - 1 + 1 ≡ k = omega (arith, at.some) in
    at_drop_more test cs (k - 1) c (omega (arith, at.some, at.within)) ∙ ap (λ (d : ℕ). test (d ∷ drop (k - 1 + 1) cs)) (sym at.read)
    ∙ ap (λ (n : ℕ). test (c ∷ drop n cs)) next

pub from_more : (test : List ℕ → Bool) (cs : List ℕ) (table : List Bool) (k c : ℕ) (v : Bool) → IsAt cs table k c → v ≡ test (c ∷ drop k cs) → IsFrom test cs table k → IsFrom test cs (set table (k - 1) v) (k - 1)
from_more test cs table k c v at e rest =
    let next : k ≡ k - 1 + 1 = omega (arith, at.some) in
    from_step test cs table (k - 1) v (omega (arith, at.some, at.within, at.len)) (e ∙ sym (at_place test cs table k c at))
    (subst (λ (n : ℕ). IsFrom test cs table n) next rest)

pub before_less : (test : List ℕ → Bool) (cs : List ℕ) (table : List Bool) (k : ℕ) (v : Bool) → IsBefore test cs table k → IsBefore test cs (set table (k - 1) v) (k - 1)
before_less test cs table k v rest =
    before_step test cs table (k - 1) (k - 1) v (omega arith) (before_fewer test cs table (k - 1) k (omega arith) rest)

-- the answer there, before it is changed
pub read_before : (test : List ℕ → Bool) (cs : List ℕ) (table : List Bool) (k c : ℕ) → IsAt cs table k c → IsBefore test cs table k → get_or table (k - 1) false ≡ test (c ∷ drop k cs)
read_before test cs table k c at before = before.at (k - 1) (omega (arith, at.some)) ∙ at_place test cs table k c at

-- and the one after it
pub read_from : (test : List ℕ → Bool) (cs : List ℕ) (table : List Bool) (k c : ℕ) → IsAt cs table k c → IsFrom test cs table k → get_or table (k - 1 + 1) false ≡ test (drop k cs)
read_from test cs table k c at from =
    let next : k ≡ k - 1 + 1 = omega (arith, at.some) in
    subst (λ (n : ℕ). get_or table n false ≡ test (drop k cs)) next (from.at k (omega arith) at.within)
