-- Bridge: tables over a text, with an answer for each place of it and for its end.
use Rattle.std.specs.Prelude.{◌≡◌, ℕ, ◌+◌, ◌≤◌, Bool, false, List, length, drop, slice_index_or}

-- at each place a table has what this test answers of the text from there on
pub record IsTable (test : List ℕ → Bool) (cs : List ℕ) (table : List Bool) : Type 0 where
  pub len : length table ≡ length cs + 1
  pub at : (k : ℕ) → k ≤ length cs → slice_index_or table k false ≡ test (drop k cs)
