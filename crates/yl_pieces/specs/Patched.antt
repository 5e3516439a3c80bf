-- Bridge: a law of an edit: what is told of the section now is what was told before, cut by lines,
-- with what is told of the new rows alone.
use Rattle.std.specs.Prelude.{ℕ, not, nat_lt, ◌≡◌, ◌+◌, ◌-◌, ◌++◌, List, map, length, None}
use Rattle.std.specs.List.{filter}
use Rattle.yl_text.specs.Finding.{FindingValue}
use Rattle.yl_lexeme.specs.Lexeme.{PlacedCommentValue}
use Rattle.yl_indentation.specs.declared.fact.Fact.{Fact}
use Rattle.yl_config.specs.declared.config.Config.{Config}
use Rattle.yl_record.specs.Records.{RecordValue}
use Rattle.yl_pieces.specs.State.{start_state}
use Rattle.yl_pieces.specs.Told.{Told, fault_in, told}
use Rattle.yl_pieces.specs.Laws.{told_below}
use Rattle.yl_pieces.specs.Edit.{IsPieceEdit, after_front}

-- ---- a list cut by rows, which count from 0. A function says in which row an item stands

-- the items in the first so many rows, and those below these rows
abbrev pub in_first : {X : Type 0} → (X → ℕ) → ℕ → List X → List X
in_first row rows xs = filter (λ x. nat_lt (row x) rows) xs

abbrev pub below_first : {X : Type 0} → (X → ℕ) → ℕ → List X → List X
below_first row rows xs = filter (λ x. not (nat_lt (row x) rows)) xs

-- the items of the first `front` rows, then new ones in place of those of the `old` rows that come
-- next, then those below all these rows, moved
abbrev pub list_patched : {X : Type 0} → (X → ℕ) → (X → X) → (front old : ℕ) → (xs new : List X) → List X
list_patched row moved front old xs new = in_first row front xs ++ (new ++ map moved (below_first row (front + old) xs))

-- ---- what is told

-- the row in which a problem stands: its line counts from 1
abbrev pub row_of : FindingValue → ℕ
row_of f = f.line - 1

-- moved by so many rows that went, and so many that came
abbrev pub finding_moved : (old new : ℕ) → FindingValue → FindingValue
finding_moved old new f = record f { line = f.line - old + new }

abbrev pub fact_moved : (old new : ℕ) → Fact → Fact
fact_moved old new f = record f { line = f.line - old + new }

abbrev pub comment_moved : (old new : ℕ) → PlacedCommentValue → PlacedCommentValue
comment_moved old new c = record c { line = c.line - old + new }

-- what was told of all rows, where after the first `front` rows so many new ones come in place of
-- so many old ones. Of the new rows `piece` is told, from line 1 on. The fault stays as it was: the
-- law is of rows without one
abbrev pub patched : (front old new : ℕ) → (all piece : Told) → Told
patched front old new all piece =
    let there = told_below (front - 1) piece in
    record {
      found = list_patched row_of (finding_moved old new) front old all.found there.found;
      facts = list_patched (λ f. f.line) (fact_moved old new) front old all.facts there.facts;
      comments = list_patched (λ c. c.line) (comment_moved old new) front old all.comments there.comments;
      fault = all.fault;
    }

-- the old text has no fault. Then the new text has none either
abbrev pub ToldIsPatched : Type 0
ToldIsPatched = (config : Config) (front old new rest : List RecordValue)
    → IsPieceEdit front old new → fault_in start_state 0 (front ++ (old ++ rest)) ≡ None
    → told config start_state 0 (front ++ (new ++ rest))
    ≡ patched (length front) (length old) (length new) (told config start_state 0 (front ++ (old ++ rest))) (told config (after_front front) 1 new)
