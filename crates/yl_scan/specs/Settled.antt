-- Bridge: what rows report by their lines, and which rows are complete after others were read.
use Rattle.std.specs.Prelude.{◌≡◌, ◌≤◌, ◌<◌, ◌+◌, ◌-◌, ◌++◌, ◌∷◌, [], zero, suc, ℕ, List, map, take, drop, length, Option, Some, None, option_map}
use Rattle.std.specs.List.{AllByRecursion}
use Rattle.yl_lexeme.specs.Lexeme.{LexemeValue, CommentValue}
use Rattle.yl_row.specs.Entries.{RowEntry, LineStateValue, entries}
use Rattle.yl_scan.specs.Output.{ScanOutput, first_fault, output_of_entries}
use Rattle.yl_scan.specs.Remaining.{PhaseValue, Fresh, Within, Halted, remaining_output}
use Rattle.yl_scan.specs.Restart.{state_at}

-- what rows reported, and then what further rows report
abbrev pub output_then : ScanOutput → ScanOutput → ScanOutput
output_then o p = record { lexemes = o.lexemes ++ p.lexemes; comments = o.comments ++ p.comments; states = o.states ++ p.states; fault = first_fault o.fault p.fault }

-- rows report what the first of them report, and then what the others do
abbrev pub ToldInTurn : Type 0
ToldInTurn = (line : ℕ) (es fs : List RowEntry) → output_of_entries line (es ++ fs) ≡ output_then (output_of_entries line es) (output_of_entries (line + length es) fs)

-- what is reported of line i or a line below it, moved to line j and those below it
abbrev pub moved_line : {A : Type 0} → ℕ → ℕ → ℕ × A → ℕ × A
moved_line i j p = (j + (p.0 - i), p.1)

abbrev pub moved_output : ℕ → ℕ → ScanOutput → ScanOutput
moved_output i j o = record { lexemes = map (moved_line i j) o.lexemes; comments = map (moved_line i j) o.comments; states = o.states; fault = option_map (moved_line i j) o.fault }

-- equal rows, from sound rows with the same state on, report the same, moved from line i to line j
abbrev pub ToldMoves : Type 0
ToldMoves =
    (t u : List (List ℕ)) (i j : ℕ) (s : LineStateValue) → state_at (entries t) i ≡ Some s → state_at (entries u) j ≡ Some s → drop i t ≡ drop j u
    → output_of_entries j (drop j (entries u)) ≡ moved_output i j (output_of_entries i (drop i (entries t)))

-- what is kept of a row, without the fault: a text has one fault, which is reported once
pub record StoredRow : Type 0 where
  pub state : Option LineStateValue
  pub lexemes : List LexemeValue
  pub comment : Option CommentValue

abbrev pub stored_row : RowEntry → StoredRow
stored_row e = record { state = e.state; lexemes = e.lexemes; comment = e.comment }

-- rows that report the same have the same lexemes, comments and states
abbrev pub ToldTells : Type 0
ToldTells = (line : ℕ) (es fs : List RowEntry) → output_of_entries line es ≡ output_of_entries line fs → map stored_row es ≡ map stored_row fs

-- the scalar in progress, if there is one, began in this line or below it
abbrev pub BeginsFrom : ℕ → PhaseValue → Type 0
BeginsFrom n (Fresh start k) = Unit {0}
BeginsFrom n (Within begun style at m k) = n ≤ begun
BeginsFrom n (Halted to_end down) = Unit {0}

-- if what was reported so far is what rows with the entries rs report, and together with what is
-- still to be reported it is what rows with the entries es report, then the rows above a line above
-- which no scalar in progress began are complete
abbrev pub Settles : Type 0
Settles =
    (es rs : List RowEntry) (stand : PhaseValue) (rest : List (List ℕ)) (n : ℕ) → output_then (output_of_entries 0 rs) (remaining_output (length rs) stand rest) ≡ output_of_entries 0 es
    → n ≤ length rs → BeginsFrom n stand → map stored_row (take n rs) ≡ map stored_row (take n es)

-- a lexeme that has ended, as the last one of the row in which it began
abbrev pub with_last : ℕ → LexemeValue → List RowEntry → List RowEntry
with_last n x [] = []
with_last zero x (e ∷ es) = record { state = e.state; lexemes = e.lexemes ++ x ∷ []; comment = e.comment; fault = e.fault } ∷ es
with_last (suc n) x (e ∷ es) = e ∷ with_last n x es

-- that lexeme is reported last, if no lexeme begins in the rows below the one in which it began
abbrev pub PutsLast : Type 0
PutsLast =
    (line n : ℕ) (x : LexemeValue) (es : List RowEntry) → n < length es → AllByRecursion (λ (e : RowEntry). e.lexemes ≡ []) (drop (suc n) es)
    → output_of_entries line (with_last n x es) ≡ output_then (output_of_entries line es) (record { lexemes = (line + n, x) ∷ []; comments = []; states = []; fault = None })
