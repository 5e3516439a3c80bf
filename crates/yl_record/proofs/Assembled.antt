-- What rows that were told so far and those that follow tell.
use Rattle.std.proofs.Common.{◌≡◌, ℕ, zero, suc, ◌+◌, ◌-◌, ◌≤◌, ◌<◌, Bool, true, false, List, [], ◌∷◌, ◌++◌, length, map, drop, Option, Some, None, refl, ap, sym, subst, ◌∙◌, append_assoc, arith}
use Rattle.std.specs.Prelude.{option_to_list}
use Rattle.std.specs.List.{AllByRecursion}
use Rattle.std.proofs.lemmas.List.{append-nil}
use Rattle.yl_lexeme.specs.Known.{SurroundingsValue}
use Rattle.yl_lexeme.specs.Lexeme.{LexemeValue, CommentValue}
use Rattle.yl_row.specs.declared.fault.PlacedScanFault.{PlacedScanFault}
use Rattle.yl_row.specs.Fault.{is_unclosed}
use Rattle.yl_row.specs.Step.{FoundLexemeValue}
use Rattle.yl_row.specs.ScalarReader.{open_found}
use Rattle.yl_row.specs.Entries.{RowEntry, lexeme_of, stopped_rows}
use Rattle.yl_row.specs.Run.{entries_by}
use Rattle.yl_scan.specs.Output.{ScanOutput, StepValue, at_line, with_comment, first_fault, fault_in, entry_step, output_with_step, no_output, output_of_entries}
use Rattle.yl_scan.specs.Remaining.{PhaseValue, Fresh, Within, Halted, rows_to, output_with_lexeme_above, output_with_fault_above, output_of_scalar, remaining_output}
use Rattle.yl_scan.specs.Scanner.{begun_at, is_halted}
use Rattle.yl_scan.specs.Settled.{output_then, with_last}
use Rattle.yl_scan.proofs.Settling.{in_turn, puts_last}
use Rattle.yl_record.specs.Parts.{with_fault_in, entry_with_fault}
use Rattle.yl_record.specs.Recorded.{entries_with_scalar, entries_with_rest}
use Rattle.yl_record.specs.Recorder.{AreFaultless, IsInside, IsOpenSince}
use Rattle.yl_record.proofs.Faults.{no_fault}

-- ---- one after another

comments_of : (line : ℕ) (c : Option CommentValue) (xs ys : List (ℕ × CommentValue)) → with_comment line c (xs ++ ys) ≡ with_comment line c xs ++ ys
comments_of line None xs ys = refl
comments_of line (Some c) xs ys = refl

pub faults_of : (f g h : Option (ℕ × PlacedScanFault)) → first_fault f (first_fault g h) ≡ first_fault (first_fault f g) h
faults_of None g h = refl
faults_of (Some f) g h = refl

pub fault_alone : (f : Option (ℕ × PlacedScanFault)) → first_fault f None ≡ f
fault_alone None = refl
fault_alone (Some f) = refl

pub nothing_then : (o : ScanOutput) → output_then o no_output ≡ o
nothing_then o = λ i. record {
  lexemes = append-nil o.lexemes i;
  comments = append-nil o.comments i;
  states = append-nil o.states i;
  fault = fault_alone o.fault i;
}

pub then_then : (o p q : ScanOutput) → output_then (output_then o p) q ≡ output_then o (output_then p q)
then_then o p q = λ i. record {
  lexemes = append_assoc o.lexemes p.lexemes q.lexemes i;
  comments = append_assoc o.comments p.comments q.comments i;
  states = append_assoc o.states p.states q.states i;
  fault = sym (faults_of o.fault p.fault q.fault) i;
}

step_lexemes : (above row o p : List (ℕ × LexemeValue)) → above ++ (row ++ (o ++ p)) ≡ (above ++ (row ++ o)) ++ p
step_lexemes above row o p = ap (λ xs. above ++ xs) (sym (append_assoc row o p)) ∙ sym (append_assoc above (row ++ o) p)

pub step_then : (line : ℕ) (t : StepValue) (o p : ScanOutput) → output_with_step line t (output_then o p) ≡ output_then (output_with_step line t o) p
step_then line t o p = λ i. record {
  lexemes = step_lexemes (option_to_list t.above) (map (at_line line) t.lexemes) o.lexemes p.lexemes i;
  comments = comments_of line t.comment o.comments p.comments i;
  states = t.state ∷ (o.states ++ p.states);
  fault = faults_of t.fault o.fault p.fault i;
}

-- a step, and then what comes
pub step_first : (line : ℕ) (t : StepValue) (o q : ScanOutput) → output_then (output_then o (output_with_step line t no_output)) q ≡ output_then o (output_with_step line t q)
step_first line t o q = then_then o (output_with_step line t no_output) q ∙ ap (output_then o) (sym (step_then line t no_output q))

-- ---- a lexeme or a fault, put into its row

abbrev pub lexeme_told : ℕ → LexemeValue → ScanOutput
lexeme_told line x = record { lexemes = (line, x) ∷ []; comments = []; states = []; fault = None }

abbrev pub fault_told : ℕ → PlacedScanFault → ScanOutput
fault_told line f = record { lexemes = []; comments = []; states = []; fault = Some (line, f) }

first_none : (g : Option (ℕ × PlacedScanFault)) (h : ℕ × PlacedScanFault) → g ≡ None → first_fault g (Some h) ≡ Some h
first_none None h p = refl
first_none (Some g) h p = cc

pub fault_put : (line n : ℕ) (f : PlacedScanFault) (es : List RowEntry) → n < length es → AreFaultless es → output_of_entries line (with_fault_in n f es) ≡ output_then (output_of_entries line es) (fault_told (line + n) f)
fault_put line zero f [] lt h = absurd (omega (arith, lt))
fault_put line (suc n) f [] lt h = absurd (omega (arith, lt))
fault_put line zero f (e ∷ es) lt h =
    let rest = output_of_entries line (e ∷ es) in
    let here : line ≡ line + 0 = omega arith in
    let fault : ◌≡◌ {A = Option (ℕ × PlacedScanFault)} (Some (line, f)) (first_fault rest.fault (Some (line + 0, f))) = ap (λ m. Some (m, f)) here ∙ sym (first_none rest.fault (line + 0, f) (no_fault line (e ∷ es) h)) in
    λ i. record {
      lexemes = sym (append-nil rest.lexemes) i;
      comments = sym (append-nil rest.comments) i;
      states = sym (append-nil rest.states) i;
      fault = fault i;
    }
fault_put line (suc n) f (e ∷ es) lt h =
    let below : line + 1 + n ≡ line + suc n = omega arith in
    ap (output_with_step line (entry_step line e)) (fault_put (line + 1) n f es (omega (arith, lt)) h.1)
    ∙ step_then line (entry_step line e) (output_of_entries (line + 1) es) (fault_told (line + 1 + n) f)
    ∙ ap (λ m. output_then (output_of_entries line (e ∷ es)) (fault_told m f)) below

pub last_length : (n : ℕ) (x : LexemeValue) (es : List RowEntry) → length (with_last n x es) ≡ length es
last_length zero x [] = refl
last_length (suc n) x [] = refl
last_length zero x (e ∷ es) = refl
last_length (suc n) x (e ∷ es) = ap suc (last_length n x es)

pub fault_length : (n : ℕ) (f : PlacedScanFault) (es : List RowEntry) → length (with_fault_in n f es) ≡ length es
fault_length zero f [] = refl
fault_length (suc n) f [] = refl
fault_length zero f (e ∷ es) = refl
fault_length (suc n) f (e ∷ es) = ap suc (fault_length n f es)

bare : (es : List RowEntry) → AllByRecursion IsInside es → AllByRecursion (λ (e : RowEntry). e.lexemes ≡ []) es
bare [] h = tt
bare (e ∷ es) h = (h.0.0, bare es h.1)

-- the scalar in progress
pub lexeme_put : (taken begun : ℕ) (x : LexemeValue) (told : List RowEntry) → IsOpenSince told taken begun → output_of_entries taken (with_last (begun - taken) x told) ≡ output_then (output_of_entries taken told) (lexeme_told begun x)
lexeme_put taken begun x told since =
    let at : taken + (begun - taken) ≡ begun = omega (arith, since.least) in
    puts_last taken (begun - taken) x told (omega (arith, since.least, since.most)) (bare (drop (suc (begun - taken)) told) since.inside)
    ∙ ap (λ n. output_then (output_of_entries taken told) (lexeme_told n x)) at

pub fault_put_open : (taken begun : ℕ) (f : PlacedScanFault) (told : List RowEntry) → taken ≤ begun → begun < taken + length told → AreFaultless told
    → output_of_entries taken (with_fault_in (begun - taken) f told) ≡ output_then (output_of_entries taken told) (fault_told begun f)
fault_put_open taken begun f told least most none =
    let at : taken + (begun - taken) ≡ begun = omega (arith, least) in
    fault_put taken (begun - taken) f told (omega (arith, least, most)) none ∙ ap (λ n. output_then (output_of_entries taken told) (fault_told n f)) at

-- ---- rows told so far and those that follow

then_lexeme : (o p : ScanOutput) (line begun : ℕ) (x : LexemeValue) → output_then (output_then o (lexeme_told begun x)) p ≡ output_then o (output_with_lexeme_above line begun x p)
then_lexeme o p line begun x = then_then o (lexeme_told begun x) p

then_fault : (o p : ScanOutput) (begun : ℕ) (f : PlacedScanFault) → output_then (output_then o (fault_told begun f)) p ≡ output_then o (output_with_fault_above begun f p)
then_fault o p begun f = then_then o (fault_told begun f) p

behind_told : (taken : ℕ) (told put fs : List RowEntry) → length put ≡ length told → output_of_entries taken (put ++ fs) ≡ output_then (output_of_entries taken put) (output_of_entries (taken + length told) fs)
behind_told taken told put fs same = in_turn taken put fs ∙ ap (λ n. output_then (output_of_entries taken put) (output_of_entries (taken + n) fs)) same

scalar_assembled : (told : List RowEntry) (taken begun at : ℕ) (f : FoundLexemeValue) (k : SurroundingsValue) (rows : List (List ℕ)) (g : Option PlacedScanFault) → IsOpenSince told taken begun → AreFaultless told
    → output_of_entries taken (entries_with_scalar told (taken + length told) begun taken at f k rows g) ≡ output_then (output_of_entries taken told) (output_of_scalar (taken + length told) begun at f k rows g)
scalar_assembled told taken begun at f k rows None since none =
    let line = taken + length told in
    let x = lexeme_of at f in
    let below = entries_by false (rows_to line begun f.down) f.column k rows in
    behind_told taken told (with_last (begun - taken) x told) below (last_length (begun - taken) x told)
    ∙ ap (λ o. output_then o (output_of_entries line below)) (lexeme_put taken begun x told since)
    ∙ then_lexeme (output_of_entries taken told) (output_of_entries line below) line begun x
scalar_assembled told taken begun at f k rows (Some g) since none =
    let line = taken + length told in
    let below = stopped_rows (is_unclosed g.fault) (rows_to line begun g.down) rows in
    behind_told taken told (with_fault_in (begun - taken) g told) below (fault_length (begun - taken) g told)
    ∙ ap (λ o. output_then o (output_of_entries line below)) (fault_put_open taken begun g told since.least since.most none)
    ∙ then_fault (output_of_entries taken told) (output_of_entries line below) begun g

pub assembled : (told : List RowEntry) (taken : ℕ) (stand : PhaseValue) (rows : List (List ℕ)) → ((b : ℕ) → begun_at stand ≡ Some b → IsOpenSince told taken b) → (is_halted stand ≡ false → AreFaultless told)
    → output_of_entries taken (entries_with_rest told taken stand rows) ≡ output_then (output_of_entries taken told) (remaining_output (taken + length told) stand rows)
assembled told taken (Fresh start k) rows since none = in_turn taken told (entries_by start 0 0 k rows)
assembled told taken (Within begun style at m k) rows since none = let f = open_found style at m rows in scalar_assembled told taken begun at f k rows f.fault (since begun refl) (none refl)
assembled told taken (Halted to_end down) rows since none = in_turn taken told (stopped_rows to_end down rows)
