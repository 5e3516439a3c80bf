-- What rows told, and what further rows tell.
use Rattle.std.proofs.Common.{◌≡◌, ℕ, ◌+◌, ◌<◌, ◌≤◌, List, [], ◌∷◌, ◌++◌, length, get_or, drop, map, Option, Some, None, true, false, arith, refl, ap, sym, ◌∙◌, append_assoc}
use Rattle.std.specs.Prelude.{option_to_list, option_map, is_some}
use Rattle.std.specs.Str.{chars}
use Rattle.std.proofs.lemmas.List.{append-nil, drop_more, drop_all}
use Rattle.yl_text.specs.Lines.{RowValue}
use Rattle.yl_lexeme.specs.Lexeme.{LexemeValue, CommentValue}
use Rattle.yl_row.specs.declared.fault.PlacedScanFault.{PlacedScanFault}
use Rattle.yl_lexeme.specs.Known.{no_surroundings}
use Rattle.yl_lexeme.specs.declared.meter.Meter.{Meter}
use Rattle.yl_row.specs.Entries.{entries}
use Rattle.yl_row.proofs.Agree.{run-entries}
use Rattle.yl_scan.specs.Output.{ScanOutput, StepValue, at_line, first_fault, with_comment, output_with_step, no_output, output_of_entries}
use Rattle.yl_scan.specs.Remaining.{PhaseValue, Fresh, remaining_output}
use Rattle.yl_scan.specs.Scanner.{ScannerValue}
use Rattle.yl_scan.specs.Step.{at_end, characters_of}
use Rattle.yl_scan.specs.Whole.{ScannedTextValue, text_value_of_output, text_value_then}

lexemes_joined : (xs : List (ℕ × LexemeValue)) (above row below : List (ℕ × LexemeValue)) → (xs ++ (above ++ (row ++ []))) ++ below ≡ xs ++ (above ++ (row ++ below))
lexemes_joined xs above row below = ap (λ ys. (xs ++ (above ++ ys)) ++ below) (append-nil row) ∙ simp append_assoc

comments_joined : (xs : List (ℕ × CommentValue)) (line : ℕ) (c : Option CommentValue) (below : List (ℕ × CommentValue)) → (xs ++ with_comment line c []) ++ below ≡ xs ++ with_comment line c below
comments_joined xs line None below = ap (λ ys. ys ++ below) (append-nil xs)
comments_joined xs line (Some c) below = append_assoc xs ((line, c) ∷ []) below

faults_joined : (f g h : Option (ℕ × PlacedScanFault)) → first_fault (first_fault f (first_fault g None)) h ≡ first_fault f (first_fault g h)
faults_joined None None h = refl
faults_joined None (Some g) h = refl
faults_joined (Some f) g h = refl

comment_added : (xs : List (ℕ × CommentValue)) (line : ℕ) (c : Option CommentValue) → xs ++ option_to_list (option_map (at_line line) c) ≡ xs ++ with_comment line c []
comment_added xs line None = refl
comment_added xs line (Some c) = refl

fault_added : (f g : Option (ℕ × PlacedScanFault)) → first_fault f g ≡ first_fault f (first_fault g None)
fault_added f None = refl
fault_added f (Some g) = refl

-- a text's answer to which a row's was added part by part
pub row_added : (o o' : ScannedTextValue) (line : ℕ) (t : StepValue) (mid : List (ℕ × LexemeValue))
    → mid ≡ o.lexemes ++ option_to_list t.above → o'.lexemes ≡ mid ++ map (at_line line) t.lexemes → o'.comments ≡ o.comments ++ option_to_list (option_map (at_line line) t.comment)
    → o'.sound ≡ o.sound ++ is_some t.state ∷ [] → o'.fault ≡ first_fault o.fault t.fault
    → o' ≡ text_value_then o (output_with_step line t no_output)
row_added o o' line t mid above row comment sound fault =
    let row_of = map (at_line line) t.lexemes in
    let lexemes : o'.lexemes ≡ o.lexemes ++ (option_to_list t.above ++ (row_of ++ [])) =
    row ∙ ap (λ xs. xs ++ row_of) above ∙ append_assoc o.lexemes (option_to_list t.above) row_of ∙ ap (λ ys. o.lexemes ++ (option_to_list t.above ++ ys)) (sym (append-nil row_of)) in
    λ i. record {
      lexemes = lexemes i;
      comments = (comment ∙ comment_added o.comments line t.comment) i;
      sound = sound i;
      fault = (fault ∙ fault_added o.fault t.fault) i;
    }

-- a row's answer, and then what the rows below tell
pub row_joined : (o : ScannedTextValue) (line : ℕ) (t : StepValue) (p : ScanOutput) → text_value_then (text_value_then o (output_with_step line t no_output)) p ≡ text_value_then o (output_with_step line t p)
row_joined o line t p = λ i. record {
  lexemes = lexemes_joined o.lexemes (option_to_list t.above) (map (at_line line) t.lexemes) p.lexemes i;
  comments = comments_joined o.comments line t.comment p.comments i;
  sound = append_assoc o.sound (is_some t.state ∷ []) (map is_some p.states) i;
  fault = faults_joined o.fault t.fault p.fault i;
}

-- a scanner at a text's start, before anything is told
pub start_told : (o : ScannedTextValue) (s : ScannerValue) (rows : List RowValue) → o ≡ text_value_of_output no_output → s ≡ record { line = 0; stand = Fresh true no_surroundings; states = false; refused = false }
    → text_value_then o (remaining_output s.line s.stand (characters_of rows)) ≡ text_value_of_output (output_of_entries 0 (entries (characters_of rows)))
start_told o s rows none start =
    ap (λ p. text_value_then p (remaining_output s.line s.stand (characters_of rows))) none
    ∙ ap (λ (v : ScannerValue). text_value_of_output (remaining_output v.line v.stand (characters_of rows))) start
    ∙ ap (λ es. text_value_of_output (output_of_entries 0 es)) (run-entries (characters_of rows))

-- one row more
pub row_told_too : (o o' : ScannedTextValue) (line : ℕ) (t : StepValue) (stand : PhaseValue) (s' : ScannerValue) (rows : List RowValue) (i : ℕ) (row : RowValue) (text : ScannedTextValue)
    → i < length rows → row ≡ get_or rows i row → o' ≡ text_value_then o (output_with_step line t no_output)
    → remaining_output line stand (chars row.text ∷ characters_of (drop (i + 1) rows)) ≡ output_with_step line t (remaining_output s'.line s'.stand (characters_of (drop (i + 1) rows)))
    → text_value_then o (remaining_output line stand (characters_of (drop i rows))) ≡ text
    → text_value_then o' (remaining_output s'.line s'.stand (characters_of (drop (i + 1) rows))) ≡ text
row_told_too o o' line t stand s' rows i row text lt is new step so_far =
    let below = remaining_output s'.line s'.stand (characters_of (drop (i + 1) rows)) in
    let here : characters_of (drop i rows) ≡ chars row.text ∷ characters_of (drop (i + 1) rows) =
    ap characters_of (drop_more rows i row lt) ∙ ap (λ (r : RowValue). chars r.text ∷ characters_of (drop (i + 1) rows)) (sym is) in
    ap (λ p. text_value_then p below) new
    ∙ row_joined o line t below
    ∙ ap (text_value_then o) (sym step)
    ∙ ap (λ cs. text_value_then o (remaining_output line stand cs)) (sym here)
    ∙ so_far

-- one line more is counted
pub counts : (m m' start : Meter) (n : ℕ) → m' ≡ record { lines = m.lines + 1; documents = m.documents } → m ≡ record { lines = start.lines + n; documents = start.documents }
    → m' ≡ record { lines = start.lines + (n + 1); documents = start.documents }
counts m m' start n more so_far =
    let lines : m.lines + 1 ≡ start.lines + (n + 1) = omega (arith, ap (λ (x : Meter). x.lines) so_far) in
    more ∙ (λ i. record { lines = lines i; documents = ap (λ (x : Meter). x.documents) so_far i })

-- and the text's end
pub end_told_too : (o o' : ScannedTextValue) (line : ℕ) (t : StepValue) (stand : PhaseValue) (rows : List RowValue) (i : ℕ) (text : ScannedTextValue)
    → length rows ≤ i → o' ≡ text_value_then o (at_end t) → remaining_output line stand [] ≡ at_end t → text_value_then o (remaining_output line stand (characters_of (drop i rows))) ≡ text → o' ≡ text
end_told_too o o' line t stand rows i text le new end so_far =
    new ∙ ap (text_value_then o) (sym end) ∙ ap (λ (rows : List RowValue). text_value_then o (remaining_output line stand (characters_of rows))) (sym (drop_all i rows le)) ∙ so_far
