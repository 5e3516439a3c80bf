-- What is printed of the lines that are still to be read.
use Rattle.std.proofs.Common.{◌≡◌, ℕ, zero, suc, ◌+◌, Bool, true, false, List, [], ◌∷◌, ◌++◌, refl, sym, ap, subst, ◌∙◌, append_assoc, codes, decimal, map}
use Rattle.std.specs.Prelude.{Option, Some, None, is_some, ◌||◌, option_to_list, option_map, Result, Ok, Err, OnOk, IfOk}
use Rattle.std.specs.List.{flat_map}
use Rattle.std.proofs.lemmas.List.{append-nil}
use Rattle.yl_text.specs.Lines.{RowValue, lines_of}
use Rattle.yl_lexeme.specs.Lexeme.{LexemeValue, CommentValue}
use Rattle.yl_lexeme.specs.Known.{SurroundingsValue, no_surroundings}
use Rattle.yl_row.specs.declared.fault.PlacedScanFault.{PlacedScanFault}
use Rattle.yl_row.specs.Entries.{LineStateValue, RowEntry}
use Rattle.yl_row.specs.Step.{FoundLexemeValue}
use Rattle.yl_row.specs.Entries.{stopped_rows}
use Rattle.yl_row.proofs.Agree.{run-entries}
use Rattle.yl_row.specs.ScalarReader.{open_found}
use Rattle.yl_scan.specs.Output.{ScanOutput, StepValue, at_line, with_comment, first_fault, output_with_step, output_of_entries}
use Rattle.yl_scan.specs.Remaining.{PhaseValue, Fresh, Within, Halted, remaining_output, output_of_scalar}
use Rattle.yl_scan.specs.Scanner.{is_halted}
use Rattle.yl_scan.specs.Step.{characters_of, at_end}
use Rattle.yl_dump.specs.TextScan.{TextScannerValue}
use Rattle.yl_dump.specs.LexemeLine.{lexeme_line}
use Rattle.yl_dump.specs.StateLine.{line_text}
use Rattle.yl_dump.specs.StepLines.{above_lines, lines_of_comment, failed_lines, step_lines}
use Rattle.std.specs.Io.KnownBytes.{Appends}
use Rattle.yl_dump.specs.Printed.{output_of_text, states_from, states_text, AreLines, no_line, lexeme_next, comment_next, IsPrinted, AppendsPrinted}
use Rattle.yl_dump.specs.Writing.{output_left, states_left, GoesOn, Leaves, PrintsOn, PrintsAll, WritesOn}
use Rattle.yl_dump.proofs.Leaving.{leaves_none, leaves_same, leaves_of, leaves_more, leaves_behind, leaves_end}

-- from one fact on a value to another
pub on_ok : {T E P Q : Type 0} (r : Result T E) → (P → Q) → OnOk r P → OnOk r Q
on_ok (Ok x) f h = f h
on_ok (Err e) f h = tt

-- before the first line all is still to be read
abbrev pub at_start : List ℕ → Bool → TextScannerValue
at_start text states = record { line = 0; stand = Fresh true no_surroundings; rows = lines_of text; states = states }

start_left : (text : List ℕ) (states : Bool) → output_left (at_start text states) ≡ output_of_text text
unfolding output_of_text
start_left text states = ap (λ (es : List RowEntry). output_of_entries 0 es) (run-entries (characters_of (lines_of text)))

pub all_left : (text : List ℕ) (states : Bool) (s : TextScannerValue) → s ≡ at_start text states → output_left s ≡ output_of_text text
all_left text states s e = ap (λ (v : TextScannerValue). output_left v) e ∙ start_left text states

pub states_all : (page text : List ℕ) (states : Bool) (s : TextScannerValue) → page ≡ [] → s ≡ at_start text states → page ++ states_left s ≡ states_text text
states_all page text states s none e =
    ap (λ (p : List ℕ). p ++ states_left s) none ∙ ap (λ (v : TextScannerValue). states_left v) e ∙ ap (λ (o : ScanOutput). states_from 0 o.states) (start_left text states)

-- what the end of a text tells, by a view of the scanner
pub finish_told : {X E : Type 0} (r : Result X E) (value : ℕ → LineStateValue → X → ScanOutput) (u v : TextScannerValue) → u ≡ v → v.rows ≡ []
    → IfOk r (λ x. (s : LineStateValue) → remaining_output u.line u.stand [] ≡ value u.line s x) → IfOk r (λ x. (s : LineStateValue) → output_left v ≡ value v.line s x)
finish_told (Err e) value u v same none h = tt
finish_told (Ok x) value u v same none h = λ s.
    ap (λ (rows : List RowValue). remaining_output v.line v.stand (characters_of rows)) none
    ∙ sym (ap (λ (w : TextScannerValue). remaining_output w.line w.stand []) same) ∙ h s ∙ ap (λ (w : TextScannerValue). value w.line s x) same

-- ---- states

no_scalar_states : (line begun at : ℕ) (f : FoundLexemeValue) (k : SurroundingsValue) (g : Option PlacedScanFault) → (output_of_scalar line begun at f k [] g).states ≡ []
no_scalar_states line begun at f k None = refl
no_scalar_states line begun at f k (Some g) = refl

no_states : (line : ℕ) (stand : PhaseValue) → (remaining_output line stand []).states ≡ []
no_states line (Fresh start k) = refl
no_states line (Within begun style at m k) = let f = open_found style at m [] in no_scalar_states line begun at f k f.fault
no_states line (Halted to_end down) = refl

-- where no line is left nothing is
pub no_states_left : (s : TextScannerValue) → s.rows ≡ [] → states_left s ≡ []
no_states_left s e =
    ap (λ (rows : List RowValue). states_from s.line (remaining_output s.line s.stand (characters_of rows)).states) e
    ∙ ap (λ (ss : List (Option LineStateValue)). states_from s.line ss) (no_states s.line s.stand)

-- the state of the next line, and then those of the others
pub state_printed : (old new : List ℕ) (line next : ℕ) (s : Option LineStateValue) (t : StepValue) (before after : ScanOutput)
    → before ≡ output_with_step line t after → s ≡ t.state → next ≡ line + 1 → new ≡ ((old ++ decimal (line + 1)) ++ line_text s) ++ codes "\n"
    → new ++ states_from next after.states ≡ old ++ states_from line before.states
state_printed old new line next s t before after told state counted printed =
    let left = states_from (line + 1) after.states in
    ap (λ (n : ℕ). new ++ states_from n after.states) counted
    ∙ ap (λ (p : List ℕ). p ++ left) printed
    ∙ append_assoc ((old ++ decimal (line + 1)) ++ line_text s) (codes "\n") left
    ∙ append_assoc (old ++ decimal (line + 1)) (line_text s) (codes "\n" ++ left)
    ∙ append_assoc old (decimal (line + 1)) (line_text s ++ (codes "\n" ++ left))
    ∙ ap (λ (ls : List ℕ). old ++ (decimal (line + 1) ++ (ls ++ (codes "\n" ++ left)))) (ap line_text state)
    ∙ ap (λ (u : List ℕ). old ++ u) (sym (append_assoc (decimal (line + 1) ++ line_text t.state) (codes "\n") left ∙ append_assoc (decimal (line + 1)) (line_text t.state) (codes "\n" ++ left)))
    ∙ ap (λ (o : ScanOutput). old ++ states_from line o.states) (sym told)

-- ---- lexemes, comments and the fault

-- nothing is printed of what reports nothing
no_lines : (xs : List (ℕ × LexemeValue)) (cs : List (ℕ × CommentValue)) (t : List ℕ) → AreLines xs cs t → xs ≡ [] → cs ≡ [] → t ≡ []
no_lines xs cs t no_line e f = refl
no_lines xs cs t (lexeme_next x ys ds u h) e f = cc
no_lines xs cs t (comment_next c ys ds u h) e f = cc

pub record IsSilent (o : ScanOutput) : Type 0 where
  pub lexemes : o.lexemes ≡ []
  pub comments : o.comments ≡ []
  pub fault : o.fault ≡ None

stopped_silent : (line : ℕ) (to_end : Bool) (down : ℕ) (rows : List (List ℕ)) → IsSilent (output_of_entries line (stopped_rows to_end down rows))
stopped_silent line to_end down [] = record { lexemes = refl; comments = refl; fault = refl }
stopped_silent line to_end zero (row ∷ rows) =
    let below = stopped_silent (line + 1) to_end 0 rows in record { lexemes = below.lexemes; comments = below.comments; fault = below.fault }
stopped_silent line to_end (suc down) (row ∷ rows) =
    let below = stopped_silent (line + 1) to_end down rows in record { lexemes = below.lexemes; comments = below.comments; fault = below.fault }

-- behind a fault nothing is reported
halted_silent : (line : ℕ) (stand : PhaseValue) (rows : List (List ℕ)) → is_halted stand ≡ true → IsSilent (remaining_output line stand rows)
halted_silent line (Fresh start k) rows h = cc
halted_silent line (Within begun style at m k) rows h = cc
halted_silent line (Halted to_end down) rows h = stopped_silent line to_end down rows

with_above : (x : Option (ℕ × LexemeValue)) (xs : List (ℕ × LexemeValue)) (cs : List (ℕ × CommentValue)) (t : List ℕ) → AreLines xs cs t → AreLines (option_to_list x ++ xs) cs (above_lines x ++ t)
with_above None xs cs t h = h
with_above (Some x) xs cs t h = lexeme_next x xs cs t h

with_lexemes : (line : ℕ) (ys : List LexemeValue) (xs : List (ℕ × LexemeValue)) (cs : List (ℕ × CommentValue)) (t : List ℕ) → AreLines xs cs t
    → AreLines (map (at_line line) ys ++ xs) cs (flat_map (lexeme_line line) ys ++ t)
with_lexemes line [] xs cs t h = h
with_lexemes line (y ∷ ys) xs cs t h =
    subst (λ (u : List ℕ). AreLines (map (at_line line) (y ∷ ys) ++ xs) cs u) (sym (append_assoc (lexeme_line line y) (flat_map (lexeme_line line) ys) t))
    (lexeme_next (line, y) (map (at_line line) ys ++ xs) cs (flat_map (lexeme_line line) ys ++ t) (with_lexemes line ys xs cs t h))

with_own_comment : (line : ℕ) (c : Option CommentValue) (xs : List (ℕ × LexemeValue)) (cs : List (ℕ × CommentValue)) (t : List ℕ) → AreLines xs cs t
    → AreLines xs (with_comment line c cs) (lines_of_comment line c ++ t)
with_own_comment line None xs cs t h = h
with_own_comment line (Some c) xs cs t h = comment_next (line, c) xs cs t h

-- a fault is the last thing that is printed
fault_last : (f : Option (ℕ × PlacedScanFault)) (o : ScanOutput) (lines t : List ℕ) → (is_some f ≡ true → IsSilent o) → AreLines o.lexemes o.comments lines → t ≡ lines ++ failed_lines o.fault
    → failed_lines f ++ t ≡ lines ++ failed_lines (first_fault f o.fault)
fault_last None o lines t silent each e = e
fault_last (Some f) o lines t silent each e =
    let quiet = silent refl in
    let none : lines ≡ [] = no_lines o.lexemes o.comments lines each quiet.lexemes quiet.comments in
    let rest : t ≡ [] = e ∙ ap (λ (u : List ℕ). u ++ failed_lines o.fault) none ∙ ap failed_lines quiet.fault in
    ap (λ (u : List ℕ). failed_lines (Some f) ++ u) rest ∙ append-nil (failed_lines (Some f)) ∙ ap (λ (u : List ℕ). u ++ failed_lines (Some f)) (sym none)

-- what a line tells, and then what the others do
pub step_goes_on : (line : ℕ) (t : StepValue) (before after : ScanOutput) → before ≡ output_with_step line t after → (is_some t.fault ≡ true → IsSilent after)
    → GoesOn before (step_lines line t) after
step_goes_on line t before after told silent text printed =
    let own = above_lines t.above in
    let lexemes = flat_map (lexeme_line line) t.lexemes in
    let comment = lines_of_comment line t.comment in
    let lines = own ++ (lexemes ++ (comment ++ printed.lines)) in
    let each : AreLines (output_with_step line t after).lexemes (output_with_step line t after).comments lines =
    with_above t.above _ _ _ (with_lexemes line t.lexemes _ _ _ (with_own_comment line t.comment _ _ _ printed.each)) in
    let whole : step_lines line t ++ text ≡ lines ++ failed_lines (first_fault t.fault after.fault) =
    append_assoc ((own ++ lexemes) ++ comment) (failed_lines t.fault) text
    ∙ ap (λ (u : List ℕ). ((own ++ lexemes) ++ comment) ++ u) (fault_last t.fault after printed.lines text silent printed.each printed.whole)
    ∙ sym (append_assoc ((own ++ lexemes) ++ comment) printed.lines (failed_lines (first_fault t.fault after.fault)))
    ∙ ap (λ (u : List ℕ). u ++ failed_lines (first_fault t.fault after.fault))
    (append_assoc (own ++ lexemes) comment printed.lines ∙ append_assoc own lexemes (comment ++ printed.lines)) in
    subst (λ (o : ScanOutput). IsPrinted o (step_lines line t ++ text)) (sym told) (record { lines = lines; each = each; whole = whole })

above_alone : (x : Option (ℕ × LexemeValue)) → AreLines (option_to_list x) [] (above_lines x)
above_alone None = no_line
above_alone (Some x) = subst (λ (u : List ℕ). AreLines (x ∷ []) [] u) (append-nil (lexeme_line x.0 x.1)) (lexeme_next x [] [] [] no_line)

-- what the end of a text tells
pub end_printed : (t : StepValue) (o : ScanOutput) → o ≡ at_end t → IsPrinted o (above_lines t.above ++ failed_lines t.fault)
end_printed t o told = subst (λ (p : ScanOutput). IsPrinted p (above_lines t.above ++ failed_lines t.fault)) (sym told) (record { lines = above_lines t.above; each = above_alone t.above; whole = refl })

-- a page on which that was printed
pub ended_page : (old mid new : List ℕ) (t : StepValue) (o : ScanOutput) → o ≡ at_end t → mid ≡ old ++ above_lines t.above → new ≡ mid ++ failed_lines t.fault → PrintsAll old new o
ended_page old mid new t o told above failed = record {
  text = above_lines t.above ++ failed_lines t.fault;
  printed = end_printed t o told;
  grown = failed ∙ ap (λ (p : List ℕ). p ++ failed_lines t.fault) above ∙ append_assoc old (above_lines t.above) (failed_lines t.fault);
}

-- behind a fault reading has stopped
pub fails_halts : {X Y : Type 0} (f : X → Y) (o : Option X) (b h : Bool) → h ≡ (b || is_some o) → is_some (option_map f o) ≡ true → h ≡ true
fails_halts f None b h e k = cc
fails_halts f (Some x) true h e k = e
fails_halts f (Some x) false h e k = e

-- a page on which was printed what a line tells
pub line_prints : (old new : List ℕ) (s u v : TextScannerValue) (t : StepValue) → output_left s ≡ output_with_step s.line t (output_left u) → (is_some t.fault ≡ true → is_halted u.stand ≡ true)
    → v ≡ u → new ≡ old ++ step_lines s.line t → PrintsOn old new (output_left s) (output_left v)
line_prints old new s u v t told halts same grown = record {
  printed = step_lines s.line t;
  grown = grown;
  goes_on = subst (λ (w : TextScannerValue). GoesOn (output_left s) (step_lines s.line t) (output_left w)) (sym same)
      (step_goes_on s.line t (output_left s) (output_left u) told (λ f. halted_silent u.line u.stand (characters_of u.rows) (halts f)));
}

-- ---- lines that are read one after another

pub none_read : (a : Option (List ℕ)) (page : List ℕ) (o : ScanOutput) → WritesOn a a page page o o
none_read a page o = record {
  printed = [];
  leaves = leaves_of a a page (page ++ []) page (sym (append-nil page)) (leaves_none a page);
  goes_on = λ text h. h;
}

pub one_read : (a b c : Option (List ℕ)) (old mid grown new : List ℕ) (before here after : ScanOutput)
    → WritesOn a b old mid before here → PrintsOn mid grown here after → Leaves b c grown new → WritesOn a c old new before after
one_read a b c old mid grown new before here after h k out = record {
  printed = h.printed ++ k.printed;
  leaves = leaves_of a c ((old ++ h.printed) ++ k.printed) (old ++ (h.printed ++ k.printed)) new (append_assoc old h.printed k.printed)
      (leaves_more a b c ((old ++ h.printed) ++ k.printed) grown new
      (leaves_same a b ((old ++ h.printed) ++ k.printed) (mid ++ k.printed) grown (leaves_behind a b (old ++ h.printed) mid k.printed h.leaves) (sym k.grown)) out);
  goes_on = λ text p. subst (λ (u : List ℕ). IsPrinted before u) (sym (append_assoc h.printed k.printed text)) (h.goes_on (k.printed ++ text) (k.goes_on text p));
}

-- and then the end of the text
pub all_read : (a b c : Option (List ℕ)) (old mid new : List ℕ) (all here whole : ScanOutput)
    → old ≡ [] → all ≡ whole → WritesOn a b old mid all here → PrintsAll mid new here → Appends b c new → AppendsPrinted a c whole
all_read a b c old mid new all here whole empty same h k out = record {
  text = h.printed ++ k.text;
  printed = subst (λ (o : ScanOutput). IsPrinted o (h.printed ++ k.text)) same (h.goes_on k.text k.printed);
  appends = leaves_end a b c (h.printed ++ k.text) new
      (leaves_of a b ((old ++ h.printed) ++ k.text) (h.printed ++ k.text) new (ap (λ (u : List ℕ). (u ++ h.printed) ++ k.text) empty)
      (leaves_same a b ((old ++ h.printed) ++ k.text) (mid ++ k.text) new (leaves_behind a b (old ++ h.printed) mid k.text h.leaves) (sym k.grown))) out;
}
