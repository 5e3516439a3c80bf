-- What rows tell by their lines.
use Rattle.std.proofs.Common.{◌≡◌, ℕ, zero, suc, ◌+◌, ◌-◌, ◌≤◌, false, List, [], ◌∷◌, ◌++◌, length, map, take, drop, Option, Some, None, refl, ap, sym, subst, ◌∙◌, append_assoc, arith}
use Rattle.std.specs.Prelude.{option_map}
use Rattle.std.specs.List.{AllByRecursion}
use Rattle.yl_lexeme.specs.Lexeme.{LexemeValue, CommentValue}
use Rattle.yl_row.specs.declared.fault.PlacedScanFault.{PlacedScanFault}
use Rattle.yl_row.specs.Entries.{RowEntry, stopped_rows, entries}
use Rattle.yl_scan.specs.Output.{ScanOutput, at_line, with_comment, first_fault, fault_in, entry_step, output_with_step, no_output, output_of_entries}
use Rattle.yl_scan.specs.Remaining.{PhaseValue, Fresh, Within, Halted, rows_to, output_of_scalar, remaining_output}
use Rattle.std.proofs.lemmas.List.{append-nil}
use Rattle.yl_lexeme.specs.Known.{SurroundingsValue}
use Rattle.yl_row.specs.Fault.{is_unclosed}
use Rattle.yl_row.specs.Step.{FoundLexemeValue}
use Rattle.yl_row.specs.ScalarReader.{open_found}
use Rattle.yl_row.specs.Run.{entries_by}
use Rattle.yl_scan.specs.Settled.{output_then, ToldInTurn, moved_line, moved_output, ToldMoves, stored_row, ToldTells, BeginsFrom, Settles, PutsLast}
use Rattle.yl_scan.proofs.Restarts.{shift}

-- ---- one after another

comment_first : (line : ℕ) (c : Option CommentValue) (xs ys : List (ℕ × CommentValue)) → with_comment line c (xs ++ ys) ≡ with_comment line c xs ++ ys
comment_first line None xs ys = refl
comment_first line (Some c) xs ys = refl

fault_first : (f g h : Option (ℕ × PlacedScanFault)) → first_fault f (first_fault g h) ≡ first_fault (first_fault f g) h
fault_first None g h = refl
fault_first (Some f) g h = refl

pub in_turn : ToldInTurn
in_turn line [] fs = let e : line ≡ line + 0 = omega arith in ap (λ n. output_of_entries n fs) e
in_turn line (e ∷ es) fs =
    let here : line + 1 + length es ≡ line + length (e ∷ es) = omega arith in
    let p = output_of_entries (line + length (e ∷ es)) fs in
    let lexemes = sym (append_assoc (map (at_line line) e.lexemes) (output_of_entries (line + 1) es).lexemes p.lexemes) in
    ap (output_with_step line (entry_step line e)) (in_turn (line + 1) es fs ∙ ap (λ n. output_then (output_of_entries (line + 1) es) (output_of_entries n fs)) here)
    ∙ (λ i. record {
      lexemes = lexemes i;
      comments = comment_first line e.comment (output_of_entries (line + 1) es).comments p.comments i;
      states = e.state ∷ ((output_of_entries (line + 1) es).states ++ p.states);
      fault = fault_first (fault_in line e.fault) (output_of_entries (line + 1) es).fault p.fault i;
    })

-- ---- further down

module _ {A : Type 0} (i j line : ℕ) where
  items_moved : (xs : List A) (rest : List (ℕ × A)) → map (at_line (j + (line - i))) xs ++ map (moved_line i j) rest ≡ map (moved_line i j) (map (at_line line) xs ++ rest)
  items_moved [] rest = refl
  items_moved (x ∷ xs) rest = ap (λ ys. (j + (line - i), x) ∷ ys) (items_moved xs rest)

comment_moved : (i j line : ℕ) (c : Option CommentValue) (rest : List (ℕ × CommentValue)) → with_comment (j + (line - i)) c (map (moved_line i j) rest) ≡ map (moved_line i j) (with_comment line c rest)
comment_moved i j line None rest = refl
comment_moved i j line (Some c) rest = refl

fault_moved : (i j line : ℕ) (f : Option PlacedScanFault) (g : Option (ℕ × PlacedScanFault)) → first_fault (fault_in (j + (line - i)) f) (option_map (moved_line i j) g) ≡ option_map (moved_line i j) (first_fault (fault_in line f) g)
fault_moved i j line None g = refl
fault_moved i j line (Some f) g = refl

told_moved : (i j line : ℕ) (es : List RowEntry) → i ≤ line → output_of_entries (j + (line - i)) es ≡ moved_output i j (output_of_entries line es)
told_moved i j line [] le = refl
told_moved i j line (e ∷ es) le =
    let next : j + (line - i) + 1 ≡ j + (line + 1 - i) = omega arith in
    let p = output_of_entries (line + 1) es in
    ap (λ n. output_with_step (j + (line - i)) (entry_step (j + (line - i)) e) (output_of_entries n es)) next
    ∙ ap (output_with_step (j + (line - i)) (entry_step (j + (line - i)) e)) (told_moved i j (line + 1) es (omega arith))
    ∙ (λ k. record {
      lexemes = items_moved i j line e.lexemes p.lexemes k;
      comments = comment_moved i j line e.comment p.comments k;
      states = e.state ∷ p.states;
      fault = fault_moved i j line e.fault p.fault k;
    })

pub moves : ToldMoves
moves t u i j s p q e =
    let same = (shift t u i j s p q e).same in
    let here : j ≡ j + (i - i) = omega arith in
    ap (output_of_entries j) (sym same) ∙ ap (λ n. output_of_entries n (drop i (entries t))) here ∙ told_moved i j i (drop i (entries t)) (omega arith)

-- ---- what lies at a line and below it

abbrev pub AtLeast : {A : Type 0} → ℕ → List (ℕ × A) → Type 0
AtLeast n xs = AllByRecursion (λ p. n ≤ p.0) xs

both_at_least : {A : Type 0} (n : ℕ) (xs ys : List (ℕ × A)) → AtLeast n xs → AtLeast n ys → AtLeast n (xs ++ ys)
both_at_least n [] ys h k = k
both_at_least n (x ∷ xs) ys h k = (h.0, both_at_least n xs ys h.1 k)

weaker : {A : Type 0} (m n : ℕ) (xs : List (ℕ × A)) → n ≤ m → AtLeast m xs → AtLeast n xs
weaker m n [] le h = tt
weaker m n (x ∷ xs) le h = (omega (arith, le, h.0), weaker m n xs le h.1)

line_at_least : {A : Type 0} (n line : ℕ) (xs : List A) (rest : List (ℕ × A)) → n ≤ line → AtLeast n rest → AtLeast n (map (at_line line) xs ++ rest)
line_at_least n line [] rest le h = h
line_at_least n line (x ∷ xs) rest le h = (le, line_at_least n line xs rest le h)

comment_at_least : (n line : ℕ) (c : Option CommentValue) (rest : List (ℕ × CommentValue)) → n ≤ line → AtLeast n rest → AtLeast n (with_comment line c rest)
comment_at_least n line None rest le h = h
comment_at_least n line (Some c) rest le h = (le, h)

lexemes_from : (n line : ℕ) (es : List RowEntry) → n ≤ line → AtLeast n (output_of_entries line es).lexemes
lexemes_from n line [] le = tt
lexemes_from n line (e ∷ es) le = line_at_least n line e.lexemes (output_of_entries (line + 1) es).lexemes le (lexemes_from n (line + 1) es (omega arith))

comments_from : (n line : ℕ) (es : List RowEntry) → n ≤ line → AtLeast n (output_of_entries line es).comments
comments_from n line [] le = tt
comments_from n line (e ∷ es) le = comment_at_least n line e.comment (output_of_entries (line + 1) es).comments le (comments_from n (line + 1) es (omega arith))

-- at a line alone
at_once : {A : Type 0} (line : ℕ) (xs ys : List A) (rest rest' : List (ℕ × A)) → AtLeast (line + 1) rest → AtLeast (line + 1) rest'
    → map (at_line line) xs ++ rest ≡ map (at_line line) ys ++ rest' → (xs ≡ ys) × (rest ≡ rest')
at_once line [] [] rest rest' h k e = (refl, e)
at_once line [] (y ∷ ys) rest rest' h k e = let no = subst (AtLeast (line + 1)) e h in absurd (omega (arith, no.0))
at_once line (x ∷ xs) [] rest rest' h k e = let no = subst (AtLeast (line + 1)) (sym e) k in absurd (omega (arith, no.0))
at_once {A} line (x ∷ xs) (y ∷ ys) rest rest' h k e =
    let pair : ◌≡◌ {A = ℕ × A} (line, x) (line, y) = cc in
    let item : x ≡ y = ap (λ (p : ℕ × A). p.1) pair in
    let more : map (at_line line) xs ++ rest ≡ map (at_line line) ys ++ rest' = cc in
    let below = at_once line xs ys rest rest' h k more in
    ((λ i. item i ∷ below.0 i), below.1)

comment_at_once : (line : ℕ) (c d : Option CommentValue) (rest rest' : List (ℕ × CommentValue)) → AtLeast (line + 1) rest → AtLeast (line + 1) rest'
    → with_comment line c rest ≡ with_comment line d rest' → (c ≡ d) × (rest ≡ rest')
comment_at_once line None None rest rest' h k e = (refl, e)
comment_at_once line None (Some d) rest rest' h k e = let no = subst (AtLeast (line + 1)) e h in absurd (omega (arith, no.0))
comment_at_once line (Some c) None rest rest' h k e = let no = subst (AtLeast (line + 1)) (sym e) k in absurd (omega (arith, no.0))
comment_at_once line (Some c) (Some d) rest rest' h k e =
    let pair : ◌≡◌ {A = ℕ × CommentValue} (line, c) (line, d) = cc in
    let item : c ≡ d = ap (λ (p : ℕ × CommentValue). p.1) pair in
    let more : rest ≡ rest' = cc in
    (ap Some item, more)

-- ---- what was told says what the rows are

-- later: what is still told, of rows from m on
settle : (n line m : ℕ) (es rs : List RowEntry) (later : ScanOutput) → line + n ≡ m → n ≤ length rs → AtLeast m later.lexemes → AtLeast m later.comments
    → (output_of_entries line rs).lexemes ++ later.lexemes ≡ (output_of_entries line es).lexemes → (output_of_entries line rs).comments ++ later.comments ≡ (output_of_entries line es).comments
    → (output_of_entries line rs).states ++ later.states ≡ (output_of_entries line es).states → map stored_row (take n rs) ≡ map stored_row (take n es)
settle zero line m es rs later p le h k ls cs ss = refl
settle (suc n) line m es [] later p le h k ls cs ss = absurd (omega (arith, le))
settle (suc n) line m [] (r ∷ rs) later p le h k ls cs ss = cc
settle (suc n) line m (e ∷ es) (r ∷ rs) later p le h k ls cs ss =
    let further : line + 1 ≤ m = omega (arith, p) in
    let state : r.state ≡ e.state = cc in
    let states : (output_of_entries (line + 1) rs).states ++ later.states ≡ (output_of_entries (line + 1) es).states = cc in
    let lexemes = at_once line r.lexemes e.lexemes ((output_of_entries (line + 1) rs).lexemes ++ later.lexemes) (output_of_entries (line + 1) es).lexemes
    (both_at_least (line + 1) (output_of_entries (line + 1) rs).lexemes later.lexemes (lexemes_from (line + 1) (line + 1) rs (omega arith)) (weaker m (line + 1) later.lexemes further h))
    (lexemes_from (line + 1) (line + 1) es (omega arith))
    (sym (append_assoc (map (at_line line) r.lexemes) (output_of_entries (line + 1) rs).lexemes later.lexemes) ∙ ls) in
    let comments = comment_at_once line r.comment e.comment ((output_of_entries (line + 1) rs).comments ++ later.comments) (output_of_entries (line + 1) es).comments
    (both_at_least (line + 1) (output_of_entries (line + 1) rs).comments later.comments (comments_from (line + 1) (line + 1) rs (omega arith)) (weaker m (line + 1) later.comments further k))
    (comments_from (line + 1) (line + 1) es (omega arith))
    (comment_first line r.comment (output_of_entries (line + 1) rs).comments later.comments ∙ cs) in
    let more = settle n (line + 1) m es rs later (omega (arith, p)) (omega (arith, le)) h k lexemes.1 comments.1 states in
    λ i. record { state = state i; lexemes = lexemes.0 i; comment = comments.0 i } ∷ more i

whole_from : (n line begun at : ℕ) (f : FoundLexemeValue) (k : SurroundingsValue) (rows : List (List ℕ)) (g : Option PlacedScanFault) → n ≤ line → n ≤ begun
    → AtLeast n (output_of_scalar line begun at f k rows g).lexemes × AtLeast n (output_of_scalar line begun at f k rows g).comments
whole_from n line begun at f k rows None le from =
    let es = entries_by false (rows_to line begun f.down) f.column k rows in ((from, lexemes_from n line es le), comments_from n line es le)
whole_from n line begun at f k rows (Some g) le from =
    let es = stopped_rows (is_unclosed g.fault) (rows_to line begun g.down) rows in (lexemes_from n line es le, comments_from n line es le)

left_from : (n line : ℕ) (stand : PhaseValue) (rows : List (List ℕ)) → n ≤ line → BeginsFrom n stand
    → AtLeast n (remaining_output line stand rows).lexemes × AtLeast n (remaining_output line stand rows).comments
left_from n line (Fresh start k) rows le from = let es = entries_by start 0 0 k rows in (lexemes_from n line es le, comments_from n line es le)
left_from n line (Within begun style at m k) rows le from =
    let f = open_found style at m rows in whole_from n line begun at f k rows f.fault le from
left_from n line (Halted to_end down) rows le from = let es = stopped_rows to_end down rows in (lexemes_from n line es le, comments_from n line es le)

pub settled : Settles
settled es rs stand rest n h le from =
    let later = remaining_output (length rs) stand rest in
    let below = left_from n (length rs) stand rest le from in
    settle n 0 n es rs later (omega arith) le below.0 below.1 (ap (λ (o : ScanOutput). o.lexemes) h) (ap (λ (o : ScanOutput). o.comments) h) (ap (λ (o : ScanOutput). o.states) h)

-- all rows, where nothing is still told
all_of : {A : Type 0} (xs : List A) (n : ℕ) → length xs ≤ n → take n xs ≡ xs
all_of [] zero h = refl
all_of [] (suc n) h = refl
all_of (x ∷ xs) zero h = absurd (omega arith)
all_of (x ∷ xs) (suc n) h = ap (λ ys. x ∷ ys) (all_of xs n (omega arith))

counted : (line : ℕ) (es : List RowEntry) → length (output_of_entries line es).states ≡ length es
counted line [] = refl
counted line (e ∷ es) = ap suc (counted (line + 1) es)

pub tells : ToldTells
tells line es fs h =
    let n = length es in
    let same : length fs ≡ length es = sym (counted line fs) ∙ sym (ap (λ (o : ScanOutput). length o.states) h) ∙ counted line es in
    ap (map stored_row) (sym (all_of es n (omega arith)))
    ∙ settle n line (line + n) fs es no_output refl (omega arith) tt tt (append-nil (output_of_entries line es).lexemes ∙ ap (λ (o : ScanOutput). o.lexemes) h) (append-nil (output_of_entries line es).comments ∙ ap (λ (o : ScanOutput). o.comments) h)
    (append-nil (output_of_entries line es).states ∙ ap (λ (o : ScanOutput). o.states) h)
    ∙ ap (map stored_row) (all_of fs n (omega (arith, same)))

-- ---- a lexeme put into its row

given_follows : (line : ℕ) (e : RowEntry) (o p : ScanOutput) → output_with_step line (entry_step line e) (output_then o p) ≡ output_then (output_with_step line (entry_step line e) o) p
given_follows line e o p =
    let lexemes = sym (append_assoc (map (at_line line) e.lexemes) o.lexemes p.lexemes) in
    λ i. record {
      lexemes = lexemes i;
      comments = comment_first line e.comment o.comments p.comments i;
      states = e.state ∷ (o.states ++ p.states);
      fault = fault_first (fault_in line e.fault) o.fault p.fault i;
    }

none_told : (line : ℕ) (es : List RowEntry) → AllByRecursion (λ (e : RowEntry). e.lexemes ≡ []) es → (output_of_entries line es).lexemes ≡ []
none_told line [] h = refl
none_told line (e ∷ es) h = ap (λ xs. map (at_line line) xs ++ (output_of_entries (line + 1) es).lexemes) h.0 ∙ none_told (line + 1) es h.1

put_items : (line : ℕ) (x : LexemeValue) (xs : List LexemeValue) → map (at_line line) (xs ++ x ∷ []) ++ [] ≡ (map (at_line line) xs ++ []) ++ (line, x) ∷ []
put_items line x [] = refl
put_items line x (y ∷ xs) = ap (λ ys. (line, y) ∷ ys) (put_items line x xs)

put_here : (line : ℕ) (x : LexemeValue) (xs : List LexemeValue) (rest : List (ℕ × LexemeValue)) → rest ≡ []
    → map (at_line line) (xs ++ x ∷ []) ++ rest ≡ (map (at_line line) xs ++ rest) ++ (line + 0, x) ∷ []
put_here line x xs rest h =
    let none : line ≡ line + 0 = omega arith in
    ap (λ rest. map (at_line line) (xs ++ x ∷ []) ++ rest) h
    ∙ put_items line x xs
    ∙ ap (λ rest. (map (at_line line) xs ++ rest) ++ (line, x) ∷ []) (sym h)
    ∙ ap (λ n. (map (at_line line) xs ++ rest) ++ (n, x) ∷ []) none

no_further_fault : (f : Option (ℕ × PlacedScanFault)) → f ≡ first_fault f None
no_further_fault None = refl
no_further_fault (Some f) = refl

pub puts_last : PutsLast
puts_last line n x [] lt h = absurd (omega (arith, lt))
puts_last line zero x (e ∷ es) lt h =
    let p = output_of_entries (line + 1) es in
    let lexemes = put_here line x e.lexemes p.lexemes (none_told (line + 1) es h) in
    let comments = sym (append-nil (with_comment line e.comment p.comments)) in
    let states = sym (append-nil (e.state ∷ p.states)) in
    let fault = no_further_fault (first_fault (fault_in line e.fault) p.fault) in
    λ i. record { lexemes = lexemes i; comments = comments i; states = states i; fault = fault i }
puts_last line (suc n) x (e ∷ es) lt h =
    let here : line + 1 + n ≡ line + suc n = omega arith in
    let one : ℕ → ScanOutput = λ m. record { lexemes = (m, x) ∷ []; comments = []; states = []; fault = None } in
    ap (output_with_step line (entry_step line e)) (puts_last (line + 1) n x es (omega (arith, lt)) h ∙ ap (λ m. output_then (output_of_entries (line + 1) es) (one m)) here)
    ∙ given_follows line e (output_of_entries (line + 1) es) (one (line + suc n))
