-- The rows of a text, read by looking back and from what is kept, are the same.
use Rattle.std.proofs.Common.{◌≡◌, ℕ, zero, suc, ◌+◌, ◌-◌, Bool, true, false, cond, not, ◌&&◌, List, [], ◌∷◌, ◌++◌, Option, Some, None, refl, ap, sym, ◌∙◌, eqb, ltb}
use Rattle.std.specs.Option.{option_or}
use Rattle.yl_text.specs.Character.{is_white}
use Rattle.yl_row.specs.declared.fault.PlacedScanFault.{PlacedScanFault}
use Rattle.yl_lexeme.specs.Lexeme.{LexemeValue, CommentValue, is_property, is_anchor}
use Rattle.yl_lexeme.specs.declared.lexeme.Kind.{Kind}
use Rattle.yl_lexeme.specs.Past.{past_lexeme, PastLexeme, Context, context_from, at_place, is_flow, asks_behind, up_to, cut, levels_with}
use Rattle.yl_row.specs.Step.{FoundLexemeValue, found_at, place_fault, bad_in, first_tab}
use Rattle.yl_lexeme.specs.Known.{SurroundingsValue, context_of, new_row, surroundings_at, no_surroundings, own_column, brackets_with, unit_with, outer_with, surroundings_behind, surroundings_of}
use Rattle.yl_row.specs.Entries.{RowEntry, RowReading, reading_below, fault_reading, with_lexeme, reading_or_fault, comment_or, comment_of, lexeme_of, after_lexeme, entries_below, entry_of, sound_state, row_reading, entries_from, entries}
use Rattle.yl_row.specs.Run.{row_reading_by, entries_by}
use Rattle.yl_lexeme.proofs.Looks.{looks, next_row}

-- with what is kept in place of the lexemes
on : RowReading (List PastLexeme) → RowReading SurroundingsValue
on r = record { lexemes = r.lexemes; comment = r.comment; fault = r.fault; down = r.down; column = r.column; behind = surroundings_of [] r.behind }

same_on : (b : Bool) (x' y' : RowReading (List PastLexeme)) {x y : RowReading SurroundingsValue} → x ≡ on x' → y ≡ on y' → cond b x y ≡ on (cond b x' y')
same_on true x' y' p q = p
same_on false x' y' p q = q

-- no lexeme, nothing known
failed_same : (x : LexemeValue) (b : Bool) (f : PlacedScanFault) → cond b (with_lexeme x (fault_reading f no_surroundings)) (fault_reading f no_surroundings) ≡ on (cond b (with_lexeme x (fault_reading f [])) (fault_reading f []))
unfolding on
failed_same x true f = refl
failed_same x false f = refl

chosen_same : (x : LexemeValue) (more : RowReading SurroundingsValue) (more' : RowReading (List PastLexeme)) (f : Option PlacedScanFault) → more ≡ on more' → reading_or_fault x no_surroundings more f ≡ on (reading_or_fault x [] more' f)
unfolding on
chosen_same x more more' None h = ap (with_lexeme x) h
chosen_same x more more' (Some f) h = failed_same x _ f

module _ (k : SurroundingsValue) (older : List PastLexeme) (e : k ≡ surroundings_of [] older) where
  end_same : reading_below 0 0 k ≡ on (reading_below 0 0 older)
  unfolding on
  end_same = ap (reading_below 0 0) e

  comment_same : (c : CommentValue) (f : Option PlacedScanFault) → comment_or c k no_surroundings f ≡ on (comment_or c older [] f)
  unfolding on
  comment_same c None = ap (λ k. record (reading_below 0 0 k) { comment = Some c }) e
  comment_same c (Some f) = refl

  after_same : (at : ℕ) (found : FoundLexemeValue) (more : ℕ → RowReading SurroundingsValue) (more' : ℕ → RowReading (List PastLexeme)) (down : ℕ) → ((skip : ℕ) → more skip ≡ on (more' skip))
      → after_lexeme at found k more down ≡ on (after_lexeme at found older more' down)
  unfolding on
  after_same at found more more' zero h = h (found.column - at - 1)
  after_same at found more more' (suc down) h = ap (reading_below (suc down) found.column) e

-- ---- columns that a place removes are removed once

up_to-twice : (column : ℕ) (ls : List ℕ) → up_to column (up_to column ls) ≡ up_to column ls
up_to-twice column [] = refl
up_to-twice column (l ∷ ls) = by_case (ltb (column + 1) l) refl (up_to-twice column ls)
  where
    by_case : (b : Bool) → ltb (column + 1) l ≡ b → up_to column (up_to column ls) ≡ up_to column ls → up_to column (cond b (up_to column ls) (l ∷ ls)) ≡ cond b (up_to column ls) (l ∷ ls)
    by_case true h ih = ih
    by_case false h ih = rw h

cut-twice : (b : Bool) (column : ℕ) (ls : List ℕ) → cut b column (cut b column ls) ≡ cut b column ls
cut-twice true column ls = up_to-twice column ls
cut-twice false column ls = refl

-- behind a lexeme
abbrev levels_behind : Kind → Bool → Bool → ℕ → Option ℕ → List ℕ → List ℕ
levels_behind kind flow first column key ls = levels_with (record { kind = kind; column = column; first = first; flow = flow; begins = false; key = key }) ls

levels_reached : (kind : Kind) (flow first : Bool) (column : ℕ) (key : Option ℕ) (ls : List ℕ) →
    levels_behind kind flow first column key (cut (first && not flow) column ls) ≡ levels_behind kind flow first column key ls
levels_reached kind true true column key ls = refl
levels_reached kind true false column key ls = refl
levels_reached kind false true column key ls = rw (cut-twice true column ls)
levels_reached kind false false column key ls = refl

pass_reached : (x : PastLexeme) (k : SurroundingsValue) → x.flow ≡ is_flow k.brackets → surroundings_behind x (surroundings_at x.first x.column k) ≡ surroundings_behind x k
pass_reached x k e =
    ap (λ ls. record { levels = ls; brackets = brackets_with x.kind k.brackets; last = Some x.kind; asks = asks_behind x.kind x.key; unit = unit_with x k; outer = outer_with x k; property = cond (is_property x.kind) (Some (is_anchor x.kind, own_column x)) None })
    (ap (λ flow. levels_with x (cut (x.first && not flow) x.column k.levels)) (sym e) ∙ levels_reached x.kind x.flow x.first x.column x.key k.levels)

read_same : (rows : List (List ℕ)) (tab : Option ℕ) (skip : ℕ) (bs first : Bool) (at : ℕ) (here older : List PastLexeme) (cs : List ℕ)
    → row_reading_by rows tab skip bs first at (surroundings_of here older) cs ≡ on (row_reading rows tab skip bs first at here older cs)
read_same rows tab skip bs first at here older [] = end_same (new_row (surroundings_of here older)) (here ++ older) (next_row here older)
read_same rows tab skip bs first at here older (c ∷ cs) =
    let k = surroundings_of here older in
    let a = at_place first at (context_from here older) in
    let found = found_at rows tab first at a c cs in
    let x = past_lexeme at first a found.kind in
    same_on (ltb 0 skip) _ _ (read_same rows tab (skip - 1) false first (at + 1) here older cs)
    (same_on (is_white c) _ _ (read_same rows tab 0 true first (at + 1) here older cs)
    (same_on (eqb c 35 && bs) _ _ (comment_same (new_row k) (here ++ older) (next_row here older) (comment_of at (c ∷ cs)) (bad_in at (c ∷ cs)))
    (ap (λ a. let k' = surroundings_behind (past_lexeme at first (at_place first at a) (found_at rows tab first at (at_place first at a) c cs).kind) (surroundings_at first at k) in
    reading_or_fault (lexeme_of at (found_at rows tab first at (at_place first at a) c cs)) no_surroundings
    (after_lexeme at (found_at rows tab first at (at_place first at a) c cs) (new_row k') (λ skip. row_reading_by rows tab skip false false (at + 1) k' cs) (found_at rows tab first at (at_place first at a) c cs).down)
    (option_or (place_fault tab first at (at_place first at a)) (found_at rows tab first at (at_place first at a) c cs).fault)) (looks here older)
    ∙ ap (λ k'. reading_or_fault (lexeme_of at found) no_surroundings
    (after_lexeme at found (new_row k') (λ skip. row_reading_by rows tab skip false false (at + 1) k' cs) found.down)
    (option_or (place_fault tab first at a) found.fault)) (pass_reached x k (ap (λ (a : Context). is_flow a.brackets) (sym (looks here older))))
    ∙ chosen_same (lexeme_of at found) _ _ (option_or (place_fault tab first at a) found.fault)
    (after_same (new_row (surroundings_of (x ∷ here) older)) ((x ∷ here) ++ older) (next_row (x ∷ here) older) at found _ _ found.down
    (λ skip. read_same rows tab skip false false (at + 1) (x ∷ here) older cs)))))

below_same : (more : ℕ → ℕ → SurroundingsValue → List RowEntry) (more' : ℕ → ℕ → List PastLexeme → List RowEntry) (rows : List (List ℕ)) (r : RowReading (List PastLexeme)) (f : Option PlacedScanFault)
    → ((down column : ℕ) (older : List PastLexeme) → more down column (surroundings_of [] older) ≡ more' down column older) → entries_below more rows (on r) f ≡ entries_below more' rows r f
unfolding on
below_same more more' rows r None h = h r.down r.column r.behind
below_same more more' rows r (Some f) h = refl

run_same : (is_start : Bool) (down column : ℕ) (older : List PastLexeme) (rows : List (List ℕ)) → entries_by is_start down column (surroundings_of [] older) rows ≡ entries_from is_start down column older rows
unfolding on
run_same is_start down column older [] = refl
run_same is_start zero column older (row ∷ rows) =
    let more : ℕ → ℕ → SurroundingsValue → List RowEntry = λ down column k. entries_by false down column k rows in
    let r = row_reading rows (first_tab false row) 0 true true 0 [] older row in
    ap (λ r. entry_of (sound_state is_start row (context_of (surroundings_of [] older))) r ∷ entries_below more rows r r.fault) (read_same rows (first_tab false row) 0 true true 0 [] older row)
    ∙ ap (λ a. entry_of (sound_state is_start row a) r ∷ entries_below more rows (on r) r.fault) (looks [] older)
    ∙ ap (λ es. entry_of (sound_state is_start row (context_from [] older)) r ∷ es)
    (below_same more (λ down column older. entries_from false down column older rows) rows r r.fault (λ down column older. run_same false down column older rows))
run_same is_start (suc zero) column older (row ∷ rows) =
    let more : ℕ → ℕ → SurroundingsValue → List RowEntry = λ down column k. entries_by false down column k rows in
    let r = row_reading rows (first_tab true row) column false false 0 [] older row in
    ap (λ r. entry_of None r ∷ entries_below more rows r r.fault) (read_same rows (first_tab true row) column false false 0 [] older row)
    ∙ ap (λ es. entry_of None r ∷ es)
    (below_same more (λ down column older. entries_from false down column older rows) rows r r.fault (λ down column older. run_same false down column older rows))
run_same is_start (suc (suc down)) column older (row ∷ rows) =
    ap (λ es. record { state = None; lexemes = []; comment = None; fault = None } ∷ es) (run_same false (suc down) column older rows)

pub run-entries : (rows : List (List ℕ)) → entries_by true 0 0 no_surroundings rows ≡ entries rows
run-entries rows = run_same true 0 0 [] rows
