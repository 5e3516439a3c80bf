-- A row that holds a comment alone tells it.
use Rattle.std.proofs.Common.{◌≡◌, ℕ, zero, suc, ◌+◌, ◌<◌, Bool, true, false, cond, not, ◌&&◌, ◌||◌, ◌==◌, List, [], ◌∷◌, take, drop, length, get_or, slice_get, Option, Some, None, option_map, refl, ap, sym, subst, ◌∙◌, eqb, arith}
use Rattle.std.proofs.lemmas.Bool.Decides.{nat_tests}
use Rattle.std.proofs.lemmas.Str.{chars-IsAscii, IsAscii-drop, IsCharBoundary-before_ascii}
use Rattle.std.proofs.lemmas.Str.Ascii.{encodes-IsAscii}
use Rattle.std.specs.List.{list_all, prefix_len}
use Rattle.std.specs.Str.{IsAscii, chars, encode_utf8_all}
use Rattle.yl_text.specs.Character.{is_white, is_blank, starts_by}
use Rattle.yl_text.specs.Special.{is_printable_ascii, special_place}
use Rattle.yl_scalar.proofs.Printable.{printable_none_bad}
use Rattle.yl_lexeme.specs.Lexeme.{CommentValue}
use Rattle.yl_lexeme.specs.Known.{SurroundingsValue, context_of, new_row, no_surroundings}
use Rattle.yl_row.specs.declared.fault.ScanFault.TheVariants.{NotAllowed}
use Rattle.yl_row.specs.Fault.{fault_at}
use Rattle.yl_row.specs.Step.{bad_in, first_tab}
use Rattle.yl_row.specs.Entries.{comment_of, comment_or, sound_state, state_of}
use Rattle.yl_row.specs.Run.{row_reading_by}
use Rattle.yl_scan.specs.Alone.{HoldsAlone, PlainCommentAt, is_sign}
use Rattle.yl_scan.specs.Output.{output_with_step}
use Rattle.yl_scan.specs.Remaining.{Fresh, output_of_row, remaining_output}
use Rattle.yl_scan.proofs.Feed.{read_told}

and_left : (a b : Bool) → (a && b) ≡ true → a ≡ true
and_left true b h = refl
and_left false b h = h

and_right : (a b : Bool) → (a && b) ≡ true → b ≡ true
and_right true b h = h
and_right false b h = cc

sign_is : (c : ℕ) → is_sign c ≡ true → c ≡ 35
sign_is c h = grind (arith, nat_tests)

-- the row is read up to the comment
alone_read : (rows : List (List ℕ)) (tab : Option ℕ) (at place : ℕ) (k : SurroundingsValue) (n : ℕ) (cs : List ℕ) → place ≡ at + n → is_blank (take n cs) ≡ true → starts_by is_sign (drop n cs) ≡ true
    → row_reading_by rows tab 0 true true at k cs ≡ comment_or (comment_of place (drop n cs)) (new_row k) no_surroundings (bad_in place (drop n cs))
alone_read rows tab at place k zero [] e w s = cc
alone_read rows tab at place k (suc n) [] e w s = cc
alone_read rows tab at place k zero (c ∷ cs) e w s =
    let here : at ≡ place = omega arith in
    subst (λ x. row_reading_by rows tab 0 true true at k (x ∷ cs) ≡ comment_or (comment_of place (x ∷ cs)) (new_row k) no_surroundings (bad_in place (x ∷ cs))) (sym (sign_is c s))
    (ap (λ n. comment_or (comment_of n (35 ∷ cs)) (new_row k) no_surroundings (bad_in n (35 ∷ cs))) here)
alone_read rows tab at place k (suc n) (c ∷ cs) e w s =
    let white = and_left (is_white c) (is_blank (take n cs)) w in
    rw white (alone_read rows tab (at + 1) place k n cs (omega arith) (and_right (is_white c) (is_blank (take n cs)) w) s)

-- it is not blank
not_white : (c : ℕ) → is_sign c ≡ true → is_white c ≡ false
not_white c h = grind (arith, nat_tests)

and_false : (a b : Bool) → b ≡ false → (a && b) ≡ false
and_false true b h = h
and_false false b h = refl

pub not_blank : (n : ℕ) (cs : List ℕ) → starts_by is_sign (drop n cs) ≡ true → is_blank cs ≡ false
not_blank zero [] s = cc
not_blank (suc n) [] s = cc
not_blank zero (c ∷ cs) s = rw (not_white c s) refl
not_blank (suc n) (c ∷ cs) s = and_false (is_white c) (is_blank cs) (not_blank n cs s)

sound_there : {X : Type 0} (start blank : Bool) (x : X) → blank ≡ false → cond (start || not blank) (Some x) None ≡ Some x
sound_there true blank x h = refl
sound_there false blank x h = rw h refl

module _ (line : ℕ) (row : List ℕ) (rows : List (List ℕ)) (k : SurroundingsValue) (c : CommentValue) (h : HoldsAlone row c) where
  comment_read : row_reading_by rows (first_tab false row) 0 true true 0 k row ≡ comment_or c (new_row k) no_surroundings None
  comment_read =
      let rest = drop c.column row in
      alone_read rows (first_tab false row) 0 c.column k c.column row (omega arith) h.white h.sign
      ∙ ap (λ b. comment_or (comment_of c.column rest) (new_row k) no_surroundings (option_map (λ i. fault_at NotAllowed (c.column + i)) b)) h.allowed
      ∙ ap (λ text. let x : CommentValue = record { column = c.column; text = text } in comment_or x (new_row k) no_surroundings None) (sym h.text)

  pub alone_told : new_row k ≡ k
      → remaining_output line (Fresh (eqb line 0) k) (row ∷ rows)
      ≡ output_with_step line (record { above = None; lexemes = []; comment = Some c; state = Some (state_of (context_of k)); fault = None }) (remaining_output (line + 1) (Fresh false k) rows)
  alone_told fresh =
      ap (output_of_row line rows (sound_state (eqb line 0) row (context_of k))) comment_read
      ∙ ap (λ state. output_of_row line rows state (comment_or c (new_row k) no_surroundings None)) (sound_there (eqb line 0) (is_blank row) (state_of (context_of k)) (not_blank c.column row h.sign))
      ∙ read_told line row rows (Some (state_of (context_of k))) [] k (Some c)
      ∙ ap (λ k'. output_with_step line (record { above = None; lexemes = []; comment = Some c; state = Some (state_of (context_of k)); fault = None }) (remaining_output (line + 1) (Fresh false k') rows)) fresh

-- ---- by bytes

one_more : (b : Bool) (n m : ℕ) (rest : Bool) → cond b (1 + n) 0 ≡ suc m → (n ≡ m → rest ≡ true) → (b && rest) ≡ true
one_more true n m rest h more = more (omega arith)
one_more false n m rest h more = absurd (omega arith)

all_printable : (xs : List ℕ) → special_place xs ≡ length xs → list_all is_printable_ascii xs ≡ true
all_printable [] h = refl
all_printable (x ∷ xs) h = one_more (is_printable_ascii x) (special_place xs) (length xs) (list_all is_printable_ascii xs) h (all_printable xs)

white_ascii : (c : ℕ) → is_white c ≡ true → c < 128
white_ascii c h = grind (arith, nat_tests)

printable_ascii : (c : ℕ) → is_printable_ascii c ≡ true → c < 128
printable_ascii c h = grind (arith, nat_tests)

printable_all_ascii : (cs : List ℕ) → list_all is_printable_ascii cs ≡ true → IsAscii cs
printable_all_ascii [] h i = omega arith
printable_all_ascii (c ∷ cs) h zero = printable_ascii c (and_left (is_printable_ascii c) (list_all is_printable_ascii cs) h)
printable_all_ascii (c ∷ cs) h (suc i) = printable_all_ascii cs (and_right (is_printable_ascii c) (list_all is_printable_ascii cs) h) i

all_ascii : (n : ℕ) (cs : List ℕ) → is_blank (take n cs) ≡ true → list_all is_printable_ascii (drop n cs) ≡ true → IsAscii cs
all_ascii n [] w p i = omega arith
all_ascii zero (c ∷ cs) w p i = printable_all_ascii (c ∷ cs) p i
all_ascii (suc n) (c ∷ cs) w p zero = white_ascii c (and_left (is_white c) (is_blank (take n cs)) w)
all_ascii (suc n) (c ∷ cs) w p (suc i) = all_ascii n cs (and_right (is_white c) (is_blank (take n cs)) w) p i

module _ (bs : List ℕ) (at : ℕ) (h : PlainCommentAt bs at) where
  printable : list_all is_printable_ascii (drop at bs) ≡ true
  printable = all_printable (drop at bs) h.printable

  pub row_ascii : IsAscii bs
  row_ascii = all_ascii at bs h.white printable

  pub same_characters : chars bs ≡ bs
  same_characters = chars-IsAscii bs row_ascii

  pub holds_alone : (c : CommentValue) → c ≡ record { column = at; text = drop at bs } → HoldsAlone (chars bs) c
  holds_alone c e =
      subst (λ row. HoldsAlone row c) (sym same_characters)
      (subst (HoldsAlone bs) (sym e)
      (record { white = h.white; sign = h.sign; allowed = printable_none_bad (drop at bs) printable; text = sym (encodes-IsAscii (drop at bs) (printable_all_ascii (drop at bs) printable)) }))

-- a place where a comment begins lies in the row
pub sign_within : (n : ℕ) (cs : List ℕ) → starts_by is_sign (drop n cs) ≡ true → (n < length cs) × (get_or cs n 0 ≡ 35)
sign_within zero [] s = cc
sign_within (suc n) [] s = cc
sign_within zero (c ∷ cs) s = (omega arith, sign_is c s)
sign_within (suc n) (c ∷ cs) s = let there = sign_within n cs s in (omega (arith, there.0), there.1)

-- the place of a comment, by how much white space the row begins with
one_white : (b : Bool) (c n : ℕ) (cs : List ℕ) → is_white c ≡ b → is_blank (take n cs) ≡ true → is_blank (take (cond b (1 + n) 0) (c ∷ cs)) ≡ true
one_white true c n cs w more = let one : 1 + n ≡ suc n = omega arith in rw (one, w) more
one_white false c n cs w more = refl

white_before : (cs : List ℕ) → is_blank (take (prefix_len is_white cs) cs) ≡ true
white_before [] = refl
white_before (c ∷ cs) = one_white (is_white c) c (prefix_len is_white cs) cs refl (white_before cs)

pub plain_comment : (cs : List ℕ) (at : ℕ) → at ≡ prefix_len is_white cs → starts_by is_sign (drop at cs) ≡ true → special_place (drop at cs) ≡ length (drop at cs) → PlainCommentAt cs at
plain_comment cs at is sign all = record { white = ap (λ n. is_blank (take n cs)) is ∙ white_before cs; sign = sign; printable = all }
