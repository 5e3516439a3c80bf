-- What a row makes of a quoted scalar, character by character, is what its glyphs make of it.
use Rattle.std.proofs.Common.{◌≡◌, ℕ, zero, suc, ◌+◌, ◌-◌, ◌≤◌, Bool, true, false, not, ◌&&◌, cond, List, [], ◌∷◌, ◌++◌, length, take, get_or, refl, ap, subst, sym, ◌∙◌, append_assoc, arith, eqb, sub-one, length-append}
use Rattle.std.specs.Prelude.{Option, Some, None}
use Rattle.std.specs.List.{list_all}
use Rattle.std.specs.Option.{option_map_or}
use Rattle.std.proofs.lemmas.Bool.{eqb-true, lt-ltb}
use Rattle.std.proofs.lemmas.List.{append-nil, take-append-le, take_all}
use Rattle.yl_text.specs.Character.{is_white}
use Rattle.yl_scalar.specs.Allowed.{is_quoted_character}
use Rattle.yl_scalar.specs.Escape.{escape}
use Rattle.yl_scalar.specs.Reading.{ScalarStepValue, GoesOn, EndsIn, Fails}
use Rattle.yl_scalar.specs.Quoted.{Stretch, Closes, Breaks, Faulty, quote, stretch}
use Rattle.yl_scalar.specs.QuotedSteps.{QuotedReaderValue, quoted_step_behind}
use Rattle.yl_scalar.specs.declared.answer.ScalarFault.TheVariants.{NotAllowed, BadEscape}
use Rattle.yl_scalar.specs.QuotedRows.{Stop, Closed, Faulted, Glyph, Content, White, RowEnd, Stops, escaped, width, glyphs, stop_in, text_before, is_white_glyph, row_text, backslash_in}

-- what glyphs make of it, one after another
abbrev pub walk : List ℕ → ℕ → ℕ → List Glyph → Stretch
walk text kept at [] = Breaks (take kept text) None
walk text kept at (Content c n ∷ gs) = walk (text ++ c ∷ []) (length text + 1) (at + n) gs
walk text kept at (White c ∷ gs) = walk (text ++ c ∷ []) kept (at + 1) gs
walk text kept at (RowEnd ∷ gs) = Breaks text (Some at)
walk text kept at (Stops Closed ∷ gs) = Closes text (at + 1)
walk text kept at (Stops (Faulted fault) ∷ gs) = Faulty fault at

-- nothing stands behind a row's end
abbrev pub IsWhole : List Glyph → Type 0
IsWhole [] = Unit {0}
IsWhole (RowEnd ∷ gs) = gs ≡ []
IsWhole (g ∷ gs) = IsWhole gs

module _ (double : Bool) (c : ℕ) (cs : List ℕ) where
  abbrev Below : Type 0
  Below = (skip : ℕ) (text : List ℕ) (kept at : ℕ) → stretch double skip text kept at cs ≡ walk text kept (at + skip) (glyphs double skip cs)

  module _ (ih : Below) (text : List ℕ) (kept at : ℕ) where
    -- the glyph, and what follows it
    abbrev onward : Glyph → Stretch
    onward g = walk text kept (at + 0) (g ∷ glyphs double (width g - 1) cs)

    further : (n : ℕ) (x : ℕ) → stretch double n (text ++ x ∷ []) (length text + 1) (at + 1) cs ≡ walk (text ++ x ∷ []) (length text + 1) (at + 0 + (n + 1)) (glyphs double n cs)
    further n x =
        let place : at + 1 + n ≡ at + 0 + (n + 1) = omega arith in
        ih n (text ++ x ∷ []) (length text + 1) (at + 1) ∙ ap (λ p. walk (text ++ x ∷ []) (length text + 1) p (glyphs double n cs)) place

    start : at + 0 ≡ at
    start = omega arith

    of_escape : (e : Option (ℕ × ℕ)) → option_map_or (λ e. stretch double (e.1 + 1) (text ++ e.0 ∷ []) (length text + 1) (at + 1) cs) e (Faulty BadEscape at) ≡ onward (escaped e)
    of_escape None = ap (λ p. Faulty BadEscape p) (sym start)
    of_escape (Some e) =
        let n : e.1 + 2 - 1 ≡ e.1 + 1 = omega arith in
        let w : e.1 + 1 + 1 ≡ e.1 + 2 = omega arith in
        further (e.1 + 1) e.0
        ∙ ap (λ k. walk (text ++ e.0 ∷ []) (length text + 1) (at + 0 + k) (glyphs double (e.1 + 1) cs)) w
        ∙ ap (λ k. walk (text ++ e.0 ∷ []) (length text + 1) (at + 0 + (e.1 + 2)) (glyphs double k cs)) (sym n)

    of_end : (b : Bool) → cond b (Breaks text (Some at)) (option_map_or (λ e. stretch double (e.1 + 1) (text ++ e.0 ∷ []) (length text + 1) (at + 1) cs) (escape cs) (Faulty BadEscape at)) ≡ onward (cond b RowEnd (escaped (escape cs)))
    of_end true = ap (λ p. Breaks text (Some p)) (sym start)
    of_end false = of_escape (escape cs)

    of_white : (b : Bool) → stretch double 0 (text ++ c ∷ []) (cond b kept (length text + 1)) (at + 1) cs ≡ onward (cond b (White c) (Content c 1))
    of_white true =
        let place : at + 1 + 0 ≡ at + 0 + 1 = omega arith in
        ih 0 (text ++ c ∷ []) kept (at + 1) ∙ ap (λ p. walk (text ++ c ∷ []) kept p (glyphs double 0 cs)) place
    of_white false = further 0 c

    of_allowed : (b : Bool) → cond b (stretch double 0 (text ++ c ∷ []) (cond (is_white c) kept (length text + 1)) (at + 1) cs) (Faulty NotAllowed at) ≡ onward (cond b (cond (is_white c) (White c) (Content c 1)) (Stops (Faulted NotAllowed)))
    of_allowed true = of_white (is_white c)
    of_allowed false = ap (λ p. Faulty NotAllowed p) (sym start)

    of_backslash : (b : Bool) →
        cond b (cond (eqb (length cs) 0) (Breaks text (Some at)) (option_map_or (λ e. stretch double (e.1 + 1) (text ++ e.0 ∷ []) (length text + 1) (at + 1) cs) (escape cs) (Faulty BadEscape at)))
        (cond (is_quoted_character c) (stretch double 0 (text ++ c ∷ []) (cond (is_white c) kept (length text + 1)) (at + 1) cs) (Faulty NotAllowed at))
        ≡ onward (cond b (cond (eqb (length cs) 0) RowEnd (escaped (escape cs))) (cond (is_quoted_character c) (cond (is_white c) (White c) (Content c 1)) (Stops (Faulted NotAllowed))))
    of_backslash true = of_end (eqb (length cs) 0)
    of_backslash false = of_allowed (is_quoted_character c)

    of_second : (b : Bool) → cond b (stretch double 1 (text ++ c ∷ []) (length text + 1) (at + 1) cs) (Closes text (at + 1)) ≡ onward (cond b (Content c 2) (Stops Closed))
    of_second true = further 1 c
    of_second false = ap (λ p. Closes text (p + 1)) (sym start)

    of_quote : (b : Bool) →
        cond b (cond (not double && eqb (get_or cs 0 0) 0x27) (stretch double 1 (text ++ c ∷ []) (length text + 1) (at + 1) cs) (Closes text (at + 1)))
        (cond (double && eqb c 0x5C) (cond (eqb (length cs) 0) (Breaks text (Some at)) (option_map_or (λ e. stretch double (e.1 + 1) (text ++ e.0 ∷ []) (length text + 1) (at + 1) cs) (escape cs) (Faulty BadEscape at)))
        (cond (is_quoted_character c) (stretch double 0 (text ++ c ∷ []) (cond (is_white c) kept (length text + 1)) (at + 1) cs) (Faulty NotAllowed at)))
        ≡ onward (cond b (cond (not double && eqb (get_or cs 0 0) 0x27) (Content c 2) (Stops Closed))
        (cond (double && eqb c 0x5C) (cond (eqb (length cs) 0) RowEnd (escaped (escape cs))) (cond (is_quoted_character c) (cond (is_white c) (White c) (Content c 1)) (Stops (Faulted NotAllowed)))))
    of_quote true = of_second (not double && eqb (get_or cs 0 0) 0x27)
    of_quote false = of_backslash (double && eqb c 0x5C)

pub walked : (double : Bool) (cs : List ℕ) (skip : ℕ) (text : List ℕ) (kept at : ℕ) → stretch double skip text kept at cs ≡ walk text kept (at + skip) (glyphs double skip cs)
walked double [] skip text kept at = refl
walked double (c ∷ cs) zero text kept at = of_quote double c cs (λ skip text kept at. walked double cs skip text kept at) text kept at (eqb c (quote double))
walked double (c ∷ cs) (suc n) text kept at =
    let place : at + 1 + n ≡ at + suc n = omega arith in
    rw (lt-ltb 0 (suc n) (omega arith), sub-one) (walked double cs n text kept (at + 1) ∙ ap (λ p. walk text kept p (glyphs double n cs)) place)

-- ---- a row's glyphs end at its end

ends_row : (double : Bool) (skip : ℕ) (cs : List ℕ) → (eqb (length cs) 0) ≡ true → glyphs double skip cs ≡ []
ends_row double skip [] h = refl
ends_row double skip (c ∷ cs) h = absurd (let e : suc (length cs) ≡ 0 = eqb-true (suc (length cs)) 0 h in omega arith)

module _ (double : Bool) (c : ℕ) (cs : List ℕ) (ih : (skip : ℕ) → IsWhole (glyphs double skip cs)) where
  abbrev Whole : Glyph → Type 0
  Whole g = IsWhole (g ∷ glyphs double (width g - 1) cs)

  whole_escape : (e : Option (ℕ × ℕ)) → Whole (escaped e)
  whole_escape None = ih _
  whole_escape (Some e) = ih _

  whole_end : (b : Bool) → eqb (length cs) 0 ≡ b → Whole (cond b RowEnd (escaped (escape cs)))
  whole_end true h = ends_row double _ cs h
  whole_end false h = whole_escape (escape cs)

  whole_white : (b : Bool) → Whole (cond b (White c) (Content c 1))
  whole_white true = ih _
  whole_white false = ih _

  whole_allowed : (b : Bool) → Whole (cond b (cond (is_white c) (White c) (Content c 1)) (Stops (Faulted NotAllowed)))
  whole_allowed true = whole_white (is_white c)
  whole_allowed false = ih _

  whole_backslash : (b : Bool) → Whole (cond b (cond (eqb (length cs) 0) RowEnd (escaped (escape cs))) (cond (is_quoted_character c) (cond (is_white c) (White c) (Content c 1)) (Stops (Faulted NotAllowed))))
  whole_backslash true = whole_end (eqb (length cs) 0) refl
  whole_backslash false = whole_allowed (is_quoted_character c)

  whole_second : (b : Bool) → Whole (cond b (Content c 2) (Stops Closed))
  whole_second true = ih _
  whole_second false = ih _

  whole_quote : (b : Bool) → Whole (cond b (cond (not double && eqb (get_or cs 0 0) 0x27) (Content c 2) (Stops Closed))
      (cond (double && eqb c 0x5C) (cond (eqb (length cs) 0) RowEnd (escaped (escape cs))) (cond (is_quoted_character c) (cond (is_white c) (White c) (Content c 1)) (Stops (Faulted NotAllowed)))))
  whole_quote true = whole_second (not double && eqb (get_or cs 0 0) 0x27)
  whole_quote false = whole_backslash (double && eqb c 0x5C)

pub glyphs_whole : (double : Bool) (cs : List ℕ) (skip : ℕ) → IsWhole (glyphs double skip cs)
glyphs_whole double [] skip = tt
glyphs_whole double (c ∷ cs) zero = whole_quote double c cs (glyphs_whole double cs) (eqb c (quote double))
glyphs_whole double (c ∷ cs) (suc n) = rw (lt-ltb 0 (suc n) (omega arith), sub-one) (glyphs_whole double cs n)

-- ---- what the glyphs make of it, by the first of them with which the scalar stops

-- the text behind a row that is passed, where `kept` characters stand before the white space at the end of what came before
abbrev kept_text : List ℕ → ℕ → List Glyph → List ℕ
kept_text text kept gs = cond (list_all is_white_glyph gs) (take kept text) (text ++ row_text gs)

abbrev pub stepped : QuotedReaderValue → List ℕ → List ℕ → Option (ℕ × Stop) → Option ℕ → ScalarStepValue QuotedReaderValue
stepped s passed closed None backslash = GoesOn (record s { value = passed; backslash = backslash })
stepped s passed closed (Some (column, Closed)) backslash = EndsIn (record { down = s.down; column = column + 1; value = closed })
stepped s passed closed (Some (column, Faulted fault)) backslash = Fails fault s.down column

white_has_no_text : (gs : List Glyph) → list_all is_white_glyph gs ≡ true → row_text gs ≡ []
white_has_no_text [] h = refl
white_has_no_text (g ∷ gs) h = rw h refl

abbrev Steps : QuotedReaderValue → ℕ → List ℕ → ℕ → ℕ → List Glyph → Type 0
Steps s column text kept at gs =
    quoted_step_behind s column (walk text kept at gs) ≡ stepped s (kept_text text kept gs) (text ++ text_before gs) (stop_in (column + at) gs) (backslash_in (column + at) gs)

module _ (s : QuotedReaderValue) (column : ℕ) (text : List ℕ) (kept at : ℕ) (c : ℕ) (gs : List Glyph) where
  one_more : text ++ c ∷ [] ++ text_before gs ≡ text ++ (c ∷ text_before gs)
  one_more = append_assoc text (c ∷ []) (text_before gs)

  -- behind a character that stays
  passed_content : (b : Bool) → list_all is_white_glyph gs ≡ b →
      cond b (take (length text + 1) (text ++ c ∷ [])) (text ++ c ∷ [] ++ row_text gs) ≡ text ++ (c ∷ row_text gs)
  passed_content true h =
      take_all (length text + 1) (text ++ c ∷ []) (omega (arith, length-append text (c ∷ []))) ∙ ap (λ (r : List ℕ). text ++ c ∷ r) (sym (white_has_no_text gs h))
  passed_content false h = append_assoc text (c ∷ []) (row_text gs)

  -- behind white space
  passed_white : kept ≤ length text → (b : Bool) →
      cond b (take kept (text ++ c ∷ [])) (text ++ c ∷ [] ++ row_text gs) ≡ cond b (take kept text) (text ++ cond b [] (c ∷ row_text gs))
  passed_white h true = take-append-le kept text (c ∷ []) h
  passed_white h false = append_assoc text (c ∷ []) (row_text gs)

  of_content : (n : ℕ) → Steps s column (text ++ c ∷ []) (length text + 1) (at + n) gs → Steps s column text kept at (Content c n ∷ gs)
  of_content n ih =
      let place : column + (at + n) ≡ column + at + n = omega arith in
      ih
      ∙ ap (λ p. stepped s (kept_text (text ++ c ∷ []) (length text + 1) gs) (text ++ c ∷ [] ++ text_before gs) (stop_in p gs) (backslash_in p gs)) place
      ∙ ap (λ v. stepped s v (text ++ c ∷ [] ++ text_before gs) (stop_in (column + at + n) gs) (backslash_in (column + at + n) gs)) (passed_content (list_all is_white_glyph gs) refl)
      ∙ ap (λ v. stepped s (text ++ (c ∷ row_text gs)) v (stop_in (column + at + n) gs) (backslash_in (column + at + n) gs)) one_more

  of_white_glyph : kept ≤ length text → Steps s column (text ++ c ∷ []) kept (at + 1) gs → Steps s column text kept at (White c ∷ gs)
  of_white_glyph h ih =
      let place : column + (at + 1) ≡ column + at + 1 = omega arith in
      ih
      ∙ ap (λ p. stepped s (kept_text (text ++ c ∷ []) kept gs) (text ++ c ∷ [] ++ text_before gs) (stop_in p gs) (backslash_in p gs)) place
      ∙ ap (λ v. stepped s v (text ++ c ∷ [] ++ text_before gs) (stop_in (column + at + 1) gs) (backslash_in (column + at + 1) gs)) (passed_white h (list_all is_white_glyph gs))
      ∙ ap (λ v. stepped s (kept_text text kept (White c ∷ gs)) v (stop_in (column + at + 1) gs) (backslash_in (column + at + 1) gs)) one_more

steps : (s : QuotedReaderValue) (column : ℕ) (gs : List Glyph) (text : List ℕ) (kept at : ℕ) → IsWhole gs → kept ≤ length text → Steps s column text kept at gs
steps s column [] text kept at w h = refl
steps s column (Content c n ∷ gs) text kept at w h =
    of_content s column text kept at c gs n (steps s column gs (text ++ c ∷ []) (length text + 1) (at + n) w (omega (arith, length-append text (c ∷ []))))
steps s column (White c ∷ gs) text kept at w h =
    of_white_glyph s column text kept at c gs h (steps s column gs (text ++ c ∷ []) kept (at + 1) w (omega (arith, length-append text (c ∷ []))))
steps s column (RowEnd ∷ gs) text kept at w h =
    subst (λ (r : List Glyph). Steps s column text kept at (RowEnd ∷ r)) (sym w)
    (ap (λ v. GoesOn (record s { value = v; backslash = Some (column + at) })) (sym (append-nil text)))
steps s column (Stops Closed ∷ gs) text kept at w h =
    let place : column + (at + 1) ≡ column + at + 1 = omega arith in
    ap (λ p. EndsIn (record { down = s.down; column = p; value = text })) place ∙ ap (λ v. EndsIn (record { down = s.down; column = column + at + 1; value = v })) (sym (append-nil text))
steps s column (Stops (Faulted fault) ∷ gs) text kept at w h = refl

-- a row from this column on, behind a value
pub row_steps : (s : QuotedReaderValue) (column : ℕ) (row : List ℕ) (value : List ℕ) →
    quoted_step_behind s column (stretch s.double 0 value (length value) 0 row)
    ≡ stepped s (value ++ row_text (glyphs s.double 0 row)) (value ++ text_before (glyphs s.double 0 row)) (stop_in column (glyphs s.double 0 row)) (backslash_in column (glyphs s.double 0 row))
row_steps s column row value =
    let gs = glyphs s.double 0 row in
    let start : column + 0 ≡ column = omega arith in
    ap (quoted_step_behind s column) (walked s.double row 0 value (length value) 0)
    ∙ steps s column gs value (length value) 0 (glyphs_whole s.double row 0) (omega arith)
    ∙ ap (λ p. stepped s (kept_text value (length value) gs) (value ++ text_before gs) (stop_in p gs) (backslash_in p gs)) start
    ∙ ap (λ v. stepped s v (value ++ text_before gs) (stop_in column gs) (backslash_in column gs)) (all_kept (list_all is_white_glyph gs) refl)
  where
    all_kept : (b : Bool) → list_all is_white_glyph (glyphs s.double 0 row) ≡ b →
        cond b (take (length value) value) (value ++ row_text (glyphs s.double 0 row)) ≡ value ++ row_text (glyphs s.double 0 row)
    all_kept true h = take_all (length value) value (omega arith) ∙ sym (append-nil value) ∙ ap (λ (r : List ℕ). value ++ r) (sym (white_has_no_text (glyphs s.double 0 row) h))
    all_kept false h = refl
