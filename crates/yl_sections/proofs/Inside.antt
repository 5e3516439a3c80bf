-- A row's lexemes are of one document: a marker stands in the first column, and after `...` no lexeme stands in its row.
use Rattle.std.proofs.Common.{◌≡◌, ℕ, zero, suc, ◌+◌, ◌-◌, Bool, true, false, cond, not, ◌&&◌, List, [], ◌∷◌, ◌++◌, take, drop, Option, Some, None, refl, ap, sym, ◌∙◌, eqb, ltb, arith}
use Rattle.std.specs.Prelude.{◌==◌, nat_le, unwrap_or, option_map, slice_index}
use Rattle.std.specs.List.{AllByRecursion, filter, prefix_len}
use Rattle.std.specs.Option.{option_or}
use Rattle.std.proofs.lemmas.Bool.{and_parts, ne_eqb}
use Rattle.yl_text.specs.Character.{is_white, is_blank, is_marker_of, without_front}
use Rattle.yl_text.proofs.Every.{all_filter}
use Rattle.yl_scalar.specs.Header.{misfit_behind}
use Rattle.yl_scalar.specs.Reading.{ScalarOutcomeValue, Whole, Refused}
use Rattle.yl_lexeme.specs.declared.lexeme.Style.{Style}
use Rattle.yl_lexeme.specs.declared.lexeme.Kind.{Kind}
use Rattle.yl_lexeme.specs.declared.lexeme.Kind.TheVariants.{DocEnd}
use Rattle.yl_lexeme.specs.Lexeme.{LexemeValue, CommentValue}
use Rattle.yl_lexeme.specs.Past.{past_lexeme, PastLexeme, Context, context_from, at_place, in_flow}
use Rattle.yl_row.specs.declared.fault.PlacedScanFault.{PlacedScanFault}
use Rattle.yl_row.specs.declared.fault.ScanFault.TheVariants.{ContentAfterDocumentEnd}
use Rattle.yl_row.specs.Fault.{fault_at, is_tab, is_unclosed}
use Rattle.yl_row.specs.Step.{FoundLexemeValue, found_at, found_in_row, block_at, word_at, tag_found, scalar_found, place_fault, bad_in, first_tab, is_plain_start, is_value_at, is_directive_place}
use Rattle.yl_row.specs.Entries.{RowEntry, RowReading, ends_document, fault_reading, with_lexeme, reading_or_fault, comment_or, comment_of, lexeme_of, after_lexeme, lexemes_up_to_fault, stopped_rows, entries_below, row_reading, entries_from, entries}
use Rattle.yl_events.specs.Documents.{is_document_start, is_document_end}

-- no marker
pub record IsInner (k : Kind) : Type 0 where
  pub start : is_document_start k ≡ false
  pub end : is_document_end k ≡ false

-- lexemes of one document, of which only the first may be a marker
abbrev pub OfOne : List LexemeValue → Type 0
OfOne [] = Unit {0}
OfOne (x ∷ xs) = AllByRecursion (λ y. IsInner y.kind) xs × (is_document_end x.kind ≡ true → xs ≡ [])

abbrev pub HoldsOne : RowEntry → Type 0
HoldsOne e = OfOne e.lexemes

-- ---- the lexeme at a place

record IsOther (f : FoundLexemeValue) : Type 0 where
  pub other : IsInner f.kind

by : {f : FoundLexemeValue} → is_document_start f.kind ≡ false → is_document_end f.kind ≡ false → IsOther f
by s e = record { other = record { start = s; end = e } }

either : (b : Bool) (x y : FoundLexemeValue) → IsOther x → IsOther y → IsOther (cond b x y)
either true x y p q = p
either false x y p q = q

scalar_other : (style : Style) (at : ℕ) (r : ScalarOutcomeValue) → IsOther (scalar_found style at r)
scalar_other style at (Whole e) = by refl refl
scalar_other style at (Refused fault down column) = by refl refl

tag_other : (at : ℕ) (cs : List ℕ) (len : Option ℕ) → IsOther (tag_found at cs len)
tag_other at cs None = by refl refl
tag_other at cs (Some len) = by refl refl

module _ (rows : List (List ℕ)) (at : ℕ) (a : Context) (c : ℕ) (cs : List ℕ) where
  word_other : IsOther (word_at rows at a c cs)
  word_other =
      either (eqb c 0x26) _ _ (by refl refl) (either (eqb c 0x2A) _ _ (by refl refl) (either (eqb c 0x21) _ _ (tag_other at cs _) (either (eqb c 0x27) _ _ (scalar_other _ _ _) (either (eqb c 0x22) _ _ (scalar_other _ _ _)
      (either (eqb c 0x7C && not (in_flow a)) _ _ (scalar_other _ _ _) (either (eqb c 0x3E && not (in_flow a)) _ _ (scalar_other _ _ _) (either (is_plain_start (in_flow a) c cs) _ _ (scalar_other _ _ _) (by refl refl))))))))

  block_other : (tab : Option ℕ) (first : Bool) → IsOther (block_at rows tab first at a c cs)
  block_other tab first =
      either (eqb c 0x2D && is_blank (take 1 cs)) _ _ (by refl refl) (either (eqb c 0x3F && is_blank (take 1 cs)) _ _ (by refl refl)
      (either (eqb c 0x3A && is_value_at (in_flow a) a.last cs) _ _ (by refl refl)
      (either (eqb c 0x5B) _ _ (by refl refl) (either (eqb c 0x7B) _ _ (by refl refl) (either (eqb c 0x5D) _ _ (by refl refl) (either (eqb c 0x7D) _ _ (by refl refl)
      (either (eqb c 0x2C) _ _ (by refl refl) word_other)))))))

  -- a marker stands in the first column alone
  found_behind : (tab : Option ℕ) (first : Bool) → eqb at 0 ≡ false → IsOther (found_at rows tab first at a c cs)
  unfolding found_at
  found_behind tab first h = rw h (block_other tab first)

-- a document's end, with its fault
abbrev end_found : List ℕ → FoundLexemeValue
end_found cs = found_in_row DocEnd 3 [] (option_map (λ (i : ℕ). fault_at ContentAfterDocumentEnd (3 + i)) (misfit_behind (drop 2 cs)))

-- a lexeme that ends a document is that one
abbrev IsEnd : List ℕ → FoundLexemeValue → Type 0
IsEnd cs f = is_document_end f.kind ≡ true → f ≡ end_found cs

no_end : (cs : List ℕ) (f : FoundLexemeValue) → is_document_end f.kind ≡ false → IsEnd cs f
no_end cs f h e = cc

module _ (cs : List ℕ) where
  end_marked : (b : Bool) (x y : FoundLexemeValue) (o : Option FoundLexemeValue) → IsEnd cs x → IsEnd cs (unwrap_or o y) → IsEnd cs (unwrap_or (cond b (Some x) o) y)
  end_marked true x y o p q = p
  end_marked false x y o p q = q

module _ (rows : List (List ℕ)) (a : Context) (c : ℕ) (cs : List ℕ) (tab : Option ℕ) (first : Bool) where
  found_end : IsEnd cs (found_at rows tab first 0 a c cs)
  unfolding found_at
  found_end =
      let rest : IsEnd cs (block_at rows tab first 0 a c cs) = no_end cs _ (block_other rows 0 a c cs tab first).other.end in
      end_marked cs (is_marker_of 0x2D (c ∷ cs)) _ (block_at rows tab first 0 a c cs) _ (no_end cs _ refl)
      (end_marked cs (is_marker_of 0x2E (c ∷ cs)) _ (block_at rows tab first 0 a c cs) _ (λ e. refl)
      (end_marked cs (eqb c 0x25 && is_directive_place a.last) _ (block_at rows tab first 0 a c cs) None (no_end cs _ refl) rest))

-- ---- what stands after a document's end in its row

-- white space, and then nothing or a comment
abbrev is_quiet : Bool → List ℕ → Bool
is_quiet behind_space [] = true
is_quiet behind_space (c ∷ cs) = cond (is_white c) (is_quiet true cs) (eqb c 0x23 && behind_space)

blank_quiet : (b : Bool) (cs : List ℕ) → is_blank cs ≡ true → is_quiet b cs ≡ true
blank_quiet b [] h = refl
blank_quiet b (c ∷ cs) h =
    let parts = and_parts (is_white c) (is_blank cs) h in rw (parts.0) (blank_quiet true cs parts.1)

comment_quiet : (cs : List ℕ) → eqb (slice_index (without_front cs) 0) 0x23 ≡ true → is_quiet true cs ≡ true
comment_quiet [] h = cc
comment_quiet (c ∷ cs) h = by_white (is_white c) h (comment_quiet cs)
  where
    by_white : (w : Bool) → eqb (slice_index (cond w (without_front cs) (c ∷ cs)) 0) 0x23 ≡ true → (eqb (slice_index (without_front cs) 0) 0x23 ≡ true → is_quiet true cs ≡ true) → cond w (is_quiet true cs) (eqb c 0x23 && true) ≡ true
    by_white true h ih = ih h
    by_white false h ih = rw h refl

comment_behind : (cs : List ℕ) → ltb 0 (prefix_len is_white cs) ≡ true → eqb (slice_index (without_front cs) 0) 0x23 ≡ true → is_quiet false cs ≡ true
comment_behind [] h e = cc
comment_behind (c ∷ cs) h e = by_white (is_white c) h e (comment_quiet cs)
  where
    by_white : (w : Bool) → ltb 0 (cond w (1 + prefix_len is_white cs) 0) ≡ true → eqb (slice_index (cond w (without_front cs) (c ∷ cs)) 0) 0x23 ≡ true → (eqb (slice_index (without_front cs) 0) 0x23 ≡ true → is_quiet true cs ≡ true)
        → cond w (is_quiet true cs) (eqb c 0x23 && false) ≡ true
    by_white true h e ih = ih e
    by_white false h e ih = cc

fits_quiet : (cs : List ℕ) → misfit_behind cs ≡ None → is_quiet false cs ≡ true
fits_quiet cs h = by_blank (is_blank cs) refl h
  where
    by_comment : (b : Bool) → (ltb 0 (prefix_len is_white cs) && eqb (slice_index (without_front cs) 0) 0x23) ≡ b → cond b None (Some (prefix_len is_white cs)) ≡ None → is_quiet false cs ≡ true
    by_comment true e h = let parts = and_parts (ltb 0 (prefix_len is_white cs)) (eqb (slice_index (without_front cs) 0) 0x23) e in comment_behind cs parts.0 parts.1
    by_comment false e h = cc

    by_blank : (b : Bool) → is_blank cs ≡ b → cond b None (cond (ltb 0 (prefix_len is_white cs) && eqb (slice_index (without_front cs) 0) 0x23) None (Some (prefix_len is_white cs))) ≡ None → is_quiet false cs ≡ true
    by_blank true e h = blank_quiet false cs e
    by_blank false e h = by_comment _ refl h

record IsEmpty (r : RowReading (List PastLexeme)) : Type 0 where
  pub empty : r.lexemes ≡ []

comment_empty : (c : CommentValue) (behind : List PastLexeme) (f : Option PlacedScanFault) → IsEmpty (comment_or c behind [] f)
comment_empty c behind None = record { empty = refl }
comment_empty c behind (Some f) = record { empty = refl }

quiet_reading : (rows : List (List ℕ)) (tab : Option ℕ) (bs first : Bool) (at : ℕ) (here older : List PastLexeme) (cs : List ℕ) → is_quiet bs cs ≡ true → IsEmpty (row_reading rows tab 0 bs first at here older cs)
quiet_reading rows tab bs first at here older [] h = record { empty = refl }
quiet_reading rows tab bs first at here older (c ∷ cs) h =
    by_white (is_white c) _ h (quiet_reading rows tab true first (at + 1) here older cs)
  where
    by_comment : (b : Bool) (x y : RowReading (List PastLexeme)) → IsEmpty x → b ≡ true → IsEmpty (cond b x y)
    by_comment true x y p e = p
    by_comment false x y p e = cc

    by_white : (w : Bool) (y : RowReading (List PastLexeme)) → cond w (is_quiet true cs) (eqb c 0x23 && bs) ≡ true → (is_quiet true cs ≡ true → IsEmpty (row_reading rows tab 0 true first (at + 1) here older cs))
        → IsEmpty (cond w (row_reading rows tab 0 true first (at + 1) here older cs) (cond (eqb c 0x23 && bs) (comment_or (comment_of at (c ∷ cs)) (here ++ older) [] (bad_in at (c ∷ cs))) y))
    by_white true y h ih = ih h
    by_white false y h ih = by_comment (eqb c 0x23 && bs) _ y (comment_empty (comment_of at (c ∷ cs)) (here ++ older) (bad_in at (c ∷ cs))) h

-- after the other two characters of the marker
marker_reading : (rows : List (List ℕ)) (tab : Option ℕ) (here older : List PastLexeme) (cs : List ℕ) → misfit_behind (drop 2 cs) ≡ None → IsEmpty (row_reading rows tab 2 false false 1 here older cs)
marker_reading rows tab here older [] h = record { empty = refl }
marker_reading rows tab here older (x ∷ []) h = record { empty = refl }
marker_reading rows tab here older (x ∷ y ∷ cs) h = quiet_reading rows tab false false 3 here older cs (fits_quiet cs h)

-- ---- a row from a place on

record AllOther (r : RowReading (List PastLexeme)) : Type 0 where
  pub all : AllByRecursion (λ (x : LexemeValue). IsInner x.kind) r.lexemes

one_of : (b : Bool) (x y : RowReading (List PastLexeme)) → AllOther x → AllOther y → AllOther (cond b x y)
one_of true x y p q = p
one_of false x y p q = q

comment_other : (c : CommentValue) (behind : List PastLexeme) (f : Option PlacedScanFault) → AllOther (comment_or c behind [] f)
comment_other c behind None = record { all = tt }
comment_other c behind (Some f) = record { all = tt }

after_other : (at : ℕ) (found : FoundLexemeValue) (behind : List PastLexeme) (more : ℕ → RowReading (List PastLexeme)) (down : ℕ) → ((skip : ℕ) → AllOther (more skip)) → AllOther (after_lexeme at found behind more down)
after_other at found behind more zero h = h (found.column - at - 1)
after_other at found behind more (suc down) h = record { all = tt }

chosen_other : (x : LexemeValue) (more : RowReading (List PastLexeme)) (f : Option PlacedScanFault) → IsInner x.kind → AllOther more → AllOther (reading_or_fault x [] more f)
chosen_other x more None h g = record { all = (h, g.all) }
chosen_other x more (Some f) h g = by_end (ends_document x.kind)
  where
    by_end : (b : Bool) → AllOther (cond b (with_lexeme x (fault_reading f [])) (fault_reading f []))
    by_end true = record { all = (h, tt) }
    by_end false = record { all = tt }

further : (at : ℕ) → eqb (at + 1) 0 ≡ false
further at = ne_eqb (at + 1) 0 (λ e. omega arith)

-- after the first column no marker begins
others : (rows : List (List ℕ)) (tab : Option ℕ) (skip : ℕ) (bs first : Bool) (at : ℕ) (here older : List PastLexeme) (cs : List ℕ) → eqb at 0 ≡ false →
    AllOther (row_reading rows tab skip bs first at here older cs)
others rows tab skip bs first at here older [] h = record { all = tt }
others rows tab skip bs first at here older (c ∷ cs) h =
    let a = at_place first at (context_from here older) in
    let found = found_at rows tab first at a c cs in
    one_of (ltb 0 skip) _ _ (others rows tab (skip - 1) false first (at + 1) here older cs (further at))
    (one_of (is_white c) _ _ (others rows tab 0 true first (at + 1) here older cs (further at))
    (one_of (eqb c 0x23 && bs) _ _ (comment_other (comment_of at (c ∷ cs)) (here ++ older) (bad_in at (c ∷ cs)))
    (chosen_other (lexeme_of at found) _ (option_or (place_fault tab first at a) found.fault) (found_behind rows at a c cs tab first h).other
    (after_other at found ((past_lexeme at first a found.kind ∷ here) ++ older) (λ skip. row_reading rows tab skip false false (at + 1) (past_lexeme at first a found.kind ∷ here) older cs) found.down (λ skip. others rows tab skip false false (at + 1) (past_lexeme at first a found.kind ∷ here) older cs (further at))))))

-- ---- a row

record One (r : RowReading (List PastLexeme)) : Type 0 where
  pub one : OfOne r.lexemes

inner_one : (xs : List LexemeValue) → AllByRecursion (λ (x : LexemeValue). IsInner x.kind) xs → OfOne xs
inner_one [] h = tt
inner_one (x ∷ xs) h = (h.1, λ e. let n = h.0.end in cc)

other_one : (r : RowReading (List PastLexeme)) → AllOther r → One r
other_one r h = record { one = inner_one r.lexemes h.all }

which_one : (b : Bool) (x y : RowReading (List PastLexeme)) → One x → One y → One (cond b x y)
which_one true x y p q = p
which_one false x y p q = q

chosen_one : (x : LexemeValue) (more : RowReading (List PastLexeme)) (f : Option PlacedScanFault) → AllOther more → (f ≡ None → is_document_end x.kind ≡ true → more.lexemes ≡ []) → One (reading_or_fault x [] more f)
chosen_one x more None h g = record { one = (h.all, g refl) }
chosen_one x more (Some f) h g = by_end (ends_document x.kind)
  where
    by_end : (b : Bool) → One (cond b (with_lexeme x (fault_reading f [])) (fault_reading f []))
    by_end true = record { one = (tt, λ e. refl) }
    by_end false = record { one = tt }

no_fault : (p f : Option PlacedScanFault) → option_or p f ≡ None → f ≡ None
no_fault None f h = h
no_fault (Some x) f h = cc

no_misfit : (o : Option ℕ) → option_map (λ (i : ℕ). fault_at ContentAfterDocumentEnd (3 + i)) o ≡ None → o ≡ None
no_misfit None h = refl
no_misfit (Some i) h = cc

module _ (rows : List (List ℕ)) (tab : Option ℕ) (older : List PastLexeme) (c : ℕ) (cs : List ℕ) where
  abbrev read_behind : FoundLexemeValue → List PastLexeme → RowReading (List PastLexeme)
  read_behind f here = after_lexeme 0 f (here ++ older) (λ (skip : ℕ). row_reading rows tab skip false false 1 here older cs) f.down

  ends_row : (f : FoundLexemeValue) (p : Option PlacedScanFault) (here : List PastLexeme) → f ≡ end_found cs → option_or p f.fault ≡ None → (read_behind f here).lexemes ≡ []
  ends_row f p here is h =
      let fits : misfit_behind (drop 2 cs) ≡ None = no_misfit (misfit_behind (drop 2 cs)) (sym (ap (λ (g : FoundLexemeValue). g.fault) is) ∙ no_fault p f.fault h) in
      ap (λ (g : FoundLexemeValue). (read_behind g here).lexemes) is ∙ (marker_reading rows tab here older cs fits).empty

-- a row from its first column on
whole_row : (rows : List (List ℕ)) (tab : Option ℕ) (skip : ℕ) (bs first : Bool) (older : List PastLexeme) (cs : List ℕ) → One (row_reading rows tab skip bs first 0 [] older cs)
whole_row rows tab skip bs first older [] = record { one = tt }
whole_row rows tab skip bs first older (c ∷ cs) =
    let a = at_place first 0 (context_from [] older) in
    let found = found_at rows tab first 0 a c cs in
    let here = past_lexeme 0 first a found.kind ∷ [] in
    let rest : AllOther (read_behind rows tab older c cs found here) = after_other 0 found (here ++ older) (λ skip. row_reading rows tab skip false false 1 here older cs) found.down (λ skip. others rows tab skip false false 1 here older cs refl) in
    which_one (ltb 0 skip) _ _ (other_one _ (others rows tab (skip - 1) false first 1 [] older cs refl))
    (which_one (is_white c) _ _ (other_one _ (others rows tab 0 true first 1 [] older cs refl))
    (which_one (eqb c 0x23 && bs) _ _ (other_one _ (comment_other (comment_of 0 (c ∷ cs)) older (bad_in 0 (c ∷ cs))))
    (chosen_one (lexeme_of 0 found) _ (option_or (place_fault tab first 0 a) found.fault) rest
    (λ none end. ends_row rows tab older c cs found (place_fault tab first 0 a) here (found_end rows a c cs tab first end) none))))

-- ---- all rows

left_of_none : (p : LexemeValue → Bool) (xs : List LexemeValue) → xs ≡ [] → filter p xs ≡ []
left_of_none p xs h = ap (filter p) h

kept_one : (p : LexemeValue → Bool) (xs : List LexemeValue) → OfOne xs → OfOne (filter p xs)
kept_one p [] h = tt
kept_one p (x ∷ xs) h = by_test (p x)
  where
    by_test : (b : Bool) → OfOne (cond b (x ∷ filter p xs) (filter p xs))
    by_test true = (all_filter (λ (y : LexemeValue). IsInner y.kind) p xs h.0, λ e. left_of_none p xs (h.1 e))
    by_test false = inner_one (filter p xs) (all_filter (λ (y : LexemeValue). IsInner y.kind) p xs h.0)

abbrev ends_by_column : ℕ → LexemeValue → Bool
ends_by_column column x = x.end.line == 0 && nat_le x.end.col column

up_to_fault : (f : Option PlacedScanFault) (xs : List LexemeValue) → OfOne xs → OfOne (lexemes_up_to_fault f xs)
up_to_fault None xs h = h
up_to_fault (Some f) xs h = by_test (is_tab f.fault)
  where
    by_test : (b : Bool) → OfOne (cond b (filter (ends_by_column f.column) xs) xs)
    by_test true = kept_one (ends_by_column f.column) xs h
    by_test false = h

stopped_one : (to_end : Bool) (down : ℕ) (rows : List (List ℕ)) → AllByRecursion HoldsOne (stopped_rows to_end down rows)
stopped_one to_end down [] = tt
stopped_one to_end zero (row ∷ rows) = (tt, stopped_one to_end 0 rows)
stopped_one to_end (suc down) (row ∷ rows) = (tt, stopped_one to_end down rows)

below_one : (more : ℕ → ℕ → List PastLexeme → List RowEntry) (rows : List (List ℕ)) (r : RowReading (List PastLexeme)) (f : Option PlacedScanFault)
    → ((down column : ℕ) (older : List PastLexeme) → AllByRecursion HoldsOne (more down column older)) → AllByRecursion HoldsOne (entries_below more rows r f)
below_one more rows r None h = h r.down r.column r.behind
below_one more rows r (Some f) h = stopped_one (is_unclosed f.fault) f.down rows

all_one : (is_start : Bool) (down column : ℕ) (older : List PastLexeme) (rows : List (List ℕ)) → AllByRecursion HoldsOne (entries_from is_start down column older rows)
all_one is_start down column older [] = tt
all_one is_start zero column older (row ∷ rows) =
    let r = row_reading rows (first_tab false row) 0 true true 0 [] older row in (
      up_to_fault r.fault r.lexemes (whole_row rows (first_tab false row) 0 true true older row).one,
      below_one (λ down column older. entries_from false down column older rows) rows r r.fault (λ down column older. all_one false down column older rows),
    )
all_one is_start (suc zero) column older (row ∷ rows) =
    let r = row_reading rows (first_tab true row) column false false 0 [] older row in (
      up_to_fault r.fault r.lexemes (whole_row rows (first_tab true row) column false false older row).one,
      below_one (λ down column older. entries_from false down column older rows) rows r r.fault (λ down column older. all_one false down column older rows),
    )
all_one is_start (suc (suc down)) column older (row ∷ rows) = (tt, all_one false (suc down) column older rows)

pub rows_hold_one : (text : List (List ℕ)) → AllByRecursion HoldsOne (entries text)
rows_hold_one text = all_one true 0 0 [] text
