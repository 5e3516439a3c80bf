-- The directives of a text stand in their places.
use Rattle.std.proofs.Common.{◌≡◌, ℕ, zero, suc, ◌+◌, ◌-◌, Bool, true, false, cond, not, ◌&&◌, ◌||◌, List, [], ◌∷◌, ◌++◌, map, take, Option, Some, None, refl, ap, subst, ◌∙◌, eqb, ltb, arith}
use Rattle.std.specs.Prelude.{◌==◌, nat_le, unwrap_or}
use Rattle.std.specs.List.{filter}
use Rattle.std.specs.Option.{option_or}
use Rattle.std.proofs.lemmas.List.{append-nil}
use Rattle.std.proofs.lemmas.Bool.{and_parts, and_from, or_right, ne_eqb}
use Rattle.yl_text.specs.Character.{is_white, is_blank, is_marker_of}
use Rattle.yl_scalar.specs.Reading.{ScalarOutcomeValue, Whole, Refused}
use Rattle.yl_lexeme.specs.declared.lexeme.Style.{Style}
use Rattle.yl_lexeme.specs.declared.lexeme.Kind.{Kind}
use Rattle.yl_lexeme.specs.Lexeme.{LexemeValue, CommentValue}
use Rattle.yl_lexeme.specs.Directives.{is_directive, is_directive_place, directives_in_place}
use Rattle.yl_lexeme.specs.Past.{past_lexeme, PastLexeme, Context, context_from, at_place, in_flow}
use Rattle.yl_row.specs.declared.fault.PlacedScanFault.{PlacedScanFault}
use Rattle.yl_row.specs.Fault.{is_tab, is_unclosed}
use Rattle.yl_row.specs.Step.{FoundLexemeValue, found_at, document_at, block_at, word_at, tag_found, scalar_found, place_fault, bad_in, first_tab, is_plain_start, is_value_at}
use Rattle.yl_row.specs.Entries.{RowEntry, RowReading, ends_document, fault_reading, with_lexeme, reading_or_fault, comment_or, comment_of, lexeme_of, after_lexeme, lexemes_up_to_fault, stopped_rows, entries_below, row_reading, entries_from}
use Rattle.yl_lexeme.proofs.Looks.{last_kind}
use Rattle.yl_row.specs.Directives.{kinds_of, DirectivesStandInPlace}

abbrev kinds : List LexemeValue → List Kind
kinds xs = map (λ x. x.kind) xs

-- no directive is among them
abbrev none : List Kind → Bool
none [] = true
none (k ∷ ks) = not (is_directive k) && none ks

-- none but the first is one, and that stands in its place
abbrev leading : Option Kind → List Kind → Bool
leading last [] = true
leading last (k ∷ ks) = (not (is_directive k) || is_directive_place last) && none ks

-- the kind of the last of them, or of the one before
abbrev last_of : Option Kind → List Kind → Option Kind
last_of last [] = last
last_of last (k ∷ ks) = last_of (Some k) ks

none_leads : (last : Option Kind) (ks : List Kind) → none ks ≡ true → leading last ks ≡ true
none_leads last [] h = refl
none_leads last (k ∷ ks) h = let parts = and_parts (not (is_directive k)) (none ks) h in rw (parts.0, parts.1) refl

none_in_place : (last : Option Kind) (ks : List Kind) → none ks ≡ true → directives_in_place last ks ≡ true
none_in_place last [] h = refl
none_in_place last (k ∷ ks) h =
    let parts = and_parts (not (is_directive k)) (none ks) h in rw (parts.0, none_in_place (Some k) ks parts.1) refl

leads_in_place : (last : Option Kind) (ks : List Kind) → leading last ks ≡ true → directives_in_place last ks ≡ true
leads_in_place last [] h = refl
leads_in_place last (k ∷ ks) h =
    let parts = and_parts (not (is_directive k) || is_directive_place last) (none ks) h in
    and_from (not (is_directive k) || is_directive_place last) (directives_in_place (Some k) ks) parts.0 (none_in_place (Some k) ks parts.1)

joined : (last : Option Kind) (ks ls : List Kind) → directives_in_place last ks ≡ true → directives_in_place (last_of last ks) ls ≡ true → directives_in_place last (ks ++ ls) ≡ true
joined last [] ls h g = g
joined last (k ∷ ks) ls h g =
    let parts = and_parts (not (is_directive k) || is_directive_place last) (directives_in_place (Some k) ks) h in
    and_from (not (is_directive k) || is_directive_place last) (directives_in_place (Some k) (ks ++ ls)) parts.0 (joined (Some k) ks ls parts.1 g)

-- ---- some of the lexemes

none_left : (p : LexemeValue → Bool) (xs : List LexemeValue) → none (kinds xs) ≡ true → none (kinds (filter p xs)) ≡ true
none_left p [] h = refl
none_left p (x ∷ xs) h =
    let parts = and_parts (not (is_directive x.kind)) (none (kinds xs)) h in
    by_test (p x) parts.0 (none_left p xs parts.1)
  where
    by_test : (b : Bool) → not (is_directive x.kind) ≡ true → none (kinds (filter p xs)) ≡ true → none (kinds (cond b (x ∷ filter p xs) (filter p xs))) ≡ true
    by_test true own rest = and_from (not (is_directive x.kind)) (none (kinds (filter p xs))) own rest
    by_test false own rest = rest

leads_left : (last : Option Kind) (p : LexemeValue → Bool) (xs : List LexemeValue) → leading last (kinds xs) ≡ true → leading last (kinds (filter p xs)) ≡ true
leads_left last p [] h = refl
leads_left last p (x ∷ xs) h =
    let parts = and_parts (not (is_directive x.kind) || is_directive_place last) (none (kinds xs)) h in
    by_test (p x) parts.0 (none_left p xs parts.1)
  where
    by_test : (b : Bool) → (not (is_directive x.kind) || is_directive_place last) ≡ true → none (kinds (filter p xs)) ≡ true → leading last (kinds (cond b (x ∷ filter p xs) (filter p xs))) ≡ true
    by_test true own rest = and_from (not (is_directive x.kind) || is_directive_place last) (none (kinds (filter p xs))) own rest
    by_test false own rest = none_leads last (kinds (filter p xs)) rest

-- ---- the lexeme at a place

record IsOther (f : FoundLexemeValue) : Type 0 where
  pub other : is_directive f.kind ≡ false

by : {f : FoundLexemeValue} → is_directive f.kind ≡ false → IsOther f
by h = record { other = h }

either : (b : Bool) (x y : FoundLexemeValue) → IsOther x → IsOther y → IsOther (cond b x y)
either true x y p q = p
either false x y p q = q

scalar_other : (style : Style) (at : ℕ) (r : ScalarOutcomeValue) → IsOther (scalar_found style at r)
scalar_other style at (Whole e) = by refl
scalar_other style at (Refused fault down column) = by refl

tag_other : (at : ℕ) (cs : List ℕ) (len : Option ℕ) → IsOther (tag_found at cs len)
tag_other at cs None = by refl
tag_other at cs (Some len) = by refl

module _ (rows : List (List ℕ)) (at : ℕ) (a : Context) (c : ℕ) (cs : List ℕ) where
  word_at_other : IsOther (word_at rows at a c cs)
  word_at_other =
      either (eqb c 0x26) _ _ (by refl) (either (eqb c 0x2A) _ _ (by refl) (either (eqb c 0x21) _ _ (tag_other at cs _) (either (eqb c 0x27) _ _ (scalar_other _ _ _) (either (eqb c 0x22) _ _ (scalar_other _ _ _) (either (eqb c 0x7C && not (in_flow a)) _ _ (scalar_other _ _ _)
      (either (eqb c 0x3E && not (in_flow a)) _ _ (scalar_other _ _ _) (either (is_plain_start (in_flow a) c cs) _ _ (scalar_other _ _ _) (by refl))))))))

  block_at_other : (tab : Option ℕ) (first : Bool) → IsOther (block_at rows tab first at a c cs)
  block_at_other tab first =
      either (eqb c 0x2D && is_blank (take 1 cs)) _ _ (by refl) (either (eqb c 0x3F && is_blank (take 1 cs)) _ _ (by refl)
      (either (eqb c 0x3A && is_value_at (in_flow a) a.last cs) _ _ (by refl)
      (either (eqb c 0x5B) _ _ (by refl) (either (eqb c 0x7B) _ _ (by refl) (either (eqb c 0x5D) _ _ (by refl) (either (eqb c 0x7D) _ _ (by refl)
      (either (eqb c 0x2C) _ _ (by refl) word_at_other)))))))

  -- a directive stands in the first column alone
  other_behind : (tab : Option ℕ) (first : Bool) → eqb at 0 ≡ false → IsOther (found_at rows tab first at a c cs)
  unfolding found_at
  other_behind tab first h = rw h (block_at_other tab first)

  -- and in its place
  abbrev InPlace : FoundLexemeValue → Type 0
  InPlace f = (not (is_directive f.kind) || is_directive_place a.last) ≡ true

  other_in_place : (f : FoundLexemeValue) → IsOther f → InPlace f
  other_in_place f h = let e = h.other in rw e refl

  by_directive : (b : Bool) (x y : FoundLexemeValue) → (eqb c 0x25 && is_directive_place a.last) ≡ b → IsOther y → InPlace (unwrap_or (cond b (Some x) None) y)
  by_directive true x y e h = or_right (not (is_directive x.kind)) (is_directive_place a.last) (and_parts (eqb c 0x25) (is_directive_place a.last) e).1
  by_directive false x y e h = other_in_place y h

  by_end : (b : Bool) (x y : FoundLexemeValue) (o : Option FoundLexemeValue) → IsOther x → InPlace (unwrap_or o y) → InPlace (unwrap_or (cond b (Some x) o) y)
  by_end true x y o h g = other_in_place x h
  by_end false x y o h g = g

  by_column : (b : Bool) (y : FoundLexemeValue) (o : Option FoundLexemeValue) → IsOther y → InPlace (unwrap_or o y) → InPlace (unwrap_or (cond b o None) y)
  by_column true y o h g = g
  by_column false y o h g = other_in_place y h

  found_in_place : (tab : Option ℕ) (first : Bool) → InPlace (found_at rows tab first at a c cs)
  unfolding found_at
  found_in_place tab first =
      by_column (eqb at 0) (block_at rows tab first at a c cs) (document_at c cs a) (block_at_other tab first)
      (by_end (is_marker_of 0x2D (c ∷ cs)) _ (block_at rows tab first at a c cs) _ (by refl)
      (by_end (is_marker_of 0x2E (c ∷ cs)) _ (block_at rows tab first at a c cs) _ (by refl)
      (by_directive (eqb c 0x25 && is_directive_place a.last) _ (block_at rows tab first at a c cs) refl (block_at_other tab first))))

-- ---- a row from a place on

record AllOther (r : RowReading (List PastLexeme)) : Type 0 where
  pub all : none (kinds r.lexemes) ≡ true

all_by : {r : RowReading (List PastLexeme)} → none (kinds r.lexemes) ≡ true → AllOther r
all_by h = record { all = h }

one_of : (b : Bool) (x y : RowReading (List PastLexeme)) → AllOther x → AllOther y → AllOther (cond b x y)
one_of true x y p q = p
one_of false x y p q = q

comment_other : (c : CommentValue) (behind : List PastLexeme) (f : Option PlacedScanFault) → AllOther (comment_or c behind [] f)
comment_other c behind None = all_by refl
comment_other c behind (Some f) = all_by refl

after_other : (at : ℕ) (found : FoundLexemeValue) (behind : List PastLexeme) (more : ℕ → RowReading (List PastLexeme)) (down : ℕ) → ((skip : ℕ) → AllOther (more skip)) → AllOther (after_lexeme at found behind more down)
after_other at found behind more zero h = h (found.column - at - 1)
after_other at found behind more (suc down) h = all_by refl

chosen_other : (x : LexemeValue) (more : RowReading (List PastLexeme)) (f : Option PlacedScanFault) → is_directive x.kind ≡ false → AllOther more → AllOther (reading_or_fault x [] more f)
chosen_other x more None h g = let e = g.all in all_by (rw (h, e) refl)
chosen_other x more (Some f) h g = by_end (ends_document x.kind)
  where
    by_end : (b : Bool) → AllOther (cond b (with_lexeme x (fault_reading f [])) (fault_reading f []))
    by_end true = all_by (rw h refl)
    by_end false = all_by refl

further : (at : ℕ) → eqb (at + 1) 0 ≡ false
further at = ne_eqb (at + 1) 0 (λ e. omega arith)

-- behind the first column no directive begins
others : (rows : List (List ℕ)) (tab : Option ℕ) (skip : ℕ) (bs first : Bool) (at : ℕ) (here older : List PastLexeme) (cs : List ℕ) → eqb at 0 ≡ false →
    AllOther (row_reading rows tab skip bs first at here older cs)
others rows tab skip bs first at here older [] h = all_by refl
others rows tab skip bs first at here older (c ∷ cs) h =
    let a = at_place first at (context_from here older) in
    let found = found_at rows tab first at a c cs in
    one_of (ltb 0 skip) _ _ (others rows tab (skip - 1) false first (at + 1) here older cs (further at))
    (one_of (is_white c) _ _ (others rows tab 0 true first (at + 1) here older cs (further at))
    (one_of (eqb c 0x23 && bs) _ _ (comment_other (comment_of at (c ∷ cs)) (here ++ older) (bad_in at (c ∷ cs)))
    (chosen_other (lexeme_of at found) _ (option_or (place_fault tab first at a) found.fault) (other_behind rows at a c cs tab first h).other
    (after_other at found ((past_lexeme at first a found.kind ∷ here) ++ older) (λ skip. row_reading rows tab skip false false (at + 1) (past_lexeme at first a found.kind ∷ here) older cs) found.down (λ skip. others rows tab skip false false (at + 1) (past_lexeme at first a found.kind ∷ here) older cs (further at))))))

record Leads (last : Option Kind) (r : RowReading (List PastLexeme)) : Type 0 where
  pub lead : leading last (kinds r.lexemes) ≡ true

leads_by : {last : Option Kind} {r : RowReading (List PastLexeme)} → leading last (kinds r.lexemes) ≡ true → Leads last r
leads_by h = record { lead = h }

other_leads : (last : Option Kind) (r : RowReading (List PastLexeme)) → AllOther r → Leads last r
other_leads last r h = leads_by (none_leads last (kinds r.lexemes) h.all)

lead_of : (last : Option Kind) (b : Bool) (x y : RowReading (List PastLexeme)) → Leads last x → Leads last y → Leads last (cond b x y)
lead_of last true x y p q = p
lead_of last false x y p q = q

comment_leads : (last : Option Kind) (c : CommentValue) (behind : List PastLexeme) (f : Option PlacedScanFault) → Leads last (comment_or c behind [] f)
comment_leads last c behind f = other_leads last (comment_or c behind [] f) (comment_other c behind f)

chosen_leads : (last : Option Kind) (x : LexemeValue) (more : RowReading (List PastLexeme)) (f : Option PlacedScanFault) → (not (is_directive x.kind) || is_directive_place last) ≡ true → AllOther more → Leads last (reading_or_fault x [] more f)
chosen_leads last x more None h g = leads_by (and_from (not (is_directive x.kind) || is_directive_place last) (none (kinds more.lexemes)) h g.all)
chosen_leads last x more (Some f) h g = by_end (ends_document x.kind)
  where
    by_end : (b : Bool) → Leads last (cond b (with_lexeme x (fault_reading f [])) (fault_reading f []))
    by_end true = leads_by (and_from (not (is_directive x.kind) || is_directive_place last) true h refl)
    by_end false = leads_by refl

-- a row's first lexeme may be a directive
leads : (rows : List (List ℕ)) (tab : Option ℕ) (skip : ℕ) (bs first : Bool) (at : ℕ) (here older : List PastLexeme) (cs : List ℕ) →
    Leads (last_kind (here ++ older)) (row_reading rows tab skip bs first at here older cs)
leads rows tab skip bs first at here older [] = leads_by refl
leads rows tab skip bs first at here older (c ∷ cs) =
    let last = last_kind (here ++ older) in
    let a = at_place first at (context_from here older) in
    let found = found_at rows tab first at a c cs in
    lead_of last (ltb 0 skip) _ _ (other_leads last _ (others rows tab (skip - 1) false first (at + 1) here older cs (further at)))
    (lead_of last (is_white c) _ _ (other_leads last _ (others rows tab 0 true first (at + 1) here older cs (further at)))
    (lead_of last (eqb c 0x23 && bs) _ _ (comment_leads last (comment_of at (c ∷ cs)) (here ++ older) (bad_in at (c ∷ cs)))
    (chosen_leads last (lexeme_of at found) _ (option_or (place_fault tab first at a) found.fault) (found_in_place rows at a c cs tab first)
    (after_other at found ((past_lexeme at first a found.kind ∷ here) ++ older) (λ skip. row_reading rows tab skip false false (at + 1) (past_lexeme at first a found.kind ∷ here) older cs) found.down (λ skip. others rows tab skip false false (at + 1) (past_lexeme at first a found.kind ∷ here) older cs (further at))))))

-- ---- what is known behind a row without fault

record Ends (last : Option Kind) (r : RowReading (List PastLexeme)) : Type 0 where
  pub end : r.fault ≡ None → last_kind r.behind ≡ last_of last (kinds r.lexemes)

ends_by : {last : Option Kind} {r : RowReading (List PastLexeme)} → (r.fault ≡ None → last_kind r.behind ≡ last_of last (kinds r.lexemes)) → Ends last r
ends_by h = record { end = h }

end_of : (last : Option Kind) (b : Bool) (x y : RowReading (List PastLexeme)) → Ends last x → Ends last y → Ends last (cond b x y)
end_of last true x y p q = p
end_of last false x y p q = q

comment_ends : (c : CommentValue) (behind : List PastLexeme) (f : Option PlacedScanFault) → Ends (last_kind behind) (comment_or c behind [] f)
comment_ends c behind None = ends_by (λ h. refl)
comment_ends c behind (Some f) = ends_by (λ h. cc)

after_ends : (last : Option Kind) (at : ℕ) (found : FoundLexemeValue) (behind : List PastLexeme) (more : ℕ → RowReading (List PastLexeme)) (down : ℕ) → last_kind behind ≡ last → ((skip : ℕ) → Ends last (more skip)) → Ends last (after_lexeme at found behind more down)
after_ends last at found behind more zero e h = h (found.column - at - 1)
after_ends last at found behind more (suc down) e h = ends_by (λ _. e)

chosen_ends : (last : Option Kind) (x : LexemeValue) (more : RowReading (List PastLexeme)) (f : Option PlacedScanFault) → Ends (Some x.kind) more → Ends last (reading_or_fault x [] more f)
chosen_ends last x more None g = ends_by g.end
chosen_ends last x more (Some f) g = by_end (ends_document x.kind)
  where
    by_end : (b : Bool) → Ends last (cond b (with_lexeme x (fault_reading f [])) (fault_reading f []))
    by_end true = ends_by (λ h. cc)
    by_end false = ends_by (λ h. cc)

ends : (rows : List (List ℕ)) (tab : Option ℕ) (skip : ℕ) (bs first : Bool) (at : ℕ) (here older : List PastLexeme) (cs : List ℕ) →
    Ends (last_kind (here ++ older)) (row_reading rows tab skip bs first at here older cs)
ends rows tab skip bs first at here older [] = ends_by (λ _. refl)
ends rows tab skip bs first at here older (c ∷ cs) =
    let last = last_kind (here ++ older) in
    let a = at_place first at (context_from here older) in
    let found = found_at rows tab first at a c cs in
    end_of last (ltb 0 skip) _ _ (ends rows tab (skip - 1) false first (at + 1) here older cs)
    (end_of last (is_white c) _ _ (ends rows tab 0 true first (at + 1) here older cs)
    (end_of last (eqb c 0x23 && bs) _ _ (comment_ends (comment_of at (c ∷ cs)) (here ++ older) (bad_in at (c ∷ cs)))
    (chosen_ends last (lexeme_of at found) _ (option_or (place_fault tab first at a) found.fault)
    (after_ends (Some found.kind) at found ((past_lexeme at first a found.kind ∷ here) ++ older) (λ skip. row_reading rows tab skip false false (at + 1) (past_lexeme at first a found.kind ∷ here) older cs) found.down refl (λ skip. ends rows tab skip false false (at + 1) (past_lexeme at first a found.kind ∷ here) older cs)))))

-- ---- all rows

none_behind : (to_end : Bool) (down : ℕ) (rows : List (List ℕ)) → kinds_of (stopped_rows to_end down rows) ≡ []
none_behind to_end down [] = refl
none_behind to_end zero (row ∷ rows) = none_behind to_end 0 rows
none_behind to_end (suc down) (row ∷ rows) = none_behind to_end down rows

abbrev ends_by_column : ℕ → LexemeValue → Bool
ends_by_column column x = x.end.line == 0 && nat_le x.end.col column

kept_leads : (last : Option Kind) (f : PlacedScanFault) (xs : List LexemeValue) → leading last (kinds xs) ≡ true → leading last (kinds (lexemes_up_to_fault (Some f) xs)) ≡ true
kept_leads last f xs h = by_test (is_tab f.fault)
  where
    by_test : (b : Bool) → leading last (kinds (cond b (filter (ends_by_column f.column) xs) xs)) ≡ true
    by_test true = leads_left last (ends_by_column f.column) xs h
    by_test false = h

module _ (last : Option Kind) (more : ℕ → ℕ → List PastLexeme → List RowEntry) (rows : List (List ℕ)) (r : RowReading (List PastLexeme))
    (lead : Leads last r) (end : Ends last r) (ih : (down column : ℕ) (older : List PastLexeme) → directives_in_place (last_kind older) (kinds_of (more down column older)) ≡ true) where
  row_in_place : (f : Option PlacedScanFault) → r.fault ≡ f → directives_in_place last (kinds (lexemes_up_to_fault f r.lexemes) ++ kinds_of (entries_below more rows r f)) ≡ true
  row_in_place None e =
      joined last (kinds r.lexemes) (kinds_of (more r.down r.column r.behind)) (leads_in_place last (kinds r.lexemes) lead.lead)
      (subst (λ l. directives_in_place l (kinds_of (more r.down r.column r.behind)) ≡ true) (end.end e) (ih r.down r.column r.behind))
  row_in_place (Some f) e =
      ap (λ ks. directives_in_place last (kinds (lexemes_up_to_fault (Some f) r.lexemes) ++ ks)) (none_behind (is_unclosed f.fault) f.down rows)
      ∙ ap (directives_in_place last) (append-nil (kinds (lexemes_up_to_fault (Some f) r.lexemes)))
      ∙ leads_in_place last (kinds (lexemes_up_to_fault (Some f) r.lexemes)) (kept_leads last f r.lexemes lead.lead)

in_place : (is_start : Bool) (down column : ℕ) (older : List PastLexeme) (rows : List (List ℕ)) → directives_in_place (last_kind older) (kinds_of (entries_from is_start down column older rows)) ≡ true
in_place is_start down column older [] = refl
in_place is_start zero column older (row ∷ rows) =
    let r = row_reading rows (first_tab false row) 0 true true 0 [] older row in
    row_in_place (last_kind older) (λ down column older. entries_from false down column older rows) rows r
    (leads rows (first_tab false row) 0 true true 0 [] older row) (ends rows (first_tab false row) 0 true true 0 [] older row)
    (λ down column older. in_place false down column older rows) r.fault refl
in_place is_start (suc zero) column older (row ∷ rows) =
    let r = row_reading rows (first_tab true row) column false false 0 [] older row in
    row_in_place (last_kind older) (λ down column older. entries_from false down column older rows) rows r
    (leads rows (first_tab true row) column false false 0 [] older row) (ends rows (first_tab true row) column false false 0 [] older row)
    (λ down column older. in_place false down column older rows) r.fault refl
in_place is_start (suc (suc down)) column older (row ∷ rows) = in_place false (suc down) column older rows

pub directives_stand_in_place : DirectivesStandInPlace
directives_stand_in_place rows = in_place true 0 0 [] rows
