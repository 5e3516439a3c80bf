-- What a row consists of, with other rows below it from some row on: the same, or its last lexeme goes past that row's start.
use Rattle.std.proofs.Common.{◌≡◌, ℕ, zero, suc, ◌+◌, ◌-◌, ◌≤◌, ◌⊎◌, inl, inr, Bool, true, false, cond, not, ◌&&◌, ◌||◌, List, [], ◌∷◌, ◌++◌, length, take, Option, Some, None, refl, ap, sym, subst, ◌∙◌, eqb, ltb, arith}
use Rattle.std.specs.Prelude.{unwrap_or}
use Rattle.std.specs.Option.{option_or}
use Rattle.yl_text.specs.Character.{is_white, is_blank}
use Rattle.yl_scalar.specs.Reading.{ScalarOutcomeValue, Whole, Refused, ScalarStepValue, GoesOn, EndsIn, EndedAbove, Fails, outcome_of_step, outcome_of_lines}
use Rattle.yl_scalar.specs.PlainSteps.{plain_begin}
use Rattle.yl_scalar.specs.PlainLines.{plain_scalar}
use Rattle.yl_scalar.specs.QuotedSteps.{quoted_begin, quoted}
use Rattle.yl_scalar.specs.Block.{block_begin}
use Rattle.yl_scalar.specs.BlockLines.{block_scalar}
use Rattle.yl_lexeme.specs.declared.lexeme.Style.{Style}
use Rattle.yl_lexeme.specs.declared.lexeme.Style.TheVariants.{Plain, Single, Double, Literal, Folded}
use Rattle.yl_lexeme.specs.declared.lexeme.Kind.TheVariants.{Scalar}
use Rattle.yl_lexeme.specs.Lexeme.{LexemeValue}
use Rattle.yl_lexeme.specs.Past.{Context, in_flow, level, past_lexeme}
use Rattle.yl_lexeme.specs.Known.{SurroundingsValue, context_of, new_row, surroundings_at, surroundings_behind, no_surroundings}
use Rattle.yl_row.specs.declared.fault.PlacedScanFault.{PlacedScanFault}
use Rattle.yl_row.specs.Fault.{of_scalar, is_unclosed}
use Rattle.yl_row.specs.ScalarReader.{ScalarReaderValue, InPlain, InQuoted, InBlock, map_step, reader_step, reader_finish, rows_in, KeepsSpaces}
use Rattle.yl_row.specs.Begins.{BeginsAt}
use Rattle.yl_row.specs.Step.{FoundLexemeValue, found_at, document_at, block_at, word_at, scalar_found, is_plain_start, is_value_at, place_fault}
use Rattle.yl_row.specs.Entries.{RowReading, fault_reading, with_lexeme, reading_or_fault, lexeme_of, after_lexeme}
use Rattle.yl_row.specs.Run.{lexeme_reading_by, row_reading_by}
use Rattle.yl_row.proofs.Carry.{Carries, Facts, mode_ends_at, facts}
use Rattle.yl_row.proofs.Beginnings.{plain_begins, quoted_begins, block_begins}
use Rattle.yl_row.proofs.Modes.{plain_alike, quoted_alike, block_alike}

-- ---- a scalar

-- it goes past the start of the row that lies so many rows below its first one
abbrev pub Covers : ℕ → ScalarOutcomeValue → Type 0
Covers n (Whole e) = n ≤ e.down
Covers n (Refused fault down column) = (is_unclosed (of_scalar fault) ≡ true) ⊎ (n ≤ down)

carries_covers : (n passed : ℕ) (row : List ℕ) (r : ScalarOutcomeValue) → is_blank row ≡ false → passed + 1 ≡ n → Carries passed row r → Covers n r
carries_covers n passed row (Whole e) b p (inl h) = let no : true ≡ false = sym h.1 ∙ b in cc
carries_covers n passed row (Whole e) b p (inr (inl h)) = omega (arith, h.0, p)
carries_covers n passed row (Whole e) b p (inr (inr h)) = omega (arith, h, p)
carries_covers n passed row (Refused fault down column) b p (inl h) = inl (sym (ap (λ x. x || is_unclosed (of_scalar fault)) b) ∙ h)
carries_covers n passed row (Refused fault down column) b p (inr h) = inr (omega (arith, h, p))

-- P holds of what a scalar is with these rows below it and with those: they are the same down to the row, and it is not blank
module _ (P : ScalarOutcomeValue → ScalarOutcomeValue → Type 0) (n : ℕ) (same : (r : ScalarOutcomeValue) → P r r) (both : (r r' : ScalarOutcomeValue) → Covers n r → Covers n r' → P r r')
    (row : List ℕ) (below below' : List (List ℕ)) (text : is_blank row ≡ false) where
  abbrev Alike : List (List ℕ) → ScalarReaderValue → Type 0
  Alike above m = P (outcome_of_lines reader_step reader_finish m (above ++ row ∷ below)) (outcome_of_lines reader_step reader_finish m (above ++ row ∷ below'))

  abbrev Stepped_alike : List (List ℕ) → List (List ℕ) → ScalarStepValue ScalarReaderValue → Type 0
  Stepped_alike rows rows' t = P (outcome_of_step (λ m. outcome_of_lines reader_step reader_finish m rows) t) (outcome_of_step (λ m. outcome_of_lines reader_step reader_finish m rows') t)

  last_alike : (m : ScalarReaderValue) → KeepsSpaces m → rows_in m + 1 ≡ n → (t : ScalarStepValue ScalarReaderValue) → reader_step m row ≡ t → Stepped_alike below below' t
  last_alike m spaces p (GoesOn m') e =
      let h : Facts m row (GoesOn m') = subst (Facts m row) e (facts m row spaces) in
      both _ _ (carries_covers n (rows_in m) row _ text p (h.1 _ (mode_ends_at m' below))) (carries_covers n (rows_in m) row _ text p (h.1 _ (mode_ends_at m' below')))
  last_alike m spaces p (EndsIn e) h = same _
  last_alike m spaces p (EndedAbove e) h = same _
  last_alike m spaces p (Fails fault down column) h = same _

  next_alike : (m : ScalarReaderValue) (x : List ℕ) (above : List (List ℕ)) → KeepsSpaces m → rows_in m + 1 + suc (length above) ≡ n
      → ((m' : ScalarReaderValue) → KeepsSpaces m' → rows_in m' + 1 + length above ≡ n → Alike above m')
      → (t : ScalarStepValue ScalarReaderValue) → reader_step m x ≡ t → Stepped_alike (above ++ row ∷ below) (above ++ row ∷ below') t
  next_alike m x above spaces p more (GoesOn m') e =
      let h : Facts m x (GoesOn m') = subst (Facts m x) e (facts m x spaces) in
      more m' (h.2 spaces) (omega (arith, p, h.0))
  next_alike m x above spaces p more (EndsIn e) h = same _
  next_alike m x above spaces p more (EndedAbove e) h = same _
  next_alike m x above spaces p more (Fails fault down column) h = same _

  mode_alike : (above : List (List ℕ)) (m : ScalarReaderValue) → KeepsSpaces m → rows_in m + 1 + length above ≡ n → Alike above m
  mode_alike [] m spaces p = last_alike m spaces (omega (arith, p)) (reader_step m row) refl
  mode_alike (x ∷ above) m spaces p = next_alike m x above spaces p (λ m' spaces' p'. mode_alike above m' spaces' p') (reader_step m x) refl

  begun_alike : (above : List (List ℕ)) → 1 + length above ≡ n → (at : ℕ) (begin : List ℕ) (t : ScalarStepValue ScalarReaderValue) → BeginsAt at begin t → Stepped_alike (above ++ row ∷ below) (above ++ row ∷ below') t
  begun_alike above p at begin (GoesOn m) rests = mode_alike above m rests.spaces (omega (arith, p, rests.rows))
  begun_alike above p at begin (EndsIn e) rests = same _
  begun_alike above p at begin (EndedAbove e) rests = same _
  begun_alike above p at begin (Fails fault down column) rests = same _

-- ---- a lexeme

pair_if : {A : Type 0} (P : A → A → Type 0) (b : Bool) (x y x' y' : A) → P x x' → P y y' → P (cond b x y) (cond b x' y')
pair_if P true x y x' y' p q = p
pair_if P false x y x' y' p q = q

module _ (P : FoundLexemeValue → FoundLexemeValue → Type 0) (n at : ℕ) (same : (f : FoundLexemeValue) → P f f)
    (both : (style : Style) (r r' : ScalarOutcomeValue) → Covers n r → Covers n r' → P (scalar_found style at r) (scalar_found style at r'))
    (above : List (List ℕ)) (row : List ℕ) (below below' : List (List ℕ)) (text : is_blank row ≡ false) (here : 1 + length above ≡ n) where
  -- of a reading that is the same as that of a scalar that begins so
  scalar_alike : (style : Style) (begin : List ℕ) (t : ScalarStepValue ScalarReaderValue) → BeginsAt at begin t → (whole : List (List ℕ) → ScalarOutcomeValue)
      → ((rows : List (List ℕ)) → whole rows ≡ outcome_of_step (λ m. outcome_of_lines reader_step reader_finish m rows) t)
      → P (scalar_found style at (whole (above ++ row ∷ below))) (scalar_found style at (whole (above ++ row ∷ below')))
  scalar_alike style begin t rests whole is =
      let read_from : List (List ℕ) → ScalarOutcomeValue = λ rows. outcome_of_step (λ m. outcome_of_lines reader_step reader_finish m rows) t in
      subst (λ r. P (scalar_found style at r) (scalar_found style at (whole (above ++ row ∷ below')))) (sym (is (above ++ row ∷ below)))
      (subst (λ r. P (scalar_found style at (read_from (above ++ row ∷ below))) (scalar_found style at r)) (sym (is (above ++ row ∷ below')))
      (begun_alike (λ r r'. P (scalar_found style at r) (scalar_found style at r')) n (λ r. same (scalar_found style at r)) (λ r r'. both style r r') row below below' text above here at begin t rests))

  plain_same : (flow : Bool) (least : ℕ) (cs : List ℕ) → P (scalar_found Plain at (plain_scalar flow least at cs (above ++ row ∷ below))) (scalar_found Plain at (plain_scalar flow least at cs (above ++ row ∷ below')))
  plain_same flow least cs = scalar_alike Plain cs (map_step InPlain (plain_begin flow least at cs)) (plain_begins flow least at cs) (plain_scalar flow least at cs) (plain_alike flow least at cs)

  quoted_same : (style : Style) (double : Bool) (cs : List ℕ) → P (scalar_found style at (quoted double at cs (above ++ row ∷ below))) (scalar_found style at (quoted double at cs (above ++ row ∷ below')))
  quoted_same style double cs = scalar_alike style [] (map_step InQuoted (quoted_begin double at cs)) (quoted_begins double at cs []) (quoted double at cs) (quoted_alike double at cs)

  block_same : (style : Style) (least : ℕ) (cs : List ℕ) → P (scalar_found style at (block_scalar least at cs (above ++ row ∷ below))) (scalar_found style at (block_scalar least at cs (above ++ row ∷ below')))
  block_same style least cs = scalar_alike style (0 ∷ cs) (map_step InBlock (block_begin least at cs)) (block_begins least at 0 cs) (block_scalar least at cs) (block_alike least at cs)

  word_same : (a : Context) (c : ℕ) (cs : List ℕ) → P (word_at (above ++ row ∷ below) at a c cs) (word_at (above ++ row ∷ below') at a c cs)
  word_same a c cs =
      pair_if P (eqb c 0x26) _ _ _ _ (same _)
      (pair_if P (eqb c 0x2A) _ _ _ _ (same _)
      (pair_if P (eqb c 0x21) _ _ _ _ (same _)
      (pair_if P (eqb c 0x27) _ _ _ _ (quoted_same Single false cs)
      (pair_if P (eqb c 0x22) _ _ _ _ (quoted_same Double true cs)
      (pair_if P (eqb c 0x7C && not (in_flow a)) _ _ _ _ (block_same Literal (level a.levels) cs)
      (pair_if P (eqb c 0x3E && not (in_flow a)) _ _ _ _ (block_same Folded (level a.levels) cs)
      (pair_if P (is_plain_start (in_flow a) c cs) _ _ _ _ (plain_same (in_flow a) (level a.levels) (c ∷ cs))
      (same _))))))))

  found_same : (tab : Option ℕ) (first : Bool) (a : Context) (c : ℕ) (cs : List ℕ)
      → P (found_at (above ++ row ∷ below) tab first at a c cs) (found_at (above ++ row ∷ below') tab first at a c cs)
  unfolding found_at
  found_same tab first a c cs =
      by_document (cond (eqb at 0) (document_at c cs a) None)
      (pair_if P (eqb c 0x2D && is_blank (take 1 cs)) _ _ _ _ (same _)
      (pair_if P (eqb c 0x3F && is_blank (take 1 cs)) _ _ _ _ (same _)
      (pair_if P (eqb c 0x3A && is_value_at (in_flow a) a.last cs) _ _ _ _ (same _)
      (pair_if P (eqb c 0x5B) _ _ _ _ (same _)
      (pair_if P (eqb c 0x7B) _ _ _ _ (same _)
      (pair_if P (eqb c 0x5D) _ _ _ _ (same _)
      (pair_if P (eqb c 0x7D) _ _ _ _ (same _)
      (pair_if P (eqb c 0x2C) _ _ _ _ (same _)
      (word_same a c cs)))))))))
    where
      by_document : (o : Option FoundLexemeValue) → P (block_at (above ++ row ∷ below) tab first at a c cs) (block_at (above ++ row ∷ below') tab first at a c cs)
          → P (unwrap_or o (block_at (above ++ row ∷ below) tab first at a c cs)) (unwrap_or o (block_at (above ++ row ∷ below') tab first at a c cs))
      by_document None h = h
      by_document (Some f) h = same f

-- ---- a row

abbrev pub FaultCovers : ℕ → ℕ → Option PlacedScanFault → Type 0
FaultCovers n down None = n ≤ down
FaultCovers n down (Some f) = (is_unclosed f.fault ≡ true) ⊎ (n ≤ f.down)

-- what the row holds last goes past the start of the row that lies so many rows below
abbrev pub RowCovers : ℕ → RowReading SurroundingsValue → Type 0
RowCovers n r = FaultCovers n r.down r.fault

abbrev pub SameOrCovers : ℕ → RowReading SurroundingsValue → RowReading SurroundingsValue → Type 0
SameOrCovers n r r' = (r ≡ r') ⊎ (RowCovers n r × RowCovers n r')

with_same : (n : ℕ) (x : LexemeValue) (r r' : RowReading SurroundingsValue) → SameOrCovers n r r' → SameOrCovers n (with_lexeme x r) (with_lexeme x r')
with_same n x r r' (inl h) = inl (ap (with_lexeme x) h)
with_same n x r r' (inr h) = inr h

chosen_same : (n : ℕ) (x : LexemeValue) (r r' : RowReading SurroundingsValue) (f : Option PlacedScanFault) → SameOrCovers n r r' → SameOrCovers n (reading_or_fault x no_surroundings r f) (reading_or_fault x no_surroundings r' f)
chosen_same n x r r' None h = with_same n x r r' h
chosen_same n x r r' (Some f) h = inl refl

after_same : (n at : ℕ) (found : FoundLexemeValue) (k : SurroundingsValue) (more more' : ℕ → RowReading SurroundingsValue) (down : ℕ) → ((skip : ℕ) → SameOrCovers n (more skip) (more' skip))
    → SameOrCovers n (after_lexeme at found k more down) (after_lexeme at found k more' down)
after_same n at found k more more' zero h = h (found.column - at - 1)
after_same n at found k more more' (suc down) h = inl refl

after_covers : (n at : ℕ) (found : FoundLexemeValue) (k : SurroundingsValue) (x : LexemeValue) (more : ℕ → RowReading SurroundingsValue) (down : ℕ) → 1 ≤ n → n ≤ down
    → RowCovers n (with_lexeme x (after_lexeme at found k more down))
after_covers n at found k x more zero one h = absurd (omega (arith, one, h))
after_covers n at found k x more (suc down) one h = h

-- behind a scalar, where this fault stands before it
abbrev behind_scalar : ℕ → SurroundingsValue → (ℕ → RowReading SurroundingsValue) → Style → ScalarOutcomeValue → Option PlacedScanFault → RowReading SurroundingsValue
behind_scalar at k more style r before =
    let f = scalar_found style at r in
    reading_or_fault (lexeme_of at f) no_surroundings (after_lexeme at f k more f.down) (option_or before f.fault)

scalar_covers : (n at : ℕ) (k : SurroundingsValue) (more : ℕ → RowReading SurroundingsValue) (style : Style) (r : ScalarOutcomeValue) → 1 ≤ n → Covers n r → RowCovers n (behind_scalar at k more style r None)
scalar_covers n at k more style (Whole e) one h = after_covers n at (scalar_found style at (Whole e)) k (lexeme_of at (scalar_found style at (Whole e))) more e.down one h
scalar_covers n at k more style (Refused fault down column) one h = h

scalar_stops : (at : ℕ) (k : SurroundingsValue) (more : ℕ → RowReading SurroundingsValue) (style : Style) (r : ScalarOutcomeValue) (f : PlacedScanFault) → behind_scalar at k more style r (Some f) ≡ fault_reading f no_surroundings
scalar_stops at k more style (Whole e) f = refl
scalar_stops at k more style (Refused fault down column) f = refl

scalars_same : (n at : ℕ) (k : SurroundingsValue) (more more' : ℕ → RowReading SurroundingsValue) (style : Style) (r r' : ScalarOutcomeValue) (before : Option PlacedScanFault) → 1 ≤ n → Covers n r → Covers n r'
    → SameOrCovers n (behind_scalar at k more style r before) (behind_scalar at k more' style r' before)
scalars_same n at k more more' style r r' None one h h' = inr (scalar_covers n at k more style r one h, scalar_covers n at k more' style r' one h')
scalars_same n at k more more' style r r' (Some f) one h h' = inl (scalar_stops at k more style r f ∙ sym (scalar_stops at k more' style r' f))

-- a scalar is of its style, whatever it is
took_scalar : (tab : Option ℕ) (first : Bool) (at : ℕ) (k : SurroundingsValue) (more : ℕ → SurroundingsValue → RowReading SurroundingsValue) (style : Style) (r : ScalarOutcomeValue)
    → lexeme_reading_by tab first at k more (scalar_found style at r)
    ≡ (let k' = surroundings_behind (past_lexeme at first (context_of k) (Scalar style)) k in behind_scalar at (new_row k') (λ skip. more skip k') style r (place_fault tab first at (context_of k)))
took_scalar tab first at k more style (Whole e) = refl
took_scalar tab first at k more style (Refused fault down column) = refl

module _ (above : List (List ℕ)) (row : List ℕ) (below below' : List (List ℕ)) (text : is_blank row ≡ false) (n : ℕ) (here : 1 + length above ≡ n) where
  took_same : (tab : Option ℕ) (first : Bool) (at : ℕ) (k : SurroundingsValue) (more more' : ℕ → SurroundingsValue → RowReading SurroundingsValue) (a : Context) (c : ℕ) (cs : List ℕ)
      → ((skip : ℕ) (k : SurroundingsValue) → SameOrCovers n (more skip k) (more' skip k))
      → SameOrCovers n (lexeme_reading_by tab first at k more (found_at (above ++ row ∷ below) tab first at a c cs)) (lexeme_reading_by tab first at k more' (found_at (above ++ row ∷ below') tab first at a c cs))
  took_same tab first at k more more' a c cs h =
      found_same (λ f f'. SameOrCovers n (lexeme_reading_by tab first at k more f) (lexeme_reading_by tab first at k more' f')) n at
      (λ f. let k' = surroundings_behind (past_lexeme at first (context_of k) f.kind) k in
      chosen_same n (lexeme_of at f) _ _ (option_or (place_fault tab first at (context_of k)) f.fault) (after_same n at f (new_row k') (λ skip. more skip k') (λ skip. more' skip k') f.down (λ skip. h skip k')))
      both
      above row below below' text here tab first a c cs
    where
      both : (style : Style) (r r' : ScalarOutcomeValue) → Covers n r → Covers n r'
          → SameOrCovers n (lexeme_reading_by tab first at k more (scalar_found style at r)) (lexeme_reading_by tab first at k more' (scalar_found style at r'))
      both style r r' p p' =
          let k' = surroundings_behind (past_lexeme at first (context_of k) (Scalar style)) k in
          subst (λ x. SameOrCovers n x (lexeme_reading_by tab first at k more' (scalar_found style at r'))) (sym (took_scalar tab first at k more style r))
          (subst (SameOrCovers n (behind_scalar at (new_row k') (λ skip. more skip k') style r (place_fault tab first at (context_of k)))) (sym (took_scalar tab first at k more' style r'))
          (scalars_same n at (new_row k') (λ skip. more skip k') (λ skip. more' skip k') style r r' (place_fault tab first at (context_of k)) (omega (arith, here)) p p'))

  pub read_same : (tab : Option ℕ) (skip : ℕ) (bs first : Bool) (at : ℕ) (k : SurroundingsValue) (cs : List ℕ)
      → SameOrCovers n (row_reading_by (above ++ row ∷ below) tab skip bs first at k cs) (row_reading_by (above ++ row ∷ below') tab skip bs first at k cs)
  read_same tab skip bs first at k [] = inl refl
  read_same tab skip bs first at k (c ∷ cs) =
      pair_if (SameOrCovers n) (ltb 0 skip) _ _ _ _ (read_same tab (skip - 1) false first (at + 1) k cs)
      (pair_if (SameOrCovers n) (is_white c) _ _ _ _ (read_same tab 0 true first (at + 1) k cs)
      (pair_if (SameOrCovers n) (eqb c 35 && bs) _ _ _ _ (inl refl)
      (took_same tab first at (surroundings_at first at k) _ _ (context_of (surroundings_at first at k)) c cs (λ skip k. read_same tab skip false false (at + 1) k cs))))
