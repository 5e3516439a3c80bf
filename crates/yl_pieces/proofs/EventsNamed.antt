-- The outlines that the parser tells of the symbols of rows have their places among the rows'
-- lexemes.
use Rattle.std.proofs.Common.{◌≡◌, ◌≤◌, ◌<◌, ◌+◌, ℕ, suc, Bool, true, false, cond, List, [], ◌∷◌, ◌++◌, length, map, Option, Some, None, refl, sym, ◌∙◌, ap, subst, arith}
use Rattle.std.specs.Prelude.{IfSome, nat_lt, option_map}
use Rattle.std.specs.List.{AllByRecursion}
use Rattle.std.proofs.lemmas.Bool.{lt-ltb, ltb-true}
use Rattle.std.proofs.lemmas.List.{length-append, length-map}
use Rattle.yl_lexeme.specs.declared.lexeme.Kind.{Kind}
use Rattle.yl_marks.specs.declared.token.Token.{Token}
use Rattle.yl_marks.specs.declared.symbol.Symbol.{Symbol}
use Rattle.yl_marks.specs.declared.symbol.Symbol.TheVariants.{OpenSequence, OpenMapping, BeginKey, Close, One}
use Rattle.yl_marks.specs.Keys.{token_of}
use Rattle.yl_marks.specs.ByLine.{MarkerValue, behind_line, by_line, marks_of_line}
use Rattle.yl_marks.specs.MarksAlike.{marks_of_rows}
use Rattle.yl_marks.proofs.Runs.{joined}
use Rattle.yl_events.specs.declared.symbol.Goal.{Goal}
use Rattle.yl_events.specs.declared.symbol.Outline.{Outline}
use Rattle.yl_events.specs.DocumentOutcome.{steps}
use Rattle.yl_events.specs.Machine.{ParserState, run}
use Rattle.yl_events.specs.Named.{IsInLine, SymbolNames, SymbolsName}
use Rattle.yl_events.specs.State.{goal_state}
use Rattle.yl_events.proofs.Named.{line_named, symbols_of_both}
use Rattle.yl_events.proofs.ParsedAlikeSteps.{bare_events, bare_index, bare_outline, bare_state, bare_symbol, run_bare, steps_bare}
use Rattle.yl_record.specs.Records.{RecordValue}
use Rattle.yl_sections.specs.Sections.{lexemes_from}
use Rattle.yl_pieces.specs.State.{DocumentState, marker_from}
use Rattle.yl_pieces.specs.Told.{symbols_in, tokens_in}
use Rattle.yl_pieces.specs.Events.{outlines_in, outlines_told}
use Rattle.yl_pieces.proofs.JoinedMarks.{length-joined}

-- ---- the symbols of rows name the rows' lexemes

module _ (Is Other : ℕ → Type 0) (f : (i : ℕ) → Other i → Is i) where
  symbol_named : (w : Symbol) → SymbolNames Other w → SymbolNames Is w
  symbol_named (OpenSequence i) h = f i h
  symbol_named (OpenMapping i) h = f i h
  symbol_named (BeginKey i) h = f i h
  symbol_named Close h = tt
  symbol_named (One kind i) h = f i h

  pub more_named : (ws : List Symbol) → SymbolsName Other ws → SymbolsName Is ws
  more_named [] h = tt
  more_named (w ∷ ws) h = (symbol_named w h.0, more_named ws h.1)

rows_named : (Is : ℕ → Type 0) (m : MarkerValue) (rows : List (List Token)) → ((j : ℕ) → m.count ≤ j → j < m.count + length (joined rows) → Is j) → SymbolsName Is (marks_of_rows m rows)
rows_named Is m [] h = tt
rows_named Is m (x ∷ rows) h =
    let n : length (x ++ joined rows) ≡ length x + length (joined rows) = length-append x (joined rows) in
    symbols_of_both Is (marks_of_line m x) (marks_of_rows (behind_line m x) rows)
    (more_named Is (IsInLine m.count (length x)) (λ j l. h j l.0 (let most : j < m.count + length x = l.1 in omega (arith, most, n))) (marks_of_line m x) (line_named m x))
    (rows_named Is (behind_line m x) rows
    (λ j l k. h j (let least : m.count + length x ≤ j = l in omega (arith, least)) (let most : j < m.count + length x + length (joined rows) = k in omega (arith, most, n))))

symbols_named : (s : DocumentState) (line : ℕ) (rs : List RecordValue) → SymbolsName (λ i. i < length (tokens_in line rs)) (symbols_in s line rs)
symbols_named s line rs =
    let n : length (joined (by_line (tokens_in line rs))) ≡ length (tokens_in line rs) = length-joined (tokens_in line rs) in
    rows_named (λ i. i < length (tokens_in line rs)) (marker_from s.marker).marks (by_line (tokens_in line rs))
    (λ j l k. let most : j < 0 + length (joined (by_line (tokens_in line rs))) = k in omega (arith, most, n))

-- ---- where only the other lexemes are counted one later, nothing changes

abbrev moved : ℕ → ℕ → ℕ
moved n i = cond (nat_lt i n) i (suc i)

abbrev same : ℕ → ℕ
same i = i

stays : (n i : ℕ) → i < n → moved n i ≡ i
stays n i h = ap (λ (b : Bool). cond b i (suc i)) (lt-ltb i n h)

within : (n i : ℕ) → moved n i ≡ i → i < n
within n i e = by_test (nat_lt i n) refl e
  where
    by_test : (b : Bool) → nat_lt i n ≡ b → cond b i (suc i) ≡ i → i < n
    by_test true e h = ltb-true i n e
    by_test false e h = let later : suc i ≡ i = h in absurd (omega (arith, later))

index_stays : (n : ℕ) (kind : Kind) (i : ℕ) → i < n → bare_index (moved n) kind i ≡ bare_index same kind i
index_stays n Kind.Anchor i h = refl
index_stays n Kind.Tag i h = refl
index_stays n kind i h = stays n i h

symbol_stays : (n : ℕ) (w : Symbol) → SymbolNames (λ i. i < n) w → bare_symbol (moved n) w ≡ bare_symbol same w
symbol_stays n (OpenSequence i) h = ap OpenSequence (stays n i h)
symbol_stays n (OpenMapping i) h = ap OpenMapping (stays n i h)
symbol_stays n (BeginKey i) h = ap BeginKey (stays n i h)
symbol_stays n Close h = refl
symbol_stays n (One kind i) h = ap (One kind) (index_stays n kind i h)

symbols_stay : (n : ℕ) (ws : List Symbol) → SymbolsName (λ i. i < n) ws → map (bare_symbol (moved n)) ws ≡ map (bare_symbol same) ws
symbols_stay n [] h = refl
symbols_stay n (w ∷ ws) h =
    ap (λ (v : Symbol). v ∷ map (bare_symbol (moved n)) ws) (symbol_stays n w h.0) ∙ ap (λ (vs : List Symbol). bare_symbol same w ∷ vs) (symbols_stay n ws h.1)

-- ---- the places of outlines

-- the outline has no place, or that of one of the first n lexemes
abbrev pub IsWithin : ℕ → Outline → Type 0
IsWithin n o = IfSome o.place (λ i. i < n)

place_within : (n : ℕ) (place : Option ℕ) → option_map (moved n) place ≡ option_map same place → IfSome place (λ i. i < n)
place_within n None e = tt
place_within n (Some i) e = let there : Some (moved n i) ≡ Some i = e in within n i cc

outlines_within : (n : ℕ) (os : List Outline) → bare_events (moved n) os ≡ bare_events same os → AllByRecursion (IsWithin n) os
outlines_within n [] e = tt
outlines_within n (o ∷ os) e =
    let both : bare_outline (moved n) o ∷ bare_events (moved n) os ≡ bare_outline same o ∷ bare_events same os = e in
    let here : bare_outline (moved n) o ≡ bare_outline same o = cc in
    let later : bare_events (moved n) os ≡ bare_events same os = cc in
    (place_within n o.place (ap (λ (p : Outline). p.place) here), outlines_within n os later)

pub told_bare : (f : ℕ → ℕ) (r : Option ParserState) → outlines_told (bare_state f r) ≡ bare_events f (outlines_told r)
told_bare f None = refl
told_bare f (Some t) = refl

told_within : (n : ℕ) (ws : List Symbol) (goals : List Goal) → SymbolsName (λ i. i < n) ws → AllByRecursion (IsWithin n) (outlines_told (steps ws goals []))
told_within n ws goals h =
    outlines_within n (outlines_told (steps ws goals []))
    (sym (told_bare (moved n) (steps ws goals []))
    ∙ sym (ap outlines_told (steps_bare (moved n) ws goals []))
    ∙ ap (λ (vs : List Symbol). outlines_told (steps vs (map goal_state goals) [])) (symbols_stay n ws h)
    ∙ ap outlines_told (steps_bare same ws goals [])
    ∙ told_bare same (steps ws goals []))

pub rows_within : (s : DocumentState) (line : ℕ) (rs : List RecordValue) → AllByRecursion (IsWithin (length (lexemes_from line rs))) (outlines_in s line rs)
rows_within s line rs =
    subst (λ (n : ℕ). AllByRecursion (IsWithin n) (outlines_in s line rs)) (length-map (lexemes_from line rs) token_of)
    (told_within (length (tokens_in line rs)) (symbols_in s line rs) s.parser.goals (symbols_named s line rs))

-- ---- and to the document's end

abbrev pub outlines_run : Option (List Outline) → List Outline
outlines_run None = []
outlines_run (Some es) = es

run_told : (f : ℕ → ℕ) (r : Option (List Outline)) → outlines_run (option_map (λ es. bare_events f es) r) ≡ bare_events f (outlines_run r)
run_told f None = refl
run_told f (Some es) = refl

pub run_within : (n : ℕ) (ws : List Symbol) (goals : List Goal) → SymbolsName (λ i. i < n) ws → AllByRecursion (IsWithin n) (outlines_run (run ws goals []))
run_within n ws goals h =
    outlines_within n (outlines_run (run ws goals []))
    (sym (run_told (moved n) (run ws goals []))
    ∙ sym (ap outlines_run (run_bare (moved n) ws goals []))
    ∙ ap (λ (vs : List Symbol). outlines_run (run vs (map goal_state goals) [])) (symbols_stay n ws h)
    ∙ ap outlines_run (run_bare same ws goals [])
    ∙ run_told same (run ws goals []))
