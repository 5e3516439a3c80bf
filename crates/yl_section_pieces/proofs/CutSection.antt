-- The pieces into which a section is cut at its borders are pieces in which it is kept.
use Rattle.std.proofs.Common.{◌≡◌, ◌<◌, ◌≤◌, ◌+◌, ◌-◌, ◌==◌, if◌then◌else◌, ℕ, Bool, false, List, [], ◌∷◌, ◌++◌, length, take, drop, Option, Some, None, refl, ap, sym, ◌∙◌, subst, arith, get_or}
use Rattle.std.specs.Prelude.{IsPermutation, option_map, slice_get}
use Rattle.std.specs.List.{AllByRecursion}
use Rattle.std.specs.List.Sorted.{IsNonDecreasingBy}
use Rattle.std.proofs.lemmas.Bool.{ne_eqb}
use Rattle.std.proofs.Math.Seq.{take-add}
use Rattle.std.proofs.lemmas.List.{drop-drop, drop_all, length-drop}
use Rattle.std.proofs.lemmas.List.Sorted.{Contains-permutation, IsPermutation-sym}
use Rattle.yl_text.specs.Finding.{FindingValue}
use Rattle.yl_text.proofs.Every.{all_then}
use Rattle.yl_lexeme.specs.Lexeme.{PlacedCommentValue}
use Rattle.yl_indentation.specs.declared.fact.Fact.{Fact}
use Rattle.yl_indentation.specs.FactsAlike.{fact_below}
use Rattle.yl_config.specs.declared.config.Config.{Config}
use Rattle.yl_record.specs.Records.{RecordValue}
use Rattle.yl_sections.specs.Judge.{kept_of_section}
use Rattle.yl_sections.specs.Kept.{KeptValue, rows_kept}
use Rattle.yl_pieces.specs.State.{DocumentState}
use Rattle.yl_pieces.specs.Patched.{row_of}
use Rattle.yl_lint.specs.TextReport.{moved, moved_comment}
use Rattle.yl_piece_reports.specs.Cuts.{HaveSameMembers, IsFaultless, items_in}
use Rattle.yl_piece_reports.specs.Plain.{IsWithin, StandsWithin}
use Rattle.yl_piece_reports.specs.Told.{comment_above, fact_above, finding_above}
use Rattle.yl_piece_reports.proofs.Same.{all_from_in, are_same, in_from_all}
use Rattle.yl_section_pieces.specs.declared.borders.Border.{Border}
use Rattle.yl_section_pieces.specs.declared.cut.Cursor.{Cursor}
use Rattle.yl_section_pieces.specs.Pieces.{ArePiecesOf, BeginsWithLexeme, IsBefore, IsKeptInPieces, IsPieceOf, IsStateAfter, PieceValue, summaries}
use Rattle.yl_section_pieces.specs.Borders.{AreBorders}
use Rattle.yl_section_pieces.specs.Cut.{at_start, next_after, piece_at, pieces_from}
use Rattle.yl_section_pieces.proofs.CutLists.{IsParted, parted_sorted}
use Rattle.yl_section_pieces.proofs.CutBorders.{IsSound, parted_at, sound_section}
use Rattle.yl_section_pieces.proofs.CutItems.{AreLow, IsPartedAt}
use Rattle.yl_section_pieces.proofs.CutItems as cut

-- ---- moved up and down again

finding_back : (n : ℕ) (f : FindingValue) → n ≤ row_of f → moved n (finding_above n f) ≡ f
finding_back n f h = let e : n + (f.line - n) ≡ f.line = omega (arith, h) in λ i. record { line = e i; column = f.column; rule = f.rule; message = f.message }

fact_back : (n : ℕ) (f : Fact) → n ≤ f.line → fact_below n (fact_above n f) ≡ f
fact_back n f h = let e : n + (f.line - n) ≡ f.line = omega (arith, h) in λ i. record { line = e i; column = f.column; expectation = f.expectation }

comment_back : (n : ℕ) (c : PlacedCommentValue) → n ≤ c.line → moved_comment n (comment_above n c) ≡ c
comment_back n c h = let e : n + (c.line - n) ≡ c.line = omega (arith, h) in λ i. record { line = e i; column = c.column; text = c.text; behind = c.behind }

-- in order of lines, so in order of rows
rows_rise : (fs : List FindingValue) → IsNonDecreasingBy (λ (f : FindingValue). f.line) fs → IsNonDecreasingBy row_of fs
rows_rise fs h i j d le lt = let e : (get_or fs i d).line ≤ (get_or fs j d).line = h i j d le lt in omega (arith, e)

-- ---- the borders

-- where a list is parted wherever a piece may begin
parted_along : {A X : Type 0} (rs : List RecordValue) (row : X → ℕ) (xs : List X) → ((n : ℕ) (s : DocumentState) → n ≤ length rs → IsStateAfter (take n rs) s → IsParted row n xs)
    → (low : ℕ) (bs : List (Border A)) → AreBorders rs low bs → IsPartedAt row xs low bs
parted_along rs row xs each low [] h = tt
parted_along rs row xs each low (b ∷ bs) h =
    let above : low ≤ b.row = omega (arith, h.0) in
    let inside : b.row ≤ length rs = omega (arith, h.1) in
    (above, each b.row b.state inside h.2, parted_along rs row xs each b.row bs h.4)

-- what is kept before a piece that begins with this row
abbrev IsThere : List RecordValue → ℕ → Option DocumentState → Type 0
IsThere rs row None = row ≡ 0
IsThere rs row (Some s) = (0 < row) × IsStateAfter (take row rs) s × BeginsWithLexeme (drop row rs)

-- the items of each list from a place on stand in its row or below
record AreAllLow (k : KeptValue) (fs : List FindingValue) (at : Cursor) : Type 0 where
  found : AreLow row_of fs at.row at.found
  facts : AreLow (λ (f : Fact). f.line) k.facts at.row at.facts
  comments : AreLow (λ (c : PlacedCommentValue). c.line) k.comments at.row at.comments

-- each list is parted at a row
record AreAllParted (k : KeptValue) (fs : List FindingValue) (n : ℕ) : Type 0 where
  found : IsParted row_of n fs
  facts : IsParted (λ (f : Fact). f.line) n k.facts
  comments : IsParted (λ (c : PlacedCommentValue). c.line) n k.comments

low_all : {X : Type 0} (row : X → ℕ) (xs : List X) → AllByRecursion (λ x. 0 ≤ row x) xs
low_all row [] = tt
low_all row (x ∷ xs) = (omega arith, low_all row xs)

-- ---- lists in two parts

front_more : (a b : ℕ) (rs : List RecordValue) → a ≤ b → take a rs ++ take (b - a) (drop a rs) ≡ take b rs
front_more a b rs h = let e : a + (b - a) ≡ b = omega (arith, h) in sym (take-add a (b - a) rs) ∙ ap (λ (n : ℕ). take n rs) e

rest_more : (a b : ℕ) (rs : List RecordValue) → a ≤ b → drop (b - a) (drop a rs) ≡ drop b rs
rest_more a b rs h = let e : a + (b - a) ≡ b = omega (arith, h) in drop-drop (b - a) a rs ∙ ap (λ (n : ℕ). drop n rs) e

module _ (config : Config) (rs : List RecordValue) (found : List FindingValue) (none : (kept_of_section config rs).fault ≡ None)
    (same : IsPermutation (kept_of_section config rs).found found) (sorted : IsNonDecreasingBy (λ (f : FindingValue). f.line) found) where
  abbrev k : KeptValue
  k = kept_of_section config rs

  sound : IsSound k (length rs)
  sound = sound_section config rs none

  same_members : HaveSameMembers found k.found
  same_members = record {
    there = λ f h. Contains-permutation found k.found f (IsPermutation-sym k.found found same) h;
    back = λ f h. Contains-permutation k.found found f same h;
  }

  found_is_within : AllByRecursion (IsWithin k.rows) found
  found_is_within = all_from_in (IsWithin k.rows) found (λ f i. in_from_all (IsWithin k.rows) k.found sound.within.found f ((are_same found k.found same_members).there f i))

  found_above : AllByRecursion (λ (f : FindingValue). row_of f < k.rows) found
  found_above = all_then (IsWithin k.rows) (λ (f : FindingValue). row_of f < k.rows) found (λ f h. omega (arith, h.0, h.1)) found_is_within

  -- ---- the items from a place on stand in its row or below

  all_parted : (n : ℕ) (s : DocumentState) → n ≤ length rs → IsStateAfter (take n rs) s → AreAllParted k found n
  all_parted n s h there =
      let parted = parted_at config rs n s h there none in
      record { found = parted_sorted row_of n found (rows_rise found sorted); facts = parted.facts; comments = parted.comments }

  all_low_after : (at : Cursor) (end : ℕ) → AreAllParted k found end → AreAllLow k found (next_after k found at end)
  all_low_after at end h = record {
    found = cut.low_after k found row_of moved finding_above (λ p. p.found) (λ c. c.found) found (λ c n. refl) (λ c n. refl) finding_back at end h.found;
    facts = cut.low_after k found (λ f. f.line) fact_below fact_above (λ p. p.facts) (λ c. c.facts) k.facts (λ c n. refl) (λ c n. refl) fact_back at end h.facts;
    comments = cut.low_after k found (λ c. c.line) moved_comment comment_above (λ p. p.comments) (λ c. c.comments) k.comments (λ c n. refl) (λ c n. refl) comment_back at end h.comments;
  }

  all_low_at_start : AreAllLow k found at_start
  all_low_at_start = record { found = low_all row_of found; facts = low_all (λ f. f.line) k.facts; comments = low_all (λ c. c.line) k.comments }

  -- ---- each piece

  finding_within : (start end : ℕ) (f : FindingValue) → IsWithin k.rows f → start ≤ row_of f → row_of f < end → IsWithin (end - start) (finding_above start f)
  finding_within start end f h low high = (omega (arith, h.0, low), omega (arith, h.0, low, high))

  line_within : (start end l : ℕ) → start ≤ l → l < end → l - start < end - start
  line_within start end l low high = omega (arith, low, high)

  piece_within : (at : Cursor) (end : ℕ) → AreAllLow k found at → StandsWithin (piece_at k found at end)
  piece_within at end low = record {
    found =
        cut.within k found row_of moved finding_above (λ p. p.found) (λ c. c.found) found (λ c n. refl) (λ c n. refl) finding_back
        (IsWithin k.rows) IsWithin finding_within found_is_within at end low.found;
    facts =
        cut.within k found (λ f. f.line) fact_below fact_above (λ p. p.facts) (λ c. c.facts) k.facts (λ c n. refl) (λ c n. refl) fact_back
        (λ f. f.line < k.rows) (λ rows f. f.line < rows) (λ start end f h l m. line_within start end f.line l m) sound.within.facts at end low.facts;
    comments =
        cut.within k found (λ c. c.line) moved_comment comment_above (λ p. p.comments) (λ c. c.comments) k.comments (λ c n. refl) (λ c n. refl) comment_back
        (λ c. c.line < k.rows) (λ rows c. c.line < rows) (λ start end c h l m. line_within start end c.line l m) sound.within.comments at end low.comments;
  }

  before_piece : (at : Cursor) (end : ℕ) (before : Option DocumentState) → IsThere rs at.row before → IsBefore (take at.row rs) (drop at.row rs) (piece_at k found at end) before
  before_piece at end None h = ap (λ (n : ℕ). take n rs) h
  before_piece at end (Some s) h =
      let e : (at.row == 0) ≡ false = ne_eqb at.row 0 (λ z. omega (arith, z, h.0)) in
      (h.1, (h.2, ap (λ (b : Bool). if b then k.first else 0) e))

  piece_there : (at : Cursor) (end : ℕ) (before : Option DocumentState) → at.row < end → end ≤ length rs → AreAllLow k found at → IsThere rs at.row before
      → IsPieceOf (take at.row rs) (drop at.row rs) (record { kept = piece_at k found at end; before = before })
  piece_there at end before start inside low there = record {
    rows = let many : length (drop at.row rs) ≡ length rs - at.row = length-drop at.row rs in omega (arith, many, inside);
    some = omega (arith, start);
    within = piece_within at end low;
    before = before_piece at end before there;
  }

  -- ---- all pieces

  are_pieces : {A : Type 0} (at : Cursor) (before : Option DocumentState) (bs : List (Border A)) → at.row < length rs → AreAllLow k found at → IsThere rs at.row before → AreBorders rs at.row bs
      → ArePiecesOf (take at.row rs) (drop at.row rs) (pieces_from k found at before bs)
  are_pieces at before [] start low there h =
      let end : k.rows ≤ length rs = omega (arith, sound.rows_are) in
      let from : at.row < k.rows = omega (arith, sound.rows_are, start) in
      let high : at.row ≤ k.rows = omega (arith, from) in
      let past : length rs ≤ k.rows = omega (arith, sound.rows_are) in
      (piece_there at k.rows before from end low there, rest_more at.row k.rows rs high ∙ drop_all k.rows rs past)
  are_pieces at before (b ∷ bs) start low there h =
      let from : at.row < b.row = h.0 in
      let high : at.row ≤ b.row = omega (arith, from) in
      let some : 0 < b.row = omega (arith, h.0) in
      let end : b.row ≤ length rs = omega (arith, h.1) in
      let next = next_after k found at b.row in
      let more = pieces_from k found next (Some b.state) bs in (
        piece_there at b.row before from end low there,
        subst (λ (front : List RecordValue). ArePiecesOf front (drop (b.row - at.row) (drop at.row rs)) more) (sym (front_more at.row b.row rs high))
            (subst (λ (rest : List RecordValue). ArePiecesOf (take b.row rs) rest more) (sym (rest_more at.row b.row rs high))
            (are_pieces next (Some b.state) bs h.1 (all_low_after at b.row (all_parted b.row b.state end h.2)) (some, h.2, h.3) h.4)),
      )

  faultless_pieces : {A : Type 0} (at : Cursor) (before : Option DocumentState) (bs : List (Border A)) → AllByRecursion IsFaultless (summaries (pieces_from k found at before bs))
  faultless_pieces at before [] = (record { fault = refl; hidden = refl; parse_fault = refl }, tt)
  faultless_pieces at before (b ∷ bs) = (record { fault = refl; hidden = refl; parse_fault = refl }, faultless_pieces (next_after k found at b.row) (Some b.state) bs)

  rows_of_pieces : {A : Type 0} (at : Cursor) (before : Option DocumentState) (bs : List (Border A)) → at.row ≤ length rs → AreBorders rs at.row bs
      → rows_kept (summaries (pieces_from k found at before bs)) ≡ k.rows - at.row
  rows_of_pieces at before [] start h = omega arith
  rows_of_pieces at before (b ∷ bs) start h =
      let inside : b.row ≤ length rs = omega (arith, h.1) in
      let more : rows_kept (summaries (pieces_from k found (next_after k found at b.row) (Some b.state) bs)) ≡ k.rows - b.row
      = rows_of_pieces (next_after k found at b.row) (Some b.state) bs inside h.4 in
      omega (arith, more, h.0, h.1, sound.rows_are)

  first_of_pieces : {A : Type 0} (bs : List (Border A)) → option_map (λ p. p.first) (slice_get (summaries (pieces_from k found at_start None bs)) 0) ≡ Some k.first
  first_of_pieces [] = refl
  first_of_pieces (b ∷ bs) = refl

  module _ {A : Type 0} (bs : List (Border A)) (some : 0 < length rs) (h : AreBorders rs 0 bs) where
    abbrev pieces : List PieceValue
    pieces = pieces_from k found at_start None bs

    found_cut : items_in moved (λ p. p.found) 0 (summaries pieces) ≡ found
    found_cut =
        cut.items_left k found row_of moved finding_above (λ p. p.found) (λ c. c.found) found (λ c n. refl) (λ c n. refl) finding_back found_above at_start None bs all_low_at_start.found
        (parted_along rs row_of found (λ n s l there. (all_parted n s l there).found) 0 bs h)

    facts_cut : items_in fact_below (λ p. p.facts) 0 (summaries pieces) ≡ k.facts
    facts_cut =
        cut.items_left k found (λ f. f.line) fact_below fact_above (λ p. p.facts) (λ c. c.facts) k.facts (λ c n. refl) (λ c n. refl) fact_back sound.within.facts at_start None bs all_low_at_start.facts
        (parted_along rs (λ f. f.line) k.facts (λ n s l there. (all_parted n s l there).facts) 0 bs h)

    comments_cut : items_in moved_comment (λ p. p.comments) 0 (summaries pieces) ≡ k.comments
    comments_cut =
        cut.items_left k found (λ c. c.line) moved_comment comment_above (λ p. p.comments) (λ c. c.comments) k.comments (λ c n. refl) (λ c n. refl) comment_back sound.within.comments at_start None bs all_low_at_start.comments
        (parted_along rs (λ c. c.line) k.comments (λ n s l there. (all_parted n s l there).comments) 0 bs h)

    pub kept_in_pieces : IsKeptInPieces config rs pieces
    kept_in_pieces = record {
      cut = record {
        whole = sound.faultless;
        parts = faultless_pieces at_start None bs;
        first = first_of_pieces bs;
        rows = let all : rows_kept (summaries pieces) ≡ k.rows - 0 = rows_of_pieces at_start None bs (omega arith) h in omega (arith, all);
        found = subst (λ (fs : List FindingValue). HaveSameMembers fs k.found) (sym found_cut) same_members;
        facts = facts_cut;
        comments = comments_cut;
      };
      pieces = are_pieces at_start None bs some all_low_at_start refl h;
    }
