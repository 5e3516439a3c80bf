-- A section without a fault is parted at each border, and what is kept of it stands in its rows.
use Rattle.std.proofs.Common.{◌≡◌, ◌<◌, ◌≤◌, ◌+◌, ℕ, List, [], ◌∷◌, ◌++◌, length, take, drop, map, None, refl, ap, sym, ◌∙◌, subst, arith}
use Rattle.std.specs.List.{AllByRecursion}
use Rattle.std.proofs.lemmas.List.{length-append, length-take-le, take-append-drop}
use Rattle.yl_text.specs.Finding.{FindingValue}
use Rattle.yl_text.proofs.Every.{all_both, all_map}
use Rattle.yl_lexeme.specs.Lexeme.{PlacedCommentValue}
use Rattle.yl_indentation.specs.declared.fact.Fact.{Fact}
use Rattle.yl_indentation.specs.FactsAlike.{fact_below}
use Rattle.yl_config.specs.declared.config.Config.{Config}
use Rattle.yl_record.specs.Records.{RecordValue}
use Rattle.yl_sections.specs.Judge.{kept_of_section}
use Rattle.yl_sections.specs.Kept.{KeptValue}
use Rattle.yl_pieces.specs.State.{DocumentState}
use Rattle.yl_pieces.specs.Told.{is_border}
use Rattle.yl_pieces.specs.Patched.{in_first, row_of}
use Rattle.yl_lint.specs.TextReport.{moved_comment}
use Rattle.yl_piece_reports.specs.Cuts.{IsFaultless, IsInPieces}
use Rattle.yl_piece_reports.specs.Plain.{StandsWithin}
use Rattle.yl_piece_reports.specs.Told.{IsBorderAfter, PieceStart, found_in_events, kept_of_piece, pieces_in_two, section_start}
use Rattle.yl_piece_reports.proofs.PieceCut.{faultless_section_is_cut, section_is_piece}
use Rattle.yl_piece_reports.proofs.PiecesWithin.{pieces_stand_within}
use Rattle.yl_section_pieces.specs.Pieces.{IsStateAfter}
use Rattle.yl_section_pieces.proofs.CutLists.{IsParted, parted_both}

-- two lists, one after the other, of which the latter is moved down so many rows
module _ {X : Type 0} (line : X → ℕ) (down : ℕ → X → X) (moved : (n : ℕ) (x : X) → line (down n x) ≡ n + line x) where
  parted_two : (n : ℕ) (xs ys : List X) → AllByRecursion (λ x. line x < n) xs → IsParted line n (map (down 0) xs ++ (map (down (0 + n)) ys ++ []))
  parted_two n xs ys h =
      parted_both line n (map (down 0) xs) (map (down (0 + n)) ys ++ [])
      (all_map (λ (x : X). line x < n) (λ (x : X). line x < n) (down 0) xs (λ x l. let e : line (down 0 x) ≡ 0 + line x = moved 0 x in omega (arith, e, l)) h)
      (all_both (λ (y : X). n ≤ line y) (map (down (0 + n)) ys) []
      (all_map (λ (y : X). n ≤ line y) (λ (y : X). Unit {0}) (down (0 + n)) ys (λ y u. let e : line (down (0 + n) y) ≡ 0 + n + line y = moved (0 + n) y in omega (arith, e)) (any ys)) tt)
    where
      any : (zs : List X) → AllByRecursion (λ (y : X). Unit {0}) zs
      any [] = tt
      any (z ∷ zs) = (tt, any zs)

-- the facts and the comments are parted at a border
pub record ArePartedAt (k : KeptValue) (n : ℕ) : Type 0 where
  pub facts : IsParted (λ f. f.line) n k.facts
  pub comments : IsParted (λ c. c.line) n k.comments

module _ (config : Config) (front rest : List RecordValue) (s : DocumentState) (h : IsStateAfter front s) (none : (kept_of_section config (front ++ rest)).fault ≡ None) where
  abbrev k : KeptValue
  k = kept_of_section config (front ++ rest)

  abbrev start : PieceStart
  start = section_start config (front ++ rest)

  abbrev tree : List FindingValue
  tree = found_in_events config (front ++ rest)

  abbrev n : ℕ
  n = length front

  is_border_there : IsBorderAfter start front
  is_border_there = record { some = h.some; closed = h.closed; sound = h.sound; border = ap is_border (sym h.state) ∙ h.border }

  cut : IsInPieces k (pieces_in_two config start front rest tree)
  cut = faultless_section_is_cut config front rest none is_border_there

  one : StandsWithin (kept_of_piece config start front (in_first row_of n tree))
  one =
      let both : AllByRecursion (λ (f : FindingValue). (0 < f.line) × (f.line ≤ n + length rest)) tree
      = subst (λ (rows : ℕ). AllByRecursion (λ (f : FindingValue). (0 < f.line) × (f.line ≤ rows)) tree) (length-append front rest) (pieces_stand_within.section config (front ++ rest) none) in
      pieces_stand_within.piece config start front (in_first row_of n tree) (pieces_stand_within.parts n (length rest) tree h.some both).above

  parted_here : ArePartedAt k n
  parted_here = record {
    facts = subst (λ (fs : List Fact). IsParted (λ (f : Fact). f.line) n fs) cut.facts (parted_two (λ (f : Fact). f.line) fact_below (λ m f. refl) n _ _ one.facts);
    comments = subst (λ (cs : List PlacedCommentValue). IsParted (λ (c : PlacedCommentValue). c.line) n cs) cut.comments (parted_two (λ (c : PlacedCommentValue). c.line) moved_comment (λ m c. refl) n _ _ one.comments);
  }

-- at a row of the section
pub parted_at : (config : Config) (rs : List RecordValue) (n : ℕ) (s : DocumentState) → n ≤ length rs → IsStateAfter (take n rs) s → (kept_of_section config rs).fault ≡ None
    → ArePartedAt (kept_of_section config rs) n
parted_at config rs n s few h none =
    let all : take n rs ++ drop n rs ≡ rs = take-append-drop n rs in
    subst (λ (m : ℕ). ArePartedAt (kept_of_section config rs) m) (length-take-le n rs few)
    (subst (λ (zs : List RecordValue). ArePartedAt (kept_of_section config zs) (length (take n rs))) all
    (parted_here config (take n rs) (drop n rs) s h (subst (λ (zs : List RecordValue). (kept_of_section config zs).fault ≡ None) (sym all) none)))

-- a section without a fault
pub record IsSound (k : KeptValue) (rows : ℕ) : Type 0 where
  pub rows_are : k.rows ≡ rows
  pub faultless : IsFaultless k
  pub within : StandsWithin k

pub sound_section : (config : Config) (rs : List RecordValue) → (kept_of_section config rs).fault ≡ None → IsSound (kept_of_section config rs) (length rs)
sound_section config rs none =
    subst (λ (k : KeptValue). IsSound k (length rs)) (sym (section_is_piece config rs none)) (record {
      rows_are = refl;
      faultless = record { fault = refl; hidden = refl; parse_fault = refl };
      within = pieces_stand_within.piece config (section_start config rs) rs (found_in_events config rs) (pieces_stand_within.section config rs none);
    })
