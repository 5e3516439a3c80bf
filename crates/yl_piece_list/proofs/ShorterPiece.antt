-- The piece that comes in place of a section's last one, where the section loses rows.
use Rattle.std.proofs.Common.{◌≡◌, ◌<◌, ◌≤◌, ◌+◌, ℕ, List, [], ◌∷◌, ◌++◌, length, take, Option, Some, None, ap, sym, subst, ◌∙◌, arith, append_assoc, inl, inr}
use Rattle.std.specs.Prelude.{IsSome}
use Rattle.std.proofs.lemmas.List.{length-append}
use Rattle.yl_text.proofs.Every.{all_last}
use Rattle.yl_config.specs.declared.config.Config.{Config}
use Rattle.yl_record.specs.Records.{RecordValue}
use Rattle.yl_sections.specs.Front.{IsFront}
use Rattle.yl_sections.specs.Judge.{kept_of_section}
use Rattle.yl_sections.specs.Kept.{KeptValue, rows_kept}
use Rattle.yl_pieces.specs.State.{DocumentState}
use Rattle.yl_section_pieces.specs.Pieces.{IsKeptInPieces, IsKeptSection, IsStateAfter, PieceValue, summaries, whole_piece}
use Rattle.yl_section_pieces.specs.Sections.{AreKeptSections}
use Rattle.yl_section_pieces.proofs.Sections as laws
use Rattle.yl_section_pieces.proofs.SectionsHeaded.{section_headed}
use Rattle.yl_piece_list.specs.Anew.{AreKeptBehind, IsShorter, with_rows}
use Rattle.yl_piece_list.proofs.ShorterKept.{shorter_kept}

-- a piece after others has a state before it
no_state : (config : Config) (rs : List RecordValue) (a : PieceValue) (above : List PieceValue) (x : PieceValue) → IsKeptSection config rs (a ∷ (above ++ (x ∷ [])))
    → x.before ≡ None → ⊥
no_state config rs a above x kept none =
    let headed = section_headed config rs (a ∷ (above ++ (x ∷ []))) kept in
    let state : Option DocumentState = None in
    let some : IsSome state =
    subst (λ (b : Option DocumentState). IsSome b) none (all_last (λ (q : PieceValue). IsSome q.before) above x headed.1) in
    cc

module _ (config : Config) (x : PieceValue) (n : ℕ) where
  -- ---- a section of one piece

  is_whole : (rs : List RecordValue) → IsKeptSection config rs (x ∷ []) → x.kept ≡ kept_of_section config rs
  is_whole rs (inl e) = let same : x ≡ whole_piece config rs = cc in ap (λ (p : PieceValue). p.kept) same
  is_whole rs (inr g) = absurd (omega (arith, g.1))

  module _ (k : KeptValue) (none : x.before ≡ None)
      (kept : (config : Config) (rs : List RecordValue) → n ≤ length rs → IsFront n rs → x.kept ≡ kept_of_section config rs
      → k ≡ kept_of_section config (take n rs)) where
    pub whole_shorter : IsShorter config x n (record { kept = k; before = None })
    whole_shorter rs [] l =
        let same : rows_kept (summaries []) + n ≡ n = omega arith in
        let front = subst (λ m. IsFront m rs) same l.front in
        let is = kept config rs (omega (arith, l.within)) front (is_whole rs l.kept) in
        inl (ap (λ (i : KeptValue). record { kept = i; before = None } ∷ []) (is ∙ ap (λ m. kept_of_section config (take m rs)) (sym same)))
    whole_shorter rs (a ∷ above) l = absurd (no_state config rs a above x l.kept none)

  -- ---- a section of several pieces

  module _ (s : DocumentState) (b : Option DocumentState) (some : x.before ≡ Some s) (copied : (front : List RecordValue) → IsStateAfter front s → b ≡ Some s) where
    several : (rs : List RecordValue) (above : List PieceValue) → IsKeptSection config rs (above ++ (x ∷ []))
        → IsKeptInPieces config rs (above ++ (x ∷ [])) × (1 < length (above ++ (x ∷ [])))
    several rs above (inr g) = g
    several rs [] (inl e) =
        let same : x ≡ whole_piece config rs = cc in
        let none : None ≡ Some s = sym (ap (λ (p : PieceValue). p.before) same) ∙ some in
        absurd (cc)
    several rs (a ∷ above) (inl e) =
        let count = ap (λ (qs : List PieceValue). length qs) e in
        absurd (omega (arith, count, length-append above (x ∷ [])))

    before_same : (rs : List RecordValue) (above : List PieceValue) → IsKeptSection config rs (above ++ (x ∷ [])) → x.before ≡ b
    before_same rs above kept =
        let is : x ≡ record { kept = x.kept; before = Some s } = λ j. record { kept = x.kept; before = some j } in
        let after = laws.sections_are_found.after config rs above x.kept s []
        (subst (λ (p : PieceValue). IsKeptSection config rs (above ++ (p ∷ []))) is kept) in
        some ∙ sym (copied after.front after.state)

    pub part_shorter : IsShorter config x n (record { kept = with_rows n x.kept; before = b })
    part_shorter rs above l =
        let g = several rs above l.kept in
        let m = rows_kept (summaries above) + n in
        let pieces = shorter_kept config rs above x n l.some g.0 l.within l.front in
        let count : 1 < length (above ++ (record { kept = with_rows n x.kept; before = b } ∷ [])) =
        omega (arith, g.1, length-append above (x ∷ []), length-append above (record { kept = with_rows n x.kept; before = b } ∷ [])) in
        inr (
          subst (λ (c : Option DocumentState). IsKeptInPieces config (take m rs) (above ++ (record { kept = with_rows n x.kept; before = c } ∷ [])))
              (before_same rs above l.kept) pieces,
          count,
        )

-- these pieces come in place of it, with those of the sections that follow
pub behind_kept : (config : Config) (x y : PieceValue) (n : ℕ) (ss : List (List RecordValue)) (ns none one all : List PieceValue)
    → IsShorter config x n y → AreKeptSections config ss ns → none ≡ [] → one ≡ none ++ (y ∷ []) → all ≡ one ++ ns → AreKeptBehind config x n ss all
behind_kept config x y n ss ns none one all shorter kept a b c rs above l =
    let left = take (rows_kept (summaries above) + n) rs in
    let here = laws.sections_are_listed.one config left (above ++ (y ∷ [])) (shorter rs above l) in
    let both = laws.sections_are_listed.joined config (left ∷ []) ss (above ++ (y ∷ [])) ns here kept in
    let first : one ≡ y ∷ [] = b ∙ ap (λ (qs : List PieceValue). qs ++ (y ∷ [])) a in
    let is : (above ++ (y ∷ [])) ++ ns ≡ above ++ all =
    append_assoc above (y ∷ []) ns ∙ ap (λ (qs : List PieceValue). above ++ qs) (sym (c ∙ ap (λ (qs : List PieceValue). qs ++ ns) first)) in
    subst (λ (qs : List PieceValue). AreKeptSections config (left ∷ ss) qs) is both
