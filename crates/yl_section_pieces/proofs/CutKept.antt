-- A section is kept whole, or in the pieces into which it is cut.
use Rattle.std.proofs.Common.{◌≡◌, ◌∙◌, ◌<◌, ◌∷◌, ◌==◌, ℕ, Bool, [], true, false, length, List, Option, Some, None, ap, arith, inl, inr, sym, subst}
use Rattle.std.specs.Prelude.{IsPermutation, is_some}
use Rattle.std.specs.List.Sorted.{IsNonDecreasingBy}
use Rattle.std.specs.Option.{option_map}
use Rattle.yl_text.specs.Finding.{FindingValue}
use Rattle.yl_config.specs.declared.config.Config.{Config}
use Rattle.yl_record.specs.Records.{RecordValue}
use Rattle.yl_sections.specs.declared.fault.SectionFault.{SectionFault}
use Rattle.yl_sections.specs.Judge.{kept_of_section}
use Rattle.yl_sections.specs.Kept.{KeptValue, SectionFaultValue}
use Rattle.yl_sections.specs.Owned.{section_fault_value}
use Rattle.yl_pieces.specs.State.{DocumentState}
use Rattle.yl_section_pieces.specs.declared.borders.Border.{Border}
use Rattle.yl_section_pieces.specs.declared.cut.Cursor.{Cursor}
use Rattle.yl_section_pieces.specs.Pieces.{IsKeptInPieces, IsKeptSection, PieceValue}
use Rattle.yl_section_pieces.specs.Borders.{AreBorders}
use Rattle.yl_section_pieces.specs.Cut.{at_start, next_after, pieces_from}
use Rattle.yl_section_pieces.proofs.CutBorders.{sound_section}
use Rattle.yl_section_pieces.proofs.CutSection.{kept_in_pieces}

-- no fault
pub none_kept : (o : Option SectionFault) (x : Option SectionFaultValue) → is_some o ≡ false → option_map section_fault_value o ≡ x → x ≡ None
none_kept None x e is = sym is
none_kept (Some f) x e is = absurd (cc)

-- each border begins one piece more
some_from : {A : Type 0} (k : KeptValue) (found : List FindingValue) (at : Cursor) (before : Option DocumentState) (bs : List (Border A)) → 0 < length (pieces_from k found at before bs)
some_from k found at before [] = omega arith
some_from k found at before (b ∷ bs) = omega arith

two_from : {A : Type 0} (k : KeptValue) (found : List FindingValue) (at : Cursor) (before : Option DocumentState) (bs : List (Border A)) → 0 < length bs → 1 < length (pieces_from k found at before bs)
two_from k found at before [] some = absurd (omega (arith, some))
two_from k found at before (b ∷ bs) some = omega (arith, some_from k found (next_after k found at b.row) (Some b.state) bs)

-- a list that is told not to be empty
pub some_items : {X : Type 0} (xs : List X) (n : ℕ) (b : Bool) → n ≡ length xs → b ≡ (n == 0) → b ≡ false → 0 < length xs
some_items [] n b len is said =
    let zero_is : n ≡ 0 = len in
    let e : true ≡ false = sym (is ∙ ap (λ k. k == 0) zero_is) ∙ said in
    absurd (cc)
some_items (x ∷ xs) n b len is said = omega arith

module _ (config : Config) (rs : List RecordValue) (k : KeptValue) (is : k ≡ kept_of_section config rs) (ps : List PieceValue) where
  pub kept_whole : ps ≡ record { kept = k; before = None } ∷ [] → IsKeptSection config rs ps
  kept_whole e = inl (e ∙ ap (λ (q : KeptValue). record { kept = q; before = None } ∷ []) is)

  pub kept_cut : {A : Type 0} (found : List FindingValue) (bs : List (Border A)) → ps ≡ pieces_from k found at_start None bs
      → k.fault ≡ None → 0 < k.rows → IsPermutation k.found found → IsNonDecreasingBy (λ (f : FindingValue). f.line) found → AreBorders rs 0 bs → 0 < length bs → IsKeptSection config rs ps
  kept_cut found bs e none some same sorted h more =
      subst (λ (q : KeptValue). ps ≡ pieces_from q found at_start None bs → q.fault ≡ None → 0 < q.rows → IsPermutation q.found found → IsKeptSection config rs ps) (sym is)
      (λ e none some same.
      let rows = (sound_section config rs none).rows_are in
      inr (subst (λ (qs : List PieceValue). IsKeptInPieces config rs qs × (1 < length qs)) (sym e)
      (kept_in_pieces config rs found none same sorted bs (omega (arith, rows, some)) h, two_from (kept_of_section config rs) found at_start None bs more)))
      e none some same
