-- Pieces that are cut off one after another.
use Rattle.std.proofs.Common.{◌≡◌, ◌∙◌, ◌++◌, ◌∷◌, [], List, Option, Some, None, ap, append_assoc, append-nil, sym}
use Rattle.yl_text.specs.Finding.{FindingValue}
use Rattle.yl_sections.specs.Kept.{KeptValue}
use Rattle.yl_pieces.specs.State.{DocumentState}
use Rattle.yl_section_pieces.specs.declared.borders.Border.{Border}
use Rattle.yl_section_pieces.specs.declared.cut.Cursor.{Cursor}
use Rattle.yl_section_pieces.specs.Pieces.{PieceValue}
use Rattle.yl_section_pieces.specs.Cut.{at_start, next_after, piece_at, pieces_from}

module _ {A : Type 0} (k : KeptValue) (found : List FindingValue) (at : Cursor) (before : Option DocumentState) (done : List PieceValue) (yielded : List (Border A))
    (h : (bs : List (Border A)) → done ++ pieces_from k found at before bs ≡ pieces_from k found at_start None (yielded ++ bs)) where
  -- the piece above the next border
  pub pieces_more : (b : Border A) (next : Cursor) (p : KeptValue) (new : List PieceValue) → p ≡ piece_at k found at b.row → next ≡ next_after k found at b.row
      → new ≡ done ++ record { kept = p; before = before } ∷ [] → (bs : List (Border A))
      → new ++ pieces_from k found next (Some b.state) bs ≡ pieces_from k found at_start None ((yielded ++ b ∷ []) ++ bs)
  pieces_more b next p new piece moved pushed bs =
      let more = pieces_from k found (next_after k found at b.row) (Some b.state) bs in
      ap (λ (n : Cursor). new ++ pieces_from k found n (Some b.state) bs) moved
      ∙ (ap (λ (ps : List PieceValue). ps ++ more) (pushed ∙ ap (λ (q : KeptValue). done ++ record { kept = q; before = before } ∷ []) piece)
      ∙ (append_assoc done (record { kept = piece_at k found at b.row; before = before } ∷ []) more
      ∙ (h (b ∷ bs) ∙ ap (λ (cs : List (Border A)). pieces_from k found at_start None cs) (sym (append_assoc yielded (b ∷ []) bs)))))

  -- the last piece
  pub pieces_all : (bs : List (Border A)) (p : KeptValue) (new : List PieceValue) → p ≡ piece_at k found at k.rows → new ≡ done ++ record { kept = p; before = before } ∷ []
      → yielded ≡ bs → new ≡ pieces_from k found at_start None bs
  pieces_all bs p new piece pushed all =
      pushed ∙ (ap (λ (q : KeptValue). done ++ record { kept = q; before = before } ∷ []) piece
      ∙ (h [] ∙ ap (λ (cs : List (Border A)). pieces_from k found at_start None cs) (append-nil yielded ∙ all)))
