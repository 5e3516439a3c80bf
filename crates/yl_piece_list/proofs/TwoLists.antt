-- The pieces in two lists.
use Rattle.std.proofs.Common.{◌≡◌, ℕ, zero, suc, List, [], ◌∷◌, length, Option, Some, refl, ap, arith}
use Rattle.std.specs.Prelude.{option_map, slice_get}
use Rattle.yl_sections.specs.Kept.{KeptValue}
use Rattle.yl_pieces.specs.State.{DocumentState}
use Rattle.yl_section_pieces.specs.Pieces.{PieceValue, summaries}
use Rattle.yl_piece_list.specs.PieceLists.{pieces_of, states}

pub of_summaries : (ks : List KeptValue) (bs : List (Option DocumentState)) → length ks ≡ length bs → summaries (pieces_of ks bs) ≡ ks
of_summaries [] [] e = refl
of_summaries [] (b ∷ bs) e = refl
of_summaries (k ∷ ks) [] e = absurd (omega arith)
of_summaries (k ∷ ks) (b ∷ bs) e = ap (λ (js : List KeptValue). k ∷ js) (of_summaries ks bs (omega arith))

pub of_states : (ks : List KeptValue) (bs : List (Option DocumentState)) → length ks ≡ length bs → states (pieces_of ks bs) ≡ bs
of_states [] [] e = refl
of_states [] (b ∷ bs) e = absurd (omega arith)
of_states (k ∷ ks) [] e = absurd (omega arith)
of_states (k ∷ ks) (b ∷ bs) e = ap (λ (cs : List (Option DocumentState)). b ∷ cs) (of_states ks bs (omega arith))

pub of_count : (ks : List KeptValue) (bs : List (Option DocumentState)) → length ks ≡ length bs → length (pieces_of ks bs) ≡ length ks
of_count [] [] e = refl
of_count [] (b ∷ bs) e = refl
of_count (k ∷ ks) [] e = absurd (omega arith)
of_count (k ∷ ks) (b ∷ bs) e = let h = of_count ks bs (omega arith) in omega arith

-- a piece by its parts
pub piece_of_parts : (ps : List PieceValue) (i : ℕ) (k : KeptValue) (b : Option DocumentState)
    → slice_get (summaries ps) i ≡ Some k → slice_get (states ps) i ≡ Some b → slice_get ps i ≡ Some (record { kept = k; before = b })
piece_of_parts [] i k b e f = absurd (cc)
piece_of_parts (p ∷ ps) zero k b e f =
    let same : p.kept ≡ k = cc in
    let state : p.before ≡ b = cc in
    λ j. Some (record { kept = same j; before = state j })
piece_of_parts (p ∷ ps) (suc i) k b e f = piece_of_parts ps i k b e f

pub count_states : (ps : List PieceValue) → length (states ps) ≡ length ps
count_states [] = refl
count_states (p ∷ ps) = let h = count_states ps in omega arith

pub state_at : (ps : List PieceValue) (i : ℕ) (b : Option DocumentState) → slice_get (states ps) i ≡ Some b → option_map (λ p. p.before) (slice_get ps i) ≡ Some b
state_at [] i b e = absurd (cc)
state_at (p ∷ ps) zero b e = e
state_at (p ∷ ps) (suc i) b e = state_at ps i b e
