use Rattle.std.proofs.Common.{◌≡◌, ◌<◌, ◌+◌, ℕ, false, length, take, slice_index_or}
use Rattle.std.specs.List.{list_any}
use Rattle.yl_marks.specs.Marks.{is_at}
use Rattle.yl_marks.proofs.marks.note_keys.Given as goal

abbrev pub invariant-loop-piece : goal.invariant-loop-piece
invariant-loop-piece g l = record {
  same : length l.begins.items ≡ length l.pieces;
  begins : (i : ℕ) → i < length l.pieces → slice_index_or l.begins.items i false ≡ list_any (λ p. is_at (l.first + i) p.key) (take l.piece-index l.pieces);
}
