-- Laws of the pieces of a problem's line.
use Rattle.std.proofs.Common.{◌≡◌, ℕ, ◌-◌, List, [], ◌∷◌, ◌++◌, append_assoc, append-nil, length, replicate, sym}
use Rattle.yl_formats.specs.Formats.{padded}

module _ (start colon plain end : List ℕ) (w v : ℕ) where
  pub standard_pieces : (line line' column column' level level' message message' mark mark' before name after rule pad pad' : List ℕ)
      → line' ≡ line → column' ≡ column → level' ≡ level → message' ≡ message → mark' ≡ mark → before ++ (name ++ after) ≡ rule
      → pad ≡ replicate (w - length (start ++ (line' ++ (colon ++ (column' ++ []))))) 32
      → pad' ≡ replicate (v - length (start ++ (line' ++ (colon ++ (column' ++ (pad ++ (level' ++ []))))))) 32
      → start ++ (line' ++ (colon ++ (column' ++ (pad ++ (level' ++ (pad' ++ (message' ++ (mark' ++ (before ++ (name ++ (after ++ end)))))))))))
      ≡ padded (padded (start ++ (line ++ colon ++ column)) w ++ level) v ++ message ++ mark ++ rule ++ end
  standard_pieces line line' column column' level level' message message' mark mark' before name after rule pad pad' l c e m k r p q =
      rw (q, p, l, c, e, m, k, sym r) (simp (append_assoc, append-nil))

  pub colored_pieces : (line line' column column' level level' message message' mark mark' before name after rule pad pad' : List ℕ)
      → line' ≡ line → column' ≡ column → level' ≡ level → message' ≡ message → mark' ≡ mark → before ++ (name ++ after) ≡ rule
      → pad ≡ replicate (w - length (start ++ (line' ++ (colon ++ (column' ++ (plain ++ [])))))) 32
      → pad' ≡ replicate (v - length (start ++ (line' ++ (colon ++ (column' ++ (plain ++ (pad ++ (level' ++ [])))))))) 32
      → start ++ (line' ++ (colon ++ (column' ++ (plain ++ (pad ++ (level' ++ (pad' ++ (message' ++ (mark' ++ (before ++ (name ++ (after ++ end))))))))))))
      ≡ padded (padded (start ++ ((line ++ colon ++ column) ++ plain)) w ++ level) v ++ message ++ mark ++ rule ++ end
  colored_pieces line line' column column' level level' message message' mark mark' before name after rule pad pad' l c e m k r p q =
      rw (q, p, l, c, e, m, k, sym r) (simp (append_assoc, append-nil))

pub github_pieces : (colons file_is line_is column_is colon space end : List ℕ)
    → (name name' line line' column column' level level' message message' mark mark' before of after rule : List ℕ)
    → name' ≡ name → line' ≡ line → column' ≡ column → level' ≡ level → message' ≡ message → mark' ≡ mark → before ++ (of ++ after) ≡ rule
    → colons ++ (level' ++ (file_is ++ (name' ++ (line_is ++ (line' ++ (column_is ++ (column' ++ (colons ++ (line' ++ (colon ++ (column' ++ (space ++ (before ++ (of ++ (after ++ (message' ++ (mark' ++ end)))))))))))))))))
    ≡ colons ++ level ++ file_is ++ name ++ line_is ++ line ++ column_is ++ column
    ++ colons ++ (line ++ colon ++ column) ++ space ++ rule ++ message ++ mark ++ end
github_pieces colons file_is line_is column_is colon space end name name' line line' column column' level level' message message' mark mark' before of after rule n l c e m k r =
    rw (n, l, c, e, m, k, sym r) (simp append_assoc)
