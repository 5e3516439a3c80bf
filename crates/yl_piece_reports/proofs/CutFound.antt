-- What is found in sections and what is found in their pieces: the same members.
use Rattle.std.proofs.Common.{◌≡◌, ℕ, ◌+◌, List, [], ◌∷◌, ◌++◌, map, ap, refl, ◌∙◌, inl, inr, arith, append-nil}
use Rattle.yl_text.specs.Finding.{FindingValue}
use Rattle.yl_sections.specs.Kept.{KeptValue}
use Rattle.yl_lint.specs.TextReport.{moved}
use Rattle.yl_lint.proofs.Arranged.{AreSame}
use Rattle.yl_piece_reports.specs.Cuts.{IsCutOf, items_in}
use Rattle.yl_piece_reports.proofs.Items.{items_at, items_both}
use Rattle.yl_piece_reports.proofs.CutItems.{AreCut, cut_rows, flat}
use Rattle.yl_piece_reports.proofs.Same.{are_same, same_both, same_is, same_map, same_then}

-- but for the rule indentation
abbrev pub found_in : ℕ → List KeptValue → List FindingValue
found_in line ks = items_in moved (λ k. k.found) line ks

moved_twice : (n m : ℕ) (f : FindingValue) → moved (n + m) f ≡ moved n (moved m f)
moved_twice n m f =
    let e : n + m + f.line ≡ n + (m + f.line) = omega arith in
    λ i. record { line = e i; column = f.column; rule = f.rule; message = f.message }

cut_found : (line : ℕ) (k : KeptValue) (c : List KeptValue) → IsCutOf k c → AreSame (found_in line c) (map (moved line) k.found)
cut_found line k c (inl e) = same_is (found_in line c) (map (moved line) k.found) (ap (found_in line) e ∙ append-nil (map (moved line) k.found))
cut_found line k c (inr h) =
    same_then (found_in line c) (map (moved line) (found_in 0 c)) (map (moved line) k.found)
    (same_is (found_in line c) (map (moved line) (found_in 0 c)) (items_at moved (λ k. k.found) moved_twice line c))
    (same_map (moved line) (found_in 0 c) k.found (are_same (found_in 0 c) k.found h.found))

pub all_found : (line : ℕ) (ks : List KeptValue) (cs : List (List KeptValue)) → AreCut ks cs → AreSame (found_in line (flat cs)) (found_in line ks)
all_found line [] [] h = same_is [] [] refl
all_found line [] (c ∷ cs) h = absurd h
all_found line (k ∷ ks) [] h = absurd h
all_found line (k ∷ ks) (c ∷ cs) h =
    let next = line + k.rows in
    same_then (found_in line (c ++ flat cs)) (found_in line c ++ found_in next (flat cs)) (map (moved line) k.found ++ found_in next ks)
    (same_is (found_in line (c ++ flat cs)) (found_in line c ++ found_in next (flat cs))
    (items_both moved (λ k. k.found) line c (flat cs) ∙ ap (λ (n : ℕ). found_in line c ++ found_in (line + n) (flat cs)) (cut_rows k c h.0)))
    (same_both (found_in line c) (found_in next (flat cs)) (map (moved line) k.found) (found_in next ks) (cut_found line k c h.0) (all_found next ks cs h.1))
