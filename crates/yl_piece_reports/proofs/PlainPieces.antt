-- What is found in pieces is found by the rules by which it is found in the sections.
use Rattle.std.proofs.Common.{◌≡◌, ℕ, ◌+◌, Bool, true, List, [], ◌∷◌, map, sym, subst, inl, inr}
use Rattle.std.specs.List.{AllByRecursion}
use Rattle.yl_text.specs.declared.finding.RuleId.{RuleId}
use Rattle.yl_text.specs.Finding.{FindingValue}
use Rattle.yl_text.proofs.Every.{all_both}
use Rattle.yl_report.proofs.Unique.{In}
use Rattle.yl_sections.specs.Kept.{KeptValue}
use Rattle.yl_lint.specs.TextReport.{moved}
use Rattle.yl_lint.proofs.Arranged.{AreSame, in_behind, in_front}
use Rattle.yl_piece_reports.specs.Cuts.{IsCutOf}
use Rattle.yl_piece_reports.specs.Plain.{IsFoundBy, PiecesArePlain}
use Rattle.yl_piece_reports.proofs.CutFound.{found_in}
use Rattle.yl_piece_reports.proofs.CutItems.{AreCut, flat}
use Rattle.yl_piece_reports.proofs.Same.{all_from_in, are_same, in_from_all, map_in}

module _ (test : RuleId → Bool) where
  abbrev Passes : FindingValue → Type 0
  Passes f = test f.rule ≡ true

  by_pieces : (line : ℕ) (c : List KeptValue) → ((f : FindingValue) → In f (found_in line c) → Passes f) → AllByRecursion (IsFoundBy test) c
  by_pieces line [] each = tt
  by_pieces line (p ∷ c) each =
      let here = map (moved line) p.found in
      let more = found_in (line + p.rows) c in (
        all_from_in Passes p.found (λ f i. each (moved line f) (in_front (moved line f) here more (map_in (moved line) f p.found i))),
        by_pieces (line + p.rows) c (λ f i. each f (in_behind f here more i)),
      )

  cut_by : (k : KeptValue) (c : List KeptValue) → IsCutOf k c → IsFoundBy test k → AllByRecursion (IsFoundBy test) c
  cut_by k c (inl e) h = subst (AllByRecursion (IsFoundBy test)) (sym e) (h, tt)
  cut_by k c (inr p) h =
      let same : AreSame (found_in 0 c) k.found = are_same (found_in 0 c) k.found p.found in
      by_pieces 0 c (λ f i. in_from_all Passes k.found h f (same.there f i))

  all_by : (ks : List KeptValue) (cs : List (List KeptValue)) → AreCut ks cs → AllByRecursion (IsFoundBy test) ks → AllByRecursion (IsFoundBy test) (flat cs)
  all_by [] [] h g = tt
  all_by [] (c ∷ cs) h g = absurd h
  all_by (k ∷ ks) [] h g = absurd h
  all_by (k ∷ ks) (c ∷ cs) h g = all_both (IsFoundBy test) c (flat cs) (cut_by k c h.0 g.0) (all_by ks cs h.1 g.1)

pub pieces_are_plain : PiecesArePlain
pieces_are_plain test ks ps h g = subst (AllByRecursion (IsFoundBy test)) (sym h.all) (all_by test ks h.cuts h.each g)
