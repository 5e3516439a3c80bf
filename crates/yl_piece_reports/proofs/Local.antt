-- Cuts of sections one after another, and of pieces that are cut again.
use Rattle.std.proofs.Common.{◌≡◌, ℕ, List, [], ◌∷◌, ◌++◌, Option, Some, refl, ap, sym, subst, ◌∙◌, inl, inr, append_assoc, append-nil}
use Rattle.std.specs.Prelude.{option_map, slice_get}
use Rattle.std.specs.List.{AllByRecursion}
use Rattle.std.proofs.lemmas.Grind.{flat_map-append}
use Rattle.yl_text.proofs.Every.{all_both}
use Rattle.yl_sections.specs.Kept.{KeptValue}
use Rattle.yl_piece_reports.specs.Cuts.{AreCutsOf, IsCutOf, IsFaultless, IsInPieces}
use Rattle.yl_piece_reports.specs.Laws.{AreParted, CutsAreLocal}
use Rattle.yl_piece_reports.proofs.CutFound.{all_found, found_in}
use Rattle.yl_piece_reports.proofs.CutItems.{AreCut, all_comment_items, all_facts, all_rows, flat}
use Rattle.yl_piece_reports.proofs.CutShown.{none_cut, one_more}
use Rattle.yl_piece_reports.proofs.Same.{are_same, have_same, same_then}

-- ---- sections one after another

cut_both : (ks ls : List KeptValue) (cs ds : List (List KeptValue)) → AreCut ks cs → AreCut ls ds → AreCut (ks ++ ls) (cs ++ ds)
cut_both [] ls [] ds h g = g
cut_both [] ls (c ∷ cs) ds h g = absurd h
cut_both (k ∷ ks) ls [] ds h g = absurd h
cut_both (k ∷ ks) ls (c ∷ cs) ds h g = (h.0, cut_both ks ls cs ds h.1 g)

pub cuts_joined : (ks ls ps qs : List KeptValue) → AreCutsOf ks ps → AreCutsOf ls qs → AreCutsOf (ks ++ ls) (ps ++ qs)
cuts_joined ks ls ps qs h g = record {
  cuts = h.cuts ++ g.cuts;
  each = cut_both ks ls h.cuts g.cuts h.each g.each;
  all =
      ap (λ (xs : List KeptValue). xs ++ qs) h.all
      ∙ (ap (λ (ys : List KeptValue). flat h.cuts ++ ys) g.all ∙ sym (flat_map-append (λ (c : List KeptValue). c) h.cuts g.cuts));
}

cut_parted : (ks ls : List KeptValue) (cs : List (List KeptValue)) → AreCut (ks ++ ls) cs → AreParted ks ls (flat cs)
cut_parted [] ls cs h = record { front = []; back = flat cs; here = none_cut; there = record { cuts = cs; each = h; all = refl }; all = refl }
cut_parted (k ∷ ks) ls [] h = absurd h
cut_parted (k ∷ ks) ls (c ∷ cs) h =
    let r = cut_parted ks ls cs h.1 in
    record {
      front = c ++ r.front;
      back = r.back;
      here = one_more k c ks r.front h.0 r.here;
      there = r.there;
      all = ap (λ (xs : List KeptValue). c ++ xs) r.all ∙ sym (append_assoc c r.front r.back);
    }

cuts_parted : (ks ls ps : List KeptValue) → AreCutsOf (ks ++ ls) ps → AreParted ks ls ps
cuts_parted ks ls ps h = subst (AreParted ks ls) (sym h.all) (cut_parted ks ls h.cuts h.each)

-- ---- pieces of pieces

one_cut : (k : KeptValue) (cs : List (List KeptValue)) → AreCut (k ∷ []) cs → IsCutOf k (flat cs)
one_cut k [] h = absurd h
one_cut k (c ∷ []) h = subst (IsCutOf k) (sym (append-nil c)) h.0
one_cut k (c ∷ (d ∷ cs)) h = absurd h.1

part_faultless : (p : KeptValue) (c : List KeptValue) → IsCutOf p c → IsFaultless p → AllByRecursion IsFaultless c
part_faultless p c (inl e) h = subst (AllByRecursion IsFaultless) (sym e) (h, tt)
part_faultless p c (inr g) h = g.parts

parts_faultless : (ps : List KeptValue) (cs : List (List KeptValue)) → AreCut ps cs → AllByRecursion IsFaultless ps → AllByRecursion IsFaultless (flat cs)
parts_faultless [] [] h g = tt
parts_faultless [] (c ∷ cs) h g = absurd h
parts_faultless (p ∷ ps) [] h g = absurd h
parts_faultless (p ∷ ps) (c ∷ cs) h g = all_both IsFaultless c (flat cs) (part_faultless p c h.0 g.0) (parts_faultless ps cs h.1 g.1)

abbrev first_in : List KeptValue → Option ℕ
first_in ps = option_map (λ p. p.first) (slice_get ps 0)

front_first : (first : ℕ) (c ps : List KeptValue) → first_in c ≡ Some first → first_in (c ++ ps) ≡ Some first
front_first first [] ps e = cc
front_first first (p ∷ c) ps e = e

cut_first : (p : KeptValue) (c ps : List KeptValue) → IsCutOf p c → first_in (c ++ ps) ≡ Some p.first
cut_first p c ps (inl e) = ap (λ (d : List KeptValue). first_in (d ++ ps)) e
cut_first p c ps (inr g) = front_first p.first c ps g.first

parts_first : (ps : List KeptValue) (cs : List (List KeptValue)) → AreCut ps cs → first_in (flat cs) ≡ first_in ps
parts_first [] [] h = refl
parts_first [] (c ∷ cs) h = absurd h
parts_first (p ∷ ps) [] h = absurd h
parts_first (p ∷ ps) (c ∷ cs) h = cut_first p c (flat cs) h.0

pieces_further : (k : KeptValue) (ps : List KeptValue) (cs : List (List KeptValue)) → IsInPieces k ps → AreCut ps cs → IsInPieces k (flat cs)
pieces_further k ps cs h g = record {
  whole = h.whole;
  parts = parts_faultless ps cs g h.parts;
  first = parts_first ps cs g ∙ h.first;
  rows = all_rows ps cs g ∙ h.rows;
  found = have_same (found_in 0 (flat cs)) k.found (same_then (found_in 0 (flat cs)) (found_in 0 ps) k.found (all_found 0 ps cs g) (are_same (found_in 0 ps) k.found h.found));
  facts = all_facts 0 ps cs g ∙ h.facts;
  comments = all_comment_items 0 ps cs g ∙ h.comments;
}

cut_further : (k : KeptValue) (ps : List KeptValue) (cs : List (List KeptValue)) → IsCutOf k ps → AreCut ps cs → IsCutOf k (flat cs)
cut_further k ps cs (inl e) g = one_cut k cs (subst (λ (xs : List KeptValue). AreCut xs cs) e g)
cut_further k ps cs (inr h) g = inr (pieces_further k ps cs h g)

pub cuts_are_local : CutsAreLocal
cuts_are_local = record {
  joined = cuts_joined;
  parted = cuts_parted;
  replaced = λ above below before behind k ps h c g. cuts_joined above (k ∷ below) before (ps ++ behind) h (one_more k ps below behind c g);
  further = λ k ps qs c h. subst (IsCutOf k) (sym h.all) (cut_further k ps h.cuts c h.each);
}
