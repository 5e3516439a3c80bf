-- The fault of sections and of their pieces, and which of both are shown.
use Rattle.std.proofs.Common.{◌≡◌, ℕ, ◌+◌, List, [], ◌∷◌, ◌++◌, Option, Some, None, refl, ap, sym, subst, ◌∙◌, inl, inr, arith}
use Rattle.std.specs.Prelude.{option_map, slice_get}
use Rattle.std.specs.List.{AllByRecursion}
use Rattle.std.specs.Option.{option_map_or}
use Rattle.yl_text.specs.declared.position.Pos.{Pos}
use Rattle.yl_text.specs.Finding.{FindingValue}
use Rattle.yl_sections.specs.Kept.{KeptValue, SectionFaultValue, Here, Behind, rows_kept, unless_fault}
use Rattle.yl_lint.specs.TextReport.{fault_in_sections, finding_of_fault, place_after, shown, syntax_finding}
use Rattle.yl_piece_reports.specs.Cuts.{AreCutsOf, IsCutOf, IsFaultless}
use Rattle.yl_piece_reports.proofs.CutItems.{AreCut, flat}

-- ---- where a section before these ends

first_is : (n : ℕ) (end : Pos) (first : ℕ) (c ps : List KeptValue) → option_map (λ (p : KeptValue). p.first) (slice_get c 0) ≡ Some first
    → place_after n end (c ++ ps) ≡ record { line = n; col = first }
first_is n end first [] ps e = cc
first_is n end first (p ∷ c) ps e = let same : p.first ≡ first = cc in λ i. record { line = n; col = same i }

all_place : (n : ℕ) (end : Pos) (ks : List KeptValue) (cs : List (List KeptValue)) → AreCut ks cs → place_after n end (flat cs) ≡ place_after n end ks
all_place n end [] [] h = refl
all_place n end [] (c ∷ cs) h = absurd h
all_place n end (k ∷ ks) [] h = absurd h
all_place n end (k ∷ ks) (c ∷ cs) h = by h.0
  where
    by : IsCutOf k c → place_after n end (c ++ flat cs) ≡ place_after n end (k ∷ ks)
    by (inl e) = ap (λ (d : List KeptValue). place_after n end (d ++ flat cs)) e
    by (inr g) = first_is n end k.first c (flat cs) g.first

-- ---- the text's fault

fault_behind : (line rows : ℕ) (end : Pos) (ps ks : List KeptValue) (f : SectionFaultValue) → place_after (line + rows) end ps ≡ place_after (line + rows) end ks
    → finding_of_fault line rows end ps f ≡ finding_of_fault line rows end ks f
fault_behind line rows end ps ks (Here p text) e = refl
fault_behind line rows end ps ks (Behind text) e = ap (λ (p : Pos). syntax_finding p text) e

one_fault : (line rows : ℕ) (end : Pos) (ps ks : List KeptValue) (o : Option SectionFaultValue) → place_after (line + rows) end ps ≡ place_after (line + rows) end ks
    → fault_in_sections (line + rows) end ps ≡ fault_in_sections (line + rows) end ks
    → option_map_or (λ f. finding_of_fault line rows end ps f ∷ []) o (fault_in_sections (line + rows) end ps)
    ≡ option_map_or (λ f. finding_of_fault line rows end ks f ∷ []) o (fault_in_sections (line + rows) end ks)
one_fault line rows end ps ks None e g = g
one_fault line rows end ps ks (Some f) e g = ap (λ (x : FindingValue). x ∷ []) (fault_behind line rows end ps ks f e)

-- one that has none
no_fault : (line : ℕ) (end : Pos) (k : KeptValue) (ks : List KeptValue) → k.fault ≡ None → fault_in_sections line end (k ∷ ks) ≡ fault_in_sections (line + k.rows) end ks
no_fault line end k ks e = ap (λ (o : Option SectionFaultValue). option_map_or (λ f. finding_of_fault line k.rows end ks f ∷ []) o (fault_in_sections (line + k.rows) end ks)) e

none_before : (line : ℕ) (end : Pos) (c ps : List KeptValue) → AllByRecursion IsFaultless c → fault_in_sections line end (c ++ ps) ≡ fault_in_sections (line + rows_kept c) end ps
none_before line end [] ps h = let e : line ≡ line + 0 = omega arith in ap (λ (n : ℕ). fault_in_sections n end ps) e
none_before line end (p ∷ c) ps h =
    let e : line + p.rows + rows_kept c ≡ line + (p.rows + rows_kept c) = omega arith in
    no_fault line end p (c ++ ps) h.0.fault ∙ (none_before (line + p.rows) end c ps h.1 ∙ ap (λ (n : ℕ). fault_in_sections n end ps) e)

pub all_faults : (line : ℕ) (end : Pos) (ks : List KeptValue) (cs : List (List KeptValue)) → AreCut ks cs → fault_in_sections line end (flat cs) ≡ fault_in_sections line end ks
all_faults line end [] [] h = refl
all_faults line end [] (c ∷ cs) h = absurd h
all_faults line end (k ∷ ks) [] h = absurd h
all_faults line end (k ∷ ks) (c ∷ cs) h = by h.0 (all_faults (line + k.rows) end ks cs h.1)
  where
    by : IsCutOf k c → fault_in_sections (line + k.rows) end (flat cs) ≡ fault_in_sections (line + k.rows) end ks
        → fault_in_sections line end (c ++ flat cs) ≡ fault_in_sections line end (k ∷ ks)
    by (inl e) g =
        ap (λ (d : List KeptValue). fault_in_sections line end (d ++ flat cs)) e
        ∙ one_fault line k.rows end (flat cs) ks k.fault (all_place (line + k.rows) end ks cs h.1) g
    by (inr p) g =
        none_before line end c (flat cs) p.parts
        ∙ (ap (λ (n : ℕ). fault_in_sections (line + n) end (flat cs)) p.rows ∙ (g ∙ sym (no_fault line end k ks p.whole.fault)))

-- ---- what is shown

shown_more : (k : KeptValue) (ks : List KeptValue) → k.fault ≡ None → shown (k ∷ ks) ≡ k ∷ shown ks
shown_more k ks e = ap (λ (o : Option SectionFaultValue). k ∷ unless_fault o (shown ks)) e

shown_behind : (c ps : List KeptValue) → AllByRecursion IsFaultless c → shown (c ++ ps) ≡ c ++ shown ps
shown_behind [] ps h = refl
shown_behind (p ∷ c) ps h = shown_more p (c ++ ps) h.0.fault ∙ ap (λ (qs : List KeptValue). p ∷ qs) (shown_behind c ps h.1)

pub none_cut : AreCutsOf [] []
none_cut = record { cuts = []; each = tt; all = refl }

pub one_more : (k : KeptValue) (c ks ps : List KeptValue) → IsCutOf k c → AreCutsOf ks ps → AreCutsOf (k ∷ ks) (c ++ ps)
one_more k c ks ps h g = record { cuts = c ∷ g.cuts; each = (h, g.each); all = ap (λ (qs : List KeptValue). c ++ qs) g.all }

unless_cut : (o : Option SectionFaultValue) (ks ps : List KeptValue) → AreCutsOf ks ps → AreCutsOf (unless_fault o ks) (unless_fault o ps)
unless_cut None ks ps h = h
unless_cut (Some f) ks ps h = none_cut

pub all_shown : (ks : List KeptValue) (cs : List (List KeptValue)) → AreCut ks cs → AreCutsOf (shown ks) (shown (flat cs))
all_shown [] [] h = none_cut
all_shown [] (c ∷ cs) h = absurd h
all_shown (k ∷ ks) [] h = absurd h
all_shown (k ∷ ks) (c ∷ cs) h = by h.0 (all_shown ks cs h.1)
  where
    by : IsCutOf k c → AreCutsOf (shown ks) (shown (flat cs)) → AreCutsOf (shown (k ∷ ks)) (shown (c ++ flat cs))
    by (inl e) g =
        subst (λ (d : List KeptValue). AreCutsOf (shown (k ∷ ks)) (shown (d ++ flat cs))) (sym e)
        (one_more k (k ∷ []) (unless_fault k.fault (shown ks)) (unless_fault k.fault (shown (flat cs))) (inl refl) (unless_cut k.fault (shown ks) (shown (flat cs)) g))
    by (inr p) g =
        subst (λ (ls : List KeptValue). AreCutsOf ls (shown (c ++ flat cs))) (sym (shown_more k ks p.whole.fault))
        (subst (λ (qs : List KeptValue). AreCutsOf (k ∷ shown ks) qs) (sym (shown_behind c (flat cs) p.parts)) (one_more k c (shown ks) (shown (flat cs)) (inr p) g))
