-- The pieces of all sections in one list: which are those of which sections, and their summaries.
use Rattle.std.proofs.Common.{◌≡◌, ◌<◌, ◌+◌, ℕ, List, [], ◌∷◌, ◌++◌, length, map, take, drop, refl, ap, sym, subst, ◌∙◌, inl, inr, arith}
use Rattle.std.specs.Prelude.{slice_get, Some, None}
use Rattle.std.specs.List.{AllZip, splice}
use Rattle.std.proofs.lemmas.List.{map-append}
use Rattle.std.proofs.lemmas.Option.{slice_get_within}
use Rattle.yl_config.specs.declared.config.Config.{Config}
use Rattle.yl_record.specs.Records.{RecordValue}
use Rattle.yl_sections.specs.Judge.{kept_of_section}
use Rattle.yl_sections.specs.Kept.{KeptValue, rows_kept}
use Rattle.yl_sections.specs.Local.{row_total}
use Rattle.yl_sections.proofs.Own.{own_rows}
use Rattle.yl_piece_reports.specs.Cuts.{AreCutsOf, IsCutOf}
use Rattle.yl_piece_reports.proofs.CutItems.{all_rows}
use Rattle.yl_piece_reports.proofs.Items.{rows_both}
use Rattle.yl_section_pieces.specs.Pieces.{IsKeptSection, PieceValue, summaries, whole_piece}
use Rattle.yl_section_pieces.specs.Sections.{AreKeptSections, ArePartedAt, IsInSection, IsSectionBorder, IsWholeSection, SectionsAreFound, SectionsAreListed}
use Rattle.yl_section_pieces.proofs.SectionsHeaded.{alone_is_whole, piece_after, section_headed}
use Rattle.yl_section_pieces.proofs.SectionsRuns.{taken_around}
use Rattle.yl_section_pieces.proofs.SectionsListed.{AreListed, IsInside, both_listed, flat, is_first, is_last, listed_inside, listed_parted, more_listed, none_listed, one_listed, replaced_listed, spliced_listed}

abbrev Sections : Type 0
Sections = List (List RecordValue)

-- ---- their summaries

cut_summaries : (config : Config) (ss : Sections) (cs : List (List PieceValue)) → AllZip (IsKeptSection config) ss cs
    → AllZip IsCutOf (map (kept_of_section config) ss) (map (λ c. summaries c) cs)
cut_summaries config [] [] h = tt
cut_summaries config [] (c ∷ cs) h = absurd h
cut_summaries config (rs ∷ ss) [] h = absurd h
cut_summaries config (rs ∷ ss) (c ∷ cs) h = (by h.0, cut_summaries config ss cs h.1)
  where
    by : IsKeptSection config rs c → IsCutOf (kept_of_section config rs) (summaries c)
    by (inl e) = inl (ap (λ (ps : List PieceValue). summaries ps) e)
    by (inr g) = inr g.0.cut

all_summaries : (cs : List (List PieceValue)) → summaries (flat cs) ≡ flat (map (λ c. summaries c) cs)
all_summaries [] = refl
all_summaries (c ∷ cs) = map-append (λ (p : PieceValue). p.kept) c (flat cs) ∙ ap (λ (ks : List KeptValue). summaries c ++ ks) (all_summaries cs)

section_cuts : (config : Config) (ss : Sections) (ps : List PieceValue)
    → AreKeptSections config ss ps → AreCutsOf (map (kept_of_section config) ss) (summaries ps)
section_cuts config ss ps h = record {
  cuts = map (λ c. summaries c) h.cuts;
  each = cut_summaries config ss h.cuts h.each;
  all = ap (λ (qs : List PieceValue). summaries qs) h.all ∙ all_summaries h.cuts;
}

-- ---- rows

section_rows : (config : Config) (ss : Sections) → rows_kept (map (kept_of_section config) ss) ≡ row_total ss
section_rows config [] = refl
section_rows config (rs ∷ ss) =
    let e : rows_kept (map (kept_of_section config) ss) ≡ row_total ss = section_rows config ss in
    let own : (kept_of_section config rs).rows ≡ length rs = own_rows config rs in
    omega (arith, e, own)

piece_rows : (config : Config) (ss : Sections) (ps : List PieceValue) → AreKeptSections config ss ps → rows_kept (summaries ps) ≡ row_total ss
piece_rows config ss ps h =
    let g = section_cuts config ss ps h in
    ap rows_kept g.all ∙ (all_rows (map (kept_of_section config) ss) g.cuts g.each ∙ section_rows config ss)

-- above a piece of a section that begins with the piece of index `start`
rows_until : (ps above : List PieceValue) (start i total : ℕ) → take i ps ≡ take start ps ++ above → rows_kept (summaries (take start ps)) ≡ total
    → rows_kept (summaries (take i ps)) ≡ total + rows_kept (summaries above)
rows_until ps above start i total e rows =
    ap (λ (qs : List PieceValue). rows_kept (summaries qs)) e
    ∙ (ap rows_kept (map-append (λ (p : PieceValue). p.kept) (take start ps) above)
    ∙ (rows_both (summaries (take start ps)) (summaries above) ∙ ap (λ (n : ℕ). n + rows_kept (summaries above)) rows))

-- ---- in one list

module _ (config : Config) where
  listed : (ss : Sections) (ps : List PieceValue) → AreKeptSections config ss ps → AreListed (IsKeptSection config) ss ps
  listed ss ps h = record { cuts = h.cuts; each = h.each; all = h.all }

  kept : (ss : Sections) (ps : List PieceValue) → AreListed (IsKeptSection config) ss ps → AreKeptSections config ss ps
  kept ss ps h = record { cuts = h.cuts; each = h.each; all = h.all }

  all_whole : (ss : Sections) → AreListed (IsKeptSection config) ss (map (whole_piece config) ss)
  all_whole [] = none_listed (IsKeptSection config)
  all_whole (rs ∷ ss) = more_listed (IsKeptSection config) rs (whole_piece config rs ∷ []) ss (map (whole_piece config) ss) (inl refl) (all_whole ss)

  parted_at : (ss : Sections) (ps : List PieceValue) (f : ℕ) → AreKeptSections config ss ps → IsSectionBorder ps f → ArePartedAt config ss ps f
  parted_at ss ps f h b =
      let r = listed_parted (IsKeptSection config) (λ (p : PieceValue). p.before) (section_headed config) ss ps f (listed ss ps h) b in
      let above = kept (take r.sections ss) (take f ps) r.above in
      record {
        sections = r.sections;
        above = above;
        below = kept (drop r.sections ss) (drop f ps) r.below;
        within = r.within;
        last = r.last;
        rows = piece_rows config (take r.sections ss) (take f ps) above;
      }

  in_section : (ss : Sections) (ps : List PieceValue) (i : ℕ) (x : PieceValue)
      → AreKeptSections config ss ps → slice_get ps i ≡ Some x → IsInSection config ss ps i x
  in_section ss ps i x h e =
      let r = listed_inside (IsKeptSection config) ss ps i x (listed ss ps h) e in
      let above = kept (take r.section ss) (take r.start ps) r.front in
      let rows = piece_rows config (take r.section ss) (take r.start ps) above in
      let until = taken_around ps r.above r.below r.start (i + 1 + length r.below) i x r.all r.place (slice_get_within ps i x e) in
      record {
        section = r.section;
        rows = r.rows;
        start = r.start;
        above = r.above;
        below = r.below;
        there = r.there;
        kept = r.kept;
        place = r.place;
        all = r.all;
        sections_above = above;
        sections_below = kept (drop (r.section + 1) ss) (drop (i + 1 + length r.below) ps) r.back;
        rows_above = rows;
        rows_before = rows_until ps r.above r.start i (row_total (take r.section ss)) until rows;
      }

  first_above : (ss : Sections) (ps : List PieceValue) (i : ℕ) (x : PieceValue) (h : IsInSection config ss ps i x) → x.before ≡ None → h.above ≡ []
  first_above ss ps i x h none = is_first (λ (p : PieceValue). p.before) h.above x h.below (section_headed config h.rows (h.above ++ (x ∷ h.below)) h.kept) none

  last_below : (ss : Sections) (ps : List PieceValue) (i : ℕ) (x : PieceValue) (h : IsInSection config ss ps i x)
      → i < length ps → IsSectionBorder ps (i + 1) → h.below ≡ []
  last_below ss ps i x h within border =
      is_last (λ (p : PieceValue). p.before) ps h.above h.below h.start (i + 1 + length h.below) i x h.all h.place within
      (section_headed config h.rows (h.above ++ (x ∷ h.below)) h.kept) border

  whole_section : (ss : Sections) (ps : List PieceValue) (i : ℕ) (x : PieceValue)
      → AreKeptSections config ss ps → slice_get ps i ≡ Some x → x.before ≡ None
      → IsSectionBorder ps (i + 1) → IsWholeSection config ss ps i x
  whole_section ss ps i x h e none border =
      let r = in_section ss ps i x h e in
      let no_above : r.above ≡ [] = first_above ss ps i x r none in
      let no_below : r.below ≡ [] = last_below ss ps i x r (slice_get_within ps i x e) border in
      let start_is : r.start ≡ i = omega (arith, r.place, ap length no_above) in
      let end_is : i + 1 + length r.below ≡ i + 1 = omega (arith, ap length no_below) in
      let alone : IsKeptSection config r.rows (x ∷ []) =
      subst (λ (qs : List PieceValue). IsKeptSection config r.rows (qs ++ (x ∷ []))) no_above
      (subst (λ (qs : List PieceValue). IsKeptSection config r.rows (r.above ++ (x ∷ qs))) no_below r.kept) in
      record {
        section = r.section;
        rows = r.rows;
        there = r.there;
        whole = alone_is_whole config r.rows x alone;
        sections_above = subst (λ (n : ℕ). AreKeptSections config (take r.section ss) (take n ps)) start_is r.sections_above;
        sections_below = subst (λ (n : ℕ). AreKeptSections config (drop (r.section + 1) ss) (drop n ps)) end_is r.sections_below;
        rows_above = ap (λ (n : ℕ). rows_kept (summaries (take n ps))) (sym start_is) ∙ r.rows_above;
      }

  abbrev inside : (ss : Sections) (ps : List PieceValue) (i : ℕ) (x : PieceValue)
      → IsInSection config ss ps i x → IsInside (IsKeptSection config) ss ps i x
  inside ss ps i x h = record {
    section = h.section;
    start = h.start;
    rows = h.rows;
    above = h.above;
    below = h.below;
    there = h.there;
    kept = h.kept;
    place = h.place;
    front = listed (take h.section ss) (take h.start ps) h.sections_above;
    back = listed (drop (h.section + 1) ss) (drop (i + 1 + length h.below) ps) h.sections_below;
    all = h.all;
  }

pub sections_are_listed : SectionsAreListed
sections_are_listed = record {
  none = λ config. kept config [] [] (none_listed (IsKeptSection config));
  one = λ config rs ps h. kept config (rs ∷ []) ps (one_listed (IsKeptSection config) rs ps h);
  joined = λ config ss ts ps qs h g. kept config (ss ++ ts) (ps ++ qs) (both_listed (IsKeptSection config) ss ts ps qs (listed config ss ps h) (listed config ts qs g));
  spliced = λ config ss ns ps nps p q f e above new below.
      kept config (splice ss p q ns) (splice ps f e nps)
      (spliced_listed (IsKeptSection config) ss ns ps nps p q f e
      (listed config (take p ss) (take f ps) above) (listed config ns nps new) (listed config (drop q ss) (drop e ps) below));
  whole = λ config ss. kept config ss (map (whole_piece config) ss) (all_whole config ss);
  cuts = section_cuts;
  rows = piece_rows;
}

pub sections_are_found : SectionsAreFound
sections_are_found = record {
  heads = section_headed;
  parted = parted_at;
  inside = in_section;
  first = first_above;
  last = last_below;
  whole = whole_section;
  after = piece_after;
  replaced = λ config ss ps i x h rs y e k.
      kept config (splice ss h.section (h.section + 1) (rs ∷ [])) (splice ps i (i + 1) (y ∷ []))
      (replaced_listed (IsKeptSection config) ss ps i x (inside config ss ps i x h) rs y e k);
}
