-- The sections of rows, cut into pieces one after another.
use Rattle.std.proofs.Common.{◌≡◌, ◌<◌, ◌≤◌, ◌+◌, ℕ, zero, suc, List, [], ◌∷◌, ◌++◌, length, map, take, drop, get_or, Some, None, refl, sym, ◌∙◌, ap, subst, arith}
use Rattle.std.specs.Prelude.{slice_get}
use Rattle.std.proofs.lemmas.List.{length-append, length-map, take_at, drop_at, take_more}
use Rattle.std.proofs.lemmas.Option.{get_or_from_slice_get, slice_get_within}
use Rattle.yl_config.specs.declared.config.Config.{Config}
use Rattle.yl_record.specs.Records.{RecordValue}
use Rattle.yl_sections.specs.Judge.{kept_of_section}
use Rattle.yl_sections.specs.Kept.{KeptValue}
use Rattle.yl_sections.specs.Local.{all_rows, row_total}
use Rattle.yl_sections.specs.Sections.{sections}
use Rattle.yl_sections.proofs.Local.{joined_parts}
use Rattle.yl_sections.proofs.Own.{own_rows}
use Rattle.yl_rejudge.proofs.SectionsEdited.{rows_whole}
use Rattle.yl_section_pieces.specs.Pieces.{IsKeptSection, PieceValue}
use Rattle.yl_section_pieces.specs.Sections.{AreKeptSections}
use Rattle.yl_section_pieces.proofs.Sections as laws
use Rattle.yl_piece_list.proofs.RowRuns.{rows_around}

Rows : Type 0
Rows = List RecordValue

record IsOf (config : Config) (ss : List (List RecordValue)) (n : ℕ) (k : KeptValue) : Type 0 where
  rows : List RecordValue
  there : slice_get ss n ≡ Some rows
  kept : k ≡ kept_of_section config rows

of_item : (config : Config) (ss : List (List RecordValue)) (n : ℕ) (k : KeptValue) → n < length ss → k ≡ get_or (map (kept_of_section config) ss) n k → IsOf config ss n k
of_item config [] n k l e = absurd (omega arith)
of_item config (s ∷ ss) zero k l e = record { rows = s; there = refl; kept = e }
of_item config (s ∷ ss) (suc n) k l e = let d = of_item config ss n k (omega arith) e in record { rows = d.rows; there = d.there; kept = d.kept }

pub total_more : (ss : List (List RecordValue)) (n : ℕ) (s : List RecordValue) → slice_get ss n ≡ Some s → row_total (take (suc n) ss) ≡ row_total (take n ss) + length s
total_more [] n s e = absurd (cc)
total_more (r ∷ ss) zero s e = let same : r ≡ s = cc in let long = ap (λ (es : List RecordValue). length es) same in omega (arith, long)
total_more (r ∷ ss) (suc n) s e = let h = total_more ss n s e in omega (arith, h)

-- the next section: its rows stand from row `row` on
pub record IsNext (config : Config) (rs : List RecordValue) (n row : ℕ) (k : KeptValue) : Type 0 where
  pub rows : List RecordValue
  pub there : slice_get (sections rs) n ≡ Some rows
  pub kept : k ≡ kept_of_section config rows
  pub own : take k.rows (drop row rs) ≡ rows
  pub fits : row + k.rows ≤ length rs
  pub next : row + k.rows ≡ row_total (take (suc n) (sections rs))

pub next_at : (config : Config) (rs : List RecordValue) (judged : List KeptValue) (n row : ℕ) (k : KeptValue)
    → judged ≡ map (kept_of_section config) (sections rs) → row ≡ row_total (take n (sections rs)) → n < length judged → k ≡ get_or judged n k
    → IsNext config rs n row k
next_at config rs judged n row k is at l e =
    let count = ap (λ (js : List KeptValue). length js) is ∙ length-map (sections rs) (kept_of_section config) in
    let d = of_item config (sections rs) n k (omega (arith, l, count)) (e ∙ ap (λ (js : List KeptValue). get_or js n k) is) in
    let front = all_rows (take n (sections rs)) in
    let back = all_rows (drop (n + 1) (sections rs)) in
    let all : rs ≡ front ++ (d.rows ++ back) = sym (joined_parts None rs) ∙ rows_around (sections rs) n d.rows d.there in
    let long : length front ≡ row = sym (rows_whole (take n (sections rs))) ∙ sym at in
    let rows : k.rows ≡ length d.rows = ap (λ (j : KeptValue). j.rows) d.kept ∙ own_rows config d.rows in
    record {
      rows = d.rows;
      there = d.there;
      kept = d.kept;
      own =
          ap (λ (ys : List RecordValue). take k.rows (drop row ys)) all
          ∙ (ap (λ (ys : List RecordValue). take k.rows ys) (drop_at front (d.rows ++ back) row long) ∙ take_at d.rows back k.rows (sym rows));
      fits =
          let total = ap (λ (ys : List RecordValue). length ys) all in
          omega (arith, total, length-append front (d.rows ++ back), length-append d.rows back, long, rows);
      next = omega (arith, total_more (sections rs) n d.rows d.there, at, rows);
    }

-- one more section is cut
pub cut_more : (config : Config) (rs : List RecordValue) (n row : ℕ) (k : KeptValue) (ps own all : List PieceValue) (d : IsNext config rs n row k)
    → AreKeptSections config (take n (sections rs)) ps
    → (k ≡ kept_of_section config (take k.rows (drop row rs)) → IsKeptSection config (take k.rows (drop row rs)) own) → all ≡ ps ++ own
    → AreKeptSections config (take (suc n) (sections rs)) all
cut_more config rs n row k ps own all d above cut is =
    let kept : IsKeptSection config d.rows own = subst (λ (es : List RecordValue). IsKeptSection config es own) d.own (cut (d.kept ∙ ap (kept_of_section config) (sym d.own))) in
    let both = laws.sections_are_listed.joined config (take n (sections rs)) (d.rows ∷ []) ps own above (laws.sections_are_listed.one config d.rows own kept) in
    let l : n < length (sections rs) = slice_get_within (sections rs) n d.rows d.there in
    let one : suc n ≡ n + 1 = omega arith in
    let more : take (suc n) (sections rs) ≡ take n (sections rs) ++ d.rows ∷ [] =
    ap (λ (m : ℕ). take m (sections rs)) one
    ∙ (take_more (sections rs) n d.rows l ∙ ap (λ (s : List RecordValue). take n (sections rs) ++ s ∷ []) (get_or_from_slice_get (sections rs) n d.rows d.rows d.there)) in
    subst (λ (us : List (List RecordValue)). AreKeptSections config us all) (sym more)
    (subst (λ (qs : List PieceValue). AreKeptSections config (take n (sections rs) ++ d.rows ∷ []) qs) (sym is) both)
