-- Values typed again in a section that is one piece: all pieces stay.
use Rattle.std.proofs.Common.{◌≡◌, ◌<◌, ◌≤◌, ◌+◌, ℕ, zero, suc, List, [], ◌∷◌, ◌++◌, length, map, take, drop, Some, None, refl, sym, ◌∙◌, ap, subst, inl, inr, arith}
use Rattle.std.specs.Prelude.{slice_get}
use Rattle.std.specs.List.{AllZip, splice}
use Rattle.std.proofs.lemmas.Bool.{cases_lt}
use Rattle.std.proofs.lemmas.List.{length-append, length-drop, length-map, length-take-le}
use Rattle.yl_config.specs.declared.config.Config.{Config}
use Rattle.yl_record.specs.Records.{RecordValue}
use Rattle.yl_sections.specs.Judge.{kept_of_section}
use Rattle.yl_sections.specs.Kept.{KeptValue}
use Rattle.yl_sections.specs.Sections.{sections}
use Rattle.yl_rejudge.specs.Places.{changed_sections}
use Rattle.yl_section_pieces.specs.Pieces.{IsKeptSection, PieceValue, whole_piece}
use Rattle.yl_section_pieces.specs.Sections.{AreKeptSections}
use Rattle.yl_section_pieces.proofs.Sections as laws
use Rattle.yl_section_pieces.proofs.SectionsRuns.{at_second}
use Rattle.yl_section_pieces.proofs.SectionsListed.{flat}
use Rattle.yl_piece_list.proofs.Starts.{start_at, starts_ordered}
use Rattle.yl_piece_list.proofs.Flat.{IsFound, apart, put}

-- ---- lists

put_same : {X : Type 0} (xs : List X) (i : ℕ) (y : X) → slice_get xs i ≡ Some y → splice xs i (suc i) (y ∷ []) ≡ xs
put_same [] i y e = absurd (cc)
put_same (x ∷ xs) zero y e = let same : y ≡ x = cc in ap (λ (z : _). z ∷ xs) same
put_same (x ∷ xs) (suc i) y e = ap (λ (zs : List _). x ∷ zs) (put_same xs i y e)

map_at : {X Y : Type 0} (f : X → Y) (xs : List X) (i : ℕ) (x : X) → slice_get xs i ≡ Some x → slice_get (map f xs) i ≡ Some (f x)
map_at f [] i x e = absurd (cc)
map_at f (y ∷ xs) zero x e = let same : y ≡ x = cc in ap (λ z. Some (f z)) same
map_at f (y ∷ xs) (suc i) x e = map_at f xs i x e

put_at : {X : Type 0} (xs : List X) (i : ℕ) (y : X) (end : ℕ) → i ≤ length xs → slice_get (splice xs i end (y ∷ [])) i ≡ Some y
put_at xs i y end l =
    let long = length-take-le i xs l in
    let e : length (take i xs) + 0 ≡ i = omega (arith, long) in
    ap (λ n. slice_get (splice xs i end (y ∷ [])) n) (sym e) ∙ at_second (take i xs) (y ∷ drop end xs) 0

-- ---- a section of one piece

record IsOneCut (K : List RecordValue → List PieceValue → Type 0) (ss : List (List RecordValue)) (cs : List (List PieceValue)) (p : ℕ) : Type 0 where
  rows : List RecordValue
  piece : PieceValue
  there : slice_get ss p ≡ Some rows
  kept : K rows (piece ∷ [])
  at : slice_get (flat cs) (start_at cs p) ≡ Some piece

one_cut : (K : List RecordValue → List PieceValue → Type 0) (ss : List (List RecordValue)) (cs : List (List PieceValue)) (p : ℕ)
    → AllZip K ss cs → p < length ss → start_at cs (suc p) ≡ start_at cs p + 1 → IsOneCut K ss cs p
one_cut K [] cs p h l e = absurd (omega arith)
one_cut K (s ∷ ss) [] p h l e = absurd h
one_cut K (s ∷ ss) ([] ∷ cs) zero h l e = absurd (omega arith)
one_cut K (s ∷ ss) ((y ∷ []) ∷ cs) zero h l e = record { rows = s; piece = y; there = refl; kept = h.0; at = refl }
one_cut K (s ∷ ss) ((y ∷ (z ∷ ys)) ∷ cs) zero h l e = absurd (omega arith)
one_cut K (s ∷ ss) (c ∷ cs) (suc p) h l e =
    let d = one_cut K ss cs p h.1 (omega arith) (omega arith) in
    record { rows = d.rows; piece = d.piece; there = d.there; kept = d.kept; at = at_second c (flat cs) (start_at cs p) ∙ d.at }

whole_only : (config : Config) (rs : List RecordValue) (y : PieceValue) → IsKeptSection config rs (y ∷ []) → y ≡ whole_piece config rs
whole_only config rs y (inl e) = cc
whole_only config rs y (inr g) = absurd (omega (arith, g.1))

-- ---- the pieces stay

module _ (config : Config) (old new : List RecordValue) (ps : List PieceValue) (h : AreKeptSections config (sections old) ps) (f e x z from end : ℕ) where
  count_of : (p : ℕ) (cs : List (List RecordValue)) → suc p ≤ length (sections old) → splice (sections old) p (suc p) cs ≡ sections new
      → map (kept_of_section config) (sections old) ≡ map (kept_of_section config) (sections new) → length cs ≡ 1
  count_of p cs w is same =
      let n = ap (λ (js : List KeptValue). length js) same in
      let m = ap (λ (us : List (List RecordValue)). length us) is in
      omega (
        arith,
        n,
        m,
        length-map (sections old) (kept_of_section config),
        length-map (sections new) (kept_of_section config),
        length-append (take p (sections old)) (cs ++ drop (suc p) (sections old)),
        length-append cs (drop (suc p) (sections old)),
        length-take-le p (sections old) (omega (arith, w)),
        length-drop (suc p) (sections old),
      )

  stays_by : (d : IsFound config old ps h new f e x z from end) (cs : List (List RecordValue)) → d.q ≡ suc d.p → e ≡ f + 1
      → splice (sections old) d.p d.q cs ≡ sections new → length cs ≡ 1
      → map (kept_of_section config) (sections old) ≡ map (kept_of_section config) (sections new) → AreKeptSections config (sections new) ps
  stays_by d [] qe one is long same = absurd (omega arith)
  stays_by d (c ∷ (b ∷ cs)) qe one is long same = absurd (omega arith)
  stays_by d (c ∷ []) qe one is long same =
      let within : d.p < length (sections old) = omega (arith, d.q_within, qe) in
      let next : start_at h.cuts (suc d.p) ≡ start_at h.cuts d.p + 1 =
      ap (λ n. start_at h.cuts n) (sym qe) ∙ (sym d.q_at ∙ (one ∙ ap (λ n. n + 1) d.p_at)) in
      let o = one_cut (IsKeptSection config) (sections old) h.cuts d.p h.each within next in
      let whole : o.piece ≡ whole_piece config o.rows = whole_only config o.rows o.piece o.kept in
      let here : slice_get ps f ≡ Some o.piece = ap (λ (qs : List PieceValue). slice_get qs f) h.all ∙ (ap (λ n. slice_get (flat h.cuts) n) d.p_at ∙ o.at) in
      let was : slice_get (map (kept_of_section config) (sections old)) d.p ≡ Some (kept_of_section config o.rows) = map_at (kept_of_section config) (sections old) d.p o.rows o.there in
      let now : slice_get (map (kept_of_section config) (sections new)) d.p ≡ Some (kept_of_section config c) =
      map_at (kept_of_section config) (sections new) d.p c (ap (λ (us : List (List RecordValue)). slice_get us d.p) (sym is) ∙ put_at (sections old) d.p c d.q d.p_within) in
      let as_was : Some (kept_of_section config o.rows) ≡ Some (kept_of_section config c) = sym was ∙ (ap (λ (js : List KeptValue). slice_get js d.p) same ∙ now) in
      let kept : kept_of_section config o.rows ≡ kept_of_section config c = of_some (kept_of_section config o.rows) (kept_of_section config c) as_was in
      let piece : whole_piece config o.rows ≡ whole_piece config c = λ j. record { kept = kept j; before = None } in
      let cut : IsKeptSection config c (o.piece ∷ []) = inl (ap (λ (y : PieceValue). y ∷ []) (whole ∙ piece)) in
      let all = put config old ps h new f f e x x x z from from end d (c ∷ []) (o.piece ∷ []) is (laws.sections_are_listed.one config c (o.piece ∷ []) cut) in
      let last : e ≡ suc f = omega (arith, one) in
      subst (λ (qs : List PieceValue). AreKeptSections config (sections new) qs)
      (ap (λ n. splice ps f n (o.piece ∷ [])) last ∙ put_same ps f o.piece here) all
    where
      of_some : (a b : KeptValue) → Some a ≡ Some b → a ≡ b
      of_some a b e = cc

  pub stays : (d : IsFound config old ps h new f e x z from end) → e ≡ f + 1
      → map (kept_of_section config) (sections old) ≡ map (kept_of_section config) (sections new) → AreKeptSections config (sections new) ps
  stays d one same =
      let low : d.p < d.q = elim (cases_lt d.p d.q) [
        | inl l ↦ l
        | inr l ↦ absurd (omega (arith, starts_ordered h.cuts d.q d.p l, d.p_at, d.q_at, one))
      ] in
      let qe : d.q ≡ suc d.p = elim (cases_lt (suc d.p) d.q) [
        | inl l ↦ absurd (omega (arith, apart config old ps h (suc d.p) d.q l d.q_within, apart config old ps h d.p (suc d.p) (omega arith) (omega (arith, l, d.q_within)), d.p_at, d.q_at, one))
        | inr l ↦ omega (arith, low, l)
      ] in
      let is = d.outcome.changed in
      let cs = changed_sections d.p x z new in
      stays_by d cs qe one is (count_of d.p cs (omega (arith, d.q_within, qe)) (ap (λ n. splice (sections old) d.p n cs) (sym qe) ∙ is) same) same
