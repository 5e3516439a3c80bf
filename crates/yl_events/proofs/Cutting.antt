-- Cuts from the back.
use Rattle.std.specs.Prelude.{ℕ, zero, suc, ◌≡◌, ◌≤◌, ◌<◌, ◌==◌, ◌-◌, refl, Bool, false, not, ◌||◌, ◌&&◌, cond, if◌then◌else◌, List, [], ◌∷◌, ◌++◌, length, map, drop, reverse}
use Rattle.std.proofs.Common.{sym, ◌∙◌, ap, get_or, arith, drop-cons}
use Rattle.std.proofs.lemmas.List.{reverse-append, reverse-reverse, drop-map, length-drop, length-map}
use Rattle.yl_lexeme.specs.declared.lexeme.Kind.{Kind}
use Rattle.yl_events.specs.Documents.{is_document_end, is_document_start, is_directive, starts_marked, is_cut, cuts_behind, beginnings}

-- the cuts behind the first of these lexemes, which stands at this place
abbrev pub cuts_from : ℕ → List Kind → List ℕ
cuts_from place [] = []
cuts_from place (k ∷ ks) = cuts_behind place k ks

no_cuts : (ks : List Kind) (p : ℕ) → length ks ≤ 1 → cuts_from p ks ≡ []
no_cuts [] p h = refl
no_cuts (k ∷ []) p h = refl
no_cuts (k ∷ l ∷ ks) p h = absurd (omega arith)

-- at the end nothing is cut
pub none_at_end : {X : Type 0} (f : X → Kind) (xs : List X) → [] ≡ reverse (cuts_from (length xs - 1) (drop (length xs - 1) (map f xs)))
none_at_end f xs = ap reverse (sym (no_cuts (drop (length xs - 1) (map f xs)) (length xs - 1) (omega (arith, length-drop (length xs - 1) (map f xs), length-map xs f))))

unmarked : (ks : List Kind) → length ks ≤ 0 → false ≡ starts_marked ks
unmarked [] h = refl
unmarked (k ∷ ks) h = absurd (omega arith)

pub unmarked_at_end : {X : Type 0} (f : X → Kind) (xs : List X) → false ≡ starts_marked (drop (length xs) (map f xs))
unmarked_at_end f xs = unmarked (drop (length xs) (map f xs)) (omega (arith, length-drop (length xs) (map f xs), length-map xs f))

-- the lexeme at a place, and those behind it
pub kind_at : {X : Type 0} (f : X → Kind) (xs : List X) (j i : ℕ) (d : X) (k : Kind) → i ≡ suc j → j < length xs → k ≡ f (get_or xs j d) → drop j (map f xs) ≡ k ∷ drop i (map f xs)
kind_at f xs j i d k e h is =
    drop-map f j xs ∙ ap (map f) (drop-cons xs j d h) ∙ ap (λ y. y ∷ map f (drop (suc j) xs)) (sym is) ∙ ap (λ l. k ∷ l) (sym (drop-map f (suc j) xs))
    ∙ ap (λ n. k ∷ drop n (map f xs)) (sym e)

pub marked_step : (ks rest : List Kind) (k : Kind) (m n : Bool) → ks ≡ k ∷ rest → m ≡ starts_marked rest → n ≡ (is_document_start k || (is_directive k && m)) → n ≡ starts_marked ks
marked_step ks rest k m n e h g = g ∙ ap (λ b. is_document_start k || (is_directive k && b)) h ∙ ap starts_marked (sym e)

cut_at : (p i : ℕ) (k l : Kind) (rest : List Kind) (b : Bool) → i ≡ suc p → is_cut k (l ∷ rest) ≡ b →
    cuts_behind p k (l ∷ rest) ≡ (if b then i ∷ cuts_behind i l rest else cuts_behind i l rest)
cut_at p i k l rest b e h =
    ap (λ v. cond v (suc p ∷ cuts_behind (suc p) l rest) (cuts_behind (suc p) l rest)) h ∙ ap (λ n. cond b (n ∷ cuts_behind n l rest) (cuts_behind n l rest)) (sym e)

pub cut_step : (p i : ℕ) (k l : Kind) (here next rest : List Kind) (m b : Bool) → i ≡ suc p → here ≡ k ∷ next → next ≡ l ∷ rest →
    m ≡ starts_marked next → b ≡ (is_document_end k || (not (is_directive k) && m)) → cuts_from p here ≡ (if b then i ∷ cuts_from i next else cuts_from i next)
cut_step p i k l here next rest m b e h n sm sb =
    ap (cuts_from p) h ∙ ap (cuts_behind p k) n
    ∙ cut_at p i k l rest b e (sym (sb ∙ ap (λ v. is_document_end k || (not (is_directive k) && v)) (sm ∙ ap starts_marked n)))
    ∙ ap (λ o. cond b (i ∷ cuts_from i o) (cuts_from i o)) (sym n)

pub one_more : (i : ℕ) (cs ds old new : List ℕ) → cs ≡ i ∷ ds → old ≡ reverse ds → new ≡ old ++ i ∷ [] → new ≡ reverse cs
one_more i cs ds old new e o n = n ∙ ap (λ l. l ++ i ∷ []) o ∙ sym (reverse-append (i ∷ []) ds) ∙ ap reverse (sym e)

all_cuts : (ks : List Kind) → 0 < length ks → 0 ∷ cuts_from 0 ks ≡ beginnings ks
all_cuts [] h = absurd (omega arith)
all_cuts (k ∷ ks) h = refl

-- with the first document's
pub beginnings_of : {X : Type 0} (f : X → Kind) (xs : List X) (i : ℕ) (old pushed new : List ℕ) → 0 < length xs → i ≤ 1 → old ≡ reverse (cuts_from (i - 1) (drop (i - 1) (map f xs))) →
    pushed ≡ old ++ 0 ∷ [] → new ≡ reverse pushed → new ≡ beginnings (map f xs)
beginnings_of f xs i old pushed new h b o p n =
    let zeroth : i - 1 ≡ 0 = omega arith in
    n ∙ ap reverse (one_more 0 (0 ∷ cuts_from (i - 1) (drop (i - 1) (map f xs))) _ old pushed refl o p) ∙ reverse-reverse _
    ∙ ap (λ k. 0 ∷ cuts_from k (drop k (map f xs))) zeroth ∙ all_cuts (map f xs) (omega (arith, length-map xs f))

pub not_empty : (n : ℕ) → false ≡ (n == 0) → 0 < n
not_empty zero h = cc
not_empty (suc n) h = omega arith
