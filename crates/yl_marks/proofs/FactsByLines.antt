-- The facts of a document's lexemes are those of its lines, one after another.
use Rattle.std.proofs.Common.{◌≡◌, ◌≤◌, ◌+◌, inr, ℕ, suc, Bool, true, false, cond, not, ◌||◌, ◌&&◌, List, [], ◌∷◌, ◌++◌, Option, None, is_some, length, refl, sym, ◌∙◌, ap, subst, arith, slice_get}
use Rattle.std.proofs.lemmas.List.Folds.{list_any-append}
use Rattle.std.proofs.Math.Bool.{or-false}
use Rattle.yl_lexeme.specs.Lexeme.{is_value}
use Rattle.yl_lexeme.specs.Keys.{Spot, key_start}
use Rattle.yl_marks.specs.declared.token.Token.{Token}
use Rattle.yl_marks.specs.declared.symbol.KeyedToken.{KeyedToken}
use Rattle.yl_marks.specs.declared.symbol.KeyStart.{KeyStart}
use Rattle.yl_marks.specs.declared.symbol.OpenBlock.{OpenBlock}
use Rattle.yl_marks.specs.declared.symbol.Marking.{Marking}
use Rattle.yl_marks.specs.declared.facts.KeyFacts.{KeyFacts}
use Rattle.yl_marks.specs.Keys.{depth, key_at, tokens_of_line, keyed_tokens}
use Rattle.yl_marks.specs.Marks.{is_at, begins_key, marking, open_behind_all}
use Rattle.yl_marks.specs.ByLine.{behind_line, by_line}
use Rattle.yl_marks.specs.Facts.{facts_from}
use Rattle.yl_marks.specs.FactsByLine.{ahead_of_all, fact_by, facts_ahead, facts_by_lines, has_key, key_marker_at_start, next_ahead, nothing_ahead}
use Rattle.yl_marks.proofs.Within.{no_key_elsewhere}
use Rattle.yl_marks.proofs.Runs.{AreLines, joined, are_lines, joined_lines}
use Rattle.yl_marks.proofs.ByLines.{line_of, nothing_here, own, now, split, latest, count, within, none_later, Agree, same_marking, at, at_of, length-line_pieces, depth-behind, first-behind}
use Rattle.yl_marks.proofs.KeptFacts.{facts_kept}

-- ---- two lists, where the second begins with no Value that has a key

same_fact : (ahead : KeyFacts) (m : Marking) (next : Option KeyedToken) → has_key next ≡ false → fact_by ahead m next ≡ fact_by ahead m None
same_fact ahead m next h = ap (λ b. record { is_key = b || ahead.is_key; has_tag = not m.begins_key && ahead.has_tag }) h

facts-append : (ahead : KeyFacts) (all : List KeyedToken) (i : ℕ) (ps qs : List KeyedToken) → has_key (slice_get qs 0) ≡ false →
    facts_ahead ahead all i (ps ++ qs) ≡ facts_ahead ahead all i ps ++ facts_ahead (ahead_of_all ahead all i ps) all (i + length ps) qs
facts-append ahead all i [] qs h = ap (λ n. facts_ahead ahead all n qs) {x = i} {y = i + 0} (omega arith)
facts-append ahead all i (p ∷ []) qs h =
    let m = marking all i p in
    ap (λ f. f ∷ facts_ahead (next_ahead ahead m) all (suc i) qs) (same_fact ahead m (slice_get qs 0) h)
    ∙ ap (λ n. fact_by ahead m None ∷ facts_ahead (next_ahead ahead m) all n qs) {x = suc i} {y = i + 1} (omega arith)
facts-append ahead all i (p ∷ q ∷ ps) qs h =
    let m = marking all i p in
    ap (λ fs. fact_by ahead m (slice_get (q ∷ ps) 0) ∷ fs) (facts-append (next_ahead ahead m) all (suc i) (q ∷ ps) qs h)
    ∙ ap (λ n. facts_ahead ahead all i (p ∷ q ∷ ps) ++ facts_ahead (ahead_of_all ahead all i (p ∷ q ∷ ps)) all n qs) {x = suc i + length (q ∷ ps)} {y = i + length (p ∷ q ∷ ps)} (omega arith)

-- ---- whether keys begin there is all that is asked of the others

same_facts : (ahead : KeyFacts) (all some : List KeyedToken) (i to : ℕ) (ps : List KeyedToken) → i + length ps ≤ to → Agree all some i to → facts_ahead ahead all i ps ≡ facts_ahead ahead some i ps
same_facts ahead all some i to [] h g = refl
same_facts ahead all some i to (p ∷ ps) h g =
    ap (λ m. fact_by ahead m (slice_get ps 0) ∷ facts_ahead (next_ahead ahead m) all (suc i) ps) (same_marking all some i p (g i (omega arith) (omega arith)))
    ∙ ap (λ fs. fact_by ahead (marking some i p) (slice_get ps 0) ∷ fs)
    (same_facts (next_ahead ahead (marking some i p)) all some (suc i) to ps (omega arith) (λ j l m. g j (omega arith) m))

same_ahead : (ahead : KeyFacts) (all some : List KeyedToken) (i to : ℕ) (ps : List KeyedToken) → i + length ps ≤ to → Agree all some i to → ahead_of_all ahead all i ps ≡ ahead_of_all ahead some i ps
same_ahead ahead all some i to [] h g = refl
same_ahead ahead all some i to (p ∷ ps) h g =
    ap (λ m. ahead_of_all (next_ahead ahead m) all (suc i) ps) (same_marking all some i p (g i (omega arith) (omega arith)))
    ∙ same_ahead (next_ahead ahead (marking some i p)) all some (suc i) to ps (omega arith) (λ j l m. g j (omega arith) m)

-- ---- a line's first lexeme has no key before it

no_key : (column : ℕ) (b : Bool) (spots : List (Spot KeyStart)) → spots ≡ [] → is_some (cond b (key_at column (key_start spots)) None) ≡ false
no_key column true spots e = ap (λ (l : List (Spot KeyStart)). is_some (key_at column (key_start l))) e
no_key column false spots e = refl

no_key_first : (ls : List (List Token)) (before : List KeyedToken) → AreLines (line_of (slice_get before 0)) ls → has_key (slice_get (keyed_tokens before (joined ls)) 0) ≡ false
no_key_first [] before h = refl
no_key_first ([] ∷ ls) before h = absurd h
no_key_first ((x ∷ xs) ∷ ls) before h = no_key x.start.col (is_value x.kind) (tokens_of_line x.start.line before) (nothing_here x.start.line before h.0)

-- ---- line by line

by_lines : (ls : List (List Token)) (before : List KeyedToken) (cs : List OpenBlock) (ahead : KeyFacts) (all : List KeyedToken) → AreLines (line_of (slice_get before 0)) ls →
    ((i : ℕ) → length before ≤ i → begins_key i all ≡ begins_key i (keyed_tokens before (joined ls))) →
    facts_by_lines (record { marks = at before cs; ahead = ahead }) ls ≡ facts_ahead ahead all (length before) (keyed_tokens before (joined ls))
by_lines [] before cs ahead all h g = refl
by_lines ([] ∷ ls) before cs ahead all h g = absurd h
by_lines ((x ∷ xs) ∷ ls) before cs ahead all h g =
    let ps = own before x xs h.0 h.1.0 in
    let before' = now before x xs h.0 h.1.0 in
    let qs = keyed_tokens before' (joined ls) in
    let lines : AreLines (line_of (slice_get before' 0)) ls = subst (λ l. AreLines l ls) (sym (latest before x xs h.0 h.1.0)) h.1.1 in
    let n : length before' ≡ length before + length ps = count before x xs h.0 h.1.0 in
    let either : (i : ℕ) → length before ≤ i → begins_key i all ≡ (begins_key i ps || begins_key i qs) =
    λ i l. g i l ∙ ap (begins_key i) (split before x xs h.0 h.1.0 (joined ls)) ∙ list_any-append (λ p. is_at i p.key) ps qs in
    let in_line : Agree all ps (length before) (length before') =
    λ i l m. either i l ∙ ap (λ b. begins_key i ps || b) (none_later ls before' lines i m) ∙ or-false (begins_key i ps) in
    let below : (i : ℕ) → length before' ≤ i → begins_key i all ≡ begins_key i qs =
    λ i l. either i (omega arith) ∙ ap (λ b. b || begins_key i qs)
    (no_key_elsewhere (length before) (length before') i ps (within before x xs h.0 h.1.0) (inr l)) in
    let fits : length before + length ps ≤ length before' = omega arith in
    let same : facts_ahead ahead all (length before) ps ≡ facts_ahead ahead ps (length before) ps = same_facts ahead all ps (length before) (length before') ps fits in_line in
    let passed : ahead_of_all ahead all (length before) ps ≡ ahead_of_all ahead ps (length before) ps = same_ahead ahead all ps (length before) (length before') ps fits in_line in
    let cs' = open_behind_all ps cs (length before) ps in
    let ahead' = ahead_of_all ahead ps (length before) ps in
    let state : at before' cs' ≡ behind_line (at before cs) (x ∷ xs) =
    at_of _ _ _ cs' before' (n ∙ ap (λ k. length before + k) (length-line_pieces (length before) (depth before) (slice_get before 0) [] (x ∷ xs)))
    (depth-behind before [] (x ∷ xs)) (first-behind ps before) in
    ap (λ b. facts_ahead ahead ps (length before) ps ++ facts_by_lines (record { marks = b; ahead = ahead' }) ls) (sym state)
    ∙ ap (λ fs. facts_ahead ahead ps (length before) ps ++ fs) (by_lines ls before' cs' ahead' all lines below)
    ∙ ap (λ fs. fs ++ facts_ahead ahead' all (length before') qs) (sym same)
    ∙ ap (λ a. facts_ahead ahead all (length before) ps ++ facts_ahead a all (length before') qs) (sym passed)
    ∙ ap (λ k. facts_ahead ahead all (length before) ps ++ facts_ahead (ahead_of_all ahead all (length before) ps) all k qs) n
    ∙ sym (facts-append ahead all (length before) ps qs (no_key_first ls before' lines))
    ∙ ap (facts_ahead ahead all (length before)) (sym (split before x xs h.0 h.1.0 (joined ls)))

pub told_by_lines : (xs : List Token) → (let all = keyed_tokens [] xs in facts_by_lines key_marker_at_start (by_line xs) ≡ facts_from all [] 0 all)
told_by_lines xs =
    by_lines (by_line xs) [] [] nothing_ahead (keyed_tokens [] (joined (by_line xs))) (are_lines xs) (λ i l. refl)
    ∙ ap (λ l. facts_ahead nothing_ahead (keyed_tokens [] l) 0 (keyed_tokens [] l)) (joined_lines xs)
    ∙ facts_kept (keyed_tokens [] xs) [] 0 (keyed_tokens [] xs)
