-- What is parsed, and where it is not, the fault's place.
use Rattle.std.specs.Prelude.{ℕ, zero, suc, ◌≡◌, ◌<◌, ◌≤◌, ◌+◌, ◌-◌, refl, List, [], ◌∷◌, ◌++◌, Option, Some, None}
use Rattle.std.proofs.Common.{sym, ◌∙◌, ap, subst, append_assoc, arith, ⊎_elim}
use Rattle.std.proofs.lemmas.Bool.{cases_lt, cases_order}
use Rattle.yl_marks.specs.declared.symbol.Symbol.{Symbol}
use Rattle.yl_marks.specs.declared.symbol.Symbol.TheVariants.{One}
use Rattle.yl_events.specs.declared.symbol.Outline.{Outline}
use Rattle.yl_events.specs.declared.symbol.Shape.TheVariants.{DocumentStart}
use Rattle.yl_events.specs.Outlines.{bare_event, events}
use Rattle.yl_events.specs.Derives.{Derives, BeginsDerivation, HasFaultAt, front, lexeme_count}
use Rattle.yl_events.specs.Machine as m
use Rattle.yl_events.specs.declared.symbol.Goal.{Goal}
use Rattle.yl_events.specs.Machine.{ParserState, step, finish, run, parse, taken_count, fault_place}
use Rattle.yl_events.proofs.Complete.{parsed, one_derivation}
use Rattle.yl_events.specs.Event.{EventValue, AreEvents, event_of_outline}
use Rattle.yl_lexeme.specs.Lexeme.{LexemeValue}
use Rattle.std.specs.Prelude.{map}
use Rattle.yl_events.proofs.Sound.{Forest, forest, Fills, Stepped, Ran, step_back, leasts, run_back, document_of}

unclosed : (r : Option (List Outline)) (ws : List Symbol) → Ran m.goals_of_document ws r → (es : List Outline) → m.events_with_end r ≡ Some es → Fills m.goals_of_document ws
unclosed None ws back es e = cc
unclosed (Some out) ws back es e = back

-- what is parsed is derived
pub sound : (ws : List Symbol) (es : List Outline) → parse ws ≡ Some es → Derives ws es
sound ws es e =
    let d = document_of ws (unclosed _ ws (run_back ws m.goals_of_document (bare_event DocumentStart None ∷ [])) es e) in
    let same : Some (events d.0) ≡ Some es = sym (parsed d.0) ∙ ap parse d.1 ∙ e in
    record { tree = d.0; spelled = d.1; events = cc }

pub complete : (ws : List Symbol) (es : List Outline) → Derives ws es → parse ws ≡ Some es
complete ws es d = sym (ap parse d.spelled) ∙ parsed d.tree ∙ ap Some d.events

-- ---- the place of a fault

abbrev Began : List Goal → List Symbol → ℕ → Type 0
Began goals xs n = (f : Forest goals) × (rest : List Symbol) × (forest goals f ≡ front n xs ++ rest)

-- a symbol more at the front
longer : (goals : List Goal) (x : Symbol) (xs : List Symbol) (s : ParserState) (n : ℕ) → Stepped goals x (Some s) → Began s.goals xs n → Began goals (x ∷ xs) (m.count_with x n)
longer goals (One kind p) xs s n back b = let g = back b.0 in (g.0, b.1, g.1 ∙ ap (λ l. One kind p ∷ l) b.2)
longer goals x xs s zero back b = (leasts goals, forest goals (leasts goals), refl)
longer goals x xs s (suc n) back b = let g = back b.0 in (g.0, b.1, g.1 ∙ ap (λ l. x ∷ l) b.2)

began_on : (goals : List Goal) (x : Symbol) (xs : List Symbol) (next : ParserState → ℕ) → ((s : ParserState) → Began s.goals xs (next s)) →
    (r : Option ParserState) → Stepped goals x r → Began goals (x ∷ xs) (m.count_then x next r)
began_on goals x xs next rest None back = (leasts goals, forest goals (leasts goals), refl)
began_on goals x xs next rest (Some s) back = longer goals x xs s (next s) back (rest s)

-- what is taken begins what fills the goals
begun : (xs : List Symbol) (goals : List Goal) (out : List Outline) → Began goals xs (taken_count xs goals out)
begun [] goals out = (leasts goals, forest goals (leasts goals), refl)
begun (x ∷ xs) goals out = began_on goals x xs _ (λ s. begun xs s.goals s.events) (step goals out x) (step_back goals out x)

-- one lexeme more is refused, whatever follows
abbrev Refused : List Symbol → List Goal → List Outline → ℕ → Type 0
Refused xs goals out n = n < lexeme_count xs → (rest : List Symbol) → run (front (suc n) xs ++ rest) goals out ≡ None

stuck : (x : Symbol) (ws : List Symbol) (goals : List Goal) (out : List Outline) → None ≡ step goals out x → run (x ∷ ws) goals out ≡ None
stuck x ws goals out e = ap (λ r. m.onward (λ s. run ws s.goals s.events) r) (sym e)

went : (x : Symbol) (ws : List Symbol) (goals : List Goal) (out : List Outline) (s : ParserState) → Some s ≡ step goals out x → run (x ∷ ws) goals out ≡ run ws s.goals s.events
went x ws goals out s e = ap (λ r. m.onward (λ s. run ws s.goals s.events) r) (sym e)

refused_on : (x : Symbol) (xs : List Symbol) (goals : List Goal) (out : List Outline) (next : ParserState → ℕ) → ((s : ParserState) → Refused xs s.goals s.events (next s)) →
    (r : Option ParserState) → r ≡ step goals out x → Refused (x ∷ xs) goals out (m.count_then x next r)
refused_on (One kind p) xs goals out next rest None e h tail = stuck (One kind p) (front 0 xs ++ tail) goals out e
refused_on (One kind p) xs goals out next rest (Some s) e h tail = went (One kind p) (front (suc (next s)) xs ++ tail) goals out s e ∙ rest s (omega arith) tail
refused_on x xs goals out next rest None e h tail = stuck x (front 1 xs ++ tail) goals out e
refused_on x xs goals out next rest (Some s) e h tail = went x (front (suc (next s)) xs ++ tail) goals out s e ∙ rest s h tail

refused : (xs : List Symbol) (goals : List Goal) (out : List Outline) → Refused xs goals out (taken_count xs goals out)
refused [] goals out h tail = absurd (omega arith)
refused (x ∷ xs) goals out h tail = refused_on x xs goals out _ (λ s. refused xs s.goals s.events) (step goals out x) refl h tail

none_or : (r : Option (List Outline)) (es : List Outline) → r ≡ Some es → r ≡ None → ⊥
none_or r es p q = let e : Some es ≡ None = sym p ∙ q in cc

taken_on : (x : Symbol) (xs : List Symbol) (next : ParserState → ℕ) → ((s : ParserState) → next s ≤ lexeme_count xs) → (r : Option ParserState) → m.count_then x next r ≤ lexeme_count (x ∷ xs)
taken_on x xs next rest None = omega arith
taken_on (One kind p) xs next rest (Some s) = omega (arith, rest s)
taken_on x xs next rest (Some s) = rest s

pub taken_within : (xs : List Symbol) (goals : List Goal) (out : List Outline) → taken_count xs goals out ≤ lexeme_count xs
taken_within [] goals out = omega arith
taken_within (x ∷ xs) goals out = taken_on x xs _ (λ s. taken_within xs s.goals s.events) (step goals out x)

-- a document that is not parsed has its fault there
pub fault : (ws : List Symbol) → parse ws ≡ None → HasFaultAt ws (fault_place ws)
fault ws none =
    let b = begun ws m.goals_of_document (bare_event DocumentStart None ∷ []) in
    let d = document_of (front (fault_place ws) ws ++ b.1) (b.0, b.2) in
    record {
      inside = omega (arith, taken_within ws m.goals_of_document (bare_event DocumentStart None ∷ []));
      before = record { tree = d.0; rest = b.1; spelled = d.1 };
      within = λ h begins. none_or (parse (front (suc (fault_place ws)) ws ++ begins.rest)) (events begins.tree)
          (sym (ap parse begins.spelled) ∙ parsed begins.tree)
          (ap m.events_with_end (refused ws m.goals_of_document (bare_event DocumentStart None ∷ []) (omega arith) begins.rest));
      at_end = λ h es d. none_or (parse ws) es (complete ws es d) none;
    }

-- ---- one answer

front_more : (n k : ℕ) (ws : List Symbol) → (rest : List Symbol) × (front (n + k) ws ≡ front n ws ++ rest)
front_more zero k ws = (front (0 + k) ws, refl)
front_more (suc n) k [] = ([], ap (λ j. front j []) {x = suc n + k} {y = suc (n + k)} (omega arith))
front_more (suc n) k (One kind s ∷ ws) = let r = front_more n k ws in
    (r.0, ap (λ j. front j (One kind s ∷ ws)) {x = suc n + k} {y = suc (n + k)} (omega arith) ∙ ap (λ l. One kind s ∷ l) r.1)
front_more (suc n) k (w ∷ ws) = let r = front_more (suc n) k ws in
    (r.0, ap (λ j. front j (w ∷ ws)) {x = suc n + k} {y = suc (n + k)} (omega arith) ∙ ap (λ l. w ∷ l) (ap (λ j. front j ws) {x = suc (n + k)} {y = suc n + k} (omega arith) ∙ r.1))

front_of : (n : ℕ) (ws : List Symbol) → (rest : List Symbol) × (ws ≡ front n ws ++ rest)
front_of zero ws = (ws, refl)
front_of (suc n) [] = ([], refl)
front_of (suc n) (One kind s ∷ ws) = let r = front_of n ws in (r.0, ap (λ l. One kind s ∷ l) r.1)
front_of (suc n) (w ∷ ws) = let r = front_of (suc n) ws in (r.0, ap (λ l. w ∷ l) r.1)

begins_less : (n k : ℕ) (ws : List Symbol) → BeginsDerivation (front (n + k) ws) → BeginsDerivation (front n ws)
begins_less n k ws b = let r = front_more n k ws in
    record { tree = b.tree; rest = r.0 ++ b.rest; spelled = b.spelled ∙ ap (λ l. l ++ b.rest) r.1 ∙ append_assoc (front n ws) r.0 b.rest }

earlier : (ws : List Symbol) (i j : ℕ) → i < j → HasFaultAt ws i → HasFaultAt ws j → ⊥
earlier ws i j h a b =
    let bound : j ≤ lexeme_count ws = b.inside in
    let e : suc i + (j - suc i) ≡ j = omega arith in
    a.within (omega arith) (begins_less (suc i) (j - suc i) ws (subst (λ n. BeginsDerivation (front n ws)) (sym e) b.before))

-- a document has one fault at the most
pub one_fault : (ws : List Symbol) (i j : ℕ) → HasFaultAt ws i → HasFaultAt ws j → i ≡ j
one_fault ws i j a b = ⊎_elim (λ e. e) (λ h. ⊎_elim (λ g. absurd (earlier ws i j g a b)) (λ g. absurd (earlier ws j i g b a)) h) (cases_order i j)

-- and none where it is derived
pub no_fault : (ws : List Symbol) (es : List Outline) (i : ℕ) → Derives ws es → HasFaultAt ws i → ⊥
no_fault ws es i d a = ⊎_elim (λ h. let r = front_of (suc i) ws in a.within h (record { tree = d.tree; rest = r.0; spelled = d.spelled ∙ r.1 })) (λ h. a.at_end (let inside : i ≤ lexeme_count ws = a.inside in omega arith) es d) (cases_lt i (lexeme_count ws))

-- a document has one list of events
pub one_list : (xs : List LexemeValue) (es fs : List EventValue) → AreEvents xs es → AreEvents xs fs → es ≡ fs
one_list xs es fs a b = a.filled ∙ ap (map (event_of_outline xs)) (one_derivation _ a.outlines b.outlines a.derived b.derived) ∙ sym b.filled
