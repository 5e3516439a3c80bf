-- What is told of a document, by its symbols up to a place and those behind it.
use Rattle.std.specs.Prelude.{ℕ, zero, suc, ◌≡◌, ◌==◌, ◌<◌, ◌≤◌, ◌+◌, ◌-◌, if◌then◌else◌, refl, Bool, true, false, List, [], ◌∷◌, ◌++◌, length, take, drop, Option, Some, None}
use Rattle.std.proofs.Common.{sym, ◌∙◌, ap, subst, add-one, arith}
use Rattle.std.proofs.lemmas.Bool.Decides.{nat_tests}
use Rattle.std.proofs.lemmas.List.{take-append-le, drop-append-le}
use Rattle.std.proofs.Math.Seq.{take-append-add, drop-append-add}
use Rattle.yl_marks.specs.declared.symbol.Symbol.{Symbol}
use Rattle.yl_marks.specs.declared.symbol.Symbol.TheVariants.{One}
use Rattle.yl_events.specs.declared.symbol.Goal.{Goal}
use Rattle.yl_events.specs.declared.symbol.Outline.{Outline}
use Rattle.yl_events.specs.Derives.{lexeme_count}
use Rattle.yl_events.specs.Faults.{left_behind, front_len}
use Rattle.yl_events.specs.Machine as m
use Rattle.yl_events.specs.Machine.{ParserState, step, run, taken_count}
use Rattle.yl_events.specs.Trail.{TrailValue, trail_after, fault_behind, fault_from}
use Rattle.yl_events.specs.DocumentOutcome.{Fails, document_outcome, outcome_by, steps_onto, steps}
use Rattle.yl_events.specs.SymbolParsing.{is_whole}
use Rattle.yl_events.proofs.Trails.{fault_there, trail_after-append}

-- ---- the machine

runs_on : (r : Option ParserState) (next : ParserState → Option ParserState) (more all : ParserState → Option (List Outline)) →
    ((s : ParserState) → all s ≡ m.onward more (next s)) → m.onward all r ≡ m.onward more (steps_onto next r)
runs_on None next more all h = refl
runs_on (Some s) next more all h = h s

pub run_parts : (ws vs : List Symbol) (goals : List Goal) (out : List Outline) →
    run (ws ++ vs) goals out ≡ m.onward (λ s. run vs s.goals s.events) (steps ws goals out)
run_parts [] vs goals out = refl
run_parts (w ∷ ws) vs goals out =
    runs_on (step goals out w) (λ s. steps ws s.goals s.events) (λ s. run vs s.goals s.events) (λ s. run (ws ++ vs) s.goals s.events)
    (λ s. run_parts ws vs s.goals s.events)

-- how many lexemes are taken, where all of the first part are
count_on : (w : Symbol) (ws : List Symbol) (r : Option ParserState) (next : ParserState → Option ParserState) (all : ParserState → ℕ) (s : ParserState) (n : ℕ) →
    ((t : ParserState) → next t ≡ Some s → all t ≡ lexeme_count ws + n) → steps_onto next r ≡ Some s → m.count_then w all r ≡ lexeme_count (w ∷ ws) + n
count_on w ws None next all s n h e = cc
count_on (One kind i) ws (Some t) next all s n h e = omega (arith, h t e)
count_on w ws (Some t) next all s n h e = h t e

pub taken_parts : (ws vs : List Symbol) (goals : List Goal) (out : List Outline) (s : ParserState) → steps ws goals out ≡ Some s →
    taken_count (ws ++ vs) goals out ≡ lexeme_count ws + taken_count vs s.goals s.events
taken_parts [] vs goals out s e =
    let here : ParserState = record { goals = goals; events = out } in
    let same : here ≡ s = cc in
    omega (arith, ap (λ (t : ParserState). taken_count vs t.goals t.events) same)
taken_parts (w ∷ ws) vs goals out s e =
    count_on w ws (step goals out w) (λ s. steps ws s.goals s.events) (λ s. taken_count (ws ++ vs) s.goals s.events) s (taken_count vs s.goals s.events)
    (λ t h. taken_parts ws vs t.goals t.events s h) e

-- and where one is refused
stop_on : (w : Symbol) (r : Option ParserState) (next : ParserState → Option ParserState) (all part : ParserState → ℕ) →
    ((t : ParserState) → next t ≡ None → all t ≡ part t) → steps_onto next r ≡ None → m.count_then w all r ≡ m.count_then w part r
stop_on w None next all part h e = refl
stop_on w (Some t) next all part h e = ap (m.count_with w) (h t e)

pub taken_stop : (ws vs : List Symbol) (goals : List Goal) (out : List Outline) → steps ws goals out ≡ None → taken_count (ws ++ vs) goals out ≡ taken_count ws goals out
taken_stop [] vs goals out e = cc
taken_stop (w ∷ ws) vs goals out e =
    stop_on w (step goals out w) (λ s. steps ws s.goals s.events) (λ s. taken_count (ws ++ vs) s.goals s.events) (λ s. taken_count ws s.goals s.events)
    (λ t h. taken_stop ws vs t.goals t.events h) e

-- ---- no mark stands behind the last lexeme

some_lexeme : (ws : List Symbol) → is_whole false ws ≡ true → 0 < lexeme_count ws
some_lexeme [] e = cc
some_lexeme (One kind i ∷ ws) e = omega arith
some_lexeme (w ∷ ws) e = some_lexeme ws e

less_on : (w : Symbol) (ws : List Symbol) (r : Option ParserState) (next : ParserState → Option ParserState) (part : ParserState → ℕ) → 0 < lexeme_count (w ∷ ws) →
    ((t : ParserState) → next t ≡ None → part t < lexeme_count ws) → steps_onto next r ≡ None → m.count_then w part r < lexeme_count (w ∷ ws)
less_on w ws None next part some h e = some
less_on (One kind i) ws (Some t) next part some h e = omega (arith, h t e)
less_on w ws (Some t) next part some h e = h t e

pub taken_less : (b : Bool) (ws : List Symbol) (goals : List Goal) (out : List Outline) → is_whole b ws ≡ true → steps ws goals out ≡ None →
    taken_count ws goals out < lexeme_count ws
taken_less b [] goals out whole e = cc
taken_less b (One kind i ∷ ws) goals out whole e =
    less_on (One kind i) ws (step goals out (One kind i)) (λ s. steps ws s.goals s.events) (λ s. taken_count ws s.goals s.events) (omega arith)
    (λ t h. taken_less true ws t.goals t.events whole h) e
taken_less b (w ∷ ws) goals out whole e =
    less_on w ws (step goals out w) (λ s. steps ws s.goals s.events) (λ s. taken_count ws s.goals s.events) (some_lexeme ws whole)
    (λ t h. taken_less false ws t.goals t.events whole h) e

-- ---- the symbols up to a lexeme

pub none_left : (left : ℕ) (ws : List Symbol) → left ≡ 0 → front_len left ws ≡ 0
none_left left [] e = refl
none_left left (w ∷ ws) e = ap (λ n. front_len n (w ∷ ws)) e

some_left : (left : ℕ) (w : Symbol) (ws : List Symbol) → 0 < left → front_len left (w ∷ ws) ≡ suc (front_len (left_behind w left) ws)
some_left left w ws h =
    let some : (left == 0) ≡ false = grind (arith, nat_tests) in
    ap (λ b. if b then 0 else front_len (left_behind w left) ws + 1) some ∙ add-one (front_len (left_behind w left) ws)

-- lexemes behind all of a whole part
front_whole : (b : Bool) (ws vs : List Symbol) (n : ℕ) → is_whole b ws ≡ true → front_len (lexeme_count ws + n) (ws ++ vs) ≡ length ws + front_len n vs
front_whole b [] vs n whole = omega (arith, ap (λ k. front_len k vs) {x = 0 + n} {y = n} (omega arith))
front_whole b (One kind i ∷ ws) vs n whole =
    some_left (suc (lexeme_count ws) + n) (One kind i) (ws ++ vs) (omega arith)
    ∙ ap suc (ap (λ k. front_len k (ws ++ vs)) {x = suc (lexeme_count ws) + n - 1} {y = lexeme_count ws + n} (omega arith) ∙ front_whole true ws vs n whole)
    ∙ omega arith
front_whole b (w ∷ ws) vs n whole =
    let some : 0 < lexeme_count ws = some_lexeme ws whole in
    some_left (lexeme_count ws + n) w (ws ++ vs) (omega arith) ∙ ap suc (front_whole false ws vs n whole) ∙ omega arith

-- lexemes of a first part
front_part : (ws vs : List Symbol) (n : ℕ) → n ≤ lexeme_count ws → front_len n (ws ++ vs) ≡ front_len n ws
front_part [] vs n h = none_left n vs (omega arith)
front_part (w ∷ ws) vs zero h = refl
front_part (One kind i ∷ ws) vs (suc n) h =
    some_left (suc n) (One kind i) (ws ++ vs) (omega arith) ∙ ap suc (front_part ws vs (suc n - 1) (omega arith)) ∙ sym (some_left (suc n) (One kind i) ws (omega arith))
front_part (w ∷ ws) vs (suc n) h =
    some_left (suc n) w (ws ++ vs) (omega arith) ∙ ap suc (front_part ws vs (suc n) h) ∙ sym (some_left (suc n) w ws (omega arith))

front_within : (ws : List Symbol) (n : ℕ) → front_len n ws ≤ length ws
front_within [] n = omega arith
front_within (w ∷ ws) zero = omega arith
front_within (w ∷ ws) (suc n) = omega (arith, some_left (suc n) w ws (omega arith), front_within ws (left_behind w (suc n)))

-- what is left of it has the next lexeme
next_left : (ws : List Symbol) (n : ℕ) → n < lexeme_count ws → 0 < lexeme_count (drop (front_len n ws) ws)
next_left [] n h = absurd (omega arith)
next_left (w ∷ ws) zero h = h
next_left (One kind i ∷ ws) (suc n) h =
    subst (λ k. 0 < lexeme_count (drop k (One kind i ∷ ws))) (sym (some_left (suc n) (One kind i) ws (omega arith))) (next_left ws (suc n - 1) (omega arith))
next_left (w ∷ ws) (suc n) h =
    subst (λ k. 0 < lexeme_count (drop k (w ∷ ws))) (sym (some_left (suc n) w ws (omega arith))) (next_left ws (suc n) h)

-- ---- the fault

-- at a lexeme behind a whole part
pub fault_on : (t : TrailValue) (ws vs : List Symbol) (n : ℕ) → is_whole true ws ≡ true →
    fault_from t (lexeme_count ws + n) (ws ++ vs) ≡ fault_from (trail_after t ws) n vs
fault_on t ws vs n whole =
    ap (λ k. fault_behind (trail_after t (take k (ws ++ vs))) (drop k (ws ++ vs))) (front_whole true ws vs n whole)
    ∙ ap (λ l. fault_behind (trail_after t l) (drop (length ws + front_len n vs) (ws ++ vs))) (take-append-add ws vs (front_len n vs))
    ∙ ap (λ l. fault_behind (trail_after t (ws ++ take (front_len n vs) vs)) l) (drop-append-add ws vs (front_len n vs))
    ∙ ap (λ u. fault_behind u (drop (front_len n vs) vs)) (trail_after-append t ws (take (front_len n vs) vs))

-- at a lexeme of a first part
pub fault_part : (t : TrailValue) (ws vs : List Symbol) (n : ℕ) → n < lexeme_count ws → fault_from t n (ws ++ vs) ≡ fault_from t n ws
fault_part t ws vs n h =
    let k = front_len n ws in
    ap (λ k. fault_behind (trail_after t (take k (ws ++ vs))) (drop k (ws ++ vs))) (front_part ws vs n (omega arith))
    ∙ ap (λ l. fault_behind (trail_after t l) (drop k (ws ++ vs))) (take-append-le k ws vs (front_within ws n))
    ∙ ap (λ l. fault_behind (trail_after t (take k ws)) l) (drop-append-le k ws vs (front_within ws n))
    ∙ fault_there (trail_after t (take k ws)) (drop k ws) vs (next_left ws n h)

-- ---- what is told

answer_on : (t : TrailValue) (n : ℕ) (ws vs : List Symbol) (k j : ℕ) (r : Option (List Outline)) → is_whole true ws ≡ true → j ≡ lexeme_count ws + k →
    document_outcome t n j (ws ++ vs) r ≡ document_outcome (trail_after t ws) (n + lexeme_count ws) k vs r
answer_on t n ws vs k j (Some es) whole e = refl
answer_on t n ws vs k j None whole e =
    ap (λ j. Fails (record { kind = fault_from t j (ws ++ vs); place = n + j })) e
    ∙ ap (λ f. Fails (record { kind = f; place = n + (lexeme_count ws + k) })) (fault_on t ws vs k whole)
    ∙ ap (λ p. Fails (record { kind = fault_from (trail_after t ws) k vs; place = p })) {x = n + (lexeme_count ws + k)} {y = n + lexeme_count ws + k} (omega arith)

-- all of a whole part is taken
pub told_on : (t : TrailValue) (n : ℕ) (goals : List Goal) (out : List Outline) (ws vs : List Symbol) (s : ParserState) →
    is_whole true ws ≡ true → steps ws goals out ≡ Some s →
    outcome_by t n goals out (ws ++ vs) ≡ outcome_by (trail_after t ws) (n + lexeme_count ws) s.goals s.events vs
told_on t n goals out ws vs s whole e =
    ap (λ r. document_outcome t n (taken_count (ws ++ vs) goals out) (ws ++ vs) r) (run_parts ws vs goals out ∙ ap (m.onward (λ s. run vs s.goals s.events)) e)
    ∙ answer_on t n ws vs (taken_count vs s.goals s.events) (taken_count (ws ++ vs) goals out) (run vs s.goals s.events) whole (taken_parts ws vs goals out s e)

-- a symbol of a whole part is refused
pub told_stop : (t : TrailValue) (n : ℕ) (goals : List Goal) (out : List Outline) (ws vs : List Symbol) →
    is_whole true ws ≡ true → steps ws goals out ≡ None →
    outcome_by t n goals out (ws ++ vs) ≡ Fails (record { kind = fault_from t (taken_count ws goals out) ws; place = n + taken_count ws goals out })
told_stop t n goals out ws vs whole e =
    ap (λ r. document_outcome t n (taken_count (ws ++ vs) goals out) (ws ++ vs) r) (run_parts ws vs goals out ∙ ap (m.onward (λ s. run vs s.goals s.events)) e)
    ∙ ap (λ j. Fails (record { kind = fault_from t j (ws ++ vs); place = n + j })) (taken_stop ws vs goals out e)
    ∙ ap (λ f. Fails (record { kind = f; place = n + taken_count ws goals out })) (fault_part t ws vs (taken_count ws goals out) (taken_less true ws goals out whole e))
