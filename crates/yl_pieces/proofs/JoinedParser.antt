-- The parser at symbols and at those after them: which goals are left, and at which lexeme the
-- fault is.
use Rattle.std.proofs.Common.{◌≡◌, ◌<◌, ◌+◌, ℕ, true, List, [], ◌∷◌, ◌++◌, map, Option, Some, None, refl, sym, ◌∙◌, ap, subst, append-nil, zero-add}
use Rattle.std.specs.Prelude.{option_map}
use Rattle.yl_marks.specs.declared.symbol.Symbol.{Symbol}
use Rattle.yl_events.specs.declared.fault.ParseFault.{ParseFault}
use Rattle.yl_events.specs.declared.fault.PlacedParseFault.{PlacedParseFault}
use Rattle.yl_events.specs.declared.symbol.Goal.{Goal}
use Rattle.yl_events.specs.declared.symbol.Outline.{Outline}
use Rattle.yl_events.specs.Derives.{lexeme_count}
use Rattle.yl_events.specs.Outlines.{◌then◌}
use Rattle.yl_events.specs.Machine as m
use Rattle.yl_events.specs.Machine.{ParserState, Turn, finish, leaves, run, state_after_turn, step, takes, taken_count}
use Rattle.yl_events.specs.Trail.{TrailValue, fault_from, trail_after}
use Rattle.yl_events.specs.DocumentOutcome.{DocumentOutcome, Events, Fails, document_outcome, steps, steps_onto}
use Rattle.yl_events.specs.SymbolParsing.{SymbolParserValue, is_whole, outcome_of_symbols, told_behind}
use Rattle.yl_events.specs.State.{goal_state, parser_state}
use Rattle.yl_events.specs.ParsedAlike.{AreParsedAlike, outcome_after, outcome_shape, steps_after, steps_shape, symbols_after}
use Rattle.yl_events.proofs.Parts.{fault_part, run_parts, taken_less, taken_stop, told_on}
use Rattle.yl_events.proofs.ParsedAlike.{parsed_alike}
use Rattle.yl_events.proofs.States.{goals_again}
use Rattle.yl_events.proofs.ToldBehind.{fed_apart}
use Rattle.yl_events.proofs.Trails.{trail_after-append}
use Rattle.yl_sections.specs.Reading.{fault_told}
use Rattle.yl_pieces.specs.Told.{fault_at, goals_after}
use Rattle.yl_pieces.proofs.JoinedMarks.{same_symbols}

-- ---- the goals that are left

abbrev pub goals_left : Option ParserState → Option (List Goal)
goals_left r = option_map (λ s. s.goals) r

-- what was told before has no part in them
left_by_turn : (goals : List Goal) (out out' : List Outline) (next next' : List Outline → Option ParserState) (t : Option Turn) (left : Option (List Outline))
    → ((o o' : List Outline) → goals_left (next o) ≡ goals_left (next' o')) → goals_left (state_after_turn goals out next t left) ≡ goals_left (state_after_turn goals out' next' t left)
left_by_turn goals out out' next next' (Some t) left h = refl
left_by_turn goals out out' next next' None (Some es) h = h (out then es) (out' then es)
left_by_turn goals out out' next next' None None h = refl

left_by_step : (goals : List Goal) (out out' : List Outline) (w : Symbol) → goals_left (step goals out w) ≡ goals_left (step goals out' w)
left_by_step [] out out' w = refl
left_by_step (g ∷ goals) out out' w =
    left_by_turn goals out out' (λ o. step goals o w) (λ o. step goals o w) (takes g w) (leaves g) (λ o o'. left_by_step goals o o' w)

left_onto : (next : ParserState → Option ParserState) (r r' : Option ParserState) → goals_left r ≡ goals_left r'
    → ((s s' : ParserState) → s.goals ≡ s'.goals → goals_left (next s) ≡ goals_left (next s')) → goals_left (steps_onto next r) ≡ goals_left (steps_onto next r')
left_onto next None None e h = refl
left_onto next None (Some s) e h = cc
left_onto next (Some s) None e h = cc
left_onto next (Some s) (Some s') e h = let same : s.goals ≡ s'.goals = cc in h s s' same

pub left_by_steps : (ws : List Symbol) (goals : List Goal) (out out' : List Outline) → goals_left (steps ws goals out) ≡ goals_left (steps ws goals out')
left_by_steps [] goals out out' = refl
left_by_steps (w ∷ ws) goals out out' =
    left_onto (λ s. steps ws s.goals s.events) (step goals out w) (step goals out' w) (left_by_step goals out out' w)
    (λ s s' e. ap (λ (gs : List Goal). goals_left (steps ws gs s.events)) e ∙ left_by_steps ws s'.goals s.events s'.events)

onto_twice : (r : Option ParserState) (next more all : ParserState → Option ParserState) → ((s : ParserState) → all s ≡ steps_onto more (next s)) → steps_onto all r ≡ steps_onto more (steps_onto next r)
onto_twice None next more all h = refl
onto_twice (Some s) next more all h = h s

steps_both : (ws vs : List Symbol) (goals : List Goal) (out : List Outline) → steps (ws ++ vs) goals out ≡ steps_onto (λ s. steps vs s.goals s.events) (steps ws goals out)
steps_both [] vs goals out = refl
steps_both (w ∷ ws) vs goals out =
    onto_twice (step goals out w) (λ s. steps ws s.goals s.events) (λ s. steps vs s.goals s.events) (λ s. steps (ws ++ vs) s.goals s.events) (λ s. steps_both ws vs s.goals s.events)

-- where one of the first symbols is refused, all are not taken
pub stays_refused : (ws vs : List Symbol) (goals : List Goal) (out : List Outline) → steps ws goals out ≡ None → steps (ws ++ vs) goals out ≡ None
stays_refused ws vs goals out e = steps_both ws vs goals out ∙ ap (steps_onto (λ s. steps vs s.goals s.events)) e

steps_on : (ws vs : List Symbol) (goals : List Goal) (t : ParserState) → steps ws goals [] ≡ Some t → goals_left (steps (ws ++ vs) goals []) ≡ goals_left (steps vs t.goals [])
steps_on ws vs goals t e =
    ap (λ (r : Option ParserState). goals_left r) (steps_both ws vs goals [] ∙ ap (steps_onto (λ s. steps vs s.goals s.events)) e) ∙ left_by_steps vs t.goals t.events []

-- ---- a fault among symbols

abbrev fault_if : Option ParserState → Option PlacedParseFault → Option PlacedParseFault
fault_if (Some s) f = None
fault_if None f = f

run_refused : (ws : List Symbol) (goals : List Goal) (out : List Outline) → steps ws goals out ≡ None → run ws goals out ≡ None
run_refused ws goals out e =
    ap (λ (vs : List Symbol). run vs goals out) (sym (append-nil ws)) ∙ run_parts ws [] goals out ∙ ap (m.onward (λ s. finish s.goals s.events)) e

abbrev placed : SymbolParserValue → List Symbol → ℕ → ℕ → PlacedParseFault
placed p ws taken place = record { kind = fault_from p.trail taken ws; place = place }

fault_by : (p : SymbolParserValue) (ws : List Symbol) (r : Option ParserState) → steps ws p.goals [] ≡ r → fault_at p ws r ≡ fault_if r (fault_told (outcome_of_symbols p 0 [] ws))
fault_by p ws (Some s) e = refl
fault_by p ws None e =
    let n = taken_count ws p.goals [] in
    sym (ap (λ (r : Option (List Outline)). fault_told (document_outcome p.trail 0 n ws r)) (run_refused ws p.goals [] e) ∙ ap (λ (k : ℕ). Some (placed p ws n k)) (zero-add n))

-- none, so all are taken
pub taken_all : (p : SymbolParserValue) (ws : List Symbol) (r : Option ParserState) → fault_at p ws r ≡ None → (t : ParserState) × (r ≡ Some t)
taken_all p ws (Some t) e = (t, refl)
taken_all p ws None e =
    let some : Some (placed p ws (taken_count ws p.goals []) (taken_count ws p.goals [])) ≡ None = e in
    absurd (cc)

-- ---- symbols of which one is refused

abbrev of_kind : ParseFault → ℕ → PlacedParseFault
of_kind kind place = record { kind = kind; place = place }

stays : (p : SymbolParserValue) (ws vs : List Symbol) (r : Option ParserState) → steps ws p.goals [] ≡ r → is_whole true ws ≡ true → (f : PlacedParseFault) → fault_at p ws r ≡ Some f
    → (fault_at p (ws ++ vs) (steps (ws ++ vs) p.goals []) ≡ Some f) × (f.place < lexeme_count ws)
stays p ws vs (Some t) e whole f h = cc
stays p ws vs None e whole f h =
    let n = taken_count ws p.goals [] in
    let less : n < lexeme_count ws = taken_less true ws p.goals [] whole e in
    let is : Some (placed p ws n n) ≡ Some f = h in
    let same : placed p ws n n ≡ f = cc in (
      ap (fault_at p (ws ++ vs)) (stays_refused ws vs p.goals [] e)
          ∙ ap (λ (k : ℕ). Some (placed p (ws ++ vs) k k)) (taken_stop ws vs p.goals [] e)
          ∙ ap (λ (k : ParseFault). Some (of_kind k n)) (fault_part p.trail ws vs n less)
          ∙ h,
      subst (λ (g : PlacedParseFault). g.place < lexeme_count ws) same less,
    )

-- more symbols after them have no part in the fault
pub fault_stays : (p : SymbolParserValue) (ws vs : List Symbol) → is_whole true ws ≡ true → (f : PlacedParseFault) → fault_at p ws (steps ws p.goals []) ≡ Some f
    → (fault_at p (ws ++ vs) (steps (ws ++ vs) p.goals []) ≡ Some f) × (f.place < lexeme_count ws)
fault_stays p ws vs whole f h = stays p ws vs (steps ws p.goals []) refl whole f h

-- ---- so many lexemes later

abbrev pub fault_later : ℕ → PlacedParseFault → PlacedParseFault
fault_later n f = record f { place = n + f.place }

none_later : (f : Option PlacedParseFault) → option_map (fault_later 0) f ≡ f
none_later None = refl
none_later (Some f) = ap (λ (k : ℕ). Some (record f { place = k })) (zero-add f.place)

told_later : (n : ℕ) (o : DocumentOutcome) → fault_told (outcome_after n (outcome_shape o)) ≡ option_map (fault_later n) (fault_told o)
told_later n (Events es) = refl
told_later n (Fails f) = refl

told_before : (out : List Outline) (o : DocumentOutcome) → fault_told (told_behind out o) ≡ fault_told o
told_before out (Events es) = refl
told_before out (Fails f) = refl

left_shape : (n : ℕ) (r : Option ParserState) → goals_left (steps_after n (steps_shape r)) ≡ option_map (map goal_state) (goals_left r)
left_shape n None = refl
left_shape n (Some s) = refl

-- the fault of both, where the same goals are left
fault_both : (n : ℕ) (x y : Option ParserState) (f g : Option PlacedParseFault) → option_map (map goal_state) (goals_left x) ≡ option_map (map goal_state) (goals_left y)
    → f ≡ option_map (fault_later n) g → fault_if x f ≡ option_map (fault_later n) (fault_if y g)
fault_both n None None f g e h = h
fault_both n (Some x) (Some y) f g e h = refl
fault_both n None (Some y) f g e h = cc
fault_both n (Some x) None f g e h = cc

abbrev with_trail : List Goal → TrailValue → SymbolParserValue
with_trail goals trail = record { goals = goals; trail = trail }

goals_both : (p q : SymbolParserValue) (ws vs : List Symbol) (x y : Option ParserState) → option_map (map goal_state) (goals_left x) ≡ option_map (map goal_state) (goals_left y)
    → trail_after p.trail ws ≡ trail_after q.trail vs → fault_at q vs y ≡ None → goals_after x p ws ≡ goals_after y q vs
goals_both p q ws vs None None e h none = let some : Some (placed q vs (taken_count vs q.goals []) (taken_count vs q.goals [])) ≡ None = none in absurd (cc)
goals_both p q ws vs None (Some y) e h none = cc
goals_both p q ws vs (Some x) None e h none = cc
goals_both p q ws vs (Some x) (Some y) e h none =
    let same : map goal_state x.goals ≡ map goal_state y.goals = cc in
    ap (λ (gs : List Goal). with_trail gs (trail_after p.trail ws)) same ∙ ap (with_trail (map goal_state y.goals)) h

-- ---- symbols, all of which are taken, and the same ones after their state

module _ (p : SymbolParserValue) (ws vs : List Symbol) (t : ParserState) (whole : is_whole true ws ≡ true) (taken : steps ws p.goals [] ≡ Some t) where
  abbrev n : ℕ
  n = lexeme_count ws

  abbrev here : SymbolParserValue
  here = with_trail t.goals (trail_after p.trail ws)

  abbrev pub held : SymbolParserValue
  held = parser_state here

  abbrev later : List Symbol
  later = symbols_after n vs

  alike : AreParsedAlike here held n 0 vs
  alike = parsed_alike here held n 0 vs (ap (λ (gs : List Goal). with_trail gs here.trail) (sym (goals_again t.goals held.goals refl)))

  same_left : option_map (map goal_state) (goals_left (steps (ws ++ later) p.goals [])) ≡ option_map (map goal_state) (goals_left (steps vs held.goals []))
  same_left =
      ap (option_map (map goal_state)) (steps_on ws later p.goals t taken)
      ∙ sym (left_shape 0 (steps later here.goals []))
      ∙ ap (λ (r : Option ParserState). goals_left r) alike.after
      ∙ left_shape n (steps (symbols_after 0 vs) held.goals [])
      ∙ ap (λ (us : List Symbol). option_map (map goal_state) (goals_left (steps us held.goals []))) (same_symbols vs)

  same_fault : fault_told (outcome_of_symbols p 0 [] (ws ++ later)) ≡ option_map (fault_later n) (fault_told (outcome_of_symbols held 0 [] vs))
  same_fault =
      ap fault_told (fed_apart p here 0 t.events ws later (λ us. told_on p.trail 0 p.goals [] ws us t whole taken))
      ∙ told_before t.events (outcome_of_symbols here (0 + n) [] later)
      ∙ ap (λ (k : ℕ). fault_told (outcome_of_symbols here k [] later)) (zero-add n)
      ∙ sym (none_later (fault_told (outcome_of_symbols here n [] later)))
      ∙ sym (told_later 0 (outcome_of_symbols here n [] later))
      ∙ ap fault_told alike.outcome
      ∙ told_later n (outcome_of_symbols held 0 [] (symbols_after 0 vs))
      ∙ ap (λ (us : List Symbol). option_map (fault_later n) (fault_told (outcome_of_symbols held 0 [] us))) (same_symbols vs)

  pub fault_after : fault_at p (ws ++ later) (steps (ws ++ later) p.goals []) ≡ option_map (fault_later n) (fault_at held vs (steps vs held.goals []))
  fault_after =
      fault_by p (ws ++ later) (steps (ws ++ later) p.goals []) refl
      ∙ fault_both n (steps (ws ++ later) p.goals []) (steps vs held.goals []) (fault_told (outcome_of_symbols p 0 [] (ws ++ later))) (fault_told (outcome_of_symbols held 0 [] vs)) same_left same_fault
      ∙ ap (option_map (fault_later n)) (sym (fault_by held vs (steps vs held.goals []) refl))

  pub goals_on : fault_at held vs (steps vs held.goals []) ≡ None → goals_after (steps (ws ++ later) p.goals []) p (ws ++ later) ≡ goals_after (steps vs held.goals []) held vs
  goals_on none =
      goals_both p held (ws ++ later) vs (steps (ws ++ later) p.goals []) (steps vs held.goals []) same_left
      (trail_after-append p.trail ws later ∙ alike.trail ∙ ap (trail_after held.trail) (same_symbols vs)) none
