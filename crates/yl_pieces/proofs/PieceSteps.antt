-- The parser over some rows, and its fault.
use Rattle.std.proofs.Common.{◌≡◌, ◌<◌, ◌+◌, ◌-◌, ℕ, suc, List, [], ◌∷◌, ◌++◌, Option, Some, None, map, refl, sym, ◌∙◌, ap, append-nil, arith}
use Rattle.yl_marks.specs.declared.symbol.Symbol.{Symbol}
use Rattle.yl_marks.specs.declared.symbol.Symbol.TheVariants.{OpenSequence, OpenMapping, BeginKey, Close, One}
use Rattle.yl_events.specs.declared.fault.PlacedParseFault.{PlacedParseFault}
use Rattle.yl_events.specs.declared.symbol.Goal.{Goal}
use Rattle.yl_events.specs.declared.symbol.Outline.{Outline}
use Rattle.yl_events.specs.declared.symbol.Shape.TheVariants.{DocumentEnd}
use Rattle.yl_events.specs.Derives.{lexeme_count}
use Rattle.yl_events.specs.DocumentOutcome.{DocumentOutcome, Events, Fails, document_outcome, steps, steps_onto}
use Rattle.yl_events.specs.Machine.{ParserState, Turn, leaves, run, state_after_turn, step, taken_count, takes}
use Rattle.yl_events.specs.Outlines.{◌then◌, end_event}
use Rattle.yl_events.specs.ParsedAlike.{outcome_after, outcome_shape, steps_after, steps_shape, symbols_after}
use Rattle.yl_events.specs.State.{goal_state, parser_state}
use Rattle.yl_events.specs.SymbolParsing.{FeedsSymbols, SymbolParserValue, outcome_of_symbols, told_behind}
use Rattle.yl_events.specs.Trail.{TrailValue, fault_from, trail_after}
use Rattle.yl_events.proofs.ParsedAlike.{parsed_alike}
use Rattle.yl_events.proofs.Parts.{taken_parts}
use Rattle.yl_events.proofs.ToldBehind.{fed_apart}
use Rattle.yl_pieces.specs.Told.{fault_at, goals_after}
use Rattle.yl_pieces.specs.Piece.{goals_of}

-- ---- the goals depend on no event that was told before

step_on : (next : List Outline → Option ParserState) (goals : List Goal) (out other : List Outline) (t : Option Turn) (left : Option (List Outline))
    → ((o p : List Outline) → goals_of (next o) ≡ goals_of (next p)) → goals_of (state_after_turn goals out next t left) ≡ goals_of (state_after_turn goals other next t left)
step_on next goals out other (Some t) left h = refl
step_on next goals out other None (Some es) h = h (out then es) (other then es)
step_on next goals out other None None h = refl

step_same : (goals : List Goal) (out other : List Outline) (w : Symbol) → goals_of (step goals out w) ≡ goals_of (step goals other w)
step_same [] out other w = refl
step_same (g ∷ goals) out other w = step_on (λ o. step goals o w) goals out other (takes g w) (leaves g) (λ o p. step_same goals o p w)

steps_on : (next : ParserState → Option ParserState) (a b : Option ParserState) → goals_of a ≡ goals_of b
    → ((gs : List Goal) (o p : List Outline) → goals_of (next (record { goals = gs; events = o })) ≡ goals_of (next (record { goals = gs; events = p })))
    → goals_of (steps_onto next a) ≡ goals_of (steps_onto next b)
steps_on next None None e h = refl
steps_on next None (Some t) e h = absurd (cc)
steps_on next (Some s) None e h = absurd (cc)
steps_on next (Some s) (Some t) e h =
    let same : s.goals ≡ t.goals = cc in
    h s.goals s.events t.events ∙ ap (λ (gs : List Goal). goals_of (next (record { goals = gs; events = t.events }))) same

steps_same : (ws : List Symbol) (goals : List Goal) (out other : List Outline) → goals_of (steps ws goals out) ≡ goals_of (steps ws goals other)
steps_same [] goals out other = refl
steps_same (w ∷ ws) goals out other = steps_on (λ s. steps ws s.goals s.events) (step goals out w) (step goals other w) (step_same goals out other w) (λ gs o p. steps_same ws gs o p)

onto_both : (r : Option ParserState) (all part rest : ParserState → Option ParserState) → ((s : ParserState) → all s ≡ steps_onto rest (part s)) → steps_onto all r ≡ steps_onto rest (steps_onto part r)
onto_both None all part rest h = refl
onto_both (Some s) all part rest h = h s

steps_both : (ws vs : List Symbol) (goals : List Goal) (out : List Outline) → steps (ws ++ vs) goals out ≡ steps_onto (λ s. steps vs s.goals s.events) (steps ws goals out)
steps_both [] vs goals out = refl
steps_both (w ∷ ws) vs goals out =
    onto_both (step goals out w) (λ s. steps (ws ++ vs) s.goals s.events) (λ s. steps ws s.goals s.events) (λ s. steps vs s.goals s.events) (λ s. steps_both ws vs s.goals s.events)

goals_onto : (vs : List Symbol) (gs after : List Goal) (r : Option ParserState) → goals_of r ≡ Some gs → goals_of (steps vs gs []) ≡ Some after → goals_of (steps_onto (λ s. steps vs s.goals s.events) r) ≡ Some after
goals_onto vs gs after None e h = absurd (cc)
goals_onto vs gs after (Some s) e h =
    let same : s.goals ≡ gs = cc in
    ap (λ (g : List Goal). goals_of (steps vs g s.events)) same ∙ (steps_same vs gs s.events [] ∙ h)

pub goals_more : (ws vs : List Symbol) (goals gs after : List Goal) → goals_of (steps ws goals []) ≡ Some gs → goals_of (steps vs gs []) ≡ Some after → goals_of (steps (ws ++ vs) goals []) ≡ Some after
goals_more ws vs goals gs after a b = ap goals_of (steps_both ws vs goals []) ∙ goals_onto vs gs after (steps ws goals []) a b

-- ---- a fault after some symbols

pub fails_more : (p q : SymbolParserValue) (count end : ℕ) (out : List Outline) (ws later : List Symbol) (f : PlacedParseFault) → FeedsSymbols p count [] ws None q out
    → end ≡ count + lexeme_count ws → outcome_of_symbols q end [] later ≡ Fails f → outcome_of_symbols p count [] (ws ++ later) ≡ Fails f
fails_more p q count end out ws later f h at fails =
    fed_apart p q count out ws later h ∙ ap (told_behind out) (ap (λ n. outcome_of_symbols q n [] later) (sym at) ∙ fails)

-- ---- the fault in all symbols

abbrev fault_in : DocumentOutcome → PlacedParseFault → PlacedParseFault
fault_in (Events es) f = f
fault_in (Fails g) f = g

fault_is : (t : TrailValue) (count place : ℕ) (ws : List Symbol) (r : Option (List Outline)) (f : PlacedParseFault) → document_outcome t count place ws r ≡ Fails f
    → f ≡ record { kind = fault_from t place ws; place = count + place }
fault_is t count place ws (Some es) f e = let no : Events (es ++ end_event DocumentEnd ∷ []) ≡ Fails f = e in absurd (cc)
fault_is t count place ws None f e = sym (ap (λ (o : DocumentOutcome). fault_in o f) e)

all_taken : (ws : List Symbol) (goals : List Goal) (s : ParserState) → steps ws goals [] ≡ Some s → taken_count ws goals [] ≡ lexeme_count ws
all_taken ws goals s e = ap (λ (vs : List Symbol). taken_count vs goals []) (sym (append-nil ws)) ∙ (taken_parts ws [] goals [] s e ∙ omega arith)

-- a document that fails at one of these lexemes has its fault among them
module _ (p : SymbolParserValue) (ws : List Symbol) (f : PlacedParseFault) (e : outcome_of_symbols p 0 [] ws ≡ Fails f) (inside : f.place < lexeme_count ws) where
  abbrev n : ℕ
  n = taken_count ws p.goals []

  is : f ≡ record { kind = fault_from p.trail n ws; place = 0 + n }
  is = fault_is p.trail 0 n ws (run ws p.goals []) f e

  at : f.place ≡ n
  at = ap (λ (g : PlacedParseFault). g.place) is ∙ omega arith

  by_steps : (r : Option ParserState) → steps ws p.goals [] ≡ r → fault_at p ws r ≡ Some f
  by_steps (Some s) k = absurd (omega (arith, at, inside, all_taken ws p.goals s k))
  by_steps None k =
      let from : n ≡ 0 + n = omega arith in
      ap (λ j. Some (record { kind = fault_from p.trail n ws; place = j })) from ∙ ap Some (sym is)

  pub fault_there : fault_at p ws (steps ws p.goals []) ≡ Some f
  fault_there = by_steps (steps ws p.goals []) refl

-- ---- the same of symbols after others

pub count_after : (n : ℕ) (ws : List Symbol) → lexeme_count (symbols_after n ws) ≡ lexeme_count ws
count_after n [] = refl
count_after n (OpenSequence i ∷ ws) = count_after n ws
count_after n (OpenMapping i ∷ ws) = count_after n ws
count_after n (BeginKey i ∷ ws) = count_after n ws
count_after n (Close ∷ ws) = count_after n ws
count_after n (One kind i ∷ ws) = ap suc (count_after n ws)

one_fails : (n : ℕ) (o : DocumentOutcome) (f : PlacedParseFault) → Fails (record f { place = 0 + f.place }) ≡ outcome_after n (outcome_shape o) → o ≡ Fails (record { kind = f.kind; place = f.place - n })
one_fails n (Events es) f e = absurd (cc)
one_fails n (Fails g) f e =
    let same : record f { place = 0 + f.place } ≡ record g { place = n + g.place } = ap (λ (o : DocumentOutcome). fault_in o f) e in
    let kinds : g.kind ≡ f.kind = sym (ap (λ (h : PlacedParseFault). h.kind) same) in
    let places : 0 + f.place ≡ n + g.place = ap (λ (h : PlacedParseFault). h.place) same in
    let place : g.place ≡ f.place - n = omega (arith, places) in
    ap (λ k. Fails (record { kind = k; place = g.place })) kinds ∙ ap (λ j. Fails (record { kind = f.kind; place = j })) place

-- a parser that counts n lexemes before the symbols fails where one that counts none does
pub fails_alike : (p q : SymbolParserValue) (n : ℕ) (all ws : List Symbol) (f : PlacedParseFault) → p ≡ q → all ≡ symbols_after n ws → symbols_after 0 ws ≡ ws → outcome_of_symbols p n [] all ≡ Fails f
    → outcome_of_symbols q 0 [] ws ≡ Fails (record { kind = f.kind; place = f.place - n })
fails_alike p q n all ws f same are none fails =
    let alike = (parsed_alike p q n 0 ws (ap parser_state same)).outcome in
    let here : outcome_of_symbols p n [] (symbols_after n ws) ≡ Fails f = ap (λ (vs : List Symbol). outcome_of_symbols p n [] vs) (sym are) ∙ fails in
    one_fails n (outcome_of_symbols q 0 [] ws) f
    (sym (ap (λ (o : DocumentOutcome). outcome_after 0 (outcome_shape o)) here)
    ∙ (alike ∙ ap (λ (vs : List Symbol). outcome_after n (outcome_shape (outcome_of_symbols q 0 [] vs))) none))

-- and where all symbols are taken, both hold the same after them
pub record AreTaken (q : SymbolParserValue) (ws : List Symbol) (gs : List Goal) : Type 0 where
  pub after : ParserState
  pub taken : steps ws q.goals [] ≡ Some after
  pub goals : map goal_state after.goals ≡ map goal_state gs

one_taken : (n : ℕ) (q : SymbolParserValue) (ws : List Symbol) (gs : List Goal) (a b : Option ParserState) → goals_of a ≡ Some gs → steps_after 0 (steps_shape a) ≡ steps_after n (steps_shape b)
    → steps ws q.goals [] ≡ b → AreTaken q ws gs
one_taken n q ws gs None b h e k = absurd (cc)
one_taken n q ws gs (Some s) None h e k = absurd (cc)
one_taken n q ws gs (Some s) (Some t) h e k =
    let same : s.goals ≡ gs = cc in
    let both : Some (map goal_state s.goals) ≡ Some (map goal_state t.goals) = ap goals_of e in
    let alike : map goal_state s.goals ≡ map goal_state t.goals = cc in
    record { after = t; taken = k; goals = sym alike ∙ ap (map goal_state) same }

pub taken_alike : (p q : SymbolParserValue) (n : ℕ) (all ws : List Symbol) (gs : List Goal) → p ≡ q → all ≡ symbols_after n ws → symbols_after 0 ws ≡ ws → goals_of (steps all p.goals []) ≡ Some gs → AreTaken q ws gs
taken_alike p q n all ws gs same are none h =
    let alike = (parsed_alike p q n 0 ws (ap parser_state same)).after in
    one_taken n q ws gs (steps (symbols_after n ws) p.goals []) (steps ws q.goals []) (ap (λ (vs : List Symbol). goals_of (steps vs p.goals [])) (sym are) ∙ h)
    (alike ∙ ap (λ (vs : List Symbol). steps_after n (steps_shape (steps vs q.goals []))) none) refl

pub no_fault : (q : SymbolParserValue) (ws : List Symbol) (gs : List Goal) → AreTaken q ws gs → fault_at q ws (steps ws q.goals []) ≡ None
no_fault q ws gs h = ap (λ (r : Option ParserState). fault_at q ws r) h.taken

pub parser_after : (p q : SymbolParserValue) (n : ℕ) (all ws : List Symbol) (d : SymbolParserValue) → p ≡ q → all ≡ symbols_after n ws → symbols_after 0 ws ≡ ws → goals_of (steps all p.goals []) ≡ Some d.goals
    → d.trail ≡ trail_after p.trail all → parser_state d ≡ goals_after (steps ws q.goals []) q ws
parser_after p q n all ws d same are none h trail =
    let t = taken_alike p q n all ws d.goals same are none h in
    let alike = (parsed_alike p q n 0 ws (ap parser_state same)).trail in
    let trails : d.trail ≡ trail_after q.trail ws = trail ∙ (ap (λ (vs : List Symbol). trail_after p.trail vs) are ∙ (alike ∙ ap (λ (vs : List Symbol). trail_after q.trail vs) none)) in
    ap (λ (u : TrailValue). record { goals = map goal_state d.goals; trail = u }) trails
    ∙ (ap (λ (gs : List Goal). record { goals = gs; trail = trail_after q.trail ws }) (sym t.goals)
    ∙ sym (ap (λ (r : Option ParserState). goals_after r q ws) t.taken))
