-- A document is parsed line by line.
use Rattle.std.specs.Prelude.{ℕ, ◌≡◌, ◌≤◌, ◌<◌, ◌+◌, refl, Bool, true, false, List, [], ◌∷◌, ◌++◌, reverse, Option, Some, None}
use Rattle.std.proofs.Common.{sym, ◌∙◌, ap, subst, append-nil, arith}
use Rattle.yl_marks.specs.declared.token.Token.{Token}
use Rattle.yl_marks.specs.declared.symbol.Symbol.{Symbol}
use Rattle.yl_marks.specs.ByLine.{MarkerValue, marks_of_line, behind_line, marks_by_lines}
use Rattle.yl_events.specs.declared.fault.ParseFault.{ParseFault}
use Rattle.yl_events.specs.declared.fault.PlacedParseFault.{PlacedParseFault}
use Rattle.yl_events.specs.declared.symbol.Goal.{Goal}
use Rattle.yl_events.specs.declared.symbol.Outline.{Outline}
use Rattle.yl_events.specs.Derives.{lexeme_count}
use Rattle.yl_events.specs.Machine as m
use Rattle.yl_events.specs.Machine.{ParserState, run, taken_count, finish, AnswersFinish}
use Rattle.yl_events.specs.Trail.{TrailValue, trail_after, fault_from}
use Rattle.yl_events.specs.DocumentOutcome.{Events, Fails, AnswersDocument, Walked, document_outcome, outcome_by, steps}
use Rattle.yl_events.specs.Parsing.{ParserValue, Feeds}
use Rattle.yl_events.specs.SymbolParsing.{SymbolParserValue, outcome_of_symbols, is_whole, FeedsSymbols}
use Rattle.yl_events.specs.Outlines.{end_event}
use Rattle.yl_events.specs.declared.symbol.Shape.TheVariants.{DocumentEnd}
use Rattle.yl_events.proofs.Counts.{line_count}
use Rattle.yl_events.proofs.Parts.{run_parts, taken_less, taken_parts, told_on, told_stop}

-- ---- some symbols

pub fed_all : (p : SymbolParserValue) (count : ℕ) (out : List Outline) (ws : List Symbol) (answer : Option ℕ) (gs : List Goal) (es : List Outline) (u : TrailValue) →
    is_whole true ws ≡ true → Walked (steps ws p.goals out) (taken_count ws p.goals out) answer gs es → answer ≡ None → u ≡ trail_after p.trail ws →
    FeedsSymbols p count out ws None (record { goals = reverse gs; trail = u }) es
fed_all p count out ws (Some place) gs es u whole h is e = cc
fed_all p count out ws None gs es u whole h is e = λ later.
    told_on p.trail count p.goals out ws later (record { goals = reverse gs; events = es }) whole h
    ∙ ap (λ t. outcome_by t (count + lexeme_count ws) (reverse gs) es later) (sym e)

pub fed_fault : (p : SymbolParserValue) (count : ℕ) (out : List Outline) (ws : List Symbol) (answer : Option ℕ) (gs : List Goal) (es : List Outline) (place : ℕ) (f : PlacedParseFault) →
    is_whole true ws ≡ true → Walked (steps ws p.goals out) (taken_count ws p.goals out) answer gs es → answer ≡ Some place →
    f ≡ record { kind = fault_from p.trail place ws; place = count + place } → (later : List Symbol) → outcome_of_symbols p count out (ws ++ later) ≡ Fails f
fed_fault p count out ws None gs es place f whole h is e later = cc
fed_fault p count out ws (Some n) gs es place f whole h is e later =
    let same : n ≡ place = cc in
    told_stop p.trail count p.goals out ws later whole h.0
    ∙ ap (λ j. Fails (record { kind = fault_from p.trail j ws; place = count + j })) (sym h.1 ∙ same)
    ∙ ap Fails (sym e)

-- a fault stands at one of the lexemes
pub fed_inside : (count : ℕ) (goals : List Goal) (out : List Outline) (ws : List Symbol) (answer : Option ℕ) (gs : List Goal) (es : List Outline) (place : ℕ) (f : PlacedParseFault) (kind : ParseFault) →
    is_whole true ws ≡ true → Walked (steps ws goals out) (taken_count ws goals out) answer gs es → answer ≡ Some place →
    f ≡ record { kind = kind; place = count + place } → (count ≤ f.place) × (f.place < count + lexeme_count ws)
fed_inside count goals out ws None gs es place f kind whole h is e = cc
fed_inside count goals out ws (Some n) gs es place f kind whole h is e =
    let same : n ≡ place = cc in
    let at : f.place ≡ count + place = ap (λ (g : PlacedParseFault). g.place) e in
    let less : taken_count ws goals out < lexeme_count ws = taken_less true ws goals out whole h.0 in
    let taken : n ≡ taken_count ws goals out = h.1 in
    (omega (arith, at), omega (arith, at, same, taken, less))

-- ---- a line

pub fed_line : (p : ParserValue) (out : List Outline) (line : List Token) (ws : List Symbol) (first : ℕ) (marks : MarkerValue) (fault : Option PlacedParseFault) (q : SymbolParserValue) (es : List Outline) →
    ws ≡ marks_of_line p.marks line → first ≡ p.marks.count → marks ≡ behind_line p.marks line →
    FeedsSymbols (record { goals = p.goals; trail = p.trail }) first out ws fault q es →
    Feeds p out line fault (record { marks = marks; goals = q.goals; trail = q.trail }) es
fed_line p out line ws first marks None q es w n m h = λ lines.
    let later = marks_by_lines (behind_line p.marks line) lines in
    ap (λ l. outcome_by p.trail p.marks.count p.goals out (l ++ later)) (sym w)
    ∙ ap (λ k. outcome_by p.trail k p.goals out (ws ++ later)) (sym n)
    ∙ h later
    ∙ ap (λ k. outcome_by q.trail (k + lexeme_count ws) q.goals es later) n
    ∙ ap (λ l. outcome_by q.trail (p.marks.count + lexeme_count l) q.goals es later) w
    ∙ ap (λ k. outcome_by q.trail (p.marks.count + k) q.goals es later) (line_count p.marks line)
    ∙ ap (λ (b : MarkerValue). outcome_by q.trail b.count q.goals es (marks_by_lines b lines)) (sym m)
fed_line p out line ws first marks (Some f) q es w n m h = λ lines.
    let later = marks_by_lines (behind_line p.marks line) lines in
    ap (λ l. outcome_by p.trail p.marks.count p.goals out (l ++ later)) (sym w)
    ∙ ap (λ k. outcome_by p.trail k p.goals out (ws ++ later)) (sym n)
    ∙ h later

-- ---- the end

run_all : (ws : List Symbol) (goals : List Goal) (out : List Outline) → run ws goals out ≡ m.onward (λ s. finish s.goals s.events) (steps ws goals out)
run_all ws goals out = ap (λ l. run l goals out) (sym (append-nil ws)) ∙ run_parts ws [] goals out

end_left : (ws : List Symbol) (goals gs : List Goal) (out es fs : List Outline) (whole : Bool) → steps ws goals out ≡ Some (record { goals = gs; events = es }) →
    AnswersFinish (finish gs es) whole fs → AnswersFinish (run ws goals out) whole fs
end_left ws goals gs out es fs whole e h =
    subst (λ r. AnswersFinish r whole fs) (sym (run_all ws goals out ∙ ap (m.onward (λ s. finish s.goals s.events)) e)) h

finished : (r : Option (List Outline)) (es : List Outline) → AnswersFinish r true es → r ≡ Some es
finished None es h = let e : true ≡ false = h in cc
finished (Some fs) es h = ap Some (sym h.1)

all_taken : (ws : List Symbol) (goals : List Goal) (out : List Outline) (s : ParserState) → steps ws goals out ≡ Some s → taken_count ws goals out ≡ lexeme_count ws
all_taken ws goals out s e =
    ap (λ l. taken_count l goals out) (sym (append-nil ws)) ∙ taken_parts ws [] goals out s e ∙ omega arith

unfinished : (r : Option (List Outline)) (es : List Outline) → AnswersFinish r false es → r ≡ None
unfinished None es h = refl
unfinished (Some fs) es h = let e : false ≡ true = h.0 in cc

-- all symbols of a document, and what is left

pub all_left : (ws : List Symbol) (goals gs : List Goal) (out es fs : List Outline) (answer : Option ℕ) (whole : Bool) → Walked (steps ws goals out) (taken_count ws goals out) answer gs es →
    answer ≡ None → AnswersFinish (finish (reverse gs) es) whole fs → whole ≡ true → AnswersDocument (run ws goals out) (taken_count ws goals out) None fs
all_left ws goals gs out es fs (Some place) whole h e left is = cc
all_left ws goals gs out es fs None whole h e left is =
    finished (run ws goals out) fs (subst (λ b. AnswersFinish (run ws goals out) b fs) is (end_left ws goals (reverse gs) out es fs whole h left))

pub not_left : (ws : List Symbol) (goals gs : List Goal) (out es fs : List Outline) (answer : Option ℕ) (whole : Bool) (place : ℕ) →
    Walked (steps ws goals out) (taken_count ws goals out) answer gs es → answer ≡ None → AnswersFinish (finish (reverse gs) es) whole fs → whole ≡ false →
    place ≡ lexeme_count ws → AnswersDocument (run ws goals out) (taken_count ws goals out) (Some place) fs
not_left ws goals gs out es fs (Some n) whole place h e left is there = cc
not_left ws goals gs out es fs None whole place h e left is there = (
  unfinished (run ws goals out) fs (subst (λ b. AnswersFinish (run ws goals out) b fs) is (end_left ws goals (reverse gs) out es fs whole h left)),
  there ∙ sym (all_taken ws goals out _ h),
)

pub not_walked : (ws : List Symbol) (goals gs : List Goal) (out es : List Outline) (answer : Option ℕ) (place : ℕ) → Walked (steps ws goals out) (taken_count ws goals out) answer gs es →
    answer ≡ Some place → AnswersDocument (run ws goals out) (taken_count ws goals out) (Some place) es
not_walked ws goals gs out es None place h e = cc
not_walked ws goals gs out es (Some n) place h e =
    let same : n ≡ place = cc in
    (run_all ws goals out ∙ ap (m.onward (λ s. finish s.goals s.events)) h.0, sym same ∙ h.1)

pub all_told : (p : SymbolParserValue) (count : ℕ) (out es out' : List Outline) (ws : List Symbol) (answer : Option ℕ) → AnswersDocument (run ws p.goals out) (taken_count ws p.goals out) answer es →
    answer ≡ None → out' ≡ es ++ end_event DocumentEnd ∷ [] → outcome_of_symbols p count out ws ≡ Events out'
all_told p count out es out' ws (Some place) h is e = cc
all_told p count out es out' ws None h is e =
    ap (document_outcome p.trail count (taken_count ws p.goals out) ws) h ∙ ap Events (sym e)

pub fault_told : (p : SymbolParserValue) (count : ℕ) (out es : List Outline) (ws : List Symbol) (answer : Option ℕ) (place : ℕ) (f : PlacedParseFault) →
    AnswersDocument (run ws p.goals out) (taken_count ws p.goals out) answer es → answer ≡ Some place → f ≡ record { kind = fault_from p.trail place ws; place = count + place } →
    outcome_of_symbols p count out ws ≡ Fails f
fault_told p count out es ws None place f h is e = cc
fault_told p count out es ws (Some n) place f h is e =
    let same : n ≡ place = cc in
    ap (document_outcome p.trail count (taken_count ws p.goals out) ws) h.0
    ∙ ap (λ j. Fails (record { kind = fault_from p.trail j ws; place = count + j })) (sym h.1 ∙ same)
    ∙ ap Fails (sym e)
