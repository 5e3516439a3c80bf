-- A document is read line by line.
use Rattle.std.specs.Prelude.{ℕ, suc, ◌≡◌, ◌+◌, ◌<◌, ◌≤◌, nat_lt, List, [], ◌∷◌, ◌++◌, map, drop, length, Option, Some, None}
use Rattle.std.proofs.Common.{refl, ap, sym, subst, ◌∙◌, arith, append-nil, append_assoc, drop-cons, get_or}
use Rattle.std.proofs.lemmas.Bool.{lt-ltb}
use Rattle.std.proofs.lemmas.List.{drop_all, length-map, map-append}
use Rattle.yl_text.specs.Finding.{FindingValue}
use Rattle.yl_lexeme.specs.Lexeme.{LexemeValue}
use Rattle.yl_marks.specs.declared.symbol.OpenBlock.{OpenBlock}
use Rattle.yl_marks.specs.declared.symbol.Symbol.{Symbol}
use Rattle.yl_marks.specs.declared.token.Token.{Token}
use Rattle.yl_marks.specs.Keys.{token_of}
use Rattle.yl_marks.specs.Marks.{closings_of_all}
use Rattle.yl_marks.specs.ByLine.{HaveIndices, MarkerValue, behind_line, by_line, marker_at_start, marks_by_lines, marks_of_line}
use Rattle.yl_marks.specs.FactsByLine.{KeyMarkerValue, behind_keyed_line, key_marker_at_start}
use Rattle.yl_marks.proofs.Indices.{indices_by_lines, indices_of_line}
use Rattle.yl_events.specs.declared.fault.PlacedParseFault.{PlacedParseFault}
use Rattle.yl_events.specs.declared.symbol.Outline.{Outline}
use Rattle.yl_events.specs.declared.symbol.Shape.TheVariants.{DocumentEnd}
use Rattle.yl_events.specs.Derives.{lexeme_count}
use Rattle.yl_events.specs.DocumentOutcome.{DocumentOutcome, Events, Fails, document_outcome}
use Rattle.yl_events.specs.Event.{EventValue, event_of_outline}
use Rattle.yl_events.specs.Machine.{run, taken_count}
use Rattle.yl_events.specs.Outlines.{end_event}
use Rattle.yl_events.specs.Parsing.{IsOutcome, start_events}
use Rattle.yl_events.specs.SymbolParsing.{FeedsSymbols, SymbolParserValue, outcome_of_symbols, symbols_at_start, told_behind}
use Rattle.yl_events.specs.Trail.{TrailValue}
use Rattle.yl_events.proofs.Answered.{taken_within}
use Rattle.yl_events.proofs.Counts.{all_closed_count}
use Rattle.yl_events.proofs.ToldBehind.{fed_apart, symbols_behind}
use Rattle.yl_indentation.specs.declared.fact.Fact.{Fact}
use Rattle.yl_indentation.specs.Context.{ContextValue}
use Rattle.yl_indentation.specs.SymbolFacts.{behind_symbols, facts_left}
use Rattle.yl_indentation.proofs.BySymbols.{as_counted, go_on, none_counts}
use Rattle.yl_tree.specs.declared.tree_rules.TreeRules.{TreeRules}
use Rattle.yl_tree.specs.declared.options.TreeOptions.{TreeOptions}
use Rattle.yl_tree.specs.Tree.{tree_findings}
use Rattle.yl_tree.specs.TreeRules.{Finds}
use Rattle.yl_config.specs.declared.config.Config.{Config}
use Rattle.yl_sections.specs.Judge.{built_by, document_of}
use Rattle.yl_sections.specs.Kept.{BuiltValue, event_findings, tree_options_of}
use Rattle.yl_sections.specs.Reading.{Ends, FindsAll, Gives, IsQuiet, ReadsOn, fault_told}
use Rattle.yl_sections.proofs.FrontRows.{none_found}

module _ {A : Type 0} (xs : List LexemeValue) (t u : TreeRules A) (out : List Outline) where
  -- these events are fed
  abbrev pub Fed : Type 0
  Fed = (es : List EventValue) (all : List FindingValue) → Finds t (map (event_of_outline xs) out ++ es) all → Finds u es all

  fed_on : Fed → (o : DocumentOutcome) → ReadsOn None xs t (told_behind out o) u o
  fed_on h (Events es) = (refl, λ all f. h (map (event_of_outline xs) es) all (subst (λ (vs : List EventValue). Finds t vs all) (map-append (event_of_outline xs) out es) f))
  fed_on h (Fails f) = (refl, λ all g. tt)

  pub reads_on : (p q : SymbolParserValue) (count below : ℕ) (ws later : List Symbol) → FeedsSymbols p count [] ws None q out → below ≡ count + lexeme_count ws → Fed
      → ReadsOn None xs t (outcome_of_symbols p count [] (ws ++ later)) u (outcome_of_symbols q below [] later)
  reads_on p q count below ws later feeds n fed =
      let here = outcome_of_symbols q below [] later in
      let same : outcome_of_symbols p count [] (ws ++ later) ≡ told_behind out here = fed_apart p q count out ws later feeds ∙ ap (λ m. told_behind out (outcome_of_symbols q m [] later)) (sym n) in
      subst (λ o. ReadsOn None xs t o u here) (sym same) (fed_on fed here)

  -- the same, as a reader has it
  pub line_read : (p q : SymbolParserValue) (first count below : ℕ) (ws marks : List Symbol) (before shown : List Outline) (fault : Option PlacedParseFault) → first ≡ count → before ≡ [] → ws ≡ marks → fault ≡ None → FeedsSymbols p first before ws fault q out
      → below ≡ count + lexeme_count marks → shown ≡ out → ((es : List EventValue) (all : List FindingValue) → Finds t (map (event_of_outline xs) shown ++ es) all → Finds u es all) → (later : List Symbol)
      → ReadsOn None xs t (outcome_of_symbols p count [] (marks ++ later)) u (outcome_of_symbols q below [] later)
  line_read p q first count below ws marks before shown fault at none are sound feeds n same fed later =
      reads_on p q count below marks later
      (subst (λ (vs : List Symbol). FeedsSymbols p count [] vs None q out) are
      (subst (λ (os : List Outline). FeedsSymbols p count os ws None q out) none (subst (λ k. FeedsSymbols p k before ws None q out) at (subst (λ o. FeedsSymbols p first before ws o q out) sound feeds)))) n
      (subst (λ (os : List Outline). (es : List EventValue) (all : List FindingValue) → Finds t (map (event_of_outline xs) os ++ es) all → Finds u es all) same fed)

  -- all of its events are told, and fed
  pub finds_all : (o : DocumentOutcome) (all : List FindingValue) → o ≡ Events out → Fed → FindsAll t xs o all → Finds u [] all
  finds_all o all is fed finds =
      fed [] all (subst (λ (vs : List EventValue). Finds t vs all) (sym (append-nil (map (event_of_outline xs) out))) (subst (λ w. FindsAll t xs w all) is finds))

  -- the document ends, as a reader has it
  pub ended : (p : SymbolParserValue) (first count : ℕ) (ws closings : List Symbol) (before shown : List Outline) (fault : Option PlacedParseFault) → first ≡ count → before ≡ [] → ws ≡ closings → fault ≡ None
      → IsOutcome (outcome_of_symbols p first before ws) fault out → shown ≡ out → ((es : List EventValue) (all : List FindingValue) → Finds t (map (event_of_outline xs) shown ++ es) all → Finds u es all)
      → Ends None xs t (outcome_of_symbols p count [] closings) u
  ended p first count ws closings before shown fault at none are sound tells same fed =
      let told : outcome_of_symbols p first before ws ≡ Events out = subst (λ o. IsOutcome (outcome_of_symbols p first before ws) o out) sound tells in
      let whole : outcome_of_symbols p count [] closings ≡ Events out =
      ap (λ vs. outcome_of_symbols p count [] vs) (sym are) ∙ (ap (λ os. outcome_of_symbols p count os ws) (sym none) ∙ (ap (λ k. outcome_of_symbols p k before ws) (sym at) ∙ told)) in (
        ap fault_told whole,
        λ all finds. finds_all (outcome_of_symbols p count [] closings) all whole
            (subst (λ (os : List Outline). (es : List EventValue) (found : List FindingValue) → Finds t (map (event_of_outline xs) os ++ es) found → Finds u es found) same fed) finds,
      )

-- ---- checked places

module _ (tokens : List Token) (ns : List ℕ) where
  facts_parts : (c d : ContextValue) (all counted : ℕ) (ws later : List Symbol) (fs gs : List Fact) → d ≡ behind_symbols tokens ns c ws → gs ≡ fs ++ facts_left c tokens counted ns ws
      → HaveIndices (λ i. nat_lt i all ≡ nat_lt i counted) ws → gs ++ facts_left d tokens all ns later ≡ fs ++ facts_left c tokens all ns (ws ++ later)
  facts_parts c d all counted ws later fs gs behind told same =
      ap (λ (xs : List Fact). xs ++ facts_left d tokens all ns later) told
      ∙ (append_assoc fs (facts_left c tokens counted ns ws) (facts_left d tokens all ns later)
      ∙ (ap (λ (xs : List Fact). fs ++ (xs ++ facts_left d tokens all ns later)) (sym (as_counted tokens ns c all counted ws same))
      ∙ (ap (λ k. fs ++ (facts_left c tokens all ns ws ++ facts_left k tokens all ns later)) behind ∙ ap (λ (xs : List Fact). fs ++ xs) (sym (go_on tokens ns c all ws later)))))

  -- one line more, all of which counts
  pub facts_on : (c d : ContextValue) (m n : MarkerValue) (line : List Token) (later lines : List (List Token)) (read end all : ℕ) (fs gs total : List Fact) → lines ≡ line ∷ later
      → n ≡ behind_line m line → m.count ≡ read → end ≡ read + length line → d ≡ behind_symbols tokens ns c (marks_of_line m line)
      → gs ≡ fs ++ facts_left c tokens end ns (marks_of_line m line) → end ≤ all
      → fs ++ facts_left c tokens all ns (marks_by_lines m lines) ≡ total → gs ++ facts_left d tokens all ns (marks_by_lines n later) ≡ total
  facts_on c d m n line later lines read end all fs gs total cut behind at far kept told most whole =
      let same = indices_of_line (λ i. nat_lt i all ≡ nat_lt i end) m line (λ j l h. lt-ltb j all (omega (arith, h, at, far, most)) ∙ sym (lt-ltb j end (omega (arith, h, at, far)))) in
      facts_parts c d all end (marks_of_line m line) (marks_by_lines n later) fs gs kept told same
      ∙ (ap (λ k. fs ++ facts_left c tokens all ns (marks_of_line m line ++ marks_by_lines k later)) behind ∙ (ap (λ (ls : List (List Token)). fs ++ facts_left c tokens all ns (marks_by_lines m ls)) (sym cut) ∙ whole))

  -- a line with a fault, behind which nothing counts
  pub facts_stop : (c : ContextValue) (m : MarkerValue) (line : List Token) (later lines : List (List Token)) (counted : ℕ) (fs gs total : List Fact) → lines ≡ line ∷ later
      → counted ≤ m.count + length line → gs ≡ fs ++ facts_left c tokens counted ns (marks_of_line m line)
      → fs ++ facts_left c tokens counted ns (marks_by_lines m lines) ≡ total → gs ≡ total
  facts_stop c m line later lines counted fs gs total cut least told whole =
      let ws = marks_of_line m line in
      let rest = marks_by_lines (behind_line m line) later in
      let d = behind_symbols tokens ns c ws in
      let none : facts_left d tokens counted ns rest ≡ [] = none_counts tokens ns d counted rest (indices_by_lines (λ i. counted ≤ i) (behind_line m line) later (λ j l. omega (arith, l, least))) in
      sym (append-nil gs)
      ∙ (ap (λ (xs : List Fact). gs ++ xs) (sym none)
      ∙ (facts_parts c d counted counted ws rest fs gs refl told (indices_of_line (λ i. nat_lt i counted ≡ nat_lt i counted) m line (λ j l h. refl))
      ∙ (ap (λ (ls : List (List Token)). fs ++ facts_left c tokens counted ns (marks_by_lines m ls)) (sym cut) ∙ whole)))

-- ---- a fault's place

abbrev place_in : DocumentOutcome → ℕ
place_in (Events es) = 0
place_in (Fails f) = f.place

place_told : (t : TrailValue) (count place : ℕ) (ws : List Symbol) (r : Option (List Outline)) (f : PlacedParseFault) → document_outcome t count place ws r ≡ Fails f → f.place ≡ count + place
place_told t count place ws (Some es) f e = let no : Events (es ++ end_event DocumentEnd ∷ []) ≡ Fails f = e in absurd (events_no_fault (es ++ end_event DocumentEnd ∷ []) f no)
  where
    is_fault : DocumentOutcome → Type 0
    is_fault (Events es) = ⊥
    is_fault (Fails f) = Unit {0}

    events_no_fault : (es : List Outline) (f : PlacedParseFault) → Events es ≡ Fails f → ⊥
    events_no_fault es f e = subst is_fault (sym e) tt
place_told t count place ws None f e = sym (ap place_in e)

pub fault_place : (p : SymbolParserValue) (count : ℕ) (ws : List Symbol) (f : PlacedParseFault) → ((later : List Symbol) → outcome_of_symbols p count [] (ws ++ later) ≡ Fails f)
    → (count ≤ f.place) × (f.place ≤ count + lexeme_count ws)
fault_place p count ws f fails =
    let here : outcome_of_symbols p count [] ws ≡ Fails f = ap (λ (vs : List Symbol). outcome_of_symbols p count [] vs) (sym (append-nil ws)) ∙ fails [] in
    let place : f.place ≡ count + taken_count ws p.goals [] = place_told p.trail count (taken_count ws p.goals []) ws (run ws p.goals []) f here in
    (omega (arith, place), omega (arith, place, taken_within ws p.goals []))

-- ---- what is told

module _ {A : Type 0} (config : Config) (xs : List LexemeValue) (b : BuiltValue) where
  gives_on : (t u : TreeRules A) (o w : DocumentOutcome) → ReadsOn None xs t o u w → Gives config xs t o b → Gives config xs u w b
  gives_on t u o w reads gives = record { fault = sym reads.0 ∙ gives.fault; found = reads.1 (event_findings config b.events) gives.found }

  -- one line more
  pub told_on : (t u : TreeRules A) (p q : SymbolParserValue) (m n : MarkerValue) (line : List Token) (later lines : List (List Token)) (read end : ℕ) → lines ≡ line ∷ later
      → n ≡ behind_line m line → m.count ≡ read → n.count ≡ end
      → ((ws : List Symbol) → ReadsOn None xs t (outcome_of_symbols p m.count [] (marks_of_line m line ++ ws)) u (outcome_of_symbols q n.count [] ws))
      → Gives config xs t (outcome_of_symbols p read [] (marks_by_lines m lines)) b → Gives config xs u (outcome_of_symbols q end [] (marks_by_lines n later)) b
  told_on t u p q m n line later lines read end cut behind at far reads gives =
      let from : outcome_of_symbols p read [] (marks_by_lines m lines) ≡ outcome_of_symbols p m.count [] (marks_of_line m line ++ marks_by_lines n later) =
      ap (λ (ls : List (List Token)). outcome_of_symbols p read [] (marks_by_lines m ls)) cut
      ∙ (ap (λ k. outcome_of_symbols p read [] (marks_of_line m line ++ marks_by_lines k later)) (sym behind) ∙ ap (λ c. outcome_of_symbols p c [] (marks_of_line m line ++ marks_by_lines n later)) (sym at)) in
      subst (λ c. Gives config xs u (outcome_of_symbols q c [] (marks_by_lines n later)) b) far
      (gives_on t u (outcome_of_symbols p m.count [] (marks_of_line m line ++ marks_by_lines n later)) (outcome_of_symbols q n.count [] (marks_by_lines n later)) (reads (marks_by_lines n later))
      (subst (λ o. Gives config xs t o b) from gives))

  -- a line with a fault
  pub told_stop : (t : TreeRules A) (p : SymbolParserValue) (m : MarkerValue) (line : List Token) (later lines : List (List Token)) (read : ℕ) (f : PlacedParseFault) → lines ≡ line ∷ later → m.count ≡ read
      → ((ws : List Symbol) → outcome_of_symbols p m.count [] (marks_of_line m line ++ ws) ≡ Fails f)
      → Gives config xs t (outcome_of_symbols p read [] (marks_by_lines m lines)) b → b.fault ≡ Some f
  told_stop t p m line later lines read f cut at fails gives =
      sym gives.fault
      ∙ ap fault_told
      (ap (λ (ls : List (List Token)). outcome_of_symbols p read [] (marks_by_lines m ls)) cut
      ∙ (ap (λ c. outcome_of_symbols p c [] (marks_of_line m line ++ marks_by_lines (behind_line m line) later)) (sym at) ∙ fails (marks_by_lines (behind_line m line) later)))

-- ---- events one after another

module _ {A : Type 0} (f : Outline → EventValue) (out : List Outline) (i : ℕ) where
  pub events_on : (t u : TreeRules A) (o : Outline) (e : EventValue) (es : List EventValue) (all : List FindingValue) → i < length out → o ≡ get_or out i o
      → e ≡ f o → ((later : List EventValue) (found : List FindingValue) → Finds t (e ∷ later) found → Finds u later found)
      → Finds t (map f (drop i out) ++ es) all → Finds u (map f (drop (i + 1) out) ++ es) all
  events_on t u o e es all l is told pushed finds =
      let rest = map f (drop (i + 1) out) ++ es in
      let cut : drop i out ≡ o ∷ drop (i + 1) out = drop-cons out i o l ∙ (ap (λ v. v ∷ drop (suc i) out) (sym is) ∙ ap (λ n. o ∷ drop n out) {x = suc i} {y = i + 1} (omega arith)) in
      pushed rest all
      (subst (λ v. Finds t (v ∷ rest) all) (sym told) (subst (λ (os : List Outline). Finds t (map f os ++ es) all) cut finds))

  pub events_done : (t : TreeRules A) (es : List EventValue) (all : List FindingValue) → length out ≤ i → Finds t (map f (drop i out) ++ es) all → Finds t es all
  events_done t es all l finds = subst (λ (os : List Outline). Finds t (map f os ++ es) all) (drop_all i out l) finds

-- ---- how many lexemes were read

pub line_counted : {T : Type 0} (f : T → LexemeValue) (line : List T) (m n : KeyMarkerValue) (read : ℕ) → n ≡ behind_keyed_line m (map token_of (map f line)) → m.marks.count ≡ read → n.marks.count ≡ read + length line
line_counted f line m n read behind at =
    ap (λ (k : KeyMarkerValue). k.marks.count) behind ∙ omega (arith, at, length-map (map f line) token_of, length-map line f)

pub tokens_long : {T : Type 0} (f : T → LexemeValue) (line : List T) → length (map token_of (map f line)) ≡ length line
tokens_long f line = length-map (map f line) token_of ∙ length-map line f

-- ---- the beginning

module _ {A : Type 0} (config : Config) (xs : List LexemeValue) (t u : TreeRules A) where
  begun : ((es : List EventValue) (all : List FindingValue) → Finds t (map (event_of_outline xs) start_events ++ es) all → Finds u es all) → ((es : List EventValue) → Finds t es (event_findings config es))
      → (o : DocumentOutcome) → Gives config xs u o (built_by xs (told_behind start_events o))
  begun fed all (Events es) = record { fault = refl; found = fed (map (event_of_outline xs) es) _ (all (map (event_of_outline xs) (start_events ++ es))) }
  begun fed all (Fails f) = record { fault = refl; found = tt }

  pub begins : (p : SymbolParserValue) (options : TreeOptions) (out shown : List Outline) → p ≡ symbols_at_start → out ≡ start_events → shown ≡ out → options ≡ tree_options_of config
      → ((es : List EventValue) (all : List FindingValue) → Finds t (map (event_of_outline xs) shown ++ es) all → Finds u es all) → ((es : List EventValue) → Finds t es (tree_findings options es))
      → (ws : List Symbol) → Gives config xs u (outcome_of_symbols p 0 [] ws) (built_by xs (outcome_of_symbols symbols_at_start 0 start_events ws))
  begins p options out shown at told same are fed all ws =
      let o = outcome_of_symbols symbols_at_start 0 [] ws in
      let whole : outcome_of_symbols symbols_at_start 0 start_events ws ≡ told_behind start_events o = symbols_behind start_events symbols_at_start 0 [] ws in
      let fed' = subst (λ (os : List Outline). (es : List EventValue) (found : List FindingValue) → Finds t (map (event_of_outline xs) os ++ es) found → Finds u es found) (same ∙ told) fed in
      let all' = subst (λ k. (es : List EventValue) → Finds t es (tree_findings k es)) are all in
      subst (λ q. Gives config xs u (outcome_of_symbols q 0 [] ws) (built_by xs (outcome_of_symbols symbols_at_start 0 start_events ws))) (sym at)
      (subst (λ w. Gives config xs u o (built_by xs w)) (sym whole) (begun fed' all' o))

-- ---- the end

pub close_place : (p : SymbolParserValue) (count : ℕ) (os : List OpenBlock) (f : PlacedParseFault) → outcome_of_symbols p count [] (closings_of_all os) ≡ Fails f → f.place ≡ count
close_place p count os f fails =
    let ws = closings_of_all os in
    omega (arith, place_told p.trail count (taken_count ws p.goals []) ws (run ws p.goals []) f fails, taken_within ws p.goals [], all_closed_count os)

module _ {A : Type 0} (config : Config) (xs : List LexemeValue) (b : BuiltValue) (t u : TreeRules A) (o : DocumentOutcome) (quiet : IsQuiet b) (gives : Gives config xs t o b) where
  nothing_found : (f : PlacedParseFault) → b.fault ≡ Some f → [] ≡ event_findings config b.events
  nothing_found f is = sym (ap (event_findings config) (quiet f is) ∙ none_found config)

  -- with this fault after all lexemes, under which nothing is found
  pub ends_after : (f : PlacedParseFault) → o ≡ Fails f → (found : List FindingValue) → found ≡ [] → (b.fault ≡ Some f) × (found ≡ event_findings config b.events)
  ends_after f fails found none =
      let told : b.fault ≡ Some f = sym gives.fault ∙ ap fault_told fails in
      (told, none ∙ nothing_found f told)

  -- whole
  pub ends_whole : Ends None xs t o u → (found : List FindingValue) → ((all : List FindingValue) → Finds u [] all → found ≡ all) → (b.fault ≡ None) × (found ≡ event_findings config b.events)
  ends_whole closed found finds = (sym gives.fault ∙ closed.0, finds (event_findings config b.events) (closed.1 (event_findings config b.events) gives.found))

-- ---- all of it

document_told : (xs : List LexemeValue) → 0 < length xs → document_of xs ≡ built_by xs (outcome_of_symbols symbols_at_start 0 start_events (marks_by_lines marker_at_start (by_line (map token_of xs))))
document_told [] l = absurd (omega (arith, l))
document_told (x ∷ xs) l = refl

quiet_built : (xs : List LexemeValue) (o : DocumentOutcome) → IsQuiet (built_by xs o)
quiet_built xs (Events es) f e = absurd (cc)
quiet_built xs (Fails g) f e = refl

pub quiet_document : (xs : List LexemeValue) → 0 < length xs → IsQuiet (document_of xs)
quiet_document xs l = subst IsQuiet (sym (document_told xs l)) (quiet_built xs (outcome_of_symbols symbols_at_start 0 start_events (marks_by_lines marker_at_start (by_line (map token_of xs)))))

pub gives_document : {A : Type 0} (config : Config) (xs : List LexemeValue) (t : TreeRules A) (p : SymbolParserValue) (m : KeyMarkerValue) → m ≡ key_marker_at_start → 0 < length xs
    → ((ws : List Symbol) → Gives config xs t (outcome_of_symbols p 0 [] ws) (built_by xs (outcome_of_symbols symbols_at_start 0 start_events ws)))
    → Gives config xs t (outcome_of_symbols p 0 [] (marks_by_lines m.marks (by_line (map token_of xs)))) (document_of xs)
gives_document config xs t p m start l gives =
    let lines = by_line (map token_of xs) in
    subst (λ k. Gives config xs t (outcome_of_symbols p 0 [] (marks_by_lines k.marks lines)) (document_of xs)) (sym start)
    (subst (λ b. Gives config xs t (outcome_of_symbols p 0 [] (marks_by_lines marker_at_start lines)) b) (sym (document_told xs l)) (gives (marks_by_lines marker_at_start lines)))
