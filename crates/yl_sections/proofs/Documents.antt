-- What the document of some lexemes gives is one value, and can be computed.
use Rattle.std.proofs.Common.{◌≡◌, ◌≤◌, ℕ, refl, ap, sym, ◌∙◌, List, [], ◌∷◌, map, length, Option, Some, None, arith}
use Rattle.yl_lexeme.specs.Lexeme.{LexemeValue}
use Rattle.yl_marks.specs.Marks.{symbols_of_lexemes}
use Rattle.yl_events.specs.declared.fault.ParseFault.{ParseFault}
use Rattle.yl_events.specs.declared.fault.PlacedParseFault.{PlacedParseFault}
use Rattle.yl_events.specs.Event.{EventValue, event_of_outline}
use Rattle.yl_events.specs.Built.{Builds, IsFaultOf}
use Rattle.yl_events.specs.Faults.{fault_of}
use Rattle.yl_events.specs.DocumentOutcome.{DocumentOutcome, Events, Fails}
use Rattle.yl_events.specs.Parsing.{Gives}
use Rattle.yl_events.proofs.Complete.{one_derivation}
use Rattle.yl_events.proofs.Answered.{one_fault, no_fault}
use Rattle.yl_events.proofs.Counts.{fault_inside}
use Rattle.yl_events.proofs.Giving.{gives}
use Rattle.yl_sections.specs.Kept.{BuiltValue, IsSectionBuilt, counted_of}
use Rattle.yl_sections.specs.Judge.{built_by, document_of}

placed : (k l : ParseFault) (i j : ℕ) → k ≡ l → i ≡ j → (let f : PlacedParseFault = record { kind = k; place = i } in let g : PlacedParseFault = record { kind = l; place = j } in f ≡ g)
placed k l i j a b = rw (a, b)

same_fault : (xs : List LexemeValue) (f g : PlacedParseFault) → IsFaultOf xs f → IsFaultOf xs g → f ≡ g
same_fault xs f g a b =
    let e : f.place ≡ g.place = one_fault (symbols_of_lexemes xs) f.place g.place a.place b.place in
    placed f.kind g.kind f.place g.place (a.kind ∙ ap (fault_of (symbols_of_lexemes xs)) e ∙ sym b.kind) e

made : (es fs : List EventValue) (f g : Option PlacedParseFault) → es ≡ fs → f ≡ g → (let b : BuiltValue = record { events = es; fault = f } in let c : BuiltValue = record { events = fs; fault = g } in b ≡ c)
made es fs f g a b = rw (a, b)

by_outcome : (xs : List LexemeValue) (t : DocumentOutcome) (es : List EventValue) (f : Option PlacedParseFault) → Gives xs t → Builds xs es f → record { events = es; fault = f } ≡ built_by xs t
by_outcome xs (Events os) es None g h = made es (map (event_of_outline xs) os) None None (h.filled ∙ ap (map (event_of_outline xs)) (one_derivation (symbols_of_lexemes xs) h.outlines os h.derived g)) refl
by_outcome xs (Events os) es (Some f) g h = absurd (no_fault (symbols_of_lexemes xs) os f.place g h.0.place)
by_outcome xs (Fails f) es None g h = absurd (no_fault (symbols_of_lexemes xs) h.outlines f.place h.derived g.place)
by_outcome xs (Fails f) es (Some e) g h = made es [] (Some e) (Some f) h.1 (ap Some (same_fault xs e f h.0 g))

-- one value
pub document_is : (xs : List LexemeValue) (b : BuiltValue) → IsSectionBuilt xs b → b ≡ document_of xs
document_is [] b h = h
document_is (x ∷ xs) b h = by_outcome (x ∷ xs) _ b.events b.fault (gives (x ∷ xs)) h

outcome_builds : (xs : List LexemeValue) (t : DocumentOutcome) → Gives xs t → Builds xs (built_by xs t).events (built_by xs t).fault
outcome_builds xs (Events os) g = record { outlines = os; derived = g; filled = refl }
outcome_builds xs (Fails f) g = (g, refl)

-- and there is one
pub document_built : (xs : List LexemeValue) → IsSectionBuilt xs (document_of xs)
document_built [] = refl
document_built (x ∷ xs) = outcome_builds (x ∷ xs) _ (gives (x ∷ xs))

-- as many lexemes as come before the fault are there
fault_within : (xs : List LexemeValue) (es : List EventValue) (f : Option PlacedParseFault) → Builds xs es f → counted_of xs f ≤ length xs
fault_within xs es None h = omega arith
fault_within xs es (Some f) h = fault_inside xs f.place h.0.place

pub counted_within : (xs : List LexemeValue) (b : BuiltValue) → b ≡ document_of xs → counted_of xs b.fault ≤ length xs
counted_within xs b e = by_built xs b (rw e (document_built xs))
  where
    by_built : (ys : List LexemeValue) (d : BuiltValue) → IsSectionBuilt ys d → counted_of ys d.fault ≤ length ys
    by_built [] d h = rw h (omega arith)
    by_built (y ∷ ys) d h = fault_within (y ∷ ys) d.events d.fault h
