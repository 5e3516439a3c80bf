-- Of lexemes that are cut into documents one list of documents is built.
use Rattle.std.proofs.Common.{◌≡◌, ℕ, List, [], ◌∷◌, Option, Some, None, refl, sym, ap, ◌∙◌}
use Rattle.yl_lexeme.specs.Lexeme.{LexemeValue}
use Rattle.yl_marks.specs.Marks.{symbols_of_lexemes}
use Rattle.yl_events.specs.declared.fault.ParseFault.{ParseFault}
use Rattle.yl_events.specs.declared.fault.PlacedParseFault.{PlacedParseFault}
use Rattle.yl_events.specs.Built.{Builds, IsFaultOf}
use Rattle.yl_events.specs.Event.{EventValue}
use Rattle.yl_events.specs.Faults.{fault_of}
use Rattle.yl_events.proofs.Answered.{one_fault, one_list, no_fault}
use Rattle.yl_config.specs.TextDocuments.{AreBuilt, BuiltDocumentValue, IsBuilt}

abbrev placed : ParseFault → ℕ → PlacedParseFault
placed kind place = record { kind = kind; place = place }

same_placed : (k l : ParseFault) (i j : ℕ) → k ≡ l → i ≡ j → placed k i ≡ placed l j
same_placed k l i j p q = rw (p, q) refl

same_faults : (xs : List LexemeValue) (f g : PlacedParseFault) → IsFaultOf xs f → IsFaultOf xs g → f ≡ g
same_faults xs f g h k =
    let place : f.place ≡ g.place = one_fault (symbols_of_lexemes xs) f.place g.place h.place k.place in
    let kind : f.kind ≡ g.kind = h.kind ∙ (ap (fault_of (symbols_of_lexemes xs)) place ∙ sym k.kind) in
    same_placed f.kind g.kind f.place g.place kind place

same_builds : (xs : List LexemeValue) (es fs : List EventValue) (f g : Option PlacedParseFault) → Builds xs es f → Builds xs fs g → (es ≡ fs) × (f ≡ g)
same_builds xs es fs None None h k = (one_list xs es fs h k, refl)
same_builds xs es fs None (Some g) h k = absurd (no_fault (symbols_of_lexemes xs) h.outlines g.place h.derived k.0.place)
same_builds xs es fs (Some f) None h k = absurd (no_fault (symbols_of_lexemes xs) k.outlines f.place k.derived h.0.place)
same_builds xs es fs (Some f) (Some g) h k =
    let some : PlacedParseFault → Option PlacedParseFault = λ o. Some o in
    (h.1 ∙ sym k.1, ap some (same_faults xs f g h.0 k.0))

abbrev document : List LexemeValue → List EventValue → Option PlacedParseFault → BuiltDocumentValue
document xs es f = record { lexemes = xs; events = es; fault = f }

same_document : (xs ys : List LexemeValue) (es fs : List EventValue) (f g : Option PlacedParseFault) → xs ≡ ys → es ≡ fs → f ≡ g → document xs es f ≡ document ys fs g
same_document xs ys es fs f g p q r = rw (p, q, r) refl

same_built : (xs : List LexemeValue) (d e : BuiltDocumentValue) → IsBuilt xs d → IsBuilt xs e → d ≡ e
same_built xs d e h k =
    let same = same_builds xs d.events e.events d.fault e.fault h.builds k.builds in
    same_document d.lexemes e.lexemes d.events e.events d.fault e.fault (h.lexemes ∙ sym k.lexemes) same.0 same.1

same_first : (d e : BuiltDocumentValue) (ds es : List BuiltDocumentValue) → d ≡ e → ds ≡ es → d ∷ ds ≡ e ∷ es
same_first d e ds es p q = rw (p, q) refl

pub all_same : (xss : List (List LexemeValue)) (ds es : List BuiltDocumentValue) → AreBuilt xss ds → AreBuilt xss es → ds ≡ es
all_same [] [] [] h k = refl
all_same [] [] (e ∷ es) h k = absurd k
all_same [] (d ∷ ds) es h k = absurd h
all_same (xs ∷ more) [] es h k = absurd h
all_same (xs ∷ more) (d ∷ ds) [] h k = absurd k
all_same (xs ∷ more) (d ∷ ds) (e ∷ es) h k = same_first d e ds es (same_built xs d e h.0 k.0) (all_same more ds es h.1 k.1)
