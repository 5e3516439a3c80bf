-- What is said of bytes is one thing.
use Rattle.std.proofs.Common.{◌≡◌, ◌≢◌, ◌<◌, ◌≤◌, ℕ, List, [], ◌∷◌, length, Option, Some, None, Result, Ok, Err, refl, sym, ap, subst, ◌∙◌, arith}
use Rattle.std.specs.Str.{IsUtf8}
use Rattle.yl_text.specs.declared.position.Pos.{Pos}
use Rattle.yl_text.specs.declared.TheConstants.{MAX_BYTES}
use Rattle.yl_text.specs.Fault.{IsText}
use Rattle.yl_text.specs.Lines.{lines_of}
use Rattle.yl_config.proofs.OneBuilding.{all_same}
use Rattle.yl_scan.specs.Step.{characters_of}
use Rattle.yl_config.specs.declared.fault.ConfigFault.{ConfigFault}
use Rattle.yl_config.specs.declared.fault.ConfigFault.TheVariants as fault
use Rattle.yl_config.specs.declared.misfit.Misfit.{Misfit}
use Rattle.yl_config.specs.declared.misfit.MisfitKind.{MisfitKind}
use Rattle.yl_config.specs.declared.misfit.MisfitKind.TheVariants.{NotAMapping, UnknownKey, UnknownRule, UnknownOption, BadValue, BadLevel, UnknownExtends}
use Rattle.yl_config.specs.Document.{judgement}
use Rattle.yl_config.specs.Faults.{fault_by, place_from_one}
use Rattle.yl_config.specs.Outcome.{IsConfigOf, OneAnswer, Says, from_own, judged_own, judged_text, judged_unless}
use Rattle.yl_config.specs.Settings.{Settings}
use Rattle.yl_config.specs.Syntax.{text_fault}
use Rattle.yl_config.specs.TextDocuments.{BuiltDocumentValue}
use Rattle.yl_config.specs.TextReading.{TextReading, reading_of}

one_said : (r : TextReading) (a b : Result Settings ConfigFault) → Says r a → Says r b → a ≡ b
one_said r a b h k = h.judged ∙ (ap (judged_text r) (all_same _ h.documents k.documents h.built k.built) ∙ sym k.judged)

-- ---- what is said of a text is neither that it is too large nor no UTF-8, nor want of memory

abbrev pub read_text : List ℕ → TextReading
read_text t = reading_of (characters_of (lines_of t))

by_kind : (t : List ℕ) (kind : MisfitKind) (p : Pos) → IsText t → Says (read_text t) (Err (fault_by kind (place_from_one p))) → IsConfigOf t (Err (fault_by kind (place_from_one p)))
by_kind t NotAMapping p h k = (h, k)
by_kind t UnknownKey p h k = (h, k)
by_kind t UnknownRule p h k = (h, k)
by_kind t UnknownOption p h k = (h, k)
by_kind t BadValue p h k = (h, k)
by_kind t BadLevel p h k = (h, k)
by_kind t UnknownExtends p h k = (h, k)

by_first : (t : List ℕ) (place : Option Pos) (s : Settings) (first : Option Misfit) → IsText t
    → Says (read_text t) (judged_unless place (judgement s first)) → IsConfigOf t (judged_unless place (judgement s first))
by_first t (Some place) s first h k = (h, k)
by_first t None s None h k = (h, k)
by_first t None s (Some m) h k = by_kind t m.kind m.place h k

by_documents : (t : List ℕ) (place : Option Pos) (ds : List BuiltDocumentValue) → IsText t
    → Says (read_text t) (judged_unless place (judged_own ds)) → IsConfigOf t (judged_unless place (judged_own ds))
by_documents t place [] h k = by_first t place _ _ h k
by_documents t place (d ∷ ds) h k = by_first t place _ _ h k

pub said_of_text : (t : List ℕ) (answer : Result Settings ConfigFault) → IsText t → Says (read_text t) answer → IsConfigOf t answer
said_of_text t answer h k =
    let r = read_text t in
    let same : Says r (judged_text r k.documents) = record { documents = k.documents; built = k.built; judged = refl } in
    let P : Result Settings ConfigFault → Type 0 = λ a. IsConfigOf t a in
    subst P (sym k.judged) (by_documents t (text_fault r k.documents) (from_own k.documents) h same)

-- ---- of bytes one thing is said

not_large : {A : Type 0} (t : List ℕ) → MAX_BYTES < length t → IsText t → A
not_large t large h = absurd (omega (arith, large, h.short))

only_large : (t : List ℕ) (a : Result Settings ConfigFault) → a ≢ Err fault.Memory → MAX_BYTES < length t → IsConfigOf t a → a ≡ Err fault.TooLarge
only_large t (Ok s) m large h = not_large t large h.0
only_large t (Err fault.TooLarge) m large h = refl
only_large t (Err fault.NotUtf8) m large h = absurd (omega (arith, large, h.0))
only_large t (Err fault.Memory) m large h = absurd (m refl)
only_large t (Err (fault.Syntax p)) m large h = not_large t large h.0
only_large t (Err (fault.NotAMapping p)) m large h = not_large t large h.0
only_large t (Err (fault.UnknownKey p)) m large h = not_large t large h.0
only_large t (Err (fault.UnknownRule p)) m large h = not_large t large h.0
only_large t (Err (fault.UnknownOption p)) m large h = not_large t large h.0
only_large t (Err (fault.BadValue p)) m large h = not_large t large h.0
only_large t (Err (fault.BadLevel p)) m large h = not_large t large h.0
only_large t (Err (fault.UnknownExtends p)) m large h = not_large t large h.0

only_no_utf8 : (t : List ℕ) (a : Result Settings ConfigFault) → a ≢ Err fault.Memory → length t ≤ MAX_BYTES → ¬ (IsUtf8 t) → IsConfigOf t a → a ≡ Err fault.NotUtf8
only_no_utf8 t (Ok s) m short bad h = absurd (bad h.0.utf8)
only_no_utf8 t (Err fault.TooLarge) m short bad h = absurd (omega (arith, short, h))
only_no_utf8 t (Err fault.NotUtf8) m short bad h = refl
only_no_utf8 t (Err fault.Memory) m short bad h = absurd (m refl)
only_no_utf8 t (Err (fault.Syntax p)) m short bad h = absurd (bad h.0.utf8)
only_no_utf8 t (Err (fault.NotAMapping p)) m short bad h = absurd (bad h.0.utf8)
only_no_utf8 t (Err (fault.UnknownKey p)) m short bad h = absurd (bad h.0.utf8)
only_no_utf8 t (Err (fault.UnknownRule p)) m short bad h = absurd (bad h.0.utf8)
only_no_utf8 t (Err (fault.UnknownOption p)) m short bad h = absurd (bad h.0.utf8)
only_no_utf8 t (Err (fault.BadValue p)) m short bad h = absurd (bad h.0.utf8)
only_no_utf8 t (Err (fault.BadLevel p)) m short bad h = absurd (bad h.0.utf8)
only_no_utf8 t (Err (fault.UnknownExtends p)) m short bad h = absurd (bad h.0.utf8)

only_said : (t : List ℕ) (a : Result Settings ConfigFault) → a ≢ Err fault.Memory → IsText t → IsConfigOf t a → Says (read_text t) a
only_said t (Ok s) m text h = h.1
only_said t (Err fault.TooLarge) m text h = not_large t h text
only_said t (Err fault.NotUtf8) m text h = absurd (h.1 text.utf8)
only_said t (Err fault.Memory) m text h = absurd (m refl)
only_said t (Err (fault.Syntax p)) m text h = h.1
only_said t (Err (fault.NotAMapping p)) m text h = h.1
only_said t (Err (fault.UnknownKey p)) m text h = h.1
only_said t (Err (fault.UnknownRule p)) m text h = h.1
only_said t (Err (fault.UnknownOption p)) m text h = h.1
only_said t (Err (fault.BadValue p)) m text h = h.1
only_said t (Err (fault.BadLevel p)) m text h = h.1
only_said t (Err (fault.UnknownExtends p)) m text h = h.1

one_of_text : (t : List ℕ) (a b : Result Settings ConfigFault) → b ≢ Err fault.Memory → IsText t × Says (read_text t) a → IsConfigOf t b → a ≡ b
one_of_text t a b n h k = one_said (read_text t) a b h.1 (only_said t b n h.0 k)

pub one_answer : OneAnswer
one_answer t (Ok s) b m n h k = one_of_text t (Ok s) b n h k
one_answer t (Err fault.TooLarge) b m n h k = sym (only_large t b n h k)
one_answer t (Err fault.NotUtf8) b m n h k = sym (only_no_utf8 t b n h.0 h.1 k)
one_answer t (Err fault.Memory) b m n h k = absurd (m refl)
one_answer t (Err (fault.Syntax p)) b m n h k = one_of_text t _ b n h k
one_answer t (Err (fault.NotAMapping p)) b m n h k = one_of_text t _ b n h k
one_answer t (Err (fault.UnknownKey p)) b m n h k = one_of_text t _ b n h k
one_answer t (Err (fault.UnknownRule p)) b m n h k = one_of_text t _ b n h k
one_answer t (Err (fault.UnknownOption p)) b m n h k = one_of_text t _ b n h k
one_answer t (Err (fault.BadValue p)) b m n h k = one_of_text t _ b n h k
one_answer t (Err (fault.BadLevel p)) b m n h k = one_of_text t _ b n h k
one_answer t (Err (fault.UnknownExtends p)) b m n h k = one_of_text t _ b n h k
