-- What is said of the report of the bytes that were read is said of all that the reader had to give.
use Rattle.std.proofs.Common.{ℕ, List, Option, Result, Ok, Err, IfSome, IfOk, IfErr, OnOk}
use Rattle.std.proofs.KnownBytes.{Keeps-refl}
use Rattle.yl_text.specs.Fault.{IsText}
use Rattle.yl_devices.specs.Text.{without_mark, IsBadText, IsReadFault}
use Rattle.yl_devices.specs.declared.fault.BadText.TheVariants.{NotUtf8, TooLarge}
use Rattle.yl_devices.specs.declared.fault.RunFault.{RunFault}
use Rattle.yl_devices.specs.declared.fault.RunFault.TheVariants.{Read, Text, Write, Command, Memory}
use Rattle.yl_devices.proofs.Whole.{AreRead, text_is_all, too_many}
use Rattle.yl_check.specs.Check.{HasNoReport}
use Rattle.yl_check.specs.Run.{Devices, Failures, IsLintFault, IsReportFault}

-- there is no report, and nothing is out
pub not_reported : (bytes : List ℕ) (begun : Type 0) (m n : ℕ) (before : Option (List ℕ)) (f : RunFault) → HasNoReport bytes f → IsReportFault bytes begun m n before before f
not_reported bytes begun m n before Write h = absurd h
not_reported bytes begun m n before f h = (h, Keeps-refl before)

-- what is answered of the bytes that were read is answered of all that were given
pub all_linted : (given left : Option (List ℕ)) (bytes : List ℕ) (P : ℕ → List ℕ → Type 0) (r : Result ℕ RunFault) → AreRead given left bytes → OnOk r (IsText (without_mark bytes))
    → IfOk r (λ code. P code bytes) → IfOk r (λ code. IfSome given (P code))
all_linted given left bytes P (Ok code) read text p = text_is_all given left bytes (P code) read text.short p
all_linted given left bytes P (Err f) read text p = tt

-- the reading ended the run
pub reading_ended : (begun : List ℕ → Type 0) (n : Failures) (given left before : Option (List ℕ)) (f : RunFault) → IsReadFault n.reads_before n.reads_after f
    → IsLintFault begun n (record { given = given; left = left; before = before; now = before }) f
reading_ended begun n given left before Read h = (h, Keeps-refl before)
reading_ended begun n given left before Memory h = Keeps-refl before
reading_ended begun n given left before Write h = absurd h
reading_ended begun n given left before Command h = absurd h
reading_ended begun n given left before (Text f) h = absurd h

-- the report of what was read ended the run
lint_fault : (begun : List ℕ → Type 0) (n : Failures) (d : Devices) (bytes : List ℕ) (f : RunFault) → AreRead d.given d.left bytes
    → IsReportFault bytes (begun bytes) n.writes_before n.writes_after d.before d.now f → IsLintFault begun n d f
lint_fault begun n d bytes (Text (NotUtf8 v)) read h = (text_is_all d.given d.left bytes (λ all. IsBadText (without_mark all) (NotUtf8 v)) read h.0.0 h.0, h.1)
lint_fault begun n d bytes (Text TooLarge) read h = (too_many d.given d.left bytes read h.0, h.1)
lint_fault begun n d bytes Write read h =
    (h.1, text_is_all d.given d.left bytes (λ all. IsText (without_mark all) × begun all) read h.0.short (h.0, h.2))
lint_fault begun n d bytes Memory read h = h.1
lint_fault begun n d bytes Read read h = absurd h.0
lint_fault begun n d bytes Command read h = absurd h.0

pub lint_ended : (begun : List ℕ → Type 0) (n : Failures) (d : Devices) (bytes : List ℕ) (r : Result ℕ RunFault) → AreRead d.given d.left bytes
    → IfErr r (IsReportFault bytes (begun bytes) n.writes_before n.writes_after d.before d.now) → IfErr r (IsLintFault begun n d)
lint_ended begun n d bytes (Ok code) read h = tt
lint_ended begun n d bytes (Err f) read h = lint_fault begun n d bytes f read h

-- what holds at any result
pub on_ok : {T E P : Type 0} (r : Result T E) → P → OnOk r P
on_ok (Ok x) p = p
on_ok (Err e) p = tt
