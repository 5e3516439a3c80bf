-- What stands behind a document's end in its row.
use Rattle.std.proofs.Common.{◌≡◌, ℕ, ◌+◌, ◌<◌, true, false, List, [], ◌∷◌, length, drop, Option, Some, None, refl, arith}
use Rattle.std.specs.Prelude.{option_map}
use Rattle.yl_text.specs.Character.{is_marker_of}
use Rattle.yl_scalar.specs.Header.{misfit_behind}
use Rattle.yl_lexeme.specs.declared.lexeme.Kind.TheVariants.{DocEnd}
use Rattle.yl_lexeme.specs.Past.{Context}
use Rattle.yl_row.specs.declared.fault.ScanFault.TheVariants.{ContentAfterDocumentEnd}
use Rattle.yl_row.specs.declared.fault.PlacedScanFault.{PlacedScanFault}
use Rattle.yl_row.specs.Fault.{fault_at}
use Rattle.yl_row.specs.Step.{found_in_row, document_at}

-- by the text behind the marker
abbrev pub end_fault : List ℕ → Option PlacedScanFault
end_fault text = option_map (λ (i : ℕ). fault_at ContentAfterDocumentEnd (3 + i)) (misfit_behind text)

pub short_end : (cs : List ℕ) → length cs < 2 → end_fault (drop 2 cs) ≡ None
short_end [] h = refl
short_end (y ∷ []) h = refl
short_end (y ∷ z ∷ cs) h = absurd (omega arith)

pub end_found : (c : ℕ) (cs : List ℕ) (a : Context) → is_marker_of 45 (c ∷ cs) ≡ false → is_marker_of 46 (c ∷ cs) ≡ true → document_at c cs a ≡ Some (found_in_row DocEnd 3 [] (end_fault (drop 2 cs)))
end_found c cs a dashes dots = rw (dashes, dots) refl
