-- Meaning: what is printed of a document that has a fault, in place of its events.
use Rattle.std.specs.Prelude.{ℕ, List, ◌++◌, codes}
use Rattle.yl_dump.specs.declared.fault.TextPlace.{TextPlace}
use Rattle.yl_dump.specs.Place.{place_text}
use Rattle.yl_dump.specs.Quoting.{text_in_quotes}

abbrev pub document_fault_line : TextPlace → List ℕ → List ℕ
document_fault_line place text = codes "!DOC " ++ place_text place ++ codes " " ++ text_in_quotes text ++ codes "\n"
