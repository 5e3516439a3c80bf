-- Meaning: scan faults, their messages and their positions.
use Rattle.std.specs.Prelude.{ℕ, Bool, true, false, List, codes}
use Rattle.yl_scalar.specs.declared.answer.ScalarFault.{ScalarFault}
use Rattle.yl_scalar.specs.declared.answer.ScalarFault.TheVariants as scalar
use Rattle.yl_row.specs.declared.fault.ScanFault.{ScanFault}
use Rattle.yl_row.specs.declared.fault.PlacedScanFault.{PlacedScanFault}
use Rattle.yl_row.specs.declared.fault.ScanFault.TheVariants.{NotAllowed, TabInIndentation, EntryNotAllowed, KeyNotAllowed, ValueNotAllowed, UnclosedQuote, MarkerInQuote, BadEscape, BadHeader, BadIndentation, BracketWithoutPartner, EmptyName, BadTag, ContentAfterDocumentEnd}

abbrev pub fault_text : ScanFault → List ℕ
fault_text NotAllowed = codes "character not allowed here"
fault_text TabInIndentation = codes "tab in indentation"
fault_text EntryNotAllowed = codes "block entry not allowed here"
fault_text KeyNotAllowed = codes "mapping key not allowed here"
fault_text ValueNotAllowed = codes "mapping value not allowed here"
fault_text UnclosedQuote = codes "quoted scalar is not closed"
fault_text MarkerInQuote = codes "document marker in quoted scalar"
fault_text BadEscape = codes "bad escape"
fault_text BadHeader = codes "bad block scalar header"
fault_text BadIndentation = codes "bad block scalar indentation"
fault_text BracketWithoutPartner = codes "bracket without partner"
fault_text EmptyName = codes "empty anchor or alias name"
fault_text BadTag = codes "bad tag"
fault_text ContentAfterDocumentEnd = codes "content after document end"

-- a fault in the row in which the lexeme begins
abbrev pub fault_at : ScanFault → ℕ → PlacedScanFault
fault_at fault column = record { fault = fault; down = 0; column = column }

abbrev pub of_scalar : ScalarFault → ScanFault
of_scalar scalar.NotAllowed = NotAllowed
of_scalar scalar.UnclosedQuote = UnclosedQuote
of_scalar scalar.MarkerInQuote = MarkerInQuote
of_scalar scalar.BadEscape = BadEscape
of_scalar scalar.BadHeader = BadHeader
of_scalar scalar.BadIndentation = BadIndentation

abbrev pub is_unclosed : ScanFault → Bool
is_unclosed UnclosedQuote = true
is_unclosed _ = false

abbrev pub is_tab : ScanFault → Bool
is_tab TabInIndentation = true
is_tab _ = false
