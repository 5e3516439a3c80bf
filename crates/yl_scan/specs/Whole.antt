-- Meaning: what a whole text consists of, as `scan` returns it.
use Rattle.std.specs.Prelude.{ℕ, Bool, List, ◌++◌, map, Option, option_map, is_some}
use Rattle.yl_lexeme.specs.Lexeme.{LexemeValue, CommentValue}
use Rattle.yl_row.specs.declared.fault.PlacedScanFault.{PlacedScanFault}
use Rattle.yl_scan.specs.declared.whole.LineLexeme.{LineLexeme}
use Rattle.yl_scan.specs.declared.whole.LineComment.{LineComment}
use Rattle.yl_scan.specs.declared.whole.LineFault.{LineFault}
use Rattle.yl_scan.specs.declared.whole.ScannedText.{ScannedText}
use Rattle.yl_scan.specs.Output.{ScanOutput, first_fault}

abbrev pub lexeme_in : {A : Type 0} → LineLexeme A → ℕ × LexemeValue
lexeme_in x = (x.line, x.lexeme)

abbrev pub comment_in : {A : Type 0} → LineComment A → ℕ × CommentValue
comment_in x = (x.line, x.comment)

abbrev pub fault_in : LineFault → ℕ × PlacedScanFault
fault_in f = (f.line, f.fault)

abbrev pub comments_in : {A : Type 0} → List (LineComment A) → List (ℕ × CommentValue)
comments_in xs = map comment_in xs

abbrev pub fault_of : Option LineFault → Option (ℕ × PlacedScanFault)
fault_of f = option_map fault_in f

-- what the rows of a text reported; of states, only whether there is one
pub record ScannedTextValue : Type 0 where
  pub lexemes : List (ℕ × LexemeValue)
  pub comments : List (ℕ × CommentValue)
  pub sound : List Bool
  pub fault : Option (ℕ × PlacedScanFault)

abbrev pub text_value_of_output : ScanOutput → ScannedTextValue
text_value_of_output o = record { lexemes = o.lexemes; comments = o.comments; sound = map is_some o.states; fault = o.fault }

abbrev pub scanned_text_value : {A : Type 0} → ScannedText A → ScannedTextValue
scanned_text_value s = record { lexemes = map lexeme_in s.lexemes.items; comments = comments_in s.comments.items; sound = s.sound.items; fault = fault_of s.fault }

-- what rows reported, and then what further rows report
abbrev pub text_value_then : ScannedTextValue → ScanOutput → ScannedTextValue
text_value_then h p = record { lexemes = h.lexemes ++ p.lexemes; comments = h.comments ++ p.comments; sound = h.sound ++ map is_some p.states; fault = first_fault h.fault p.fault }
