-- What is said of a text that was read.
use Rattle.std.proofs.Common.{◌≡◌, ◌<◌, ◌≤◌, ℕ, List, [], ◌∷◌, length, map, take, Option, Some, None, option_map, Result, Ok, Err, refl, sym, ap, subst, ◌∙◌, arith}
use Rattle.std.proofs.lemmas.List.{take_all}
use Rattle.std.specs.Str.{IsUtf8, IsValidUpTo}
use Rattle.yl_text.specs.declared.position.Pos.{Pos}
use Rattle.yl_text.specs.declared.TheConstants.{MAX_BYTES}
use Rattle.yl_text.specs.Fault.{IsText}
use Rattle.yl_text.specs.Lines.{RowValue, IsLines, lines_of, text_of}
use Rattle.yl_text.specs.Store.{AreLines}
use Rattle.yl_text.proofs.Computed.{one_list, lines_of-IsLines}
use Rattle.yl_lexeme.specs.Lexeme.{LexemeValue}
use Rattle.yl_row.specs.declared.fault.PlacedScanFault.{PlacedScanFault}
use Rattle.yl_row.specs.Entries.{entries}
use Rattle.yl_scan.specs.Output.{output_of_entries}
use Rattle.yl_scan.specs.Step.{characters_of}
use Rattle.yl_scan.specs.Whole.{ScannedTextValue, text_value_of_output}
use Rattle.yl_config.specs.declared.fault.ConfigFault.{ConfigFault}
use Rattle.yl_config.specs.declared.fault.ConfigFault.TheVariants as fault
use Rattle.yl_config.specs.Outcome.{IsConfigOf, Says, from_own, judged_own, judged_text, judged_unless}
use Rattle.yl_config.specs.Settings.{Settings}
use Rattle.yl_config.proofs.OneAnswer.{said_of_text}
use Rattle.yl_config.specs.Syntax.{earlier_place, open_end, parse_fault}
use Rattle.yl_config.specs.TextDocuments.{AreBuilt, BuiltDocumentValue, documents_of}
use Rattle.yl_config.specs.TextReading.{TextReading, end_of, lexeme_in_text, place_of_fault, reading_of}

-- what was scanned of rows gives what they are read to, and with its documents what is said of them
pub says : (rows : List (List ℕ)) (scanned : ScannedTextValue) (xs : List LexemeValue) (stop place : Option Pos) (ds : List BuiltDocumentValue) (answer : Result Settings ConfigFault)
    → scanned ≡ text_value_of_output (output_of_entries 0 (entries rows))
    → xs ≡ map lexeme_in_text scanned.lexemes → stop ≡ option_map place_of_fault scanned.fault
    → AreBuilt (documents_of xs) ds
    → place ≡ earlier_place stop (parse_fault (open_end (end_of rows) stop) ds)
    → answer ≡ judged_unless place (judged_own (from_own ds))
    → Says (reading_of rows) answer
says rows scanned xs stop place ds answer of are at built is_place is_answer =
    let r = reading_of rows in
    let lexemes : xs ≡ r.lexemes = are ∙ ap (λ (s : ScannedTextValue). map lexeme_in_text s.lexemes) of in
    let fault : stop ≡ r.fault = at ∙ ap (λ (s : ScannedTextValue). option_map place_of_fault s.fault) of in
    let P : List LexemeValue → Type 0 = λ ys. AreBuilt (documents_of ys) ds in
    record {
      documents = ds;
      built = subst P lexemes built;
      judged = is_answer ∙ ap (λ (p : Option Pos). judged_unless p (judged_own (from_own ds)))
          (is_place ∙ ap (λ (p : Option Pos). earlier_place p (parse_fault (open_end (end_of rows) p) ds)) fault);
    }

-- bytes that are no text
pub no_utf8 : (t : List ℕ) (n : ℕ) → IsValidUpTo t n → IsUtf8 t → ⊥
no_utf8 t n h utf8 =
    let all : take (length t) t ≡ t = take_all (length t) t (omega arith) in
    h.longest (length t) h.short (subst IsUtf8 (sym all) utf8)

-- the rows that a text was split into are its lines
pub their_lines : (t : List ℕ) (rows : List RowValue) → IsLines t rows → rows ≡ lines_of t
their_lines t rows h = one_list t rows (lines_of t) h (lines_of-IsLines t)

pub are_lines : (t : List ℕ) (rows : List RowValue) → length t ≤ MAX_BYTES → IsLines t rows → AreLines rows
are_lines t rows short h =
    let P : List ℕ → Type 0 = λ u. IsLines u rows in
    record { lines = subst P (sym h.joined) h; short = subst (λ u. length u ≤ MAX_BYTES) (sym h.joined) short }

pub said_of_rows : (t : List ℕ) (rows : List RowValue) (answer : Result Settings ConfigFault) → IsText t → IsLines t rows
    → Says (reading_of (characters_of rows)) answer → IsConfigOf t answer
said_of_rows t rows answer text lines h =
    let P : List RowValue → Type 0 = λ ps. Says (reading_of (characters_of ps)) answer in
    said_of_text t answer text (subst P (their_lines t rows lines) h)
