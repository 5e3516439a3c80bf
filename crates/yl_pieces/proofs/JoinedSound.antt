-- Rows and the rows after them have no fault exactly if the former have none, and the latter by the
-- state between.
use Rattle.std.proofs.Common.{◌≡◌, ◌<◌, ◌+◌, ◌-◌, ℕ, true, List, [], ◌++◌, length, Option, Some, None, refl, sym, ◌∙◌, ap, arith}
use Rattle.std.specs.Prelude.{option_map}
use Rattle.std.proofs.lemmas.List.{length-map}
use Rattle.yl_marks.specs.declared.symbol.Symbol.{Symbol}
use Rattle.yl_marks.specs.Keys.{token_of}
use Rattle.yl_events.specs.declared.fault.PlacedParseFault.{PlacedParseFault}
use Rattle.yl_events.specs.Derives.{lexeme_count}
use Rattle.yl_events.specs.DocumentOutcome.{steps}
use Rattle.yl_events.specs.Machine.{ParserState}
use Rattle.yl_events.specs.ParsedAlike.{symbols_after}
use Rattle.yl_events.specs.SymbolParsing.{SymbolParserValue, is_whole}
use Rattle.yl_record.specs.Records.{RecordValue}
use Rattle.yl_sections.specs.Sections.{lexemes_from}
use Rattle.yl_pieces.specs.State.{DocumentState}
use Rattle.yl_pieces.specs.Told.{fault_at, fault_in, goals_after, state_after, symbols_in}
use Rattle.yl_pieces.specs.Laws.{AreClosed}
use Rattle.yl_pieces.proofs.JoinedMarks.{from_above}
use Rattle.yl_pieces.proofs.JoinedParser.{fault_after, fault_later, held, taken_all}
use Rattle.yl_pieces.proofs.JoinedTold.{symbols_count, symbols_whole}
use Rattle.yl_pieces.proofs.EventsBelow.{symbols_stay}
use Rattle.yl_pieces.proofs.EventsJoined.{symbols_are}

none_behind : (n : ℕ) (f : Option PlacedParseFault) → option_map (fault_later n) f ≡ None → f ≡ None
none_behind n None h = refl
none_behind n (Some f) h = cc

abbrev fault_of : SymbolParserValue → List Symbol → Option PlacedParseFault
fault_of p ws = fault_at p ws (steps ws p.goals [])

module _ (s : DocumentState) (line : ℕ) (front rest : List RecordValue) (closed : AreClosed front) (some : 0 < line + length front) (sound : fault_in s line front ≡ None) where
  abbrev next : DocumentState
  next = state_after s line front

  abbrev ws : List Symbol
  ws = symbols_in s line front

  abbrev vs : List Symbol
  vs = symbols_in next (line + length front) rest

  abbrev count : ℕ
  count = lexeme_count ws

  many : length (lexemes_from line front) ≡ count
  many = omega (arith, symbols_count s line front, length-map (lexemes_from line front) token_of)

  taken : (t : ParserState) × (steps ws s.parser.goals [] ≡ Some t)
  taken = taken_all s.parser ws (steps ws s.parser.goals []) sound

  whole : is_whole true ws ≡ true
  whole = symbols_whole s line front

  parser_held : next.parser ≡ held s.parser ws vs taken.0 whole taken.1
  parser_held = ap (λ (r : Option ParserState). goals_after r s.parser ws) taken.1

  -- the fault is that of the rest, so many lexemes later
  fault_is : fault_in s line (front ++ rest) ≡ option_map (fault_later count) (fault_in next (line + length front) rest)
  fault_is =
      ap (fault_of s.parser) (symbols_are s line front rest closed some)
      ∙ ap (λ (n : ℕ). fault_of s.parser (ws ++ symbols_after n vs)) many
      ∙ fault_after s.parser ws vs taken.0 whole taken.1
      ∙ ap (λ (p : SymbolParserValue). option_map (fault_later count) (fault_of p vs)) (sym parser_held)

  pub sound_both : fault_in next (line + length front) rest ≡ None → fault_in s line (front ++ rest) ≡ None
  sound_both h = fault_is ∙ ap (option_map (fault_later count)) h

  pub sound_rest : fault_in s line (front ++ rest) ≡ None → fault_in next (line + length front) rest ≡ None
  sound_rest h = none_behind count (fault_in next (line + length front) rest) (sym fault_is ∙ h)

-- the line in which rows begin has no part in their fault
same_fault : (s : DocumentState) (line : ℕ) (rs : List RecordValue) → 0 < line → fault_in s line rs ≡ fault_in s 1 rs
same_fault s line rs h =
    let there : line ≡ line - 1 + 1 = omega (arith, h) in
    ap (λ (k : ℕ). fault_in s k rs) there
    ∙ ap (fault_of s.parser) (symbols_stay s (line - 1) 1 rs (from_above (line - 1 + 1) s.marker (omega arith)) (from_above 1 s.marker (omega arith)))

pub sound_there : (s : DocumentState) (line row : ℕ) (rs : List RecordValue) → 0 < line → 0 < row → fault_in s line rs ≡ None → fault_in s row rs ≡ None
sound_there s line row rs h g e = same_fault s row rs g ∙ sym (same_fault s line rs h) ∙ e
