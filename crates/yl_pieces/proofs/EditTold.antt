-- Rows of a section in place of others, where the state after them is the same.
use Rattle.std.proofs.Common.{◌≡◌, ◌<◌, ◌+◌, ◌-◌, ℕ, true, List, [], ◌++◌, length, Option, Some, None, refl, sym, ◌∙◌, ap, subst, arith, zero-add}
use Rattle.std.specs.Prelude.{option_map, option_and_then, slice_get}
use Rattle.std.proofs.lemmas.List.{length-map}
use Rattle.yl_marks.specs.Keys.{token_of}
use Rattle.yl_events.specs.declared.fault.PlacedParseFault.{PlacedParseFault}
use Rattle.yl_events.specs.Derives.{lexeme_count}
use Rattle.yl_lexeme.specs.Lexeme.{LexemeValue}
use Rattle.yl_config.specs.declared.config.Config.{Config}
use Rattle.yl_record.specs.Records.{RecordValue}
use Rattle.yl_sections.specs.Sections.{lexemes_from}
use Rattle.yl_sections.proofs.RowJudging.{some_at}
use Rattle.yl_pieces.specs.State.{DocumentState, start_state}
use Rattle.yl_pieces.specs.Told.{Told, ToldFault, fault_in, is_border, state_after, symbols_in, told, told_fault}
use Rattle.yl_pieces.specs.Laws.{AreClosed, AreJoined, fault_below, joined, told_below}
use Rattle.yl_pieces.specs.Edit.{EditIsTold, IsEditTold, IsPieceAfter, IsPieceEdit, after_front, after_next, told_in_parts}
use Rattle.yl_pieces.proofs.JoinedParser.{fault_stays}
use Rattle.yl_pieces.proofs.JoinedTold.{all_joined, symbols_count, symbols_whole}
use Rattle.yl_pieces.proofs.ToldBelow.{told_below_it}

-- ---- rows have no fault exactly if none is told of them

module _ (s : DocumentState) (line : ℕ) (rs : List RecordValue) where
  -- a fault stands at a lexeme of the rows
  at_lexeme : (f : PlacedParseFault) → fault_in s line rs ≡ Some f → f.place < length (lexemes_from line rs)
  at_lexeme f e =
      let ws = symbols_in s line rs in
      let least : f.place < lexeme_count ws = (fault_stays s.parser ws [] (symbols_whole s line rs) f e).1 in
      omega (arith, least, symbols_count s line rs, length-map (lexemes_from line rs) token_of)

  abbrev placed : PlacedParseFault → LexemeValue → ToldFault
  placed f x = record { place = x.start; kind = f.kind }

  told_there : (f : PlacedParseFault) (x : LexemeValue) (o : Option LexemeValue) → o ≡ Some x → option_map (placed f) o ≡ None → ⊥
  told_there f x None e h = cc
  told_there f x (Some y) e h = cc

  none_if : (o : Option PlacedParseFault) → fault_in s line rs ≡ o → option_and_then (told_fault (lexemes_from line rs)) o ≡ None → o ≡ None
  none_if None e h = refl
  none_if (Some f) e h =
      let x = some_at (lexemes_from line rs) f.place (at_lexeme f e) in
      absurd (told_there f x.0 (slice_get (lexemes_from line rs) f.place) x.1 h)

  pub none_there : (config : Config) → (told config s line rs).fault ≡ None → fault_in s line rs ≡ None
  none_there config h = none_if (fault_in s line rs) refl h

  pub none_told : (config : Config) → fault_in s line rs ≡ None → (told config s line rs).fault ≡ None
  none_told config h = ap (λ (o : Option PlacedParseFault). option_and_then (told_fault (lexemes_from line rs)) o) h

-- ---- the same rows from line 1 on

moved : (config : Config) (s : DocumentState) (line : ℕ) (rs : List RecordValue) → 0 < line → told config s line rs ≡ told_below (line - 1) (told config s 1 rs)
moved config s line rs h =
    let there : line ≡ line - 1 + 1 = omega (arith, h) in
    ap (λ (k : ℕ). told config s k rs) there ∙ (told_below_it config s (line - 1) 1 rs (omega arith)).told_is

state_moved : (config : Config) (s : DocumentState) (line : ℕ) (rs : List RecordValue) → 0 < line → state_after s line rs ≡ state_after s 1 rs
state_moved config s line rs h =
    let there : line ≡ line - 1 + 1 = omega (arith, h) in
    ap (λ (k : ℕ). state_after s k rs) there ∙ (told_below_it config s (line - 1) 1 rs (omega arith)).state

none_below : (n : ℕ) (f : Option ToldFault) → option_map (fault_below n) f ≡ None → f ≡ None
none_below n None h = refl
none_below n (Some f) h = cc

-- ---- a section in three parts

module _ (config : Config) (front rows rest : List RecordValue) (some : 0 < length front) (closed : AreClosed front) (sound : fault_in start_state 0 front ≡ None)
    (border : is_border (after_front front) ≡ true) (piece : IsPieceAfter front rows) where
  abbrev before : DocumentState
  before = after_front front

  abbrev after : DocumentState
  after = after_next front rows

  abbrev n : ℕ
  n = length front

  abbrev all : List RecordValue
  all = front ++ (rows ++ rest)

  upper : AreJoined config start_state 0 front (rows ++ rest)
  upper = all_joined config start_state 0 front (rows ++ rest) closed (omega (arith, some)) sound border

  lower : AreJoined config before n rows rest
  lower = all_joined config before n rows rest piece.closed (omega (arith, some)) piece.sound piece.border

  far : 0 < n + length rows
  far = omega (arith, some)

  -- what is told of all
  told_front : told config start_state 0 all ≡ joined (told config start_state 0 front) (told config before n (rows ++ rest))
  told_front = upper.told_is ∙ ap (λ (k : ℕ). joined (told config start_state 0 front) (told config before k (rows ++ rest))) (zero-add n)

  told_all : told config start_state 0 all ≡ told_in_parts config after front rows rest
  told_all =
      told_front
      ∙ ap (λ (t : Told). joined (told config start_state 0 front) t)
      (lower.told_is
      ∙ ap (λ (t : Told). joined t (told config after (n + length rows) rest)) (moved config before n rows some)
      ∙ ap (λ (t : Told). joined (told_below (n - 1) (told config before 1 rows)) t) (moved config after (n + length rows) rest far))

  -- the fault of all is that of the rest
  fault_all : (told config start_state 0 all).fault ≡ option_map (fault_below (n + length rows - 1)) (told config after 1 rest).fault
  fault_all = ap (λ (t : Told). t.fault) told_all

  fault_rest : (told config before n (rows ++ rest)).fault ≡ option_map (fault_below (n + length rows - 1)) (told config after 1 rest).fault
  fault_rest = sym (ap (λ (t : Told). t.fault) told_front) ∙ fault_all

  sound_rest : fault_in start_state 0 all ≡ None → fault_in after 1 rest ≡ None
  sound_rest h = none_there after 1 rest config (none_below (n + length rows - 1) (told config after 1 rest).fault (sym fault_all ∙ none_told start_state 0 all config h))

  sound_all : fault_in after 1 rest ≡ None → fault_in start_state 0 all ≡ None
  sound_all h =
      none_there start_state 0 all config (fault_all ∙ ap (λ (f : Option ToldFault). option_map (fault_below (n + length rows - 1)) f) (none_told after 1 rest config h))

  -- the state after all, where they have no fault
  sound_lower : fault_in after 1 rest ≡ None → fault_in before n (rows ++ rest) ≡ None
  sound_lower h =
      none_there before n (rows ++ rest) config (fault_rest ∙ ap (λ (f : Option ToldFault). option_map (fault_below (n + length rows - 1)) f) (none_told after 1 rest config h))

  sound_last : fault_in after 1 rest ≡ None → fault_in after (n + length rows) rest ≡ None
  sound_last h =
      none_there after (n + length rows) rest config
      (ap (λ (t : Told). t.fault) (moved config after (n + length rows) rest far) ∙ ap (λ (f : Option ToldFault). option_map (fault_below (n + length rows - 1)) f) (none_told after 1 rest config h))

  state_all : fault_in after 1 rest ≡ None → state_after start_state 0 all ≡ state_after after 1 rest
  state_all h =
      upper.state (ap (λ (k : ℕ). fault_in before k (rows ++ rest)) (zero-add n) ∙ sound_lower h)
      ∙ ap (λ (k : ℕ). state_after before k (rows ++ rest)) (zero-add n)
      ∙ lower.state (sound_last h)
      ∙ state_moved config after (n + length rows) rest far

-- ---- the law

module _ (config : Config) (front old new rest : List RecordValue) (e : IsPieceEdit front old new) where
  none_after : fault_in start_state 0 (front ++ (old ++ rest)) ≡ None → fault_in (after_next front new) 1 rest ≡ None
  none_after h =
      subst (λ (s : DocumentState). fault_in s 1 rest ≡ None) e.same
      (sound_rest config front old rest e.some e.closed e.sound e.border e.old_piece h)

  edited : IsEditTold config front old new rest
  edited = record {
    old_told = told_all config front old rest e.some e.closed e.sound e.border e.old_piece;
    new_told =
        told_all config front new rest e.some e.closed e.sound e.border e.new_piece
        ∙ ap (λ (s : DocumentState). told_in_parts config s front new rest) (sym e.same);
    sound = λ h. sound_all config front new rest e.some e.closed e.sound e.border e.new_piece (none_after h);
    state = λ h.
        state_all config front old rest e.some e.closed e.sound e.border e.old_piece (sound_rest config front old rest e.some e.closed e.sound e.border e.old_piece h)
        ∙ ap (λ (s : DocumentState). state_after s 1 rest) e.same
        ∙ sym (state_all config front new rest e.some e.closed e.sound e.border e.new_piece (none_after h));
  }

pub edit_told : EditIsTold
edit_told = λ config front old new rest e. edited config front old new rest e
