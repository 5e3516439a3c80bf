-- Bridge: a law of an edit: rows of a section in place of others, where the state after them is the
-- same.
use Rattle.std.specs.Prelude.{◌≡◌, ◌<◌, ◌+◌, ◌-◌, ◌++◌, true, List, length, None}
use Rattle.yl_config.specs.declared.config.Config.{Config}
use Rattle.yl_record.specs.Records.{RecordValue}
use Rattle.yl_pieces.specs.State.{DocumentState, start_state}
use Rattle.yl_pieces.specs.Told.{Told, fault_in, is_border, state_after, told}
use Rattle.yl_pieces.specs.Laws.{AreClosed, joined, told_below}

-- the state after the first rows of a section
abbrev pub after_front : List RecordValue → DocumentState
after_front front = state_after start_state 0 front

-- the state after the rows that come next
abbrev pub after_next : (front rows : List RecordValue) → DocumentState
after_next front rows = state_after (after_front front) (length front) rows

-- rows after `front`: each of their lexemes ends in them, they have no fault, and a piece may begin
-- after them
pub record IsPieceAfter (front rows : List RecordValue) : Type 0 where
  pub closed : AreClosed rows
  pub sound : fault_in (after_front front) (length front) rows ≡ None
  pub border : is_border (after_next front rows) ≡ true

-- after the rows `front` of a section the rows `new` come in place of `old`, and the state after
-- them is the same
pub record IsPieceEdit (front old new : List RecordValue) : Type 0 where
  pub some : 0 < length front
  pub closed : AreClosed front
  pub sound : fault_in start_state 0 front ≡ None
  pub border : is_border (after_front front) ≡ true
  pub old_piece : IsPieceAfter front old
  pub new_piece : IsPieceAfter front new
  pub same : after_next front old ≡ after_next front new

-- what is told of a section in three parts. The latter two are told from line 1 on, each by the
-- state before it, and moved to where they stand
abbrev pub told_in_parts : Config → DocumentState → (front rows rest : List RecordValue) → Told
told_in_parts config after front rows rest =
    joined (told config start_state 0 front)
    (joined (told_below (length front - 1) (told config (after_front front) 1 rows)) (told_below (length front + length rows - 1) (told config after 1 rest)))

-- the parts of `front` and of `rest` are the same in both texts, the latter moved. If the text had
-- no fault, it has none now, and the state after all its rows is the same
pub record IsEditTold (config : Config) (front old new rest : List RecordValue) : Type 0 where
  pub old_told : told config start_state 0 (front ++ (old ++ rest)) ≡ told_in_parts config (after_next front old) front old rest
  pub new_told : told config start_state 0 (front ++ (new ++ rest)) ≡ told_in_parts config (after_next front old) front new rest
  pub sound : fault_in start_state 0 (front ++ (old ++ rest)) ≡ None → fault_in start_state 0 (front ++ (new ++ rest)) ≡ None
  pub state : fault_in start_state 0 (front ++ (old ++ rest)) ≡ None → state_after start_state 0 (front ++ (old ++ rest)) ≡ state_after start_state 0 (front ++ (new ++ rest))

abbrev pub EditIsTold : Type 0
EditIsTold = (config : Config) (front old new rest : List RecordValue) → IsPieceEdit front old new → IsEditTold config front old new rest
