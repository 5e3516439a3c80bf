-- Bridge: the parts of what a record has besides its lexemes.
use Rattle.std.specs.Prelude.{ℕ, Option, Some, None}
use Rattle.yl_lexeme.specs.Lexeme.{CommentValue}
use Rattle.yl_row.specs.Entries.{LineStateValue}
use Rattle.yl_row.specs.declared.fault.PlacedScanFault.{PlacedScanFault}
use Rattle.yl_record.specs.declared.record.Beside.{Beside}
use Rattle.yl_record.specs.declared.record.Beside.TheVariants.{Alone, WithState, WithExtra, WithBoth}

abbrev pub indentation_beside : {A : Type 0} → Beside A → ℕ
indentation_beside (Alone indentation) = indentation
indentation_beside (WithState indentation state) = indentation
indentation_beside (WithExtra indentation extra) = indentation
indentation_beside (WithBoth indentation state extra) = indentation

abbrev pub state_beside : {A : Type 0} → Beside A → Option LineStateValue
state_beside (Alone indentation) = None
state_beside (WithState indentation state) = Some state
state_beside (WithExtra indentation extra) = None
state_beside (WithBoth indentation state extra) = Some state

abbrev pub comment_beside : {A : Type 0} → Beside A → Option CommentValue
comment_beside (Alone indentation) = None
comment_beside (WithState indentation state) = None
comment_beside (WithExtra indentation extra) = extra.value.comment
comment_beside (WithBoth indentation state extra) = extra.value.comment

abbrev pub fault_beside : {A : Type 0} → Beside A → Option PlacedScanFault
fault_beside (Alone indentation) = None
fault_beside (WithState indentation state) = None
fault_beside (WithExtra indentation extra) = extra.value.fault
fault_beside (WithBoth indentation state extra) = extra.value.fault
