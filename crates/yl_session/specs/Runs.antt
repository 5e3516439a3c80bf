-- Meaning: the answer to an edit of a text, the work that the edit may take, and the text that a
-- list of edits leaves. Lines are those of YAML 1.2.2, 5.4. An edit replaces the text between two
-- positions by bytes.
use Rattle.std.specs.Prelude.{◌≡◌, ℕ, ◌+◌, ◌-◌, List, [], ◌∷◌, length, Result, Ok, Err}
use Rattle.yl_text.specs.declared.fault.TextFault.{TextFault}
use Rattle.yl_text.specs.declared.fault.TextFault.TheVariants.{Memory}
use Rattle.yl_text.specs.declared.position.Pos.{Pos}
use Rattle.yl_text.specs.Lines.{RowValue, lines_of}
use Rattle.yl_text.specs.Edit.{CanEdit, IsEditFault, edited_text, offset, first_line, end_line}
use Rattle.yl_config.specs.declared.config.Config.{Config}
use Rattle.yl_record.specs.Records.{characters_in}
use Rattle.yl_session.specs.declared.work.Work.{Work}
use Rattle.yl_session.specs.State.{SessionValue, Shows}
use Rattle.yl_session.specs.Work.{IsWork}

-- an empty edit: no bytes, from a position to itself, however each of the two is written
abbrev pub IsNothing : List RowValue → Pos → Pos → List ℕ → Type 0
IsNothing ps from to bytes = (offset ps from ≡ offset ps to) × (bytes ≡ [])

-- an answer to an edit of these lines; out of memory is an answer only to an edit that has no fault
-- and is not empty
abbrev pub IsAnswer : List RowValue → Pos → Pos → List ℕ → Result Work TextFault → Type 0
IsAnswer ps from to bytes (Ok work) =
    CanEdit ps from to bytes × (IsNothing ps from to bytes → work ≡ record { scanned = 0; documents = 0 })
IsAnswer ps from to bytes (Err Memory) = CanEdit ps from to bytes × ¬ (IsNothing ps from to bytes)
IsAnswer ps from to bytes (Err fault) = IsEditFault ps from to bytes fault

-- the work that an edit may take: its old lines are those from its first line on, before its end
-- line, and its new ones are all lines but those before and after them
abbrev pub IsEditWork : List RowValue → List RowValue → Pos → Pos → List ℕ → Work → Type 0
IsEditWork old new from to bytes work =
    IsWork (characters_in old) (characters_in new) (first_line old from) (end_line old from to bytes)
    (length new - (first_line old from + (length old - end_line old from to bytes))) work

-- an edit as a value: these bytes in place of the text between two positions
pub record EditValue : Type 0 where
  pub from : Pos
  pub to : Pos
  pub bytes : List ℕ

-- the text after an edit with this answer
abbrev pub text_after : List ℕ → EditValue → Result Work TextFault → List ℕ
text_after text e (Ok work) = edited_text (lines_of text) e.from e.to e.bytes
text_after text e (Err fault) = text

-- the text that the accepted edits leave
abbrev pub text_after_all : List ℕ → List EditValue → List (Result Work TextFault) → List ℕ
text_after_all text (e ∷ edits) (r ∷ answers) = text_after_all (text_after text e r) edits answers
text_after_all text _ _ = text

-- each is an answer to its edit, at the text that the edits before this one leave
abbrev pub AreAnswers : List ℕ → List EditValue → List (Result Work TextFault) → Type 0
AreAnswers text [] [] = Unit {0}
AreAnswers text (e ∷ edits) (r ∷ answers) = IsAnswer (lines_of text) e.from e.to e.bytes r × AreAnswers (text_after text e r) edits answers
AreAnswers text _ _ = ⊥

-- these edits of the text have these answers, and the session shows the text that they leave
pub record Replayed (c : Config) (text : List ℕ) (edits : List EditValue) (answers : List (Result Work TextFault)) (s : SessionValue) : Type 0 where
  pub answered : AreAnswers text edits answers
  pub shown : Shows c (text_after_all text edits answers) s
