-- Rows that were judged by themselves come in place of others, and nothing changes but their piece.
use Rattle.std.proofs.Common.{◌≡◌, ℕ, ◌+◌, ◌-◌, ◌<◌, arith, true, false, List, [], length, map, sym, ◌∙◌, ap, subst, None}
use Rattle.std.specs.List.{list_any}
use Rattle.yl_tree.specs.declared.options.TreeOptions.{TreeOptions}
use Rattle.yl_tree.specs.References.{is_reference}
use Rattle.yl_open_collections.specs.OpenBy.{kinds_and_turns, open_by}
use Rattle.yl_config.specs.declared.config.Config.{Config}
use Rattle.yl_record.specs.Records.{RecordValue}
use Rattle.yl_sections.specs.Kept.{KeptValue, tree_options_of}
use Rattle.yl_pieces.specs.State.{DocumentState}
use Rattle.yl_pieces.specs.Told.{fault_in, is_border, state_after}
use Rattle.yl_pieces.specs.Edit.{IsPieceAfter, IsPieceEdit, after_next}
use Rattle.yl_pieces.specs.Events.{events_in}
use Rattle.yl_pieces.proofs.JoinedSound.{sound_there}
use Rattle.yl_pieces.proofs.ToldBelow.{told_below_it}
use Rattle.yl_piece_names.specs.declared.opening.Opening.{Opening}
use Rattle.yl_piece_names.specs.KeptNames.{RunNamesValue, names_of_run}
use Rattle.yl_piece_names.specs.OpeningEvents.{opened_by}
use Rattle.yl_piece_names.specs.RowsPatched.{events_alone, open_behind}
use Rattle.yl_piece_names.specs.TreePatched.{tree_findings_after}
use Rattle.yl_piece_reports.specs.Told.{finding_above, kept_of_piece}
use Rattle.yl_section_pieces.specs.declared.run_judge.RunJudge.{RunJudge}
use Rattle.yl_section_pieces.specs.Edit.{HasNoneOnEvents, IsEditAlone, kept_alone}
use Rattle.yl_section_pieces.specs.Pieces.{BeginsWithLexeme, IsStateAfter}
use Rattle.yl_section_pieces.specs.PlainRows.{ArePlain}
use Rattle.yl_section_pieces.specs.RunJudging.{EndAlike, JudgesRun, kept_of_run}
use Rattle.yl_section_pieces.proofs.OpenBefore.{open_after_front}
use Rattle.yl_section_pieces.proofs.PlainRows.{plain_closed, plain_references, plain_sound}

-- ---- the same state, whatever line the rows begin in

module _ (config : Config) (s : DocumentState) (line : ℕ) (below : 0 < line) (rs : List RecordValue) where
  state_there : state_after s line rs ≡ state_after s 1 rs
  state_there =
      let at : line ≡ line - 1 + 1 = omega (arith, below) in
      ap (λ n. state_after s n rs) at ∙ (told_below_it config s (line - 1) 1 rs (omega arith)).state

  sound_from_1 : fault_in s 1 rs ≡ None → fault_in s line rs ≡ None
  sound_from_1 none = sound_there s 1 line rs (omega arith) below none

module _ (config : Config) (front : List RecordValue) (s : DocumentState) (at : IsStateAfter front s) (openings : List Opening) (say : opened_by openings ≡ open_by s.parser.goals) where
  goals_there : kinds_and_turns (open_behind front) ≡ opened_by openings
  goals_there = open_after_front front at.sound ∙ ap (λ (t : DocumentState). open_by t.parser.goals) (sym at.state) ∙ sym say

  events_there : (rs : List RecordValue) → events_alone front rs ≡ events_in s 1 rs
  events_there rs = ap (λ (t : DocumentState). events_in t 1 rs) (sym at.state)

  -- rows that were judged from the state
  piece_after : (rs : List RecordValue) → ArePlain rs → fault_in s 1 rs ≡ None → is_border (state_after s 1 rs) ≡ true → IsPieceAfter front rs
  piece_after rs plain none border = record {
    closed = plain_closed rs plain;
    sound = ap (λ (t : DocumentState). fault_in t (length front) rs) (sym at.state) ∙ sound_from_1 config s (length front) at.some rs none;
    border = ap is_border (ap (λ (t : DocumentState). state_after t (length front) rs) (sym at.state) ∙ state_there config s (length front) at.some rs) ∙ border;
  }

  -- what is kept of them
  pub kept_so : (rs : List RecordValue) → kept_of_run config s openings rs ≡ kept_alone config s front rs
  kept_so rs =
      λ i. kept_of_piece config (record { first = 0; line = 1; state = s }) rs
      (map (finding_above 1) (tree_findings_after (tree_options_of config) (sym goals_there i) (sym (events_there rs) i) [] [] []))

  module _ {A : Type 0} (old new : List RecordValue) (o p : TreeOptions) (one other : RunJudge A) (was : JudgesRun config o s openings old one) (now : JudgesRun config p s openings new other) (alike : EndAlike s old new one other) where
    same_after : after_next front old ≡ after_next front new
    same_after =
        ap (λ (t : DocumentState). state_after t (length front) old) (sym at.state)
        ∙ state_there config s (length front) at.some old
        ∙ alike.state
        ∙ sym (state_there config s (length front) at.some new)
        ∙ ap (λ (t : DocumentState). state_after t (length front) new) at.state

    piece_edit : ArePlain old → ArePlain new → IsPieceEdit front old new
    piece_edit old_plain new_plain = record {
      some = at.some;
      closed = at.closed;
      sound = at.sound;
      border = ap is_border (sym at.state) ∙ at.border;
      old_piece = piece_after old old_plain was.sound alike.border;
      new_piece = piece_after new new_plain now.sound (ap is_border (sym alike.state) ∙ alike.border);
      same = same_after;
    }

    names_stay : names_of_run (open_behind front) (events_alone front old) ≡ names_of_run (open_behind front) (events_alone front new)
    names_stay =
        ap (names_of_run (open_behind front)) (events_there old)
        ∙ sym (was.names (open_behind front) goals_there)
        ∙ alike.names
        ∙ now.names (open_behind front) goals_there
        ∙ ap (names_of_run (open_behind front)) (sym (events_there new))

    pub is_alone : (k : KeptValue) → HasNoneOnEvents k → BeginsWithLexeme new → ArePlain old → ArePlain new → IsEditAlone config front old new k
    is_alone k none begins old_plain new_plain = record {
      edit = piece_edit old_plain new_plain;
      begins = begins;
      sound = plain_sound new new_plain;
      none = none;
      old_references = plain_references 1 old old_plain;
      new_references = plain_references 1 new new_plain;
      names = names_stay;
    }

    -- among the events of the new rows is no alias
    pub no_alias : list_any is_reference (events_in s 1 new) ≡ false
    no_alias = sym (ap (λ (v : RunNamesValue). v.has_references) (now.names (open_behind front) goals_there)) ∙ alike.none

-- ---- what the code holds

pub with_openings : {A : Type 0} {config : Config} {o : TreeOptions} {s : DocumentState} {was now : List Opening} {rs : List RecordValue} {j : RunJudge A} → was ≡ now → JudgesRun config o s was rs j → JudgesRun config o s now rs j
with_openings {config = config} {o = o} {s = s} {rs = rs} {j = j} same judges = subst (λ (os : List Opening). JudgesRun config o s os rs j) same judges

pub with_options : {A : Type 0} {config : Config} {was now : TreeOptions} {s : DocumentState} {openings : List Opening} {rs : List RecordValue} {j : RunJudge A} → was ≡ now → JudgesRun config was s openings rs j → JudgesRun config now s openings rs j
with_options {config = config} {s = s} {openings = openings} {rs = rs} {j = j} same judges = subst (λ (o : TreeOptions). JudgesRun config o s openings rs j) same judges
