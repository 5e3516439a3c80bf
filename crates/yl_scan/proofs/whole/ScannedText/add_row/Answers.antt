use Rattle.std.proofs.Common.{◌≡◌, refl, ap, map, ◌++◌, ◌∷◌, [], ◌∙◌, Bool}
use Rattle.std.specs.Prelude.{is_some}
use Rattle.yl_row.specs.Entries.{LineStateValue}
use Rattle.yl_scan.specs.declared.step.Soundness.{Soundness}
use Rattle.yl_scan.specs.declared.step.Soundness.TheVariants.{NotSound, Sound, Stopped}
use Rattle.yl_scan.specs.Step.{is_sound, state_by, step_value}
use Rattle.yl_scan.specs.Whole.{lexeme_in, scanned_text_value}
use Rattle.yl_scan.proofs.Joined.{row_added}
use Rattle.yl_scan.proofs.whole.ScannedText.add_row.Goals as goal

-- a row is sound where it has a state
sound_by_state : (s : LineStateValue) (sound : Soundness) → is_sound sound ≡ is_some (state_by s sound)
sound_by_state s NotSound = refl
sound_by_state s Sound = refl
sound_by_state s Stopped = refl

pub returns : goal.returns
returns g c = λ s.
    let told = step_value c.args.line s c.args.step in
    let before = scanned_text_value c.args.self.now in
    row_added before (scanned_text_value (record { lexemes = c.add_lexemes.new.all; comments = c.add_comment.new.all; sound = c.push.new.self; fault = c.first_of-self.result })) c.args.line told
    (map lexeme_in c.add_ended.new.all.items) c.in_ok-add_ended.ensures c.in_ok-add_lexemes.ensures c.in_ok-add_comment.ensures
    (c.in_ok-push.ensures.items ∙ ap (λ (b : Bool). before.sound ++ b ∷ []) (c.is_sound-is_sound.ensures ∙ sound_by_state s c.args.step.sound))
    c.first_of-self.ensures
