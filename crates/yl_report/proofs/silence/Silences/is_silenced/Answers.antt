use Rattle.std.proofs.Common.{◌≡◌, ◌<◌, ◌≤◌, sym, ap, ◌∙◌, refl, length, Some, None, Option}
use Rattle.std.specs.Prelude.{slice_get}
use Rattle.std.proofs.lemmas.Bool.{ltb-true, ltb-false}
use Rattle.std.proofs.lemmas.Option.{slice_get_read, slice_get_past}
use Rattle.yl_rules.specs.LevelOf.{rule_number}
use Rattle.yl_report.specs.declared.marks.SilencedLines.{SilencedLines}
use Rattle.yl_report.specs.Silence.{is_silenced_at, is_silenced_in}
use Rattle.yl_report.proofs.silence.Silences.is_silenced.Goals as goal

pub returns-in-Some : goal.returns-in-Some
unfolding is_silenced_at
returns-in-Some g c =
    let xs = c.deref.result.now in
    let given = c.in-Some.ensures.lookup in
    let inside : c.slot.result < length xs = ltb-true c.slot.result (length xs) (sym given.0) in
    let here : slice_get xs c.slot.result ≡ Some c.in-Some.marks.now = slice_get_read xs (length xs) c.slot.result c.in-Some.marks.now refl inside given.1 in
    let there : slice_get c.args.self.now.rules.items (rule_number c.args.rule) ≡ Some c.in-Some.marks.now = sym (λ i. slice_get (c.deref.ensures.value i) (c.slot.ensures i)) ∙ here in
    c.is_off.ensures ∙ ap (λ (o : Option (SilencedLines _)). is_silenced_in o c.args.line) (sym there)

pub returns-in-None : goal.returns-in-None
unfolding is_silenced_at
returns-in-None g c =
    let xs = c.deref.result.now in
    let given = c.in-None.ensures.lookup in
    let past : length xs ≤ c.slot.result = ltb-false c.slot.result (length xs) (sym given.0) in
    let there : slice_get c.args.self.now.rules.items (rule_number c.args.rule) ≡ None = sym (λ i. slice_get (c.deref.ensures.value i) (c.slot.ensures i)) ∙ slice_get_past xs c.slot.result past in
    ap (λ (o : Option (SilencedLines _)). is_silenced_in o c.args.line) (sym there)
