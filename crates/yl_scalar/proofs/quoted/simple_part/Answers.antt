use Rattle.std.proofs.Common.{◌+◌, ◌-◌, ◌<◌, length-drop, ◌++◌, ◌&&◌, ap, sym, ◌∙◌, arith, take, length, drop, get_or, eqb, ne_eqb}
use Rattle.std.specs.Prelude.{not}
use Rattle.std.proofs.lemmas.List.{append-nil, get_or_read, length-take-le, take_all}
use Rattle.yl_scalar.specs.Quoted.{Closes, stretch, quote}
use Rattle.yl_scalar.proofs.Simple.{simple_step, closing_step}
use Rattle.yl_scalar.proofs.quoted.simple_part.Goals as goal

pub loop-i-init : goal.loop-i-init
loop-i-init c = λ value. (length value, ap (λ v. stretch c.args.double 0 v (length value) 0 c.args.text.now) (sym (append-nil value)))

pub loop-i-preserved : goal.loop-i-preserved
loop-i-preserved c = λ value.
    let text = c.args.text.now in
    let i = c.loop-i.i in
    let so_far = c.loop-i.invariant value in
    let within : i < length text = omega arith in
    simple_step c.args.double text i c.index-text-i.result value so_far.0 within (sym (get_or_read text i c.index-text-i.result within c.index-text-i.is 0))
    (ne_eqb c.index-text-i.result (quote c.args.double) (λ e. c.if-c-quote.false (e ∙ sym c.quote.ensures)))
    (sym c.begins_escape.ensures ∙ c.if-begins_escape.false)
    (sym c.is_quoted_character.ensures ∙ c.if-not-is_quoted_character.false)
    so_far.1

pub returns-then-c-quote-clause-part : goal.returns-then-c-quote-clause-part
returns-then-c-quote-clause-part c = λ value.
    let text = c.args.text.now in
    let i = c.loop-i.i in
    let so_far = c.loop-i.invariant value in
    let within : i < length text = omega arith in
    so_far.1 ∙ closing_step c.args.double text i (value ++ take i text) so_far.0 within
    (sym (get_or_read text i c.index-text-i.result within c.index-text-i.is 0) ∙ c.if-c-quote.true ∙ c.quote.ensures)
    (ap (λ cs. not c.args.double && eqb (get_or cs 0 0) 0x27) (sym (take_all (length text - (i + 1)) (drop (i + 1) text) (omega (arith, length-drop (i + 1) text)))) ∙ sym c.is_doubled.ensures ∙ c.if-is_doubled.false)
    ∙ ap (λ n. Closes (value ++ take i text) (n + 1)) (sym (length-take-le i text (omega arith)))
