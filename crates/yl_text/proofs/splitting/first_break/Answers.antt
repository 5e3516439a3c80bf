use Rattle.std.proofs.Common.{ℕ, List, subst, take}
use Rattle.std.proofs.lemmas.List.{take_rest}
use Rattle.yl_text.specs.Lines.{HasNoBreak}
use Rattle.yl_text.proofs.Printable.{no_break_before}
use Rattle.yl_text.proofs.splitting.first_break.Goals as goal

pub returns-clause-before : goal.returns-clause-before
returns-clause-before c =
    let t = c.args.bytes.now in
    let s = c.first_special-special.result in
    let r = c.found_break.result in
    let Clear : List ℕ → Type 0 = λ u. HasNoBreak (take r u) in
    no_break_before t s r c.first_special-special.ensures.place (subst Clear (take_rest t s) c.found_break.ensures.before)
