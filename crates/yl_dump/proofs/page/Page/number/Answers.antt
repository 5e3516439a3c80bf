use Rattle.std.proofs.Common.{◌≡◌, ◌<◌, ◌≤◌, ◌+◌, ◌%◌, ◌++◌, ◌∷◌, [], ap, sym, subst, ◌∙◌}
use Rattle.std.specs.Prelude.{OnOk}
use Rattle.std.proofs.lemmas.List.{append_assoc}
use Rattle.std.proofs.lemmas.Fmt.{decimal_digit}
use Rattle.yl_dump.proofs.Numbers.{decimal_two}
use Rattle.yl_dump.proofs.page.Page.number.Goals as goal

pub returns-then-n-lt10 : goal.returns-then-n-lt10
returns-then-n-lt10 g c =
    let one : c.args.n < 10 = c.if-n-lt10.true in
    rw (decimal_digit c.args.n one) c.byte.ensures

pub returns-then-n-lt100 : goal.returns-then-n-lt100
returns-then-n-lt100 g c =
    let more : 10 ≤ c.args.n = c.if-n-lt10.false in
    let two : c.args.n < 100 = c.if-n-lt100.true in
    subst (λ page. OnOk c.byte-then-n-lt100-2.result (c.byte-then-n-lt100-2.new.self ≡ page))
    (ap (λ page. page ++ (48 + c.args.n % 10) ∷ []) c.in_ok-byte.ensures ∙ append_assoc c.args.self.now _ _ ∙ ap (λ digits. c.args.self.now ++ digits) (sym (decimal_two c.args.n more two)))
    c.byte-then-n-lt100-2.ensures
