use Rattle.std.proofs.Common.{Ok, Err, Result, IfOk, sym}
use Rattle.yl_retyped.proofs.AllRows.{sections_kept}
use Rattle.yl_retyped.proofs.staying.keep_sections.Goals as goal

-- what follows for an answer
answered : {T E : Type 0} (r : Result T E) (P Q : T → Type 0) → ((x : T) → P x → Q x) → IfOk r P → IfOk r Q
answered (Ok x) P Q f h = f x h
answered (Err e) P Q f h = h

pub returns : goal.returns
returns g c = answered c.are_rows_alike.result _ _
    (λ b alike t. sections_kept c.args.config.now c.value_options.result c.args.old.now.items c.args.new.now c.args.from c.args.end (sym c.value_options.ensures.truthy) (sym c.value_options.ensures.quoted) c.requires.range c.requires.old c.requires.new
    c.requires.before c.requires.behind (alike t))
    c.are_rows_alike.ensures
