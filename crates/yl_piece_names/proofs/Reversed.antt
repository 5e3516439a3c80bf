-- Lists that are equal from the end on.
use Rattle.std.specs.Prelude.{reverse}
use Rattle.std.proofs.Common.{◌≡◌, List, sym, ◌∙◌, ap}
use Rattle.std.proofs.lemmas.List.{reverse-reverse}

pub same_reversed : {X : Type 0} (xs ys : List X) → reverse xs ≡ reverse ys → xs ≡ ys
same_reversed xs ys e = sym (reverse-reverse xs) ∙ ap reverse e ∙ reverse-reverse ys
