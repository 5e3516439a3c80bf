-- Bridge: the items of a list of blocks, from the top down.
use Rattle.std.specs.Prelude.{List, [], ◌∷◌, Option, Some, None}
use Rattle.std.specs.declared.rc.Rc.{Rc}

-- the items from a block on, where the pair is its highest item and the list of those below it
abbrev pub items_of : {T : Type 0} → T × List T → List T
items_of b = b.0 ∷ b.1

-- the items of a block, if there is one, and of those below it
abbrev pub items_under : {T A : Type 0} → Option (Rc (T × List T) A) → List T
items_under None = []
items_under (Some rc) = items_of rc.value
