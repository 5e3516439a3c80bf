use Rattle.std.proofs.Common.{◌≡◌, ◌||◌, ℕ, List, drop}
use Rattle.std.specs.HashSet.{contains_text}
use Rattle.yl_tree.specs.NameSets.{is_among}
use Rattle.yl_tree.proofs.name_set.insert_names.Given as goal

abbrev pub invariant-loop-name : goal.invariant-loop-name
invariant-loop-name g l = (q : List ℕ)
    → (is_among (drop l.name-index l.names) q || contains_text l.set q) ≡ (is_among l.names q || contains_text l.fn.set q)
