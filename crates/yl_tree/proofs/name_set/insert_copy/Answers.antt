use Rattle.std.proofs.Common.{ℕ, List, ◌||◌, true, ap, ◌∙◌}
use Rattle.std.specs.Prelude.{bytes_eq, string_bytes}
use Rattle.std.specs.HashSet.{contains_text}
use Rattle.std.proofs.lemmas.Map.Text.{hash_set_updates_text}
use Rattle.yl_tree.proofs.Names.{or_cond}
use Rattle.yl_tree.proofs.name_set.insert_copy.Goals as goal

pub returns : goal.returns
returns g c = λ q.
    hash_set_updates_text (string_bytes c.in_ok-from_str.field-0) c.args.names.now c.insert.new.self true c.in_ok-insert.ensures.updates q
    ∙ or_cond (bytes_eq (string_bytes c.in_ok-from_str.field-0) q) (contains_text c.args.names.now q)
    ∙ ap (λ (bs : List ℕ). bytes_eq bs q || contains_text c.args.names.now q) c.in_ok-from_str.ensures.ok
