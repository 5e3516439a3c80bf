use Rattle.std.proofs.Common.{sym, ◌∙◌}
use Rattle.yl_settings.proofs.Truthy.{truthy_index-below}
use Rattle.yl_settings.proofs.values.with_word.Goals as goal

pub with-requires : goal.with-requires
with-requires c = truthy_index-below c.as_bytes.result.now c.in-Some-Some.index (sym c.index_of.ensures ∙ c.in-Some-Some.is-1)
