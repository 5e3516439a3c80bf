use Rattle.std.proofs.Common.{◌≡◌, ◌≤◌, ◌-◌, Some, length}
use Rattle.yl_settings.specs.Item.{nodes_at}
use Rattle.yl_settings.specs.Values.{no_words, words_beside}
use Rattle.yl_settings.proofs.values.truthy_words.Given as goal

abbrev pub invariant-loop-word : goal.invariant-loop-word
invariant-loop-word l = record {
  within : l.rest ≤ length l.events;
  made : words_beside l.set (nodes_at l.events l.rest) ≡ words_beside (Some no_words) (nodes_at l.events l.item.inside);
}

abbrev pub decreases-loop-word : goal.decreases-loop-word
decreases-loop-word l = length l.events - l.rest
