use Rattle.std.proofs.Common.{false, ap, ◌∙◌}
use Rattle.yl_pieces.specs.KeysOfRuns.{height}
use Rattle.yl_piece_names.specs.OpeningEvents.{opened_by}
use Rattle.yl_piece_names.proofs.KeptNames.{begun}
use Rattle.yl_piece_names.proofs.run_names.RunNames.begin.Goals as goal

pub returns : goal.returns
returns g c = λ s same.
    begun s (opened_by c.args.openings.now) _ same
    (λ i. record {
      collections = c.in_ok-collections.ensures i;
      low = (c.height-low.ensures ∙ ap height c.in_ok-collections.ensures) i;
      asked = c.new.ensures.items i;
      has_references = false;
    })
