use Rattle.yl_row.specs.Entries.{entries}
use Rattle.yl_row.specs.Directives.{kinds_of}
use Rattle.yl_row.proofs.Placed.{directives_stand_in_place}
use Rattle.yl_events.proofs.ByTwo.{cuts_by_two}
use Rattle.yl_dump.proofs.begins.texts_cut_by_two.Goals as goal

pub returns : goal.returns
returns c = λ rows. cuts_by_two (kinds_of (entries rows)) (directives_stand_in_place rows)
