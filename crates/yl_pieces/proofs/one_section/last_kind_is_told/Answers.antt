use Rattle.yl_pieces.proofs.OneSection.{kind_held, kind_of_next}
use Rattle.yl_pieces.proofs.one_section.last_kind_is_told.Goals as goal

pub returns-clause-next : goal.returns-clause-next
returns-clause-next c = kind_of_next

pub returns-clause-held : goal.returns-clause-held
returns-clause-held c = kind_held
