use Rattle.yl_pieces.proofs.ReferencesNamed as named
use Rattle.yl_pieces.proofs.references.references_are_lexemes.Goals as goal

pub returns : goal.returns
returns c = named.references_are_lexemes
