use Rattle.yl_pieces.proofs.ReferencesNamed as named
use Rattle.yl_pieces.proofs.references.anchors_are_lexemes.Goals as goal

pub returns-clause-lexemes : goal.returns-clause-lexemes
returns-clause-lexemes c = named.anchors_are_lexemes

pub returns-clause-apart : goal.returns-clause-apart
returns-clause-apart c = named.aliases_have_no_anchors
