use Rattle.std.proofs.Common.{refl, sym, ◌∙◌, ap}
use Rattle.yl_sections.specs.Sections.{lexemes_of}
use Rattle.yl_sections.specs.Kept.{kept_of}
use Rattle.yl_sections.specs.Judge.{document_of, kept_of_section}
use Rattle.yl_sections.proofs.Documents.{document_is, document_built}
use Rattle.yl_sections.proofs.laws.one_kept.Goals as goal

pub returns-clause-computed : goal.returns-clause-computed
unfolding kept_of_section
returns-clause-computed c = λ config rs. record { document = document_of (lexemes_of rs); built = document_built (lexemes_of rs); kept = refl }

pub returns-clause-one : goal.returns-clause-one
returns-clause-one c = λ config rs k l a b.
    a.kept ∙ ap (kept_of config rs) (document_is (lexemes_of rs) a.document a.built ∙ sym (document_is (lexemes_of rs) b.document b.built)) ∙ sym b.kept
