use Rattle.std.proofs.Common.{ℕ, List, Result, subst}
use Rattle.std.specs.Prelude.{string_bytes}
use Rattle.yl_config.specs.declared.config.Config.{Config}
use Rattle.yl_config.specs.Answered.{settings_answer}
use Rattle.yl_config.specs.Outcome.{IsConfigOf}
use Rattle.yl_programs.specs.declared.answer.Source.TheVariants.{Data}
use Rattle.yl_sources.specs.Source.{IsSourceAnswer}
use Rattle.yl_sources.proofs.Read.{read_answer}
use Rattle.yl_sources.proofs.reading.config_of.Goals as goal

pub returns-in-Data-clause-config : goal.returns-in-Data-clause-config
returns-in-Data-clause-config c =
    rw c.in-Data.is (read_answer (λ (answer : Result Config ℕ). IsSourceAnswer (Data c.in-Data.text) answer) (string_bytes c.in-Data.text) c.read-read.result c.accepted.result _ (λ config h. h) (λ f h. (f, h))
    (subst (λ (bytes : List ℕ). IsConfigOf bytes (settings_answer c.read-read.result)) c.as_bytes.ensures.value c.read-read.ensures) c.accepted.ensures)
