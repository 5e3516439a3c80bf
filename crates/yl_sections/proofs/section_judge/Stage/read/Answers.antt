use Rattle.std.proofs.Common.{◌++◌, ◌∷◌, [], Option, subst, sym}
use Rattle.yl_sections.specs.declared.section_judge.Stage.{Stage}
use Rattle.yl_sections.specs.declared.section_judge.Stage.TheVariants.{In, Stopped}
use Rattle.yl_sections.specs.declared.section_judge.StoppedDocument.{StoppedDocument}
use Rattle.yl_sections.specs.Judging.{IsReady, KeepsComments, ReadsRow}
use Rattle.yl_sections.proofs.RowJudging.{row_some}
use Rattle.yl_sections.proofs.Staging.{keeps_in, keeps_ready, keeps_stopped, not_in}
use Rattle.yl_sections.proofs.section_judge.Stage.read.Goals as goal

pub returns-in_default-2-clause-at : goal.returns-in_default-2-clause-at
returns-in_default-2-clause-at g c = λ config rs at some ready.
    let reads = subst (λ (s : Stage g.row.A.Denot). IsReady config rs s) c.in-In.is ready in (
      row_some rs c.args.row.now some,
      subst (λ (o : Option (StoppedDocument g.row.A.Denot)). ReadsRow o config (rs ++ c.args.row.now ∷ []) c.read_row.new.document) c.in_default-2.is (c.in_ok-stopped.ensures config rs at some reads),
    )

pub returns-in_default-clause-at : goal.returns-in_default-clause-at
returns-in_default-clause-at g c = λ config rs at some ready. not_in rs c.args.row.now config c.args.self.now c.in_default.not-In ready

pub returns-in_default-2-clause-comments : goal.returns-in_default-2-clause-comments
returns-in_default-2-clause-comments g c = λ config rs at some ready.
    subst (λ (s : Stage g.row.A.Denot). KeepsComments rs c.args.row.now s (In c.read_row.new.document)) (sym c.in-In.is) (keeps_in rs c.args.row.now c.in-In.document c.read_row.new.document)

pub returns-in_default-clause-comments : goal.returns-in_default-clause-comments
returns-in_default-clause-comments g c = λ config rs at some ready. keeps_ready rs c.args.row.now config c.args.self.now ready

pub returns-in-Some-clause-comments : goal.returns-in-Some-clause-comments
returns-in-Some-clause-comments g c = λ config rs at some ready.
    let reads = subst (λ (s : Stage g.row.A.Denot). IsReady config rs s) c.in-In.is ready in
    let stops = subst (λ (o : Option (StoppedDocument g.row.A.Denot)). ReadsRow o config (rs ++ c.args.row.now ∷ []) c.read_row.new.document) c.in-Some.is (c.in_ok-stopped.ensures config rs at some reads) in
    subst (λ (s : Stage g.row.A.Denot). KeepsComments rs c.args.row.now s (Stopped c.in-Some.stopped)) (sym c.in-In.is) (keeps_stopped rs c.args.row.now c.in-In.document c.in-Some.stopped stops.1)

pub returns-in-Some-clause-at : goal.returns-in-Some-clause-at
returns-in-Some-clause-at g c = λ config rs at some ready.
    let reads = subst (λ (s : Stage g.row.A.Denot). IsReady config rs s) c.in-In.is ready in
    let stops = subst (λ (o : Option (StoppedDocument g.row.A.Denot)). ReadsRow o config (rs ++ c.args.row.now ∷ []) c.read_row.new.document) c.in-Some.is (c.in_ok-stopped.ensures config rs at some reads) in
    stops.0
