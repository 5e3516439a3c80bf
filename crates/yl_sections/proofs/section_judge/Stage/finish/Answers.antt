use Rattle.std.proofs.Common.{Some, [], append-nil, refl, subst, sym, ◌<◌, List, length}
use Rattle.yl_sections.specs.declared.fault.SectionFault.TheVariants as is
use Rattle.yl_sections.specs.declared.section_judge.ToldDocument.{ToldDocument}
use Rattle.yl_record.specs.Records.{RecordValue}
use Rattle.yl_sections.specs.declared.section_judge.Stage.{Stage}
use Rattle.yl_sections.specs.Judging.{IsAt, IsTold, Reads, spaces_of}
use Rattle.yl_sections.specs.Sections.{lexemes_of}
use Rattle.yl_sections.proofs.Staging.{told_in, told_stopped}
use Rattle.yl_sections.proofs.section_judge.Stage.finish.Goals as goal

pub returns-in_ok-found-in-In : goal.returns-in_ok-found-in-In
returns-in_ok-found-in-In g c = λ config rs h.
    let at = subst (λ (s : Stage g.row.A.Denot). IsAt config rs s) c.in-In.is h in
    let all = append-nil rs in
    let reads = subst (λ (es : List RecordValue). Reads config (lexemes_of es) (spaces_of es) [] c.in-In.document) all (at.1 [] (subst (λ (es : List RecordValue). 0 < length (lexemes_of es)) (sym all) at.0)) in
    let e = c.in_ok-found-in-In.field-0 in
    subst (λ (s : Stage g.row.A.Denot). IsTold config rs s (record { found = e.found; facts = e.facts; in_tree = e.in_tree; fault = c.fault_after.result })) (sym c.in-In.is)
    (told_in config rs c.in-In.document e (record { found = e.found; facts = e.facts; in_tree = e.in_tree; fault = c.fault_after.result }) (c.in_ok-found-in-In.ensures config (lexemes_of rs) (spaces_of rs) reads) refl refl refl
    c.fault_after.ensures)

pub returns-in-Stopped : goal.returns-in-Stopped
returns-in-Stopped g c = λ config rs h.
    let s = c.in-Stopped.stopped in
    let at = subst (λ (k : Stage g.row.A.Denot). IsAt config rs k) c.in-Stopped.is h in
    let t : ToldDocument g.row.A.Denot = record { found = s.found; facts = s.facts; in_tree = c.new-in-Stopped.result; fault = Some (is.Here s.place s.text) } in
    subst (λ (k : Stage g.row.A.Denot). IsTold config rs k t) (sym c.in-Stopped.is) (told_stopped config rs s t at refl refl c.new-in-Stopped.ensures.items refl)
