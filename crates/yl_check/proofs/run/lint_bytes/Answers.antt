use Rattle.std.proofs.Common.{ap, sym, ◌∙◌}
use Rattle.yl_report.specs.Report.{status_of}
use Rattle.yl_text.specs.Watched.{device_of, failures_of}
use Rattle.yl_check.specs.Run.{IsLintBegun}
use Rattle.yl_check.proofs.Linted.{not_reported}
use Rattle.yl_check.proofs.run.lint_bytes.Goals as goal

pub returns-in-Err-clause-fault : goal.returns-in-Err-clause-fault
returns-in-Err-clause-fault g c =
    let contents = g.W.Write.contents (device_of c.args.out.now) in
    not_reported c.args.bytes.now (IsLintBegun c.args.config.now c.args.name.now c.args.flags c.args.bytes.now contents contents)
    (failures_of c.args.out.now) (failures_of c.args.out.now) contents c.in-Err.fault c.in-Err.ensures.fault

pub returns-in-Ok-write_report-clause-linted : goal.returns-in-Ok-write_report-clause-linted
returns-in-Ok-write_report-clause-linted g c = record {
  problems = c.as_slice.result.now;
  is = rw c.as_slice.ensures.value c.in-Ok.ensures.report;
  written = c.in-Ok-write_report.ensures.ok;
  is_status = c.status.ensures ∙ ap (λ problems. status_of problems c.args.flags.strict) (c.as_slice-in-Ok-write_report.ensures.value ∙ sym c.as_slice.ensures.value);
}

pub returns-clause-fault : goal.returns-clause-fault
returns-clause-fault g c = (
  c.in-Ok.ensures.is_text,
  c.in-Err-write_report.ensures.failed,
  record {
    problems = c.as_slice.result.now;
    is = rw c.as_slice.ensures.value c.in-Ok.ensures.report;
    written = c.in-Err-write_report.ensures.err;
  },
)
