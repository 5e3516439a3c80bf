use Rattle.std.proofs.Common.{ℕ, List}
use Rattle.yl_text.specs.Fault.{IsText}
use Rattle.yl_text.specs.Watched.{device_of, failures_of}
use Rattle.yl_devices.specs.Text.{without_mark}
use Rattle.yl_devices.proofs.Whole.{are_read}
use Rattle.yl_check.specs.Run.{IsLintBegun, IsLinted}
use Rattle.yl_check.proofs.Linted.{all_linted, lint_ended, on_ok, reading_ended}
use Rattle.yl_check.proofs.run.lint.Goals as goal

pub returns-in-Err-clause-fault : goal.returns-in-Err-clause-fault
returns-in-Err-clause-fault g c =
    reading_ended (λ (bytes : List ℕ). IsLintBegun c.args.config.now c.args.name.now c.args.flags bytes (g.W.Write.contents (device_of c.args.out.now)) (g.W.Write.contents (device_of c.args.out.now)))
    (record {
      reads_before = failures_of c.args.input.now;
      reads_after = failures_of c.read_text.new.input;
      writes_before = failures_of c.args.out.now;
      writes_after = failures_of c.args.out.now;
    })
    (g.R.Read.remaining (device_of c.args.input.now)) (g.R.Read.remaining (device_of c.read_text.new.input)) (g.W.Write.contents (device_of c.args.out.now))
    c.in-Err.fault c.in-Err.ensures.fault

pub returns-clause-linted : goal.returns-clause-linted
returns-clause-linted g c =
    let given = g.R.Read.remaining (device_of c.args.input.now) in
    let left = g.R.Read.remaining (device_of c.read_text.new.input) in
    let read = are_read given left c.in-Ok.bytes.items c.as_slice.result.now _ c.in-Ok.ensures.read c.in-Ok.ensures.end c.as_slice.ensures.value c.as_slice.ensures.len in
    all_linted given left c.as_slice.result.now
    (λ (code : ℕ) (bytes : List ℕ). IsLinted c.args.config.now c.args.name.now c.args.flags bytes (g.W.Write.contents (device_of c.args.out.now)) (g.W.Write.contents (device_of c.lint_bytes.new.out)) code)
    c.lint_bytes.result read c.lint_bytes.ensures.is_text c.lint_bytes.ensures.linted

pub returns-clause-is_text : goal.returns-clause-is_text
returns-clause-is_text g c =
    let given = g.R.Read.remaining (device_of c.args.input.now) in
    let left = g.R.Read.remaining (device_of c.read_text.new.input) in
    let read = are_read given left c.in-Ok.bytes.items c.as_slice.result.now _ c.in-Ok.ensures.read c.in-Ok.ensures.end c.as_slice.ensures.value c.as_slice.ensures.len in
    all_linted given left c.as_slice.result.now (λ (code : ℕ) (bytes : List ℕ). IsText (without_mark bytes)) c.lint_bytes.result read c.lint_bytes.ensures.is_text c.lint_bytes.ensures.is_text

pub returns-clause-reader_quiet : goal.returns-clause-reader_quiet
returns-clause-reader_quiet g c = on_ok c.lint_bytes.result c.in-Ok.ensures.quiet

pub returns-clause-fault : goal.returns-clause-fault
returns-clause-fault g c =
    let given = g.R.Read.remaining (device_of c.args.input.now) in
    let left = g.R.Read.remaining (device_of c.read_text.new.input) in
    lint_ended (λ (bytes : List ℕ). IsLintBegun c.args.config.now c.args.name.now c.args.flags bytes (g.W.Write.contents (device_of c.args.out.now)) (g.W.Write.contents (device_of c.lint_bytes.new.out)))
    (record {
      reads_before = failures_of c.args.input.now;
      reads_after = failures_of c.read_text.new.input;
      writes_before = failures_of c.args.out.now;
      writes_after = failures_of c.lint_bytes.new.out;
    })
    (record {
      given = given;
      left = left;
      before = g.W.Write.contents (device_of c.args.out.now);
      now = g.W.Write.contents (device_of c.lint_bytes.new.out);
    })
    c.as_slice.result.now c.lint_bytes.result
    (are_read given left c.in-Ok.bytes.items c.as_slice.result.now _ c.in-Ok.ensures.read c.in-Ok.ensures.end c.as_slice.ensures.value c.as_slice.ensures.len)
    c.lint_bytes.ensures.fault
