use Rattle.std.proofs.Common.{◌<◌, refl, arith, length}
use Rattle.yl_marks.proofs.WholeLines.{symbols_more, keys_more, all_symbols, all_keys}
use Rattle.yl_marks.proofs.document.marks_of_tokens.Goals as goal

pub loop-read-smaller : goal.loop-read-smaller
loop-read-smaller g c =
    let some : 0 < length c.split_at.result.1.now = omega (arith, c.split_at.ensures.back_len, c.loop-read-test.true) in
    omega (arith, c.line_len-count.ensures.some some, c.loop-read-test.true)

pub loop-read-preserved : goal.loop-read-preserved
loop-read-preserved g c =
    let all = c.args.tokens.now in
    let rest = c.split_at.result.1.now in
    let line = c.split_at-in-loop-read.result.0.now in
    let some : 0 < length rest = omega (arith, c.split_at.ensures.back_len, c.loop-read-test.true) in
    record {
      within = omega (arith, c.line_len-count.ensures.most, c.split_at.ensures.back_len, c.loop-read-test.true);
      symbols = symbols_more all c.loop-read.read c.line_len-count.result _ rest line c.split_at.ensures.back c.split_at-in-loop-read.ensures.front refl
          (c.line_len-count.ensures.line some) c.loop-read.marker c.read.new.self c.in_ok-read.ensures.behind _ _ _ c.in_ok-read.ensures.marks c.loop-read.invariant.symbols;
      keys = keys_more all c.loop-read.read c.line_len-count.result _ rest line c.split_at.ensures.back c.split_at-in-loop-read.ensures.front refl
          (c.line_len-count.ensures.line some) c.loop-read.marker c.read.new.self c.in_ok-read.ensures.behind _ _ _ c.in_ok-read.ensures.keys c.loop-read.invariant.keys;
    }

pub returns-clause-symbols : goal.returns-clause-symbols
returns-clause-symbols g c = all_symbols c.args.tokens.now c.loop-read.read c.loop-read.marker _ _ c.loop-read-test.false c.in_ok-close.ensures c.loop-read.invariant.symbols

pub returns-clause-keys : goal.returns-clause-keys
returns-clause-keys g c = all_keys c.args.tokens.now c.loop-read.read c.loop-read.marker _ c.loop-read-test.false c.loop-read.invariant.keys
