use Rattle.std.proofs.Common.{◌<◌, ◌≤◌, ◌∙◌, List, length, refl, ap, sym, arith}
use Rattle.yl_workspace.specs.Documents.{DocumentValue}
use Rattle.yl_workspace.proofs.Lists.{length-at}
use Rattle.yl_server.specs.Folders.{governed_document}
use Rattle.yl_server.proofs.Folders.{all_found, one_more}
use Rattle.yl_server.proofs.governed.refresh.Goals as goal

pub loop-i-init : goal.loop-i-init
loop-i-init g c = record {
  counted = sym (ap (λ (l : List DocumentValue). length l) c.documents-i-end.ensures);
  made = λ rest grants. (rest, grants, refl, refl, refl);
}

pub loop-i-preserved : goal.loop-i-preserved
loop-i-preserved g c =
    let xs : List DocumentValue = c.loop-i.workspace in
    let found = c.of_document-found.result in
    let d : DocumentValue = c.index-documents-i.result in
    let made = c.govern.ensures in
    let within : c.loop-i.i < length xs = omega (arith, c.loop-i-test.true, c.loop-i.invariant.counted) in
    record {
      counted = ap (λ (l : List DocumentValue). length l) made.1 ∙ length-at c.loop-i.i (governed_document found made.0) xs ∙ c.loop-i.invariant.counted;
      made = one_more c.loop-i.i found made.0 d c.args.workspace.now xs c.govern.new.workspace c.loop-i.refreshed.is_changed c.and-refreshed.result.is_changed c.loop-i.refreshed.fault c.and-refreshed.result.fault within made.1
          c.and-refreshed.ensures.changed c.and-refreshed.ensures.fault c.loop-i.invariant.made;
    }

pub returns : goal.returns
returns g c =
    let past : length c.loop-i.workspace ≤ c.loop-i.i = omega (arith, c.loop-i-test.false, c.loop-i.invariant.counted) in
    all_found c.loop-i.i c.args.workspace.now c.loop-i.workspace c.loop-i.refreshed.is_changed c.loop-i.refreshed.fault past c.loop-i.invariant.made
