use Rattle.std.proofs.Common.{◌≡◌, ◌≤◌, ◌<◌, List, ◌∷◌, [], get_or, length, map, refl, sym, ◌∙◌, arith}
use Rattle.std.proofs.lemmas.List.{length-map, get_or-map}
use Rattle.yl_lsp.specs.declared.params.Change.{Change}
use Rattle.yl_lsp.specs.declared.params.Change.TheVariants as C
use Rattle.yl_lsp.specs.Params.{ChangeValue, Unread}
use Rattle.yl_lsp.specs.Read.{change_value}
use Rattle.yl_workspace.specs.Shown.{text_value}
use Rattle.yl_workspace.proofs.Texts.{one_more, no_more}
use Rattle.yl_workspace.proofs.change.changed_by_all.Goals as goal

pub loop-change-init : goal.loop-change-init
loop-change-init g c = record { shown = c.requires; made = λ rest. (rest, refl) }

pub loop-change-preserved : goal.loop-change-preserved
loop-change-preserved g c =
    let xs : List Change = c.args.changes.now in
    let i = c.loop-change.change-index in
    let within : i < length (map change_value xs) = omega (arith, length-map xs change_value, c.loop-change-test.true) in
    let whole : Change = C.Whole (record { ref_ptr = (0, 0); now = [] }) in
    let one : Change = get_or xs i whole in
    let is : change_value one ≡ get_or (map change_value xs) i Unread = sym (get_or-map change_value xs i whole Unread c.loop-change-test.true) in
    let made = c.changed-text.ensures.text in
    record {
      shown = c.changed-text.ensures.shown;
      made = λ rest.
          let before = c.loop-change.invariant.made (made.0 ∷ rest) in
          (before.0, one_more c.args.encoding made.0 rest (text_value c.loop-change.text) (text_value c.changed-text.result) (map change_value xs) i (change_value one) within is made.1 ∙ before.1);
    }

pub returns-clause-text : goal.returns-clause-text
returns-clause-text g c =
    let cs : List ChangeValue = map change_value c.args.changes.now in
    let all : length cs ≤ c.loop-change.change-index = omega (arith, length-map c.args.changes.now change_value, c.loop-change-test.false) in
    let done = c.loop-change.invariant.made [] in
    (done.0, no_more c.args.encoding (text_value c.loop-change.text) cs c.loop-change.change-index all ∙ done.1)
