use Rattle.std.proofs.Common.{List, ℕ, Bool, sym, subst, inl, inr}
use Rattle.yl_patterns.specs.declared.item.Item.{Item}
use Rattle.yl_patterns.specs.Fits.{item_fits, one_fits, stands_for}
use Rattle.yl_patterns.specs.Tables.{IsTable}
use Rattle.yl_patterns.proofs.fitting.put_item.Goals as goal

-- a row with an item put before its items
abbrev Puts : List Item → List ℕ → List Bool → List Bool → Item → Type 0
Puts later path before after item = (next : List ℕ → Bool) → IsTable next path before → IsTable (item_fits item later next) path after

-- with one that stands for a character
abbrev PutsOne : List Item → List ℕ → List Bool → List Bool → Item → Type 0
PutsOne later path before after item = (next : List ℕ → Bool) → IsTable next path before → IsTable (one_fits (stands_for item later) next) path after

pub returns-in-Star : goal.returns-in-Star
returns-in-Star c = subst (Puts c.args.after.now c.args.path.now c.args.row.now c.put_run.new.row) (sym c.in-Star.is) (λ next t. c.put_run.ensures next t)

pub returns-in-Folders : goal.returns-in-Folders
returns-in-Folders c =
    subst (Puts c.args.after.now c.args.path.now c.args.row.now c.put_folders.new.row) (sym c.in-Folders.is) (λ next t. c.put_folders.ensures next t)

pub returns-in-Character : goal.returns-in-Character
returns-in-Character c =
    let P = Puts c.args.after.now c.args.path.now c.args.row.now c.put_one.new.row in
    let One = PutsOne c.args.after.now c.args.path.now c.args.row.now c.put_one.new.row in
    let h : One c.args.item = λ next t. c.put_one.ensures next t in
    elim c.in-Character.is [
      | inl w ↦ subst P (sym w.1) (subst One w.1 h)
      | inr (inl e) ↦ subst P (sym e) (subst One e h)
      | inr (inr w) ↦ subst P (sym w.1) (subst One w.1 h)
    ]
