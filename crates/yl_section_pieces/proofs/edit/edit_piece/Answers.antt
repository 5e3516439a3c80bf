use Rattle.std.proofs.Common.{◌∙◌, sym}
use Rattle.yl_sections.proofs.Rows.{length-seen, seen}
use Rattle.yl_section_pieces.proofs.EditAlone.{is_alone, kept_so, no_alias, with_openings, with_options}
use Rattle.yl_section_pieces.proofs.edit.edit_piece.Goals as goal

pub returns : goal.returns
returns g c = λ front at.
    let config = c.args.config.now in
    let s = c.args.before.now in
    let openings = c.in_ok-openings.openings.items in
    let say = c.in_ok-openings.ensures in
    let old = seen c.args.old.now in
    let new = seen c.args.new.now in
    let ok = c.if-not-may_be_alone.false in
    let found_was = rw c.in-Some.is at c.in_ok-was.ensures in
    let found_now = rw c.in-Some-2.is at c.in_ok-now.ensures in
    let was = with_openings c.deref.ensures.value found_was in
    let now = with_options c.tree_options-options.ensures (with_openings c.deref-2.ensures.value found_now) in
    let alike = c.in_ok-is_alike.ensures config _ _ s openings old new was now c.if-not-is_alike.false in
    let none = no_alias config front s at openings say old new _ _ c.in-Some.was c.in-Some-2.now was now alike in (
      is_alone config front s at openings say old new _ _ c.in-Some.was c.in-Some-2.now was now alike c.args.kept.now (c.may_be_alone.ensures.none ok) (c.may_be_alone.ensures.begins ok)
          (c.may_be_alone.ensures.old ok) (c.may_be_alone.ensures.new ok),
      c.in_ok-finish.ensures s openings new now (c.in-Ok.ensures.1 ∙ sym (length-seen c.args.new.now)) none ∙ kept_so config front s at openings say new,
    )
