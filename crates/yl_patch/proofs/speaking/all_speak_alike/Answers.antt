use Rattle.std.proofs.Common.{◌-◌, map, take, drop, ap, ◌∙◌}
use Rattle.yl_lexeme.specs.PlacedComments.{placed_comment_value}
use Rattle.yl_sections.specs.Kept.{rows_kept}
use Rattle.yl_lint.specs.TextReport.{comments_in_sections}
use Rattle.yl_found.proofs.Said.{said_within, same_switches}
use Rattle.yl_patch.proofs.speaking.all_speak_alike.Goals as goal

pub returns : goal.returns
returns g c = λ same.
    let e = c.args.edit.now in
    let ls = take (e.end - e.from) (drop e.from e.sections.now.items) in
    let gone = map placed_comment_value c.in_ok-gone.gone.items in
    let here = map placed_comment_value c.in_ok-here.here.items in record {
      old = said_within (map placed_comment_value c.deref.result.now) (comments_in_sections 0 ls) e.gone.rows (rows_kept ls) (ap (map placed_comment_value) c.deref.ensures.value ∙ c.in_ok-gone.ensures) c.requires.gone.rows (c.speak_within.ensures c.if-not-speak_within.false);
      new =
          said_within (map placed_comment_value c.deref-else-not-speak_within.result.now) (comments_in_sections 0 e.kept.now) e.come.rows (rows_kept e.kept.now) (ap (map placed_comment_value) c.deref-else-not-speak_within.ensures.value ∙ c.in_ok-here.ensures) c.requires.come.rows
          (c.speak_within-else-not-speak_within.ensures c.if-not-speak_within-2.false);
      switches =
          same_switches gone here (map placed_comment_value c.deref-2.result.now) (map placed_comment_value c.deref-3.result.now) (comments_in_sections 0 ls) (comments_in_sections 0 e.kept.now) (ap (map placed_comment_value) c.deref-2.ensures.value ∙ c.retain_switches.ensures)
          (ap (map placed_comment_value) c.deref-3.ensures.value ∙ c.retain_switches-2.ensures) c.in_ok-gone.ensures c.in_ok-here.ensures (c.have_same_texts.ensures same);
    }
