use Rattle.std.proofs.Common.{◌≡◌, ◌∙◌, List, ap, subst, sym}
use Rattle.std.specs.List.{AllByRecursion, splice}
use Rattle.yl_sections.specs.Kept.{KeptValue}
use Rattle.yl_summary.specs.Overview.{AreOverviews}
use Rattle.yl_found.specs.Faultless.{faultless}
use Rattle.yl_found.specs.Plain.{IsPlain}
use Rattle.yl_problem_lists.specs.declared.change.Change.TheVariants.{Patch}
use Rattle.yl_session.specs.Parts.{Makes}
use Rattle.yl_session.proofs.Parts.{known_after, patches, stays}
use Rattle.yl_session.proofs.Changed.{apart_of}
use Rattle.yl_session.proofs.renewing.renewal_of.Goals as goal

pub returns-then-branch-clause-makes : goal.returns-then-branch-clause-makes
returns-then-branch-clause-makes g c =
    let text = c.args.text.now in
    let rows = g.S.Lines.rows text.store.now in
    let ks = c.args.known.now.kept.items in
    let new = c.args.new.now in
    stays c.args.config.now rows (splice rows text.a text.b text.rows.now) ks (splice ks new.from new.end new.kept.items) (c.in_ok-reads_alike.ensures c.if-branch.true) (c.leaves-stay.ensures c.if-stay.true)

pub returns-then-branch-clause-overviews : goal.returns-then-branch-clause-overviews
returns-then-branch-clause-overviews g c = subst (λ (ls : List KeptValue). AreOverviews ls c.args.known.now.overviews.items) (sym (c.leaves-stay.ensures c.if-stay.true)) c.requires.overviews

pub section_edit-edit-requires-clause-stay : goal.section_edit-edit-requires-clause-stay
section_edit-edit-requires-clause-stay g c = c.requires.touching.stay

pub patched_problems-requires-clause-apart : goal.patched_problems-requires-clause-apart
patched_problems-requires-clause-apart g c =
    let text = c.args.text.now in
    let new = c.args.new.now in
    apart_of (g.S.Lines.rows text.store.now) text.rows.now text.a text.b c.args.known.now.kept.items new.from new.end new.kept.items c.section_edit-edit.result c.requires.touching c.section_edit-edit.ensures.is

pub patched_problems-requires-clause-plain : goal.patched_problems-requires-clause-plain
patched_problems-requires-clause-plain g c = subst (λ (ls : List KeptValue). AllByRecursion IsPlain (faultless ls)) (sym c.section_edit-edit.ensures.is.sections) c.requires.plain

pub patched_problems-requires-clause-plain_then : goal.patched_problems-requires-clause-plain_then
patched_problems-requires-clause-plain_then g c =
    let e = c.section_edit-edit.result in
    let same = ap (λ (es : List KeptValue). splice es e.from e.end e.kept.now) c.section_edit-edit.ensures.is.sections ∙ c.section_edit-edit.ensures.same in
    subst (λ (ls : List KeptValue). AllByRecursion IsPlain (faultless ls)) (sym same) c.requires.plain_then

pub returns-clause-makes : goal.returns-clause-makes
returns-clause-makes g c =
    let config = c.args.config.now in
    let text = c.args.text.now in
    let rows = g.S.Lines.rows text.store.now in
    let after = splice rows text.a text.b text.rows.now in
    let ks = c.args.known.now.kept.items in
    let e = c.section_edit-edit.result in
    let patch = c.in_ok-patch.patch in
    let here = patches config rows after e.sections.now.items (splice e.sections.now.items e.from e.end e.kept.now) patch c.in_ok-patch.ensures.ready c.in_ok-patch.ensures.parts in
    let there = subst (λ (es : List KeptValue). Makes config rows after es (splice es e.from e.end e.kept.now) (Patch patch)) c.section_edit-edit.ensures.is.sections here in
    subst (λ (us : List KeptValue). Makes config rows after ks us (Patch patch)) c.section_edit-edit.ensures.same there

pub returns-clause-overviews : goal.returns-clause-overviews
returns-clause-overviews g c =
    let ks = c.args.known.now.kept.items in
    let new = c.args.new.now in
    let ls = splice ks new.from new.end new.kept.items in
    let e = c.section_edit-edit.result in
    let same : splice e.sections.now.items e.from e.end e.kept.now ≡ ls = ap (λ (es : List KeptValue). splice es e.from e.end e.kept.now) c.section_edit-edit.ensures.is.sections ∙ c.section_edit-edit.ensures.same in
    known_after c.in_ok-overviews.overviews c.leaves-stay.result ks (splice e.sections.now.items e.from e.end e.kept.now) ls c.args.known.now.overviews.items c.requires.overviews c.leaves-stay.ensures same c.in_ok-overviews.ensures
