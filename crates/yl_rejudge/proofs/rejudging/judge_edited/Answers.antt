use Rattle.std.proofs.Common.{◌≡◌, ◌<◌, Bool, true, false, IsTrue, ◌==◌, ◌-◌, ◌+◌, ◌∙◌, length, cond, arith, ap, inl, inr}
use Rattle.yl_rejudge.specs.Places.{changed_sections}
use Rattle.yl_rejudge.proofs.SectionsEdited.{few_sections, rows_of_kept, count_kept, kept_spliced}
use Rattle.yl_sections.proofs.KeptRows.{got}
use Rattle.yl_rejudge.proofs.Outcome.{outcome, row_few, kept_rows, anew_spliced, seen_anew, around}
use Rattle.yl_rejudge.proofs.rejudging.judge_edited.Goals as goal

not_both : (b : Bool) → b ≡ false → IsTrue b → ⊥
not_both true h t = let e : true ≡ false = h in absurd (cc)
not_both false h t = let e : false ≡ true = t in absurd (cc)

pub back_of-last-requires-clause-few : goal.back_of-last-requires-clause-few
back_of-last-requires-clause-few g c =
    omega (arith, c.requires.few.0, c.requires.few.1, c.requires.range.within, rows_of_kept c.args.config.now c.args.old.now.items c.args.kept.now.items c.requires.kept)

pub new_row-z-requires : goal.new_row-z-requires
new_row-z-requires g c =
    let few = row_few c.args.config.now c.args.old.now.items c.args.records.now c.args.kept.now.items c.args.from c.args.old_end c.args.end c.requires.kept c.back_of-last.result.section c.back_of-last.result.row c.back_of-last.ensures.at in
    elim c.back_of-last.ensures.start [
      | inl e ↦ inl e
      | inr h ↦ inr (h.0, omega (arith, few, c.requires.few.0, c.requires.few.1, c.requires.range.within))
    ]

pub judge_changed-requires-clause-ordered : goal.judge_changed-requires-clause-ordered
judge_changed-requires-clause-ordered g c =
    (outcome c.args.config.now c.args.old.now.items c.args.records.now c.args.kept.now.items c.args.from c.args.old_end c.args.end c.requires.kept c.front_of-first.result.section c.section_of-here.result.section c.back_of-last.result.section
    c.front_of-first.result.row c.back_of-last.result.row c.new_row-z.result c.requires.before c.requires.behind (omega (arith, c.front_of-first.ensures.row, c.section_of-here.ensures.row)) c.back_of-last.ensures.section.0 c.back_of-last.ensures.section.1
    c.front_of-first.ensures.at c.back_of-last.ensures.at (c.new_row-z.ensures ∙ ap (λ n. cond (c.back_of-last.result.section == length c.args.kept.now.items) n (c.back_of-last.result.row - c.args.old_end + c.args.end)) c.len.ensures)
    c.front_of-first.ensures.start c.back_of-last.ensures.start c.front_of-first.ensures.passed c.section_of-here.ensures.last c.back_of-last.ensures.passed c.requires.old_range.ordered c.requires.range.ordered c.requires.range.within c.requires.alike c.front_of-first.ensures.section c.section_of-here.ensures.section (omega (arith, c.section_of-here.ensures.at, c.section_of-here.ensures.row)) (omega (arith, c.requires.old_range.ordered, c.requires.old_range.within))).ordered

pub judge_changed-requires-clause-within : goal.judge_changed-requires-clause-within
judge_changed-requires-clause-within g c =
    (outcome c.args.config.now c.args.old.now.items c.args.records.now c.args.kept.now.items c.args.from c.args.old_end c.args.end c.requires.kept c.front_of-first.result.section c.section_of-here.result.section c.back_of-last.result.section
    c.front_of-first.result.row c.back_of-last.result.row c.new_row-z.result c.requires.before c.requires.behind (omega (arith, c.front_of-first.ensures.row, c.section_of-here.ensures.row)) c.back_of-last.ensures.section.0 c.back_of-last.ensures.section.1
    c.front_of-first.ensures.at c.back_of-last.ensures.at (c.new_row-z.ensures ∙ ap (λ n. cond (c.back_of-last.result.section == length c.args.kept.now.items) n (c.back_of-last.result.row - c.args.old_end + c.args.end)) c.len.ensures)
    c.front_of-first.ensures.start c.back_of-last.ensures.start c.front_of-first.ensures.passed c.section_of-here.ensures.last c.back_of-last.ensures.passed c.requires.old_range.ordered c.requires.range.ordered c.requires.range.within c.requires.alike c.front_of-first.ensures.section c.section_of-here.ensures.section (omega (arith, c.section_of-here.ensures.at, c.section_of-here.ensures.row)) (omega (arith, c.requires.old_range.ordered, c.requires.old_range.within))).within

pub ends_anew-requires-clause-rows : goal.ends_anew-requires-clause-rows
ends_anew-requires-clause-rows g c = kept_rows c.args.config.now c.args.old.now.items c.args.records.now c.args.kept.now.items c.args.from c.args.old_end c.args.end c.requires.kept

pub get-section-requires : goal.get-section-requires
get-section-requires g c = (c.ends_anew.ensures.0 c.if-ends_anew.true).section

pub judge_behind-requires-clause-section : goal.judge_behind-requires-clause-section
judge_behind-requires-clause-section g c =
    let e = c.ends_anew.ensures.0 c.if-ends_anew.true in
    omega (arith, e.section, c.requires.few.0, few_sections c.args.old.now.items, count_kept c.args.config.now c.args.old.now.items c.args.kept.now.items c.requires.kept)

pub judge_behind-requires-clause-ordered : goal.judge_behind-requires-clause-ordered
judge_behind-requires-clause-ordered g c =
    let e = c.ends_anew.ensures.0 c.if-ends_anew.true in
    let o = outcome c.args.config.now c.args.old.now.items c.args.records.now c.args.kept.now.items c.args.from c.args.old_end c.args.end c.requires.kept c.front_of-first.result.section c.section_of-here.result.section c.back_of-last.result.section
    c.front_of-first.result.row c.back_of-last.result.row c.new_row-z.result c.requires.before c.requires.behind (omega (arith, c.front_of-first.ensures.row, c.section_of-here.ensures.row)) c.back_of-last.ensures.section.0 c.back_of-last.ensures.section.1
    c.front_of-first.ensures.at c.back_of-last.ensures.at (c.new_row-z.ensures ∙ ap (λ n. cond (c.back_of-last.result.section == length c.args.kept.now.items) n (c.back_of-last.result.row - c.args.old_end + c.args.end)) c.len.ensures)
    c.front_of-first.ensures.start c.back_of-last.ensures.start c.front_of-first.ensures.passed c.section_of-here.ensures.last c.back_of-last.ensures.passed c.requires.old_range.ordered c.requires.range.ordered c.requires.range.within c.requires.alike c.front_of-first.ensures.section c.section_of-here.ensures.section (omega (arith, c.section_of-here.ensures.at, c.section_of-here.ensures.row)) (omega (arith, c.requires.old_range.ordered, c.requires.old_range.within)) in
    let before : c.front_of-first.result.row < c.args.from = omega (arith, e.before, c.front_of-first.ensures.at) in
    (omega (arith, before), o.anew e.start before)

pub judge_behind-requires-clause-within : goal.judge_behind-requires-clause-within
judge_behind-requires-clause-within g c =
    (outcome c.args.config.now c.args.old.now.items c.args.records.now c.args.kept.now.items c.args.from c.args.old_end c.args.end c.requires.kept c.front_of-first.result.section c.section_of-here.result.section c.back_of-last.result.section
    c.front_of-first.result.row c.back_of-last.result.row c.new_row-z.result c.requires.before c.requires.behind (omega (arith, c.front_of-first.ensures.row, c.section_of-here.ensures.row)) c.back_of-last.ensures.section.0 c.back_of-last.ensures.section.1
    c.front_of-first.ensures.at c.back_of-last.ensures.at (c.new_row-z.ensures ∙ ap (λ n. cond (c.back_of-last.result.section == length c.args.kept.now.items) n (c.back_of-last.result.row - c.args.old_end + c.args.end)) c.len.ensures)
    c.front_of-first.ensures.start c.back_of-last.ensures.start c.front_of-first.ensures.passed c.section_of-here.ensures.last c.back_of-last.ensures.passed c.requires.old_range.ordered c.requires.range.ordered c.requires.range.within c.requires.alike c.front_of-first.ensures.section c.section_of-here.ensures.section (omega (arith, c.section_of-here.ensures.at, c.section_of-here.ensures.row)) (omega (arith, c.requires.old_range.ordered, c.requires.old_range.within))).within

pub returns-then-ends_anew-clause-kept : goal.returns-then-ends_anew-clause-kept
returns-then-ends_anew-clause-kept g c =
    let e = c.ends_anew.ensures.0 c.if-ends_anew.true in
    let o = outcome c.args.config.now c.args.old.now.items c.args.records.now c.args.kept.now.items c.args.from c.args.old_end c.args.end c.requires.kept c.front_of-first.result.section c.section_of-here.result.section c.back_of-last.result.section
    c.front_of-first.result.row c.back_of-last.result.row c.new_row-z.result c.requires.before c.requires.behind (omega (arith, c.front_of-first.ensures.row, c.section_of-here.ensures.row)) c.back_of-last.ensures.section.0 c.back_of-last.ensures.section.1
    c.front_of-first.ensures.at c.back_of-last.ensures.at (c.new_row-z.ensures ∙ ap (λ n. cond (c.back_of-last.result.section == length c.args.kept.now.items) n (c.back_of-last.result.row - c.args.old_end + c.args.end)) c.len.ensures)
    c.front_of-first.ensures.start c.back_of-last.ensures.start c.front_of-first.ensures.passed c.section_of-here.ensures.last c.back_of-last.ensures.passed c.requires.old_range.ordered c.requires.range.ordered c.requires.range.within c.requires.alike c.front_of-first.ensures.section c.section_of-here.ensures.section (omega (arith, c.section_of-here.ensures.at, c.section_of-here.ensures.row)) (omega (arith, c.requires.old_range.ordered, c.requires.old_range.within)) in
    anew_spliced c.args.config.now c.args.old.now.items c.args.records.now c.args.kept.now.items c.args.from c.args.old_end c.args.end c.requires.kept c.front_of-first.result.section c.back_of-last.result.section c.front_of-first.result.row c.new_row-z.result
    c.front_of-first.ensures.at c.requires.before o e c.get-section.result.now (got c.args.kept.now.items c.front_of-first.result.section c.get-section.result.now c.get-section.ensures) c.in_ok-kept.kept.items c.in_ok-kept.ensures.kept

pub returns-then-ends_anew-clause-documents : goal.returns-then-ends_anew-clause-documents
returns-then-ends_anew-clause-documents g c = λ h m l.
    let e = c.ends_anew.ensures.0 c.if-ends_anew.true in
    let o = outcome c.args.config.now c.args.old.now.items c.args.records.now c.args.kept.now.items c.args.from c.args.old_end c.args.end c.requires.kept c.front_of-first.result.section c.section_of-here.result.section c.back_of-last.result.section
    c.front_of-first.result.row c.back_of-last.result.row c.new_row-z.result c.requires.before c.requires.behind (omega (arith, c.front_of-first.ensures.row, c.section_of-here.ensures.row)) c.back_of-last.ensures.section.0 c.back_of-last.ensures.section.1
    c.front_of-first.ensures.at c.back_of-last.ensures.at (c.new_row-z.ensures ∙ ap (λ n. cond (c.back_of-last.result.section == length c.args.kept.now.items) n (c.back_of-last.result.row - c.args.old_end + c.args.end)) c.len.ensures)
    c.front_of-first.ensures.start c.back_of-last.ensures.start c.front_of-first.ensures.passed c.section_of-here.ensures.last c.back_of-last.ensures.passed c.requires.old_range.ordered c.requires.range.ordered c.requires.range.within c.requires.alike c.front_of-first.ensures.section c.section_of-here.ensures.section (omega (arith, c.section_of-here.ensures.at, c.section_of-here.ensures.row)) (omega (arith, c.requires.old_range.ordered, c.requires.old_range.within)) in
    let before : c.front_of-first.result.row < c.args.from = omega (arith, e.before, c.front_of-first.ensures.at) in
    omega (arith, o.few_anew e.start before m l, c.in_ok-kept.ensures.documents)

pub returns-clause-kept : goal.returns-clause-kept
returns-clause-kept g c =
    let o = outcome c.args.config.now c.args.old.now.items c.args.records.now c.args.kept.now.items c.args.from c.args.old_end c.args.end c.requires.kept c.front_of-first.result.section c.section_of-here.result.section c.back_of-last.result.section
    c.front_of-first.result.row c.back_of-last.result.row c.new_row-z.result c.requires.before c.requires.behind (omega (arith, c.front_of-first.ensures.row, c.section_of-here.ensures.row)) c.back_of-last.ensures.section.0 c.back_of-last.ensures.section.1
    c.front_of-first.ensures.at c.back_of-last.ensures.at (c.new_row-z.ensures ∙ ap (λ n. cond (c.back_of-last.result.section == length c.args.kept.now.items) n (c.back_of-last.result.row - c.args.old_end + c.args.end)) c.len.ensures)
    c.front_of-first.ensures.start c.back_of-last.ensures.start c.front_of-first.ensures.passed c.section_of-here.ensures.last c.back_of-last.ensures.passed c.requires.old_range.ordered c.requires.range.ordered c.requires.range.within c.requires.alike c.front_of-first.ensures.section c.section_of-here.ensures.section (omega (arith, c.section_of-here.ensures.at, c.section_of-here.ensures.row)) (omega (arith, c.requires.old_range.ordered, c.requires.old_range.within)) in
    kept_spliced c.args.config.now c.args.old.now.items c.args.records.now c.args.kept.now.items c.in_ok-kept-2.kept.items (changed_sections c.front_of-first.result.section c.front_of-first.result.row c.new_row-z.result c.args.records.now)
    c.front_of-first.result.section c.back_of-last.result.section c.requires.kept c.in_ok-kept-2.ensures.kept o.changed

pub returns-clause-documents : goal.returns-clause-documents
returns-clause-documents g c = λ h m l.
    let o = outcome c.args.config.now c.args.old.now.items c.args.records.now c.args.kept.now.items c.args.from c.args.old_end c.args.end c.requires.kept c.front_of-first.result.section c.section_of-here.result.section c.back_of-last.result.section
    c.front_of-first.result.row c.back_of-last.result.row c.new_row-z.result c.requires.before c.requires.behind (omega (arith, c.front_of-first.ensures.row, c.section_of-here.ensures.row)) c.back_of-last.ensures.section.0 c.back_of-last.ensures.section.1
    c.front_of-first.ensures.at c.back_of-last.ensures.at (c.new_row-z.ensures ∙ ap (λ n. cond (c.back_of-last.result.section == length c.args.kept.now.items) n (c.back_of-last.result.row - c.args.old_end + c.args.end)) c.len.ensures)
    c.front_of-first.ensures.start c.back_of-last.ensures.start c.front_of-first.ensures.passed c.section_of-here.ensures.last c.back_of-last.ensures.passed c.requires.old_range.ordered c.requires.range.ordered c.requires.range.within c.requires.alike c.front_of-first.ensures.section c.section_of-here.ensures.section (omega (arith, c.section_of-here.ensures.at, c.section_of-here.ensures.row)) (omega (arith, c.requires.old_range.ordered, c.requires.old_range.within)) in
    let few = seen_anew c.args.config.now c.args.old.now.items c.args.records.now c.args.kept.now.items c.args.from c.args.old_end c.args.end c.requires.kept c.front_of-first.result.section c.back_of-last.result.section c.front_of-first.result.row c.new_row-z.result
    c.front_of-first.ensures.at o h (λ e. not_both c.ends_anew.result c.if-ends_anew.false (c.ends_anew.ensures.1 e)) m l in
    omega (arith, few, c.in_ok-kept-2.ensures.documents)

pub returns-then-ends_anew-clause-around : goal.returns-then-ends_anew-clause-around
returns-then-ends_anew-clause-around g c =
    around c.args.records.now c.args.kept.now.items c.args.from c.args.old_end c.args.end c.front_of-first.result.section c.back_of-last.result.section c.section_of-here.result.row c.front_of-first.result.row c.back_of-last.result.row
    c.front_of-first.ensures.at c.front_of-first.ensures.row c.section_of-here.ensures.row c.back_of-last.ensures.at c.back_of-last.ensures.start

pub returns-clause-around : goal.returns-clause-around
returns-clause-around g c =
    around c.args.records.now c.args.kept.now.items c.args.from c.args.old_end c.args.end c.front_of-first.result.section c.back_of-last.result.section c.section_of-here.result.row c.front_of-first.result.row c.back_of-last.result.row
    c.front_of-first.ensures.at c.front_of-first.ensures.row c.section_of-here.ensures.row c.back_of-last.ensures.at c.back_of-last.ensures.start
