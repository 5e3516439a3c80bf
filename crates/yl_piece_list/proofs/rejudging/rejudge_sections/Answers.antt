use Rattle.std.proofs.Common.{◌≡◌, ◌≤◌, ◌+◌, ◌-◌, ◌==◌, ◌⊎◌, ℕ, List, [], length, take, Option, Some, None, refl, ap, sym, subst, ◌∙◌, arith, cond, inl, inr}
use Rattle.std.specs.Prelude.{IfNone}
use Rattle.std.specs.List.{splice}
use Rattle.std.proofs.lemmas.List.{length-map, take-append-drop, take_all}
use Rattle.yl_record.specs.Records.{RecordValue}
use Rattle.yl_sections.specs.Kept.{documents_in, rows_kept}
use Rattle.yl_sections.specs.Sections.{sections}
use Rattle.yl_sections.proofs.KeptRows.{rows_front}
use Rattle.yl_rejudge.specs.Places.{changed_sections}
use Rattle.yl_section_pieces.specs.Pieces.{PieceValue, summaries}
use Rattle.yl_section_pieces.specs.Sections.{AreKeptSections}
use Rattle.yl_piece_list.proofs.EndsAnew.{anew_kept, few_behind, near_taken, piece_above, row_above}
use Rattle.yl_piece_list.proofs.Flat.{apart, found, put}
use Rattle.yl_piece_list.proofs.Starts.{start_at}
use Rattle.yl_piece_list.proofs.Typed.{stays}
use Rattle.yl_piece_list.proofs.NextPiece.{around_sections, same_changed, total_rows}
use Rattle.yl_piece_list.proofs.rejudging.rejudge_sections.Goals as goal

-- nothing in place of nothing
nothing_put : (ps ns : List PieceValue) (n : ℕ) → ns ≡ [] → splice ps n n ns ≡ ps
nothing_put ps ns n e = ap (splice ps n n) e ∙ take-append-drop n ps

pub back_of-last-requires-clause-few : goal.back_of-last-requires-clause-few
back_of-last-requires-clause-few g c =
    omega (arith, c.requires.few.0, c.requires.few.1, c.requires.range.within, total_rows c.args.config.now c.args.old.now.items c.args.pieces.now c.requires.kept)

pub new_row-z-requires : goal.new_row-z-requires
new_row-z-requires g c =
    let total = total_rows c.args.config.now c.args.old.now.items c.args.pieces.now c.requires.kept in
    let few = rows_front (summaries c.args.pieces.now) c.back_of-last.result.section in
    elim c.back_of-last.ensures.start [
      | inl e ↦ inl e
      | inr h ↦ inr (h.1.0, omega (arith, total, few, c.back_of-last.ensures.at, c.requires.few.0, c.requires.few.1, c.requires.range.within))
    ]

pub judge_changed-requires-clause-ordered : goal.judge_changed-requires-clause-ordered
judge_changed-requires-clause-ordered g c =
    let config = c.args.config.now in
    let old = c.args.old.now.items in
    let new = c.args.records.now in
    let ps = c.args.pieces.now in
    let f : ℕ = c.front_of-first.result.section in
    let i : ℕ = c.args.here.section in
    let e : ℕ = c.back_of-last.result.section in
    let d = found config old ps c.requires.kept new f i e c.front_of-first.result.row c.args.here.row c.back_of-last.result.row c.new_row-z.result c.args.from c.args.old_end c.args.end c.requires.before c.requires.behind
    c.front_of-first.ensures.section (omega (arith, c.requires.here.section, length-map c.args.pieces.now (λ (p : PieceValue). p.kept))) c.back_of-last.ensures.section.0 c.back_of-last.ensures.section.1 c.front_of-first.ensures.at c.requires.here.row c.back_of-last.ensures.at
    (c.new_row-z.ensures ∙ ap (λ n. cond (e == length ps) n (c.back_of-last.result.row - c.args.old_end + c.args.end)) c.len.ensures) c.front_of-first.ensures.start c.back_of-last.ensures.start c.front_of-first.ensures.passed c.requires.above c.requires.last
    c.back_of-last.ensures.passed c.requires.old_range.ordered c.requires.range.ordered c.requires.range.within c.requires.alike (omega (arith, c.requires.old_range.ordered, c.requires.old_range.within)) in
    d.outcome.ordered

pub judge_changed-requires-clause-within : goal.judge_changed-requires-clause-within
judge_changed-requires-clause-within g c =
    let config = c.args.config.now in
    let old = c.args.old.now.items in
    let new = c.args.records.now in
    let ps = c.args.pieces.now in
    let f : ℕ = c.front_of-first.result.section in
    let i : ℕ = c.args.here.section in
    let e : ℕ = c.back_of-last.result.section in
    let d = found config old ps c.requires.kept new f i e c.front_of-first.result.row c.args.here.row c.back_of-last.result.row c.new_row-z.result c.args.from c.args.old_end c.args.end c.requires.before c.requires.behind
    c.front_of-first.ensures.section (omega (arith, c.requires.here.section, length-map c.args.pieces.now (λ (p : PieceValue). p.kept))) c.back_of-last.ensures.section.0 c.back_of-last.ensures.section.1 c.front_of-first.ensures.at c.requires.here.row c.back_of-last.ensures.at
    (c.new_row-z.ensures ∙ ap (λ n. cond (e == length ps) n (c.back_of-last.result.row - c.args.old_end + c.args.end)) c.len.ensures) c.front_of-first.ensures.start c.back_of-last.ensures.start c.front_of-first.ensures.passed c.requires.above c.requires.last
    c.back_of-last.ensures.passed c.requires.old_range.ordered c.requires.range.ordered c.requires.range.within c.requires.alike (omega (arith, c.requires.old_range.ordered, c.requires.old_range.within)) in
    d.outcome.within

pub returns-then-branch-clause-kept : goal.returns-then-branch-clause-kept
returns-then-branch-clause-kept g c =
    let config = c.args.config.now in
    let old = c.args.old.now.items in
    let new = c.args.records.now in
    let ps = c.args.pieces.now in
    let f : ℕ = c.front_of-first.result.section in
    let i : ℕ = c.args.here.section in
    let e : ℕ = c.back_of-last.result.section in
    let d = found config old ps c.requires.kept new f i e c.front_of-first.result.row c.args.here.row c.back_of-last.result.row (cond (e == length ps) (length new) (c.back_of-last.result.row - c.args.old_end + c.args.end)) c.args.from c.args.old_end c.args.end c.requires.before c.requires.behind
    c.front_of-first.ensures.section (omega (arith, c.requires.here.section, length-map c.args.pieces.now (λ (p : PieceValue). p.kept))) c.back_of-last.ensures.section.0 c.back_of-last.ensures.section.1 c.front_of-first.ensures.at c.requires.here.row c.back_of-last.ensures.at
    refl c.front_of-first.ensures.start c.back_of-last.ensures.start c.front_of-first.ensures.passed c.requires.above c.requires.last
    c.back_of-last.ensures.passed c.requires.old_range.ordered c.requires.range.ordered c.requires.range.within c.requires.alike (omega (arith, c.requires.old_range.ordered, c.requires.old_range.within)) in
    let one : e ≡ f + 1 = omega (arith, c.back_of-last.ensures.section.0) in
    let all = stays config old new ps c.requires.kept f e c.front_of-first.result.row (cond (e == length ps) (length new) (c.back_of-last.result.row - c.args.old_end + c.args.end)) c.args.from c.args.end d one (c.in_ok-keep_sections.ensures c.if-branch.true) in
    subst (λ (qs : List PieceValue). AreKeptSections config (sections new) qs) (sym (nothing_put ps c.new.result.items f c.new.ensures.items)) all

pub returns-then-branch-clause-around : goal.returns-then-branch-clause-around
returns-then-branch-clause-around g c =
    let ps = c.args.pieces.now in
    let f : ℕ = c.front_of-first.result.section in
    let e : ℕ = c.back_of-last.result.section in
    let one : e ≡ f + 1 = omega (arith, c.back_of-last.ensures.section.0) in
    let count = length-map ps (λ (p : PieceValue). p.kept) in
    let total = total_rows c.args.config.now c.args.old.now.items ps c.requires.kept in
    let y = ap (λ n. rows_kept (take n (summaries ps))) one in
    let low : c.args.end ≤ c.back_of-last.result.row = elim c.back_of-last.ensures.start [
      | inl w ↦
          let past : length (summaries ps) ≤ e = omega (arith, w, count) in
          let rows = ap rows_kept (take_all e (summaries ps) past) in
          omega (arith, rows, total, c.back_of-last.ensures.at, c.requires.old_range.within)
      | inr w ↦ omega (arith, w.1.0)
    ] in
    inr (record {
      none = ap (λ (qs : List PieceValue). summaries qs) c.new.ensures.items;
      same = refl;
      rows = omega arith;
      holds = record {
        there = omega (arith, one, c.back_of-last.ensures.section.1, count);
        first = omega (arith, c.front_of-first.ensures.at, c.front_of-first.ensures.row, c.requires.above);
        last = omega (arith, low, y, c.back_of-last.ensures.at);
      };
    })

pub returns-clause-kept : goal.returns-clause-kept
returns-clause-kept g c =
    let config = c.args.config.now in
    let old = c.args.old.now.items in
    let new = c.args.records.now in
    let ps = c.args.pieces.now in
    let f : ℕ = c.front_of-first.result.section in
    let i : ℕ = c.args.here.section in
    let e : ℕ = c.back_of-last.result.section in
    let x : ℕ = c.front_of-first.result.row in
    let z : ℕ = c.new_row-z.result in
    let d = found config old ps c.requires.kept new f i e c.front_of-first.result.row c.args.here.row c.back_of-last.result.row c.new_row-z.result c.args.from c.args.old_end c.args.end c.requires.before c.requires.behind
    c.front_of-first.ensures.section (omega (arith, c.requires.here.section, length-map c.args.pieces.now (λ (p : PieceValue). p.kept))) c.back_of-last.ensures.section.0 c.back_of-last.ensures.section.1 c.front_of-first.ensures.at c.requires.here.row c.back_of-last.ensures.at
    (c.new_row-z.ensures ∙ ap (λ n. cond (e == length ps) n (c.back_of-last.result.row - c.args.old_end + c.args.end)) c.len.ensures) c.front_of-first.ensures.start c.back_of-last.ensures.start c.front_of-first.ensures.passed c.requires.above c.requires.last
    c.back_of-last.ensures.passed c.requires.old_range.ordered c.requires.range.ordered c.requires.range.within c.requires.alike (omega (arith, c.requires.old_range.ordered, c.requires.old_range.within)) in
    let same = same_changed f d.p x z new (λ w. d.p_at ∙ ap (λ n. start_at c.requires.kept.cuts n) w) (λ w. omega (arith, d.p_at, apart config old ps c.requires.kept 0 d.p w d.p_within)) in
    put config old ps c.requires.kept new f i e x c.args.here.row c.back_of-last.result.row z c.args.from c.args.old_end c.args.end d (changed_sections d.p x z new) c.in_ok-judged.judged.items d.outcome.changed
    (subst (λ (ss : List (List RecordValue)). AreKeptSections config ss c.in_ok-judged.judged.items) same c.in_ok-judged.ensures.kept)

pub returns-clause-around : goal.returns-clause-around
returns-clause-around g c =
    inl (around_sections c.args.records.now c.args.pieces.now c.args.from c.args.old_end c.args.end c.front_of-first.result.section c.back_of-last.result.section c.args.here.row c.front_of-first.result.row c.back_of-last.result.row
    c.front_of-first.ensures.at c.front_of-first.ensures.row c.requires.above c.back_of-last.ensures.at c.back_of-last.ensures.start)

pub returns-then-branch-clause-documents : goal.returns-then-branch-clause-documents
returns-then-branch-clause-documents g c = λ h m w. omega arith

none_of : {X : Type 0} (o : Option X) (P : Type 0) → IfNone o P → ((x : X) → o ≡ Some x → ⊥) → P
none_of None P h not = h
none_of (Some x) P h not = absurd (not x refl)

pub returns-clause-documents : goal.returns-clause-documents
returns-clause-documents g c = λ h m w.
    let config = c.args.config.now in
    let old = c.args.old.now.items in
    let new = c.args.records.now in
    let ps = c.args.pieces.now in
    let f : ℕ = c.front_of-first.result.section in
    let i : ℕ = c.args.here.section in
    let e : ℕ = c.back_of-last.result.section in
    let x : ℕ = c.front_of-first.result.row in
    let z : ℕ = c.new_row-z.result in
    let d = found config old ps c.requires.kept new f i e c.front_of-first.result.row c.args.here.row c.back_of-last.result.row c.new_row-z.result c.args.from c.args.old_end c.args.end c.requires.before c.requires.behind
    c.front_of-first.ensures.section (omega (arith, c.requires.here.section, length-map c.args.pieces.now (λ (p : PieceValue). p.kept))) c.back_of-last.ensures.section.0 c.back_of-last.ensures.section.1 c.front_of-first.ensures.at c.requires.here.row c.back_of-last.ensures.at
    (c.new_row-z.ensures ∙ ap (λ n. cond (e == length ps) n (c.back_of-last.result.row - c.args.old_end + c.args.end)) c.len.ensures) c.front_of-first.ensures.start c.back_of-last.ensures.start c.front_of-first.ensures.passed c.requires.above c.requires.last
    c.back_of-last.ensures.passed c.requires.old_range.ordered c.requires.range.ordered c.requires.range.within c.requires.alike (omega (arith, c.requires.old_range.ordered, c.requires.old_range.within)) in
    let same = same_changed f d.p x z new (λ w. d.p_at ∙ ap (λ n. start_at c.requires.kept.cuts n) w) (λ w. omega (arith, d.p_at, apart config old ps c.requires.kept 0 d.p w d.p_within)) in
    let count = c.in_ok-judged.ensures.documents ∙ ap (λ (ss : List (List RecordValue)). c.args.meter.now.documents + documents_in ss) same in
    let few = near_taken config old new ps c.requires.kept f e x z c.args.from c.args.end d c.front_of-first.ensures.at h (none_of c.ends_anew.result _ c.ends_anew.ensures.none c.in_default.not-Some) m w in
    omega (arith, few, count)

-- ---- where the section above ends anew

pub ends_anew-requires-clause-rows : goal.ends_anew-requires-clause-rows
ends_anew-requires-clause-rows g c = total_rows c.args.config.now c.args.old.now.items c.args.pieces.now c.requires.kept

pub judge_behind-requires-clause-there : goal.judge_behind-requires-clause-there
judge_behind-requires-clause-there g c = c.in-Some.ensures.last.within

pub judge_behind-requires-clause-next : goal.judge_behind-requires-clause-next
judge_behind-requires-clause-next g c =
    let config = c.args.config.now in
    let old = c.args.old.now.items in
    let new = c.args.records.now in
    let ps = c.args.pieces.now in
    let f : ℕ = c.front_of-first.result.section in
    let i : ℕ = c.args.here.section in
    let e : ℕ = c.back_of-last.result.section in
    let x : ℕ = c.front_of-first.result.row in
    let z : ℕ = c.new_row-z.result in
    let d = found config old ps c.requires.kept new f i e c.front_of-first.result.row c.args.here.row c.back_of-last.result.row c.new_row-z.result c.args.from c.args.old_end c.args.end c.requires.before c.requires.behind
    c.front_of-first.ensures.section (omega (arith, c.requires.here.section, length-map c.args.pieces.now (λ (p : PieceValue). p.kept))) c.back_of-last.ensures.section.0 c.back_of-last.ensures.section.1 c.front_of-first.ensures.at c.requires.here.row c.back_of-last.ensures.at
    (c.new_row-z.ensures ∙ ap (λ n. cond (e == length ps) n (c.back_of-last.result.row - c.args.old_end + c.args.end)) c.len.ensures) c.front_of-first.ensures.start c.back_of-last.ensures.start c.front_of-first.ensures.passed c.requires.above c.requires.last
    c.back_of-last.ensures.passed c.requires.old_range.ordered c.requires.range.ordered c.requires.range.within c.requires.alike (omega (arith, c.requires.old_range.ordered, c.requires.old_range.within)) in
    let high : (e ≡ length ps) ⊎ (c.args.old_end ≤ rows_kept (take e (summaries ps))) = elim c.back_of-last.ensures.start [
      | inl w ↦ inl w
      | inr w ↦ inr (omega (arith, w.1.0, c.back_of-last.ensures.at))
    ] in
    let low = piece_above config old new ps c.requires.kept f e x z c.args.from c.args.end d c.front_of-first.ensures.at c.in-Some.at.section c.in-Some.at.row c.in-Some.ensures.last c.in-Some.ensures.row c.in-Some.ensures.seen c.args.old_end c.requires.old_range.ordered high in
    omega (arith, low)

pub judge_behind-requires-clause-ordered : goal.judge_behind-requires-clause-ordered
judge_behind-requires-clause-ordered g c =
    let config = c.args.config.now in
    let old = c.args.old.now.items in
    let new = c.args.records.now in
    let ps = c.args.pieces.now in
    let f : ℕ = c.front_of-first.result.section in
    let i : ℕ = c.args.here.section in
    let e : ℕ = c.back_of-last.result.section in
    let x : ℕ = c.front_of-first.result.row in
    let z : ℕ = c.new_row-z.result in
    let d = found config old ps c.requires.kept new f i e c.front_of-first.result.row c.args.here.row c.back_of-last.result.row c.new_row-z.result c.args.from c.args.old_end c.args.end c.requires.before c.requires.behind
    c.front_of-first.ensures.section (omega (arith, c.requires.here.section, length-map c.args.pieces.now (λ (p : PieceValue). p.kept))) c.back_of-last.ensures.section.0 c.back_of-last.ensures.section.1 c.front_of-first.ensures.at c.requires.here.row c.back_of-last.ensures.at
    (c.new_row-z.ensures ∙ ap (λ n. cond (e == length ps) n (c.back_of-last.result.row - c.args.old_end + c.args.end)) c.len.ensures) c.front_of-first.ensures.start c.back_of-last.ensures.start c.front_of-first.ensures.passed c.requires.above c.requires.last
    c.back_of-last.ensures.passed c.requires.old_range.ordered c.requires.range.ordered c.requires.range.within c.requires.alike (omega (arith, c.requires.old_range.ordered, c.requires.old_range.within)) in
    let low = row_above config old new ps c.requires.kept f e x z c.args.from c.args.end d c.front_of-first.ensures.at c.in-Some.at.section c.in-Some.at.row c.in-Some.ensures.last c.in-Some.ensures.row c.in-Some.ensures.seen in
    (omega (arith, low), d.outcome.anew c.in-Some.ensures.seen.start c.in-Some.ensures.seen.before)

pub judge_behind-requires-clause-within : goal.judge_behind-requires-clause-within
judge_behind-requires-clause-within g c =
    let config = c.args.config.now in
    let old = c.args.old.now.items in
    let new = c.args.records.now in
    let ps = c.args.pieces.now in
    let f : ℕ = c.front_of-first.result.section in
    let i : ℕ = c.args.here.section in
    let e : ℕ = c.back_of-last.result.section in
    let x : ℕ = c.front_of-first.result.row in
    let z : ℕ = c.new_row-z.result in
    let d = found config old ps c.requires.kept new f i e c.front_of-first.result.row c.args.here.row c.back_of-last.result.row c.new_row-z.result c.args.from c.args.old_end c.args.end c.requires.before c.requires.behind
    c.front_of-first.ensures.section (omega (arith, c.requires.here.section, length-map c.args.pieces.now (λ (p : PieceValue). p.kept))) c.back_of-last.ensures.section.0 c.back_of-last.ensures.section.1 c.front_of-first.ensures.at c.requires.here.row c.back_of-last.ensures.at
    (c.new_row-z.ensures ∙ ap (λ n. cond (e == length ps) n (c.back_of-last.result.row - c.args.old_end + c.args.end)) c.len.ensures) c.front_of-first.ensures.start c.back_of-last.ensures.start c.front_of-first.ensures.passed c.requires.above c.requires.last
    c.back_of-last.ensures.passed c.requires.old_range.ordered c.requires.range.ordered c.requires.range.within c.requires.alike (omega (arith, c.requires.old_range.ordered, c.requires.old_range.within)) in
    d.outcome.within

pub returns-in-Some-clause-range : goal.returns-in-Some-clause-range
returns-in-Some-clause-range g c =
    let config = c.args.config.now in
    let old = c.args.old.now.items in
    let new = c.args.records.now in
    let ps = c.args.pieces.now in
    let f : ℕ = c.front_of-first.result.section in
    let i : ℕ = c.args.here.section in
    let e : ℕ = c.back_of-last.result.section in
    let x : ℕ = c.front_of-first.result.row in
    let z : ℕ = c.new_row-z.result in
    let d = found config old ps c.requires.kept new f i e c.front_of-first.result.row c.args.here.row c.back_of-last.result.row c.new_row-z.result c.args.from c.args.old_end c.args.end c.requires.before c.requires.behind
    c.front_of-first.ensures.section (omega (arith, c.requires.here.section, length-map c.args.pieces.now (λ (p : PieceValue). p.kept))) c.back_of-last.ensures.section.0 c.back_of-last.ensures.section.1 c.front_of-first.ensures.at c.requires.here.row c.back_of-last.ensures.at
    (c.new_row-z.ensures ∙ ap (λ n. cond (e == length ps) n (c.back_of-last.result.row - c.args.old_end + c.args.end)) c.len.ensures) c.front_of-first.ensures.start c.back_of-last.ensures.start c.front_of-first.ensures.passed c.requires.above c.requires.last
    c.back_of-last.ensures.passed c.requires.old_range.ordered c.requires.range.ordered c.requires.range.within c.requires.alike (omega (arith, c.requires.old_range.ordered, c.requires.old_range.within)) in
    let high : (e ≡ length ps) ⊎ (c.args.old_end ≤ rows_kept (take e (summaries ps))) = elim c.back_of-last.ensures.start [
      | inl w ↦ inl w
      | inr w ↦ inr (omega (arith, w.1.0, c.back_of-last.ensures.at))
    ] in
    let low = piece_above config old new ps c.requires.kept f e x z c.args.from c.args.end d c.front_of-first.ensures.at c.in-Some.at.section c.in-Some.at.row c.in-Some.ensures.last c.in-Some.ensures.row c.in-Some.ensures.seen c.args.old_end c.requires.old_range.ordered high in
    record { ordered = omega (arith, low); within = c.back_of-last.ensures.section.1 }

pub returns-in-Some-clause-kept : goal.returns-in-Some-clause-kept
returns-in-Some-clause-kept g c =
    let config = c.args.config.now in
    let old = c.args.old.now.items in
    let new = c.args.records.now in
    let ps = c.args.pieces.now in
    let f : ℕ = c.front_of-first.result.section in
    let i : ℕ = c.args.here.section in
    let e : ℕ = c.back_of-last.result.section in
    let x : ℕ = c.front_of-first.result.row in
    let z : ℕ = c.new_row-z.result in
    let d = found config old ps c.requires.kept new f i e c.front_of-first.result.row c.args.here.row c.back_of-last.result.row c.new_row-z.result c.args.from c.args.old_end c.args.end c.requires.before c.requires.behind
    c.front_of-first.ensures.section (omega (arith, c.requires.here.section, length-map c.args.pieces.now (λ (p : PieceValue). p.kept))) c.back_of-last.ensures.section.0 c.back_of-last.ensures.section.1 c.front_of-first.ensures.at c.requires.here.row c.back_of-last.ensures.at
    (c.new_row-z.ensures ∙ ap (λ n. cond (e == length ps) n (c.back_of-last.result.row - c.args.old_end + c.args.end)) c.len.ensures) c.front_of-first.ensures.start c.back_of-last.ensures.start c.front_of-first.ensures.passed c.requires.above c.requires.last
    c.back_of-last.ensures.passed c.requires.old_range.ordered c.requires.range.ordered c.requires.range.within c.requires.alike (omega (arith, c.requires.old_range.ordered, c.requires.old_range.within)) in
    anew_kept config old new ps c.requires.kept f e x z c.args.from c.args.end d c.front_of-first.ensures.at c.in-Some.at.section c.in-Some.at.row c.in-Some.ensures.last c.in-Some.ensures.row c.in-Some.ensures.seen c.requires.before c.in_ok-behind.behind.items c.in_ok-behind.ensures.kept

pub returns-in-Some-clause-around : goal.returns-in-Some-clause-around
returns-in-Some-clause-around g c =
    let config = c.args.config.now in
    let old = c.args.old.now.items in
    let new = c.args.records.now in
    let ps = c.args.pieces.now in
    let f : ℕ = c.front_of-first.result.section in
    let i : ℕ = c.args.here.section in
    let e : ℕ = c.back_of-last.result.section in
    let x : ℕ = c.front_of-first.result.row in
    let z : ℕ = c.new_row-z.result in
    let d = found config old ps c.requires.kept new f i e c.front_of-first.result.row c.args.here.row c.back_of-last.result.row c.new_row-z.result c.args.from c.args.old_end c.args.end c.requires.before c.requires.behind
    c.front_of-first.ensures.section (omega (arith, c.requires.here.section, length-map c.args.pieces.now (λ (p : PieceValue). p.kept))) c.back_of-last.ensures.section.0 c.back_of-last.ensures.section.1 c.front_of-first.ensures.at c.requires.here.row c.back_of-last.ensures.at
    (c.new_row-z.ensures ∙ ap (λ n. cond (e == length ps) n (c.back_of-last.result.row - c.args.old_end + c.args.end)) c.len.ensures) c.front_of-first.ensures.start c.back_of-last.ensures.start c.front_of-first.ensures.passed c.requires.above c.requires.last
    c.back_of-last.ensures.passed c.requires.old_range.ordered c.requires.range.ordered c.requires.range.within c.requires.alike (omega (arith, c.requires.old_range.ordered, c.requires.old_range.within)) in
    let low = row_above config old new ps c.requires.kept f e x z c.args.from c.args.end d c.front_of-first.ensures.at c.in-Some.at.section c.in-Some.at.row c.in-Some.ensures.last c.in-Some.ensures.row c.in-Some.ensures.seen in
    let row : ℕ = c.in-Some.at.row in
    inl (around_sections c.args.records.now c.args.pieces.now c.args.from c.args.old_end c.args.end c.in-Some.at.section c.back_of-last.result.section row row c.back_of-last.result.row
    c.in-Some.ensures.row (omega arith) (omega (arith, low)) c.back_of-last.ensures.at c.back_of-last.ensures.start)

pub returns-in-Some-clause-documents : goal.returns-in-Some-clause-documents
returns-in-Some-clause-documents g c = λ h m w.
    let config = c.args.config.now in
    let old = c.args.old.now.items in
    let new = c.args.records.now in
    let ps = c.args.pieces.now in
    let f : ℕ = c.front_of-first.result.section in
    let i : ℕ = c.args.here.section in
    let e : ℕ = c.back_of-last.result.section in
    let x : ℕ = c.front_of-first.result.row in
    let z : ℕ = c.new_row-z.result in
    let d = found config old ps c.requires.kept new f i e c.front_of-first.result.row c.args.here.row c.back_of-last.result.row c.new_row-z.result c.args.from c.args.old_end c.args.end c.requires.before c.requires.behind
    c.front_of-first.ensures.section (omega (arith, c.requires.here.section, length-map c.args.pieces.now (λ (p : PieceValue). p.kept))) c.back_of-last.ensures.section.0 c.back_of-last.ensures.section.1 c.front_of-first.ensures.at c.requires.here.row c.back_of-last.ensures.at
    (c.new_row-z.ensures ∙ ap (λ n. cond (e == length ps) n (c.back_of-last.result.row - c.args.old_end + c.args.end)) c.len.ensures) c.front_of-first.ensures.start c.back_of-last.ensures.start c.front_of-first.ensures.passed c.requires.above c.requires.last
    c.back_of-last.ensures.passed c.requires.old_range.ordered c.requires.range.ordered c.requires.range.within c.requires.alike (omega (arith, c.requires.old_range.ordered, c.requires.old_range.within)) in
    let few = few_behind config old new ps c.requires.kept f e x z c.args.from c.args.end d c.front_of-first.ensures.at c.in-Some.at.section c.in-Some.at.row c.in-Some.ensures.last c.in-Some.ensures.row c.in-Some.ensures.seen m w in
    omega (arith, few, c.in_ok-behind.ensures.documents)
