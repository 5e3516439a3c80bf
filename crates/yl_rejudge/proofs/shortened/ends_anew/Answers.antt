use Rattle.std.proofs.Common.{◌≡◌, ◌+◌, ◌<◌, ◌≤◌, ◌↔◌, ℕ, Bool, true, false, IsTrue, List, length, take, get_or, arith, sym, subst, ◌∙◌}
use Rattle.yl_record.specs.Records.{RecordValue}
use Rattle.yl_sections.specs.Kept.{KeptValue, rows_kept}
use Rattle.yl_sections.specs.Local.{is_start_at}
use Rattle.yl_rejudge.specs.Documents.{AreFront, EndsAnew}
use Rattle.yl_sections.proofs.KeptRows.{got, rows_more, rows_front}
use Rattle.yl_rejudge.proofs.shortened.ends_anew.Goals as goal
use Rattle.yl_rejudge.proofs.shortened.ends_anew.Goals.{then-end-from-via-then-end-from, then-end-from-via-else-end-from+then-not-is_start_at}

-- where the section ends
end_is : (js : List KeptValue) (p row n : ℕ) (k : KeptValue) → p < length js → k ≡ get_or js p k → n ≡ k.rows → row ≡ rows_kept (take p js) → row + n ≡ rows_kept (take (p + 1) js)
end_is js p row n k l at rows is = let more = rows_more js p k l at in omega (arith, more, rows, is)

seen : (js : List KeptValue) (old new : List RecordValue) (p from row end : ℕ) (b : Bool) → p < length js → row ≡ rows_kept (take p js) → end ≡ rows_kept (take (p + 1) js) → row < from → from < end → is_start_at new from ≡ true
    → (IsTrue b ↔ AreFront old row from end) → (IsTrue b ↔ EndsAnew js old new p from)
seen js old new p from row end b l row_is end_is before after start h = (
  λ t. record {
    section = l;
    before = omega (arith, before, row_is);
    after = omega (arith, after, end_is);
    start = start;
    front = subst (λ e. AreFront old (rows_kept (take p js)) from e) end_is (subst (λ r. AreFront old r from end) row_is (h.0 t));
  },
  λ e. h.1 (subst (λ r. AreFront old r from end) (sym row_is) (subst (λ x. AreFront old (rows_kept (take p js)) from x) (sym end_is) e.front)),
)

pub overflow_add-end : goal.overflow_add-end
overflow_add-end g c =
    let e = end_is c.args.kept.now.items c.args.place.section c.args.place.row c.rows.result c.get.result.now (omega (arith, c.len.ensures)) (got c.args.kept.now.items c.args.place.section c.get.result.now c.get.ensures) c.rows.ensures c.requires.at in
    omega (arith, e, rows_front c.args.kept.now.items (c.args.place.section + 1), c.requires.rows, c.requires.few)

pub are_front-requires : goal.are_front-requires
are_front-requires g c =
    let e = end_is c.args.kept.now.items c.args.place.section c.args.place.row c.rows.result c.get.result.now (omega (arith, c.len.ensures)) (got c.args.kept.now.items c.args.place.section c.get.result.now c.get.ensures) c.rows.ensures c.requires.at in
    omega (arith, e, rows_front c.args.kept.now.items (c.args.place.section + 1), c.requires.rows)

never : {X : Type 0} → IsTrue false → X
never t = let no : false ≡ true = t in absurd (cc)

pub returns-then-end-from : goal.returns-then-end-from
returns-then-end-from g c =
    let e = end_is c.args.kept.now.items c.args.place.section c.args.place.row c.rows.result c.get.result.now (omega (arith, c.len.ensures)) (got c.args.kept.now.items c.args.place.section c.get.result.now c.get.ensures) c.rows.ensures c.requires.at in
    elim c.then-end-from.branch [
      | then-end-from-via-then-end-from w ↦ (never, λ h. absurd (omega (arith, e, h.after, w.if-end-from.true)))
      | then-end-from-via-else-end-from+then-not-is_start_at w ↦ (never, λ h. let no : true ≡ false = sym h.start ∙ (sym w.is_start_at.ensures ∙ w.if-not-is_start_at.true) in absurd (cc))
    ]

pub returns : goal.returns
returns g c =
    let e = end_is c.args.kept.now.items c.args.place.section c.args.place.row c.rows.result c.get.result.now (omega (arith, c.len.ensures)) (got c.args.kept.now.items c.args.place.section c.get.result.now c.get.ensures) c.rows.ensures c.requires.at in
    seen c.args.kept.now.items c.args.old.now.items c.args.records.now c.args.place.section c.args.from c.args.place.row (c.args.place.row + c.rows.result) c.are_front.result (omega (arith, c.len.ensures)) c.requires.at e (omega arith) (omega arith)
    (sym c.is_start_at.ensures ∙ c.if-not-is_start_at.false) c.are_front.ensures
