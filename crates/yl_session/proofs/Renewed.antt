-- What an edit took: which rows were scanned, and which documents derived.
use Rattle.std.proofs.Common.{◌≡◌, ◌≤◌, ◌<◌, ◌+◌, ◌-◌, inl, inr, ℕ, zero, suc, false, true, List, length, [], ◌∷◌, Option, Some, None, ap, sym, ◌∙◌, arith}
use Rattle.std.specs.Prelude.{IfSome, IsSome}
use Rattle.yl_text.specs.Lines.{RowValue}
use Rattle.yl_text.specs.Store.{AreLines}
use Rattle.yl_row.specs.Entries.{RowEntry, entries}
use Rattle.yl_scan.specs.Restart.{state_at}
use Rattle.yl_record.specs.Records.{RecordValue, records}
use Rattle.yl_sections.specs.Local.{is_start_at}
use Rattle.yl_sections.specs.Sections.{sections}
use Rattle.yl_sections.specs.Holding.{documents_holding}
use Rattle.yl_sections.proofs.SectionStarts.{not_first}
use Rattle.yl_rescan.specs.Held.{AreHeld}
use Rattle.yl_rescan.specs.Rescan.{IsRescan, IsRestart, IsStop}
use Rattle.yl_rescan.proofs.Rows.{each_row}
use Rattle.yl_session.specs.Work.{IsWork}
use Rattle.yl_rescan.proofs.CutDocuments.{documents_above, documents_behind, documents_upto, holding_more}

-- a text has a row
pub has_row : (ps : List RowValue) → AreLines ps → 0 < length ps
has_row [] h = absurd h.lines.ended
has_row (p ∷ ps) h = omega arith

-- ---- where scanning began and ended

state_within : (es : List RowEntry) (i : ℕ) → IsSome (state_at es i) → i < length es
state_within [] i h = absurd (cc)
state_within (e ∷ es) zero h = omega arith
state_within (e ∷ es) (suc i) h = let l = state_within es i h in omega (arith, l)

restart_within : (t : List (List ℕ)) (a r : ℕ) → 0 < length t → IsRestart t a r → r < length t
restart_within t a r some h = elim h.place [
  | inl z ↦ omega (arith, some, z)
  | inr p ↦ omega (arith, state_within (entries t) r p.1, each_row t)
]

-- not below the row at which it ends at the latest
restart_before : (old new : List (List ℕ)) (a b k r m : ℕ) → 0 < length new → IsRestart new a r → IsStop old new (a + k) b m → r ≤ m
restart_before old new a b k r m some h stop = elim stop.place [
  | inl p ↦ let l = p.0 in elim h.place [
    | inl z ↦ omega (arith, z)
    | inr q ↦ let o = q.0 in omega (arith, l, o)
  ]
  | inr e ↦ omega (arith, e, restart_within new a r some h)
]

-- ---- documents

differ : (old : List RecordValue) → is_start_at old 0 ≡ true → ⊥
differ rs h = let f = not_first rs in let g : true ≡ false = sym h ∙ f in absurd (cc)

-- the records that are kept hold no more documents above the row at which they are cut
held_few : (t : List (List ℕ)) (cut : Option ℕ) (us : List RecordValue) (from end : ℕ) → AreHeld t cut us → IfSome cut (λ c. end ≤ c) → documents_holding 0 from (end - 1) (sections us) ≤ documents_holding 0 from (end - 1) (sections (records t))
held_few t None us from end held below = let e = ap (λ (rs : List RecordValue). documents_holding 0 from (end - 1) (sections rs)) held in omega (arith, e)
held_few t (Some zero) us from end held below = absurd (differ us held.start)
held_few t (Some (suc c)) us from end held below = documents_above t (suc c) us from (end - 1) held (omega (arith, below))

few_documents : (old new : List (List ℕ)) (a b k from end n : ℕ) → 0 < length new → (h : IsRescan old new a b k from end n) → documents_holding 0 from (end - 1) (sections (records new)) ≤ documents_holding 0 h.r h.m (sections (records new))
few_documents old new a b k from end n some h =
    let all = sections (records new) in
    elim h.above [
      | inl is ↦
          let e = ap (λ i. documents_holding 0 i (end - 1) all) is in
          elim h.below [
            | inl l ↦ omega (arith, e, holding_more all 0 h.r (end - 1) h.m (omega (arith, l)))
            | inr s ↦ omega (arith, e, documents_upto new s.row h.r (end - 1) h.m s.stopped s.within)
          ]
      | inr p ↦
          let l = p.0 in
          documents_behind new from h.r (end - 1) h.m p.1 (omega (arith, l, restart_before old new a b k h.r h.m some h.restart h.stop)) (restart_within new a h.r some h.restart)
    ]

-- the rows that were scanned, and the documents that were derived
pub is_work : (old new : List (List ℕ)) (cut : Option ℕ) (us : List RecordValue) (a b k from end n scanned documents : ℕ) → 0 < length new → AreHeld new cut us → IfSome cut (λ c. end ≤ c)
    → IsRescan old new a b k from end n → scanned ≡ n → ((m : ℕ) → end ≤ m + 1 → documents ≤ documents_holding 0 from m (sections us))
    → IsWork old new a b k (record { scanned = scanned; documents = documents })
is_work old new cut us a b k from end n scanned documents row held below h s few = record {
  r = h.r;
  m = h.m;
  restart = h.restart;
  stop = h.stop;
  some = omega (arith, h.some, s);
  few = omega (arith, h.few, s);
  documents = let l = few (end - 1) (omega arith) in omega (arith, l, held_few new cut us from end held below, few_documents old new a b k from end n row h);
}
