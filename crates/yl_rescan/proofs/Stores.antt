-- The same for the rows of stores.
use Rattle.std.proofs.Common.{◌≡◌, ℕ, zero, suc, ◌∷◌, ◌+◌, ◌-◌, ◌<◌, ◌≤◌, true, List, [], ◌++◌, length, take, drop, Option, Some, None, refl, ap, sym, ◌∙◌, subst, arith}
use Rattle.std.specs.Prelude.{IfSome, IsSome}
use Rattle.std.specs.List.{splice}
use Rattle.yl_text.specs.Lines.{RowValue}
use Rattle.yl_text.specs.Store.{AreLines, IsRange}
use Rattle.yl_row.specs.Entries.{LineStateValue, Stopped}
use Rattle.yl_record.specs.Records.{RecordValue, characters_in, records}
use Rattle.yl_record.specs.Recorded.{records_from}
use Rattle.yl_lexeme.specs.declared.lexeme.Kind.{Kind}
use Rattle.yl_sections.specs.Local.{begins_section, is_start_at, kind_after}
use Rattle.yl_rescan.specs.Agree.{BeginsAt, BeginsBelow, MayKeep, StopsPassed, counterpart, next_cut, state_of_row}
use Rattle.yl_rescan.specs.Held.{AreHeld, IsCutAt}
use Rattle.yl_rescan.specs.Made.{WasRescanned}
use Rattle.yl_rescan.specs.declared.scanning.ScanEnd.{ScanEnd}
use Rattle.yl_rescan.specs.declared.scanning.ScanEnd.TheVariants.{Agreed, Halted, TextEnd}
use Rattle.yl_rescan.proofs.Edits.{begins_again, characters_length, characters_spliced, row_before, some_lines}
use Rattle.yl_rescan.proofs.Held.{held_length, state_there}
use Rattle.yl_rescan.proofs.Made.{WasScanned, begins_true_of, kept, kept_under, not_held, passed_below, told_below}

module _ (ps ns us : List RowValue) (a b : ℕ) (range : IsRange a b (length ps)) (patched : us ≡ splice ps a b ns) where
  abbrev old : List (List ℕ)
  old = characters_in ps

  abbrev put : List (List ℕ)
  put = characters_in ns

  abbrev new : List (List ℕ)
  new = splice old a b put

  told_patched : characters_in us ≡ new
  told_patched = ap (λ (rows : List RowValue). characters_in rows) patched ∙ characters_spliced ps ns a b

  within_told : b ≤ length old
  within_told = omega (arith, range.within, characters_length ps)

  count : length put ≡ length ns
  count = characters_length ns

  some_rows : AreLines (splice ps a b ns) → 0 < length new
  some_rows lines = omega (arith, some_lines (splice ps a b ns) lines, characters_length (splice ps a b ns), ap (λ (qs : List (List ℕ)). length qs) (characters_spliced ps ns a b))

  module _ (cut : Option ℕ) (es : List RecordValue) (held : AreHeld old cut es) where
    pub below_length : a ≤ length es
    below_length = omega (arith, range.ordered, within_told, held_length old cut es held)

    pub begins_patched : IfSome cut (λ n. a ≤ n) → (row : ℕ) (state : Option LineStateValue) → BeginsBelow es a row state → BeginsAt (records (characters_in us)) row state
    begins_patched bound row state h =
        subst (λ (qs : List (List ℕ)). BeginsAt (records qs) row state) (sym told_patched) (begins_again old put a b range.ordered within_told row state (begins_true_of old cut es held a bound row state h))

    pub above_edit : IfSome cut (λ n. a ≤ n) → (row : ℕ) (state : Option LineStateValue) → BeginsBelow es a row state → row ≤ a
    above_edit bound row state h = row_before old put a b range.ordered within_told row state (begins_true_of old cut es held a bound row state h)

    module _ (bound : IfSome cut (λ n. a ≤ n)) (lines : AreLines (splice ps a b ns)) (row : ℕ) (state : Option LineStateValue) (why : ScanEnd) (end n : ℕ) (items : List RecordValue)
        (h : WasScanned es (characters_in us) cut a b (a + length ns) row state why end n items) where
      abbrev at : ℕ → ℕ
      at k = counterpart why end (a + k) b (length es)

      scanned : WasScanned es new cut a b (a + length put) row state why end n items
      scanned =
          subst (λ k. WasScanned es new cut a b (a + k) row state why end n items) (sym count)
          (subst (λ (qs : List (List ℕ)). WasScanned es qs cut a b (a + length ns) row state why end n items) told_patched h)

      pub kept_rows : MayKeep (splice es row (at (length ns)) items) why (next_cut why cut (at (length ns)) end)
          → WasRescanned es old (characters_in (splice ps a b ns)) (next_cut why cut (at (length ns)) end) a b (length ns) row (at (length ns)) end n items
      kept_rows =
          subst (λ (qs : List (List ℕ)). MayKeep (splice es row (at (length ns)) items) why (next_cut why cut (at (length ns)) end)
          → WasRescanned es old qs (next_cut why cut (at (length ns)) end) a b (length ns) row (at (length ns)) end n items) (sym (characters_spliced ps ns a b))
          (subst (λ k. MayKeep (splice es row (at k) items) why (next_cut why cut (at k) end) → WasRescanned es old new (next_cut why cut (at k) end) a b k row (at k) end n items) count
          (kept old put a b range.ordered within_told cut es held bound row state why end n items (some_rows lines) scanned))

      pub kept_under_rows : why ≡ Agreed → state ≡ Some Stopped → MayKeep (splice es row (at (length ns)) items) why (next_cut why cut (at (length ns)) end)
      kept_under_rows is stopped =
          subst (λ k. MayKeep (splice es row (at k) items) why (next_cut why cut (at k) end)) count
          (kept_under old put a b range.ordered within_told cut es held bound row state why end n items (some_rows lines) scanned is stopped)

      pub passed_rows : (next : Option ℕ) (old_end below : ℕ) (all : List RecordValue) → (MayKeep (splice es row (at (length ns)) items) why (next_cut why cut (at (length ns)) end) → ⊥)
          → StopsPassed es cut (kind_after None (take end (splice es row (at (length ns)) items))) (at (length ns)) end old_end below (length us) next
          → all ≡ items ++ records_from Stopped (drop end (take below (characters_in us))) → WasRescanned es old (characters_in (splice ps a b ns)) next a b (length ns) row old_end below n all
      passed_rows next old_end below all refused ends is =
          let len : length us ≡ length new = sym (characters_length us) ∙ ap (λ (qs : List (List ℕ)). length qs) told_patched in
          let rest : all ≡ items ++ records_from Stopped (drop end (take below new)) = is ∙ ap (λ (qs : List (List ℕ)). items ++ records_from Stopped (drop end (take below qs))) told_patched in
          subst (λ (qs : List (List ℕ)). WasRescanned es old qs next a b (length ns) row old_end below n all) (sym (characters_spliced ps ns a b))
          (subst (λ (rs : List RecordValue). WasRescanned es old new next a b (length ns) row old_end below n rs) (sym rest)
          (subst (λ k. (MayKeep (splice es row (at k) items) why (next_cut why cut (at k) end) → ⊥) → StopsPassed es cut (kind_after None (take end (splice es row (at k) items))) (at k) end old_end below (length us) next
          → WasRescanned es old new next a b k row old_end below n (items ++ records_from Stopped (drop end (take below new)))) count
          (λ not to. not_held old put a b range.ordered within_told cut es held bound row state why end n items (some_rows lines) scanned next old_end below not
          (subst (λ l. StopsPassed es cut (kind_after None (take end (splice es row (at (length put)) items))) (at (length put)) end old_end below l next) len to)) refused ends))

  module _ (cut : ℕ) (es : List RecordValue) (held : IsCutAt old cut es) (below : cut < a) (lines : AreLines (splice ps a b ns)) where
    pub passed_below_rows : (first items all : List RecordValue) (next : Option ℕ) (old_end last : ℕ) → first ≡ [] ++ records_from Stopped (drop cut (take a (characters_in us)))
        → items ≡ first ++ records_from Stopped (drop a (take (a + length ns) (characters_in us)))
        → StopsPassed es (Some cut) (kind_after None (take (a + length ns) (splice es cut b items))) b (a + length ns) old_end last (length us) next
        → all ≡ items ++ records_from Stopped (drop (a + length ns) (take last (characters_in us)))
        → WasRescanned es old (characters_in (splice ps a b ns)) next a b (length ns) cut old_end last (length ns) all
    passed_below_rows first items all next old_end last is more ends rest =
        let len : length us ≡ length new = sym (characters_length us) ∙ ap (λ (qs : List (List ℕ)). length qs) told_patched in
        subst (λ (qs : List (List ℕ)). WasRescanned es old qs next a b (length ns) cut old_end last (length ns) all) (sym (characters_spliced ps ns a b))
        (subst (λ k. items ≡ first ++ records_from Stopped (drop a (take (a + k) new)) → StopsPassed es (Some cut) (kind_after None (take (a + k) (splice es cut b items))) b (a + k) old_end last (length new) next
        → all ≡ items ++ records_from Stopped (drop (a + k) (take last new)) → WasRescanned es old new next a b k cut old_end last k all) count
        (λ m to r.
        subst (λ (rs : List RecordValue). WasRescanned es old new next a b (length put) cut old_end last (length put) rs) (sym r)
        (passed_below old put a b range.ordered within_told cut es held below (some_rows lines) items
        (told_below old put a b range.ordered within_told cut es held below (some_rows lines) first items
        (is ∙ ap (λ (qs : List (List ℕ)). [] ++ records_from Stopped (drop cut (take a qs))) told_patched) m) next old_end last to))
        (more ∙ ap (λ (qs : List (List ℕ)). first ++ records_from Stopped (drop a (take (a + length ns) qs))) told_patched)
        (subst (λ l. StopsPassed es (Some cut) (kind_after None (take (a + length ns) (splice es cut b items))) b (a + length ns) old_end last l next) len ends)
        (rest ∙ ap (λ (qs : List (List ℕ)). items ++ records_from Stopped (drop (a + length ns) (take last qs))) told_patched))

-- what was made, under other names
pub the_same : (es : List RecordValue) (ps qs : List (List ℕ)) (a b k n : ℕ) (cut cut' : Option ℕ) (from from' old_end old_end' end end' : ℕ) (items items' : List RecordValue)
    → cut ≡ cut' → from ≡ from' → old_end ≡ old_end' → end ≡ end' → items ≡ items' → WasRescanned es ps qs cut' a b k from' old_end' end' n items' → WasRescanned es ps qs cut a b k from old_end end n items
the_same es ps qs a b k n cut cut' from from' old_end old_end' end end' items items' c f o e i h =
    subst (λ (x : Option ℕ). WasRescanned es ps qs x a b k from old_end end n items) (sym c)
    (subst (λ x. WasRescanned es ps qs cut' a b k x old_end end n items) (sym f)
    (subst (λ x. WasRescanned es ps qs cut' a b k from' x end n items) (sym o)
    (subst (λ x. WasRescanned es ps qs cut' a b k from' old_end' x n items) (sym e) (subst (λ (x : List RecordValue). WasRescanned es ps qs cut' a b k from' old_end' end' n x) (sym i) h))))

pub renamed : (es : List RecordValue) (ps qs : List (List ℕ)) (a b k : ℕ) (cut : Option ℕ) (from from' old_end end n n' : ℕ) (items : List RecordValue) → from ≡ from' → n ≡ n'
    → WasRescanned es ps qs cut a b k from' old_end end n' items → WasRescanned es ps qs cut a b k from old_end end n items
renamed es ps qs a b k cut from from' old_end end n n' items f e h =
    subst (λ x. WasRescanned es ps qs cut a b k x old_end end n items) (sym f) (subst (λ x. WasRescanned es ps qs cut a b k from' old_end end x items) (sym e) h)

-- whether it may be kept, under other names
pub may_the_same : (es : List RecordValue) (row at at' : ℕ) (items items' : List RecordValue) (why : ScanEnd) (next next' : Option ℕ) → at ≡ at' → items ≡ items' → next ≡ next'
    → (MayKeep (splice es row at items) why next ≡ MayKeep (splice es row at' items') why next')
may_the_same es row at at' items items' why next next' a i n =
    ap (λ x. MayKeep (splice es row x items) why next) a ∙ (ap (λ (x : List RecordValue). MayKeep (splice es row at' x) why next) i ∙ ap (λ (x : Option ℕ). MayKeep (splice es row at' items') why x) n)

pub refused_the_same : {A B : Type 0} → A ≡ B → (A → ⊥) → B → ⊥
refused_the_same e refused b = refused (subst (λ (T : Type 0). T) (sym e) b)

-- the row at which they are cut is there
pub cut_there : (t : List (List ℕ)) (cut : Option ℕ) (es : List RecordValue) → AreHeld t cut es → IfSome cut (λ n. n < length es)
cut_there t None es h = tt
cut_there t (Some n) es h = state_there es n h.state h.sound

pub few_there : (cut : Option ℕ) (count end limit : ℕ) → IfSome cut (λ n. n < count) → count + end < limit → IfSome cut (λ n. n + end < limit)
few_there None count end limit h l = tt
few_there (Some n) count end limit h l = omega (arith, h, l)

-- scanning ended before a row, or at the text's end
pub by_end : {P : Type 0} (why : ScanEnd) → (why ≡ Agreed → P) → (why ≡ Halted → P) → (why ≡ TextEnd → P) → P
by_end Agreed x y z = x refl
by_end Halted x y z = y refl
by_end TextEnd x y z = z refl

-- the old row at which scanning ended is one behind the edit, and as many rows stand below it as below where it ended in the new text
pub counterpart_range : (why : ScanEnd) (end stop b count total : ℕ) → b ≤ count → count - b + stop ≡ total → (why ≡ Agreed → (stop ≤ end) × (end < total)) → (why ≡ Halted → (stop ≤ end) × (end < total)) → (why ≡ TextEnd → end ≡ total)
    → (b ≤ counterpart why end stop b count) × (counterpart why end stop b count ≤ count) × (count - counterpart why end stop b count + end ≡ total)
counterpart_range Agreed end stop b count total w e x y z = let p = x refl in let q = p.0 in let r = p.1 in (omega arith, omega (arith, w, e, q, r), omega (arith, w, e, q, r))
counterpart_range Halted end stop b count total w e x y z = let p = y refl in let q = p.0 in let r = p.1 in (omega arith, omega (arith, w, e, q, r), omega (arith, w, e, q, r))
counterpart_range TextEnd end stop b count total w e x y z = let p = z refl in (w, omega arith, omega (arith, p))

-- where rows are passed to, by what was found
pub stops_at_end : (es : List RecordValue) (cut : Option ℕ) (kind : Option Kind) (at end old_end below count : ℕ) (next : Option ℕ) → next ≡ None → old_end ≡ length es → below ≡ count
    → StopsPassed es cut kind at end old_end below count next
stops_at_end es cut kind at end old_end below count next n o b = subst (λ (x : Option ℕ). StopsPassed es cut kind at end old_end below count x) (sym n) (o, b)

pub stops_at_row : (es : List RecordValue) (cut : Option ℕ) (last kind : Option Kind) (at end row old_end below c count : ℕ) (next : Option ℕ) → last ≡ kind → next ≡ Some c → old_end ≡ row → below ≡ c → c ≡ row - at + end → at ≤ row
    → IfSome cut (λ n. n ≤ row) → IsSome (state_of_row es row) → is_start_at es row ≡ true → begins_section last (drop row es) ≡ true → StopsPassed es cut kind at end old_end below count next
stops_at_row es cut last kind at end row old_end below c count next k n o b e l low sound start begins =
    subst (λ (x : Option ℕ). StopsPassed es cut kind at end old_end below count x) (sym n)
    (subst (λ (z : Option Kind). StopsPassed es cut z at end old_end below count (Some c)) k
    (subst (λ i. StopsPassed es cut last at end i below count (Some c)) (sym o) (l, low, b ∙ e, sym b, sound, start, begins)))

-- the first row that is looked at is one from the cut on
pub from_cut : (cut : Option ℕ) (first row : ℕ) → IfSome cut (λ n. n ≤ first) → first ≤ row → IfSome cut (λ n. n ≤ row)
from_cut None first row h l = tt
from_cut (Some n) first row h l = omega (arith, h, l)

pub of_some : {X : Type 0} (o : Option X) (x : X) (P : X → Type 0) → o ≡ Some x → IfSome o P → P x
of_some {X} o x P e h = subst (λ (p : Option X). IfSome p P) e h

-- a row that is passed to
pub row_passed_to : (es : List RecordValue) (at end row count : ℕ) → at ≤ row → IsSome (state_of_row es row) → length es - at + end ≡ count → (end ≤ row - at + end) × (row - at + end ≤ count) × (row < length es)
row_passed_to es at end row count l sound rows =
    let there = some_row es row sound in
    (omega arith, omega (arith, l, there, rows), there) where
      some_row : (rs : List RecordValue) (i : ℕ) → IsSome (state_of_row rs i) → i < length rs
      some_row [] i h = absurd (cc)
      some_row (r ∷ rs) zero h = omega arith
      some_row (r ∷ rs) (suc i) h = let k = some_row rs i h in omega (arith, k)
