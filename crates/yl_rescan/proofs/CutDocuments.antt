-- How many documents hold some lines, where records are kept behind a scan fault, and in a text behind one.
use Rattle.std.proofs.Common.{◌≡◌, ◌<◌, ◌≤◌, ◌++◌, ◌+◌, ◌-◌, ◌&&◌, ℕ, Bool, true, false, cond, leb, ltb, List, [], ◌∷◌, length, take, drop, refl, ap, sym, Some, arith, length-append}
use Rattle.std.specs.List.{AllByRecursion}
use Rattle.std.proofs.lemmas.Bool.{le-leb, lt-ltb, ltb-true, leb-true}
use Rattle.std.proofs.lemmas.List.{length-drop}
use Rattle.yl_row.specs.Entries.{Stopped, entries}
use Rattle.yl_scan.specs.Restart.{state_at}
use Rattle.yl_record.specs.Records.{RecordValue, records}
use Rattle.yl_sections.specs.Sections.{lexemes_of, sections}
use Rattle.yl_sections.specs.Local.{row_total}
use Rattle.yl_sections.specs.Kept.{document_count}
use Rattle.yl_sections.specs.Holding.{documents_holding}
use Rattle.yl_rescan.specs.Held.{IsCutAt}
use Rattle.yl_rescan.proofs.Cut.{held_sections, quiet, rows_above, stops_at, true_sections}
use Rattle.yl_sections.proofs.Quiet.{IsQuietRow, same_documents}
use Rattle.yl_sections.proofs.QuietSections.{grown, grown_behind}
use Rattle.yl_rescan.proofs.Stops.{count_records, row_within}

-- ---- one section

abbrev count_if : Bool → ℕ → ℕ
count_if b n = cond b n 0

at_most : (b : Bool) (n : ℕ) → count_if b n ≤ n
at_most true n = omega arith
at_most false n = omega arith

counted : (b c : Bool) (n : ℕ) → b ≡ true → c ≡ true → count_if (b && c) n ≡ n
counted true true n e f = refl
counted true false n e f = absurd (cc)
counted false c n e f = absurd (cc)

not_first : (b c : Bool) (n : ℕ) → (b ≡ true → ⊥) → count_if (b && c) n ≡ 0
not_first true c n e = absurd (e refl)
not_first false c n e = refl

not_second : (b c : Bool) (n : ℕ) → (c ≡ true → ⊥) → count_if (b && c) n ≡ 0
not_second true true n e = absurd (e refl)
not_second true false n e = refl
not_second false c n e = refl

no_less : (b c d : Bool) (m n : ℕ) → (c ≡ true → d ≡ true) → m ≡ n → count_if (b && c) m ≤ count_if (b && d) n
no_less false c d m n h e = omega arith
no_less true false d m n h e = omega arith
no_less true true d m n h e = by d (h refl)
  where
    by : (x : Bool) → x ≡ true → m ≤ count_if x n
    by true p = omega (arith, e)
    by false p = absurd (cc)

-- ---- sections one after another

holding_both : (xs ys : List (List RecordValue)) (line r m : ℕ) → documents_holding line r m (xs ++ ys) ≡ documents_holding line r m xs + documents_holding (line + row_total xs) r m ys
holding_both [] ys line r m = let e : line ≡ line + 0 = omega arith in let f = ap (λ n. documents_holding n r m ys) e in omega (arith, f)
holding_both (x ∷ xs) ys line r m =
    let e : line + length x + row_total xs ≡ line + (length x + row_total xs) = omega arith in
    let f = ap (λ n. documents_holding n r m ys) e in
    omega (arith, f, holding_both xs ys (line + length x) r m)

-- none that begins behind the last of the lines
holding_behind : (ss : List (List RecordValue)) (line r m : ℕ) → m < line → documents_holding line r m ss ≡ 0
holding_behind [] line r m l = refl
holding_behind (s ∷ ss) line r m l =
    let here = not_first (leb line m) (ltb r (line + length s)) (document_count (lexemes_of s)) (λ e. let o = leb-true line m e in omega (arith, o, l)) in
    omega (arith, here, holding_behind ss (line + length s) r m (omega (arith, l)))

-- no fewer where the last section has quiet rows more
module _ (qs : List RecordValue) (h : AllByRecursion IsQuietRow qs) where
  holding_last : (s : List RecordValue) (ss : List (List RecordValue)) (line r m : ℕ) → documents_holding line r m (s ∷ ss) ≤ documents_holding line r m (grown_behind qs s ss)
  holding_last s [] line r m =
      let many : length (s ++ qs) ≡ length s + length qs = length-append s qs in
      let here = no_less (leb line m) (ltb r (line + length s)) (ltb r (line + length (s ++ qs))) (document_count (lexemes_of s)) (document_count (lexemes_of (s ++ qs)))
      (λ e. let o = ltb-true r (line + length s) e in lt-ltb r (line + length (s ++ qs)) (omega (arith, o, many))) (sym (same_documents s qs h)) in
      omega (arith, here)
  holding_last s (t ∷ ss) line r m = omega (arith, holding_last t ss (line + length s) r m)

  holding_grown : (ss : List (List RecordValue)) (line r m : ℕ) → documents_holding line r m ss ≤ documents_holding line r m (grown qs ss)
  holding_grown [] line r m = omega arith
  holding_grown (s ∷ ss) line r m = holding_last s ss line r m

-- ---- lines above a cut

-- the records that are kept hold no more documents at lines above the cut than the text
pub documents_above : (t : List (List ℕ)) (cut : ℕ) (rs : List RecordValue) (r m : ℕ) → IsCutAt t cut rs → m < cut → documents_holding 0 r m (sections rs) ≤ documents_holding 0 r m (sections (records t))
documents_above t cut rs r m c l =
    let stopped = stops_at t cut rs c in
    let above = sections (take cut (records t)) in
    let below = drop cut (records t) in
    let more = sections (drop cut rs) in
    let held = ap (λ (ss : List (List RecordValue)). documents_holding 0 r m ss) (held_sections t cut rs c) in
    let whole = ap (λ (ss : List (List RecordValue)). documents_holding 0 r m ss) (true_sections t cut stopped) in
    let none = holding_behind more (0 + row_total above) r m (omega (arith, l, rows_above t cut stopped)) in
    omega (arith, held, whole, none, holding_both above more 0 r m, holding_grown below (quiet t cut stopped) above 0 r m)

-- ---- lines behind a fault

-- of sections that begin above row `from` the last alone, which is longer, holds lines from it on
last_holds : (qs s : List RecordValue) (ss : List (List RecordValue)) (line from r m n : ℕ) → line + row_total (s ∷ ss) ≡ from → from ≤ n → r < from + length qs
    → documents_holding line from m (grown_behind qs s ss) ≤ documents_holding line r n (grown_behind qs s ss)
last_holds qs s [] line from r m n e o l =
    let many : length (s ++ qs) ≡ length s + length qs = length-append s qs in
    let count = document_count (lexemes_of (s ++ qs)) in
    let most = at_most (leb line m && ltb from (line + length (s ++ qs))) count in
    let all = counted (leb line n) (ltb r (line + length (s ++ qs))) count (le-leb line n (omega (arith, e, o))) (lt-ltb r (line + length (s ++ qs)) (omega (arith, many, e, l))) in
    omega (arith, most, all)
last_holds qs s (t ∷ ss) line from r m n e o l =
    let none = not_second (leb line m) (ltb from (line + length s)) (document_count (lexemes_of s)) (λ b. let k = ltb-true from (line + length s) b in omega (arith, k, e)) in
    omega (arith, none, last_holds qs t ss (line + length s) from r m n (omega (arith, e)) o l)

grown_holds : (qs : List RecordValue) (ss : List (List RecordValue)) (from r m n : ℕ) → row_total ss ≡ from → from ≤ n → r < from + length qs → documents_holding 0 from m (grown qs ss) ≤ documents_holding 0 r n (grown qs ss)
grown_holds qs [] from r m n e o l = omega arith
grown_holds qs (s ∷ ss) from r m n e o l = last_holds qs s ss 0 from r m n (omega (arith, e)) o l

-- where reading stops at row `from`, one document at most holds lines from it on, and it reaches to the text's end
pub documents_behind : (t : List (List ℕ)) (from r m n : ℕ) → state_at (entries t) from ≡ Some Stopped → from ≤ n → r < length t
    → documents_holding 0 from m (sections (records t)) ≤ documents_holding 0 r n (sections (records t))
documents_behind t from r m n stopped o l =
    let below = drop from (records t) in
    let many : length below ≡ length (records t) - from = length-drop from (records t) in
    let one = ap (λ (ss : List (List RecordValue)). documents_holding 0 from m ss) (true_sections t from stopped) in
    let other = ap (λ (ss : List (List RecordValue)). documents_holding 0 r n ss) (true_sections t from stopped) in
    omega (arith, one, other, grown_holds below (sections (take from (records t))) from r m n (rows_above t from stopped) o (omega (arith, many, count_records t, row_within t from stopped, l)))

-- ---- lines down to one behind a fault

more_lines : (b d c : Bool) (n : ℕ) → (b ≡ true → d ≡ true) → count_if (b && c) n ≤ count_if (d && c) n
more_lines false d c n h = omega arith
more_lines true d c n h = by d (h refl)
  where
    by : (x : Bool) → x ≡ true → count_if (true && c) n ≤ count_if (x && c) n
    by true p = omega arith
    by false p = absurd (cc)

-- the more lines, the more documents
pub holding_more : (ss : List (List RecordValue)) (line r m n : ℕ) → m ≤ n → documents_holding line r m ss ≤ documents_holding line r n ss
holding_more [] line r m n o = omega arith
holding_more (s ∷ ss) line r m n o =
    let here = more_lines (leb line m) (leb line n) (ltb r (line + length s)) (document_count (lexemes_of s)) (λ e. let l = leb-true line m e in le-leb line n (omega (arith, l, o))) in
    omega (arith, here, holding_more ss (line + length s) r m n o)

-- sections that begin above line `from` hold no more documents at lines below it
upto_holds : (qs s : List RecordValue) (ss : List (List RecordValue)) (line from r m n : ℕ) → line + row_total (s ∷ ss) ≡ from → from ≤ n
    → documents_holding line r m (grown_behind qs s ss) ≤ documents_holding line r n (grown_behind qs s ss)
upto_holds qs s [] line from r m n e o =
    let here = more_lines (leb line m) (leb line n) (ltb r (line + length (s ++ qs))) (document_count (lexemes_of (s ++ qs))) (λ _. le-leb line n (omega (arith, e, o))) in
    omega (arith, here)
upto_holds qs s (t ∷ ss) line from r m n e o =
    let here = more_lines (leb line m) (leb line n) (ltb r (line + length s)) (document_count (lexemes_of s)) (λ _. le-leb line n (omega (arith, e, o))) in
    omega (arith, here, upto_holds qs t ss (line + length s) from r m n (omega (arith, e)) o)

grown_upto : (qs : List RecordValue) (ss : List (List RecordValue)) (from r m n : ℕ) → row_total ss ≡ from → from ≤ n → documents_holding 0 r m (grown qs ss) ≤ documents_holding 0 r n (grown qs ss)
grown_upto qs [] from r m n e o = omega arith
grown_upto qs (s ∷ ss) from r m n e o = upto_holds qs s ss 0 from r m n (omega (arith, e)) o

-- where reading stops at row `from`, no document begins below it
pub documents_upto : (t : List (List ℕ)) (from r m n : ℕ) → state_at (entries t) from ≡ Some Stopped → from ≤ n → documents_holding 0 r m (sections (records t)) ≤ documents_holding 0 r n (sections (records t))
documents_upto t from r m n stopped o =
    let one = ap (λ (ss : List (List RecordValue)). documents_holding 0 r m ss) (true_sections t from stopped) in
    let other = ap (λ (ss : List (List RecordValue)). documents_holding 0 r n ss) (true_sections t from stopped) in
    omega (arith, one, other, grown_upto (drop from (records t)) (sections (take from (records t))) from r m n (rows_above t from stopped) o)
