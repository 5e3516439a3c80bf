-- The problems of lines and sections one after another are those of each part, one after another; so a part can be replaced by itself.
use Rattle.std.proofs.Common.{◌≡◌, ℕ, ◌+◌, ◌-◌, ◌<◌, ◌≤◌, Bool, true, false, List, [], ◌∷◌, ◌++◌, length, map, take, drop, refl, ap, sym, ◌∙◌, arith, rules, append_assoc, cond}
use Rattle.std.specs.List.{AllByRecursion, prefix_len}
use Rattle.std.proofs.lemmas.List.{map-append, same_lists, places}
use Rattle.std.proofs.lemmas.Bool.{le-leb, lt-leb}
use Rattle.yl_text.specs.Finding.{FindingValue}
use Rattle.yl_text.specs.Lines.{RowValue}
use Rattle.yl_text.specs.declared.finding.RuleId.{RuleId}
use Rattle.yl_rules.specs.EmptyLines.{empty_lines}
use Rattle.yl_rules.specs.EndOfFile.{end_of_file}
use Rattle.yl_rules.specs.NewLines.{new_lines}
use Rattle.yl_rules.specs.Levels.{LevelTable}
use Rattle.yl_indentation.specs.declared.measure.Measure.{Measure}
use Rattle.yl_indentation.specs.Measures.{and_later}
use Rattle.yl_settings.specs.declared.options.RuleOptions.{RuleOptions}
use Rattle.yl_report.specs.Report.{ProblemValue}
use Rattle.yl_sections.specs.Kept.{KeptValue, items_if, rows_kept}
use Rattle.yl_lint.specs.Onward.{onward_in_sections}
use Rattle.yl_lint.specs.TextReport.{moved, findings_from}
use Rattle.yl_found.specs.Plain.{IsPlain}
use Rattle.yl_problem_lists.specs.Parts.{is_upto, shifted}
use Rattle.yl_patch.specs.Seen.{AreFoundAlike}
use Rattle.yl_lint.proofs.Arranged.{AreSame, arranged, arranged_same, arranged_apart, arranged_moved, below, lower, in_front, in_behind, in_either}
use Rattle.yl_lint.proofs.LineParts.{Between, between_both, empty_lines_between, end_of_file_between, first_apart, if_none, is_seam, last_apart, new_lines_between, rows_apart, rows_between, runs_apart}
use Rattle.yl_found.proofs.Sections.{between_wider, between_moved, sections_apart, sections_between}
use Rattle.yl_summary.proofs.Walks.{measured}

-- ---- what is found in a part of a text

-- in these lines, which begin the text or not and end it or not, and in these sections of them, behind facts of this measure
abbrev pub part : RuleOptions → Bool → Bool → Measure → List RowValue → List KeptValue → List FindingValue
part o begins ends before rows ks =
    findings_from o.row 1 rows
    ++ (items_if begins (new_lines o.run.new_line rows)
    ++ (empty_lines o.run.empty_lines rows ++ (items_if ends (end_of_file rows) ++ onward_in_sections o.indentation 0 before ks)))

if_between : (low high : ℕ) (b : Bool) (fs : List FindingValue) → Between low high fs → Between low high (items_if b fs)
if_between low high true fs h = h
if_between low high false fs h = tt

pub part_between : (o : RuleOptions) (begins ends : Bool) (before : Measure) (rows : List RowValue) (ks : List KeptValue) (high : ℕ) → AllByRecursion IsPlain ks → length rows ≤ high → rows_kept ks ≤ high
    → Between 0 high (part o begins ends before rows ks)
part_between o begins ends before rows ks high h l m =
    let n = length rows in
    between_both 0 high (findings_from o.row 1 rows) _ (rows_between o.row 0 high 1 rows (omega arith) (omega (arith, l)))
    (between_both 0 high (items_if begins (new_lines o.run.new_line rows)) _ (if_between 0 high begins (new_lines o.run.new_line rows) (between_wider 0 n 0 high (new_lines o.run.new_line rows) (omega arith) l (new_lines_between o.run.new_line rows)))
    (between_both 0 high (empty_lines o.run.empty_lines rows) _ (empty_lines_between o.run.empty_lines 0 high [] rows (omega arith) (omega (arith, l)))
    (between_both 0 high (items_if ends (end_of_file rows)) _ (if_between 0 high ends (end_of_file rows) (between_wider 0 n 0 high (end_of_file rows) (omega arith) l (end_of_file_between rows)))
    (sections_between o.indentation before 0 high ks h (omega (arith, m))))))

-- the same behind facts of either measure, where the same is found in the sections
pub part_alike : (o : RuleOptions) (begins ends : Bool) (one other : Measure) (rows : List RowValue) (ks : List KeptValue) → AreFoundAlike one other ks → part o begins ends one rows ks ≡ part o begins ends other rows ks
part_alike o begins ends one other rows ks same =
    ap (λ (fs : List FindingValue). findings_from o.row 1 rows ++ (items_if begins (new_lines o.run.new_line rows) ++ (empty_lines o.run.empty_lines rows ++ (items_if ends (end_of_file rows) ++ fs)))) (same o.indentation 0)

-- ---- the members of two parts

same_members : (xs : List FindingValue) → AreSame xs xs
same_members xs = record { there = λ f h. h; back = λ f h. h }

-- of lists of two parts each, where the first parts come first, and then the second ones
parted_more : (xs ys front back more : List FindingValue) → AreSame more (front ++ back) → AreSame ((xs ++ ys) ++ more) ((xs ++ front) ++ (ys ++ back))
parted_more xs ys front back more s = record {
  there = λ f h.
      in_either f (xs ++ ys) more h
      (λ a. in_either f xs ys a (λ p. in_front f (xs ++ front) (ys ++ back) (in_front f xs front p)) (λ p. in_behind f (xs ++ front) (ys ++ back) (in_front f ys back p)))
      (λ a. in_either f front back (s.there f a) (λ p. in_front f (xs ++ front) (ys ++ back) (in_behind f xs front p)) (λ p. in_behind f (xs ++ front) (ys ++ back) (in_behind f ys back p)));
  back = λ f h.
      in_either f (xs ++ front) (ys ++ back) h
      (λ a. in_either f xs front a (λ p. in_front f (xs ++ ys) more (in_front f xs ys p)) (λ p. in_behind f (xs ++ ys) more (s.back f (in_front f front back p))))
      (λ a. in_either f ys back a (λ p. in_front f (xs ++ ys) more (in_behind f xs ys p)) (λ p. in_behind f (xs ++ ys) more (s.back f (in_behind f front back p))));
}

module _ (r₁ r₂ n₁ n₂ e₁ e₂ z₁ z₂ s₁ s₂ : List FindingValue) where
  abbrev together : List FindingValue
  together = (r₁ ++ r₂) ++ ((n₁ ++ n₂) ++ ((e₁ ++ e₂) ++ ((z₁ ++ z₂) ++ (s₁ ++ s₂))))

  abbrev front : List FindingValue
  front = r₁ ++ (n₁ ++ (e₁ ++ (z₁ ++ s₁)))

  abbrev back : List FindingValue
  back = r₂ ++ (n₂ ++ (e₂ ++ (z₂ ++ s₂)))

  members : AreSame together (front ++ back)
  members =
      parted_more r₁ r₂ (n₁ ++ (e₁ ++ (z₁ ++ s₁))) (n₂ ++ (e₂ ++ (z₂ ++ s₂))) ((n₁ ++ n₂) ++ ((e₁ ++ e₂) ++ ((z₁ ++ z₂) ++ (s₁ ++ s₂))))
      (parted_more n₁ n₂ (e₁ ++ (z₁ ++ s₁)) (e₂ ++ (z₂ ++ s₂)) ((e₁ ++ e₂) ++ ((z₁ ++ z₂) ++ (s₁ ++ s₂)))
      (parted_more e₁ e₂ (z₁ ++ s₁) (z₂ ++ s₂) ((z₁ ++ z₂) ++ (s₁ ++ s₂)) (parted_more z₁ z₂ s₁ s₂ (s₁ ++ s₂) (same_members (s₁ ++ s₂)))))

lines_at_most : (n : ℕ) (fs : List FindingValue) → Between 0 n fs → AllByRecursion (λ f. f.line ≤ n) fs
lines_at_most n [] h = tt
lines_at_most n (f ∷ fs) h = (h.0.1, lines_at_most n fs h.1)

pub lines_above : (n high : ℕ) (fs : List FindingValue) → Between n high fs → AllByRecursion (λ f. n < f.line) fs
lines_above n high [] h = tt
lines_above n high (f ∷ fs) h = (h.0.0, lines_above n high fs h.1)

module _ (levels : LevelTable) (s : RuleId → ℕ → Bool) (o : RuleOptions) (begins ends : Bool) (before : Measure) (xs ys : List RowValue) (ks ls : List KeptValue)
    (plain : AllByRecursion IsPlain ks) (plain' : AllByRecursion IsPlain ls) (fit : rows_kept ks ≡ length xs) (seam : is_seam xs ys ≡ true) where
  abbrev m : List FindingValue → List FindingValue
  m fs = map (moved (length xs)) fs

  abbrev later : Measure
  later = and_later before (measured ks)

  abbrev r₁ : List FindingValue
  r₁ = findings_from o.row 1 xs

  abbrev r₂ : List FindingValue
  r₂ = findings_from o.row 1 ys

  abbrev n₁ : List FindingValue
  n₁ = items_if begins (new_lines o.run.new_line xs)

  abbrev n₂ : List FindingValue
  n₂ = items_if (if_none xs begins) (new_lines o.run.new_line ys)

  abbrev e₁ : List FindingValue
  e₁ = empty_lines o.run.empty_lines xs

  abbrev e₂ : List FindingValue
  e₂ = empty_lines o.run.empty_lines ys

  abbrev z₁ : List FindingValue
  z₁ = items_if (if_none ys ends) (end_of_file xs)

  abbrev z₂ : List FindingValue
  z₂ = items_if ends (end_of_file ys)

  abbrev s₁ : List FindingValue
  s₁ = onward_in_sections o.indentation 0 before ks

  abbrev s₂ : List FindingValue
  s₂ = onward_in_sections o.indentation 0 later ls

  abbrev first_part : List FindingValue
  first_part = part o begins (if_none ys ends) before xs ks

  abbrev second_part : List FindingValue
  second_part = part o (if_none xs begins) ends later ys ls

  sections_are : onward_in_sections o.indentation 0 before (ks ++ ls) ≡ s₁ ++ m s₂
  sections_are = sections_apart o.indentation before ks ls ∙ ap (λ k. s₁ ++ map (moved k) s₂) fit

  whole_is : part o begins ends before (xs ++ ys) (ks ++ ls) ≡ together r₁ (m r₂) n₁ (m n₂) e₁ (m e₂) z₁ (m z₂) s₁ (m s₂)
  whole_is =
      rw (rows_apart o.row xs ys, first_apart o.run.new_line begins xs ys, runs_apart o.run.empty_lines xs ys seam, last_apart ends xs ys, sections_are)
      refl

  back_is : back r₁ (m r₂) n₁ (m n₂) e₁ (m e₂) z₁ (m z₂) s₁ (m s₂) ≡ m second_part
  back_is =
      let l = moved (length xs) in
      sym (map-append l r₂ (n₂ ++ (e₂ ++ (z₂ ++ s₂)))
      ∙ ap (λ (fs : List FindingValue). m r₂ ++ fs) (map-append l n₂ (e₂ ++ (z₂ ++ s₂))
      ∙ ap (λ (fs : List FindingValue). m n₂ ++ fs) (map-append l e₂ (z₂ ++ s₂) ∙ ap (λ (fs : List FindingValue). m e₂ ++ fs) (map-append l z₂ s₂))))

  front_low : Between 0 (length xs) first_part
  front_low = part_between o begins (if_none ys ends) before xs ks (length xs) plain (omega arith) (omega (arith, fit))

  second_between : Between 0 (length ys + rows_kept ls) second_part
  second_between = part_between o (if_none xs begins) ends later ys ls (length ys + rows_kept ls) plain' (omega arith) (omega arith)

  back_high : AllByRecursion (λ f. length xs < f.line) (m second_part)
  back_high =
      let high = length ys + rows_kept ls in
      let b = between_moved (length xs) 0 high second_part second_between in
      lines_above (length xs) (length xs + high) (m second_part) (between_wider (length xs + 0) (length xs + high) (length xs) (length xs + high) (m second_part) (omega arith) (omega arith) b)

  pub parts_apart : arranged levels s (part o begins ends before (xs ++ ys) (ks ++ ls)) ≡ arranged levels s first_part ++ map (lower (length xs)) (arranged levels (below (length xs) s) second_part)
  parts_apart =
      ap (arranged levels s) whole_is
      ∙ (arranged_same levels s (together r₁ (m r₂) n₁ (m n₂) e₁ (m e₂) z₁ (m z₂) s₁ (m s₂))
      (front r₁ (m r₂) n₁ (m n₂) e₁ (m e₂) z₁ (m z₂) s₁ (m s₂) ++ back r₁ (m r₂) n₁ (m n₂) e₁ (m e₂) z₁ (m z₂) s₁ (m s₂)) (members r₁ (m r₂) n₁ (m n₂) e₁ (m e₂) z₁ (m z₂) s₁ (m s₂))
      ∙ (ap (λ (fs : List FindingValue). arranged levels s (first_part ++ fs)) back_is
      ∙ (arranged_apart levels s (length xs) first_part (m second_part) (lines_at_most (length xs) first_part front_low) back_high
      ∙ ap (λ (ps : List ProblemValue). arranged levels s first_part ++ ps) (arranged_moved levels s (length xs) second_part (lines_above 0 (length ys + rows_kept ls) second_part second_between)))))

-- ---- a list of problems, patched

-- with these in place of those from one on, before another, counted from 0; those behind them are shifted
abbrev pub patched : ℕ → ℕ → List ProblemValue → ℕ → ℕ → List ProblemValue → List ProblemValue
patched from end new up down problems = take from problems ++ (new ++ map (shifted up down) (drop end problems))

pub prefix_by : (p : ProblemValue → Bool) (xs ys : List ProblemValue) → AllByRecursion (λ x. p x ≡ true) xs → AllByRecursion (λ x. p x ≡ false) ys → prefix_len p (xs ++ ys) ≡ length xs
prefix_by p [] [] h k = refl
prefix_by p [] (y ∷ ys) h k = ap (λ b. cond b (1 + prefix_len p ys) 0) k.0
prefix_by p (x ∷ xs) ys h k = ap (λ b. cond b (1 + prefix_len p (xs ++ ys)) 0) h.0 ∙ omega (arith, prefix_by p xs ys h.1 k)

pub take_front : {X : Type 0} (xs ys : List X) → take (length xs) (xs ++ ys) ≡ xs
take_front xs ys = same_lists _ _ (search (rules, places)) (λ k d h. grind (arith, places))

pub drop_front : {X : Type 0} (xs ys : List X) → drop (length xs) (xs ++ ys) ≡ ys
drop_front xs ys = same_lists _ _ (search (rules, places)) (λ k d h. grind (arith, places))

abbrev pub InLines : ℕ → ℕ → List ProblemValue → Type 0
InLines low high ps = AllByRecursion (λ p. (low < p.line) × (p.line ≤ high)) ps

abbrev pub Above : ℕ → List ProblemValue → Type 0
Above n ps = AllByRecursion (λ p. n < p.line) ps

pub upto_true : (n low high : ℕ) (ps : List ProblemValue) → high ≤ n → InLines low high ps → AllByRecursion (λ p. is_upto n p ≡ true) ps
upto_true n low high [] l h = tt
upto_true n low high (p ∷ ps) l h = (le-leb p.line n (omega (arith, l, h.0.1)), upto_true n low high ps l h.1)

pub upto_false : (n m : ℕ) (ps : List ProblemValue) → n ≤ m → Above m ps → AllByRecursion (λ p. is_upto n p ≡ false) ps
upto_false n m [] l h = tt
upto_false n m (p ∷ ps) l h = (lt-leb p.line n (omega (arith, l, h.0)), upto_false n m ps l h.1)

above_both : (n : ℕ) (ps qs : List ProblemValue) → Above n ps → Above n qs → Above n (ps ++ qs)
above_both n [] qs h k = k
above_both n (p ∷ ps) qs h k = (h.0, above_both n ps qs h.1 k)

pub in_both : (low high : ℕ) (ps qs : List ProblemValue) → InLines low high ps → InLines low high qs → InLines low high (ps ++ qs)
in_both low high [] qs h k = k
in_both low high (p ∷ ps) qs h k = (h.0, in_both low high ps qs h.1 k)

pub above_lower : (n : ℕ) (ps : List ProblemValue) → Above 0 ps → Above n (map (lower n) ps)
above_lower n [] h = tt
above_lower n (p ∷ ps) h = (omega (arith, h.0), above_lower n ps h.1)

pub above_low_by : (x z : ℕ) (ps : List ProblemValue) → Above z ps → Above (x + z) (map (lower x) ps)
above_low_by x z [] h = tt
above_low_by x z (p ∷ ps) h = (omega (arith, h.0), above_low_by x z ps h.1)

pub above_weaker : (x z : ℕ) (ps : List ProblemValue) → z ≤ x → Above x ps → Above z ps
above_weaker x z [] l h = tt
above_weaker x z (p ∷ ps) l h = (omega (arith, l, h.0), above_weaker x z ps l h.1)

above_low : (n high : ℕ) (ps : List ProblemValue) → InLines n high ps → Above n ps
above_low n high [] h = tt
above_low n high (p ∷ ps) h = (h.0.0, above_low n high ps h.1)

pub in_lower : (n low high : ℕ) (ps : List ProblemValue) → InLines low high ps → InLines (n + low) (n + high) (map (lower n) ps)
in_lower n low high [] h = tt
in_lower n low high (p ∷ ps) h = ((omega (arith, h.0.0), omega (arith, h.0.1)), in_lower n low high ps h.1)

pub in_wider : (low high low' high' : ℕ) (ps : List ProblemValue) → low' ≤ low → high ≤ high' → InLines low high ps → InLines low' high' ps
in_wider low high low' high' [] l h b = tt
in_wider low high low' high' (p ∷ ps) l h b = ((omega (arith, l, b.0.0), omega (arith, h, b.0.1)), in_wider low high low' high' ps l h b.1)

same_problem : (up down n m line : ℕ) (p : ProblemValue) → up ≡ n + m → down ≡ n + line → shifted up down (lower n (lower m p)) ≡ lower n (lower line p)
same_problem up down n m line p e d =
    let l : n + (m + p.line) - up + down ≡ n + (line + p.line) = omega (arith, e, d) in
    λ i. record { line = l i; column = p.column; level = p.level; rule = p.rule; message = p.message }

shift_back : (up down n m line : ℕ) (ps : List ProblemValue) → up ≡ n + m → down ≡ n + line → map (shifted up down) (map (lower n) (map (lower m) ps)) ≡ map (lower n) (map (lower line) ps)
shift_back up down n m line [] e d = refl
shift_back up down n m line (p ∷ ps) e d =
    ap (λ (q : ProblemValue). q ∷ map (shifted up down) (map (lower n) (map (lower m) ps))) (same_problem up down n m line p e d)
    ∙ ap (λ (qs : List ProblemValue). lower n (lower line p) ∷ qs) (shift_back up down n m line ps e d)

-- a report of three parts of n, m and the other lines, of which the second becomes another, of `line` lines
module _ (a b c b' old new put : List ProblemValue) (n m line i j up down : ℕ)
    (old_is : old ≡ a ++ map (lower n) (b ++ map (lower m) c)) (new_is : new ≡ a ++ map (lower n) (b' ++ map (lower line) c)) (put_is : put ≡ map (lower n) b')
    (a_in : InLines 0 n a) (b_in : InLines 0 m b) (c_in : Above 0 c)
    (i_is : i ≡ prefix_len (is_upto n) old) (j_is : j ≡ prefix_len (is_upto up) old) (up_is : up ≡ n + m) (down_is : down ≡ n + line) where
  abbrev middle : List ProblemValue
  middle = map (lower n) b

  abbrev behind : List ProblemValue
  behind = map (lower n) (map (lower m) c)

  parted : old ≡ a ++ (middle ++ behind)
  parted = old_is ∙ ap (λ (ps : List ProblemValue). a ++ ps) (map-append (lower n) b (map (lower m) c))

  middle_in : InLines n up middle
  middle_in = in_wider (n + 0) (n + m) n up middle (omega arith) (omega (arith, up_is)) (in_lower n 0 m b b_in)

  behind_above : Above up behind
  behind_above = above_weaker (n + m) up behind (omega (arith, up_is)) (above_low_by n m (map (lower m) c) (above_lower m c c_in))

  front_count : i ≡ length a
  front_count =
      i_is ∙ (ap (prefix_len (is_upto n)) parted
      ∙ prefix_by (is_upto n) a (middle ++ behind) (upto_true n 0 n a (omega arith) a_in)
      (upto_false n n (middle ++ behind) (omega arith) (above_both n middle behind (above_low n up middle middle_in) (above_weaker up n behind (omega (arith, up_is)) behind_above))))

  parted_back : old ≡ (a ++ middle) ++ behind
  parted_back = parted ∙ sym (append_assoc a middle behind)

  back_count : j ≡ length (a ++ middle)
  back_count =
      j_is ∙ (ap (prefix_len (is_upto up)) parted_back
      ∙ prefix_by (is_upto up) (a ++ middle) behind
      (upto_true up 0 up (a ++ middle) (omega arith) (in_both 0 up a middle (in_wider 0 n 0 up a (omega arith) (omega (arith, up_is)) a_in) (in_wider n up 0 up middle (omega arith) (omega arith) middle_in)))
      (upto_false up up behind (omega arith) behind_above))

  pub patched_so : patched i j put up down old ≡ new
  patched_so =
      let front : take i old ≡ a = ap (λ k. take k old) front_count ∙ (ap (take (length a)) parted ∙ take_front a (middle ++ behind)) in
      let rest : drop j old ≡ behind = ap (λ k. drop k old) back_count ∙ (ap (drop (length (a ++ middle))) parted_back ∙ drop_front (a ++ middle) behind) in
      ap (λ (ps : List ProblemValue). ps ++ (put ++ map (shifted up down) (drop j old))) front
      ∙ (ap (λ (ps : List ProblemValue). a ++ (put ++ map (shifted up down) ps)) rest
      ∙ (ap (λ (ps : List ProblemValue). a ++ (put ++ ps)) (shift_back up down n m line c up_is down_is)
      ∙ (ap (λ (ps : List ProblemValue). a ++ (ps ++ map (lower n) (map (lower line) c))) put_is
      ∙ (ap (λ (ps : List ProblemValue). a ++ ps) (sym (map-append (lower n) b' (map (lower line) c))) ∙ sym new_is))))
