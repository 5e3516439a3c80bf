-- Of what stands above and below the sections that an edit touches, the same is shown as before.
use Rattle.std.proofs.Common.{◌≡◌, ℕ, zero, suc, ◌+◌, ◌-◌, ◌<◌, ◌≤◌, Bool, true, false, List, [], ◌∷◌, ◌++◌, length, map, take, drop, refl, ap, sym, subst, ◌∙◌, arith, rules, append-nil, append_assoc}
use Rattle.std.specs.Prelude.{◌&&◌, ◌||◌, not, nat_lt}
use Rattle.std.specs.List.{AllByRecursion, splice}
use Rattle.std.proofs.lemmas.Bool.{le-ltb, lt-ltb, ltb-true}
use Rattle.std.proofs.lemmas.List.{drop-map, take-append-drop, take-map, same_lists, places}
use Rattle.yl_text.proofs.Every.{all_both, all_drop, all_take}
use Rattle.yl_text.specs.Lines.{RowValue}
use Rattle.yl_text.specs.declared.finding.RuleId.{RuleId}
use Rattle.yl_lexeme.specs.Lexeme.{PlacedCommentValue}
use Rattle.yl_report.specs.Directive.{disables_file, is_silenced}
use Rattle.yl_report.specs.Report.{ProblemValue, is_syntax}
use Rattle.yl_sections.specs.Kept.{KeptValue, rows_kept}
use Rattle.yl_lint.specs.TextReport.{comments_in_sections, first_text, moved_comment, shown}
use Rattle.yl_problem_lists.specs.Parts.{shifted}
use Rattle.yl_problem_lists.specs.Showing.{is_of_lines, shows}
use Rattle.yl_found.specs.Faultless.{faultless, faultless_one}
use Rattle.yl_found.specs.Found.{is_shown}
use Rattle.yl_found.specs.Plain.{IsPlain}
use Rattle.yl_summary.specs.Overview.{has_fault}
use Rattle.yl_edited_lines.specs.Switches.{SpeaksWithin}
use Rattle.yl_patch.specs.Speaking.{SpeakAlike}
use Rattle.yl_found.proofs.Sections.{comments_two, comments_three}
use Rattle.yl_summary.proofs.Walks.{rows_both, rows_until}
use Rattle.yl_found.proofs.ShownSections.{rows_shown, said_by_first, said_upto, shown_both, shown_comments_within, shown_covered, shown_sound}
use Rattle.yl_edited_lines.proofs.Silenced.{IsHeardAbove, heard_further, heard_moved, said_alike, same_off}

-- ---- by its parts

-- where the file is silenced, a fault may hide it, comments silence it
abbrev shows_by : RuleId → Bool → Bool → Bool → Bool
shows_by rule file hid silenced = not file && (not (not (is_of_lines rule) && hid) && (is_syntax rule || not silenced))

same_shown : (rule : RuleId) (file file' hid hid' silenced silenced' : Bool) → file ≡ file' → hid ≡ hid' → silenced ≡ silenced' → shows_by rule file hid silenced ≡ shows_by rule file' hid' silenced'
same_shown rule file file' hid hid' silenced silenced' e f g =
    ap (λ b. shows_by rule b hid silenced) e ∙ (ap (λ b. shows_by rule file' b silenced) f ∙ ap (λ b. shows_by rule file' hid' b) g)

either : {P : Type 0} (b : Bool) → (b ≡ true → P) → (b ≡ false → P) → P
either true f g = f refl
either false f g = g refl

-- ---- above

first_stays : (rows ins : List RowValue) (a b : ℕ) → 0 < a → a ≤ length rows → first_text (splice rows a b ins) ≡ first_text rows
first_stays rows ins zero b l m = absurd (omega (arith, l))
first_stays [] ins (suc a) b l m = absurd (omega (arith, m))
first_stays (r ∷ rs) ins (suc a) b l m = refl

module _ (rows rows' : List RowValue) (front xs ys : List KeptValue) (p : ProblemValue) (line : 0 < p.line) (within : p.line ≤ rows_kept front) where
  covered_above : has_fault front ≡ true → disables_file (first_text rows') ≡ disables_file (first_text rows) → is_shown rows' (front ++ ys) p ≡ is_shown rows (front ++ xs) p
  covered_above h file =
      ap (λ b. shows b (is_silenced (comments_in_sections 0 (shown (front ++ ys)))) (rows_kept (shown (front ++ ys))) p) file
      ∙ ap (λ (ks : List KeptValue). shows (disables_file (first_text rows)) (is_silenced (comments_in_sections 0 ks)) (rows_kept ks) p) (shown_covered front ys h ∙ sym (shown_covered front xs h))

  said_of : (zs : List KeptValue) → has_fault front ≡ false → is_silenced (comments_in_sections 0 (shown (front ++ zs))) p.rule (p.line - 1) ≡ is_silenced (comments_in_sections 0 front) p.rule (p.line - 1)
  said_of zs h = ap (λ (ks : List KeptValue). is_silenced (comments_in_sections 0 ks) p.rule (p.line - 1)) (shown_both front zs h) ∙ said_by_first front (shown zs) p.rule (p.line - 1) (omega (arith, line, within))

  hidden_of : (zs : List KeptValue) → has_fault front ≡ false → nat_lt (rows_kept (shown (front ++ zs))) p.line ≡ false
  hidden_of zs h = le-ltb (rows_kept (shown (front ++ zs))) p.line (omega (arith, within, ap rows_kept (shown_both front zs h), rows_both front (shown zs)))

  shown_above : disables_file (first_text rows') ≡ disables_file (first_text rows) → is_shown rows' (front ++ ys) p ≡ is_shown rows (front ++ xs) p
  shown_above file =
      either (has_fault front) (λ h. covered_above h file) (λ h.
      same_shown p.rule (disables_file (first_text rows')) (disables_file (first_text rows)) (nat_lt (rows_kept (shown (front ++ ys))) p.line) (nat_lt (rows_kept (shown (front ++ xs))) p.line)
      (is_silenced (comments_in_sections 0 (shown (front ++ ys))) p.rule (p.line - 1)) (is_silenced (comments_in_sections 0 (shown (front ++ xs))) p.rule (p.line - 1))
      file (hidden_of ys h ∙ sym (hidden_of xs h)) (said_of ys h ∙ sym (said_of xs h)))

-- a problem in the lines above the touched sections is shown as before
pub above_alike : (rows ins : List RowValue) (ks new : List KeptValue) (a b from end : ℕ) (p : ProblemValue) → a ≤ length rows → rows_kept (take from ks) ≤ a → 0 < p.line → p.line ≤ rows_kept (take from ks)
    → is_shown (splice rows a b ins) (splice ks from end new) p ≡ is_shown rows ks p
above_alike rows ins ks new a b from end p l m line within =
    shown_above rows (splice rows a b ins) (take from ks) (drop from ks) (new ++ drop end ks) p line within (ap disables_file (first_stays rows ins a b (omega (arith, line, within, m)) l))
    ∙ ap (λ (ls : List KeptValue). is_shown rows ls p) (take-append-drop from ks)

-- ---- below

-- what comments say of the lines behind some sections
module _ (front old back : List KeptValue) where
  abbrev first : ℕ
  first = rows_kept front

  abbrev cs : List PlacedCommentValue
  cs = comments_in_sections 0 front

  abbrev xs : List PlacedCommentValue
  xs = comments_in_sections 0 (shown old)

  -- where the touched sections have a fault or not
  abbrev ds : Bool → List PlacedCommentValue
  ds true = []
  ds false = comments_in_sections 0 (shown back)

  abbrev later : Bool → ℕ
  later true = 0
  later false = rows_kept (shown back)

  abbrev all_shown : List KeptValue
  all_shown = shown (front ++ (old ++ back))

  comments_are : (g : Bool) → has_fault front ≡ false → has_fault old ≡ g → comments_in_sections 0 all_shown ≡ (cs ++ map (moved_comment first) xs) ++ map (moved_comment (first + rows_kept old)) (ds g)
  comments_are true h e =
      ap (comments_in_sections 0) (shown_both front (old ++ back) h ∙ ap (λ (ls : List KeptValue). front ++ ls) (shown_covered old back e))
      ∙ (comments_two front (shown old) first refl ∙ sym (append-nil (cs ++ map (moved_comment first) xs)))
  comments_are false h e =
      ap (comments_in_sections 0) (shown_both front (old ++ back) h ∙ ap (λ (ls : List KeptValue). front ++ ls) (shown_both old back e))
      ∙ (comments_three front old (shown back) first (first + rows_kept old) refl refl
      ∙ (ap (λ (ls : List KeptValue). cs ++ (map (moved_comment first) (comments_in_sections 0 ls) ++ map (moved_comment (first + rows_kept old)) (ds false))) (sym (shown_sound old e))
      ∙ sym (append_assoc cs (map (moved_comment first) xs) (map (moved_comment (first + rows_kept old)) (ds false)))))

  -- a line below the old sections is hidden as it would be below others
  hidden_so : (g : Bool) (line : ℕ) → has_fault front ≡ false → has_fault old ≡ g → nat_lt (rows_kept all_shown) (first + rows_kept old + suc line) ≡ nat_lt (later g) (suc line)
  hidden_so true line h e =
      let n : rows_kept all_shown ≡ first + rows_kept (shown old) =
      ap rows_kept (shown_both front (old ++ back) h ∙ ap (λ (ls : List KeptValue). front ++ ls) (shown_covered old back e)) ∙ rows_both front (shown old) in
      lt-ltb (rows_kept all_shown) (first + rows_kept old + suc line) (omega (arith, n, rows_shown old)) ∙ sym (lt-ltb 0 (suc line) (omega arith))
  hidden_so false line h e =
      let n : rows_kept all_shown ≡ first + (rows_kept old + rows_kept (shown back)) =
      ap rows_kept (shown_both front (old ++ back) h ∙ ap (λ (ls : List KeptValue). front ++ ls) (shown_both old back e)) ∙ (rows_both front (old ++ shown back) ∙ ap (λ (i : ℕ). first + i) (rows_both old (shown back))) in
      by_either (nat_lt (rows_kept all_shown) (first + rows_kept old + suc line)) (nat_lt (later false) (suc line)) (λ t. lt-ltb (later false) (suc line) (omega (arith, n, ltb-true (rows_kept all_shown) (first + rows_kept old + suc line) t)))
      (λ t. lt-ltb (rows_kept all_shown) (first + rows_kept old + suc line) (omega (arith, n, ltb-true (later false) (suc line) t)))
    where
      by_either : (a b : Bool) → (a ≡ true → b ≡ true) → (b ≡ true → a ≡ true) → a ≡ b
      by_either true b f g = sym (f refl)
      by_either false true f g = g refl
      by_either false false f g = refl

module _ (front old new back : List KeptValue) (plain : AllByRecursion IsPlain (faultless front)) (plain' : AllByRecursion IsPlain (faultless old)) (plainₙ : AllByRecursion IsPlain (faultless new))
    (some : 0 < rows_kept old) (some' : 0 < rows_kept new) (faults : has_fault front ≡ false → has_fault old ≡ has_fault new) (alike : has_fault front ≡ false → SpeakAlike old new) where
  abbrev n : ℕ
  n = rows_kept front + rows_kept old

  abbrev m : ℕ
  m = rows_kept front + rows_kept new

  -- behind a fault above: the same comments, above both lines
  covered_said : (rule : RuleId) (line at at' : ℕ) → has_fault front ≡ true → at ≡ n + line → at' ≡ m + line
      → is_silenced (comments_in_sections 0 (shown (front ++ (new ++ back)))) rule at' ≡ is_silenced (comments_in_sections 0 (shown (front ++ (old ++ back)))) rule at
  covered_said rule line at at' h e e' =
      let zs = comments_in_sections 0 (shown front) in
      let within = shown_comments_within (rows_kept front) front plain (omega arith) in
      ap (λ (ks : List KeptValue). is_silenced (comments_in_sections 0 ks) rule at') (shown_covered front (new ++ back) h)
      ∙ (ap (λ (es : List PlacedCommentValue). is_silenced es rule at') (sym (append-nil zs))
      ∙ (said_alike zs zs [] m n at' at rule line (heard_further (rows_kept front) m zs (omega (arith, some')) within) (heard_further (rows_kept front) n zs (omega (arith, some)) within) (λ r. refl) e' e
      ∙ (ap (λ (es : List PlacedCommentValue). is_silenced es rule at) (append-nil zs) ∙ ap (λ (ks : List KeptValue). is_silenced (comments_in_sections 0 ks) rule at) (sym (shown_covered front (old ++ back) h)))))

  covered_hidden : (zs : List KeptValue) (line : ℕ) → has_fault front ≡ true → rows_kept front < line → nat_lt (rows_kept (shown (front ++ zs))) line ≡ true
  covered_hidden zs line h l = lt-ltb (rows_kept (shown (front ++ zs))) line (omega (arith, l, ap rows_kept (shown_covered front zs h), rows_shown front))

  -- else the comments of the touched sections are heard above both lines, and leave the same switched off
  heard_of : (ks : List KeptValue) → has_fault front ≡ false → AllByRecursion IsPlain (faultless ks) → 0 < rows_kept ks → AllByRecursion (SpeaksWithin (rows_kept ks)) (comments_in_sections 0 (shown ks))
      → AllByRecursion (IsHeardAbove (rows_kept front + rows_kept ks)) (comments_in_sections 0 front ++ map (moved_comment (rows_kept front)) (comments_in_sections 0 (shown ks)))
  heard_of ks h plain_ks l speak =
      let k = rows_kept front in
      let zs = comments_in_sections 0 (shown ks) in
      let within = subst (λ (ls : List KeptValue). AllByRecursion (λ c. c.line < k) (comments_in_sections 0 ls)) (shown_sound front h) (shown_comments_within k front plain (omega arith)) in
      all_both (IsHeardAbove (k + rows_kept ks)) (comments_in_sections 0 front) (map (moved_comment k) zs) (heard_further k (k + rows_kept ks) (comments_in_sections 0 front) (omega (arith, l)) within)
      (heard_moved k (rows_kept ks) (k + rows_kept ks) zs (omega arith) (shown_comments_within (rows_kept ks) ks plain_ks (omega arith)) speak)

  said_below : (rule : RuleId) (line at at' : ℕ) → has_fault front ≡ false → at ≡ n + line → at' ≡ m + line
      → is_silenced (comments_in_sections 0 (shown (front ++ (new ++ back)))) rule at' ≡ is_silenced (comments_in_sections 0 (shown (front ++ (old ++ back)))) rule at
  said_below rule line at at' h e e' =
      let g = has_fault new in
      let cs = comments_in_sections 0 front in
      let xs = comments_in_sections 0 (shown old) in
      let ys = comments_in_sections 0 (shown new) in
      let k = rows_kept front in
      let a = alike h in
      ap (λ (es : List PlacedCommentValue). is_silenced es rule at') (comments_are front new back g h refl)
      ∙ (said_alike (cs ++ map (moved_comment k) ys) (cs ++ map (moved_comment k) xs) (ds front old back g) m n at' at rule line (heard_of new h plainₙ some' a.new) (heard_of old h plain' some a.old) (same_off cs ys xs k (sym a.switches)) e' e
      ∙ ap (λ (es : List PlacedCommentValue). is_silenced es rule at) (sym (comments_are front old back g h (faults h))))

  module _ (rows rows' : List RowValue) (p : ProblemValue) (below : n < p.line) (file : disables_file (first_text rows') ≡ disables_file (first_text rows)) where
    abbrev line : ℕ
    line = p.line - n - 1

    old_line : p.line ≡ n + suc line
    old_line = omega (arith, below)

    new_line : p.line - n + m ≡ m + suc line
    new_line = omega (arith, below)

    by_parts : nat_lt (rows_kept (shown (front ++ (new ++ back)))) (p.line - n + m) ≡ nat_lt (rows_kept (shown (front ++ (old ++ back)))) p.line
        → is_silenced (comments_in_sections 0 (shown (front ++ (new ++ back)))) p.rule (p.line - n + m - 1) ≡ is_silenced (comments_in_sections 0 (shown (front ++ (old ++ back)))) p.rule (p.line - 1)
        → is_shown rows' (front ++ (new ++ back)) (shifted n m p) ≡ is_shown rows (front ++ (old ++ back)) p
    by_parts hid said =
        same_shown p.rule (disables_file (first_text rows')) (disables_file (first_text rows)) (nat_lt (rows_kept (shown (front ++ (new ++ back)))) (p.line - n + m)) (nat_lt (rows_kept (shown (front ++ (old ++ back)))) p.line)
        (is_silenced (comments_in_sections 0 (shown (front ++ (new ++ back)))) p.rule (p.line - n + m - 1)) (is_silenced (comments_in_sections 0 (shown (front ++ (old ++ back)))) p.rule (p.line - 1))
        file hid said

    shown_below : is_shown rows' (front ++ (new ++ back)) (shifted n m p) ≡ is_shown rows (front ++ (old ++ back)) p
    shown_below =
        either (has_fault front)
        (λ h. by_parts (covered_hidden (new ++ back) (p.line - n + m) h (omega (arith, below, some')) ∙ sym (covered_hidden (old ++ back) p.line h (omega (arith, below))))
        (covered_said p.rule line (p.line - 1) (p.line - n + m - 1) h (omega (arith, below)) (omega (arith, below))))
        (λ h. by_parts
        (ap (nat_lt (rows_kept (shown (front ++ (new ++ back))))) new_line
        ∙ (hidden_so front new back (has_fault new) line h refl
        ∙ (sym (hidden_so front old back (has_fault new) line h (faults h)) ∙ ap (nat_lt (rows_kept (shown (front ++ (old ++ back))))) (sym old_line))))
        (said_below p.rule line (p.line - 1) (p.line - n + m - 1) h (omega (arith, below)) (omega (arith, below))))

-- a problem below the touched sections is shown there as before, where a fault in them hides as much as before and their comments say the same of
-- all lines below; behind a fault above them it is whatever they hide and say
pub below_alike : (rows rows' : List RowValue) (ks new : List KeptValue) (from end old_end new_end : ℕ) (p : ProblemValue) → from ≤ end → end ≤ length ks
    → old_end ≡ rows_kept (take end ks) → new_end ≡ rows_kept (take from ks) + rows_kept new → rows_kept (take from ks) < old_end → rows_kept (take from ks) < new_end
    → AllByRecursion IsPlain (faultless ks) → AllByRecursion IsPlain (faultless new) → disables_file (first_text rows') ≡ disables_file (first_text rows)
    → (has_fault (take from ks) ≡ false → has_fault (take (end - from) (drop from ks)) ≡ has_fault new) → (has_fault (take from ks) ≡ false → SpeakAlike (take (end - from) (drop from ks)) new)
    → old_end < p.line → is_shown rows' (splice ks from end new) (shifted old_end new_end p) ≡ is_shown rows ks p
below_alike rows rows' ks new from end old_end new_end p l m old_is new_is some some' plain plainₙ file faults alike below =
    let front = take from ks in
    let old = take (end - from) (drop from ks) in
    let back = drop end ks in
    let parts : front ++ (old ++ back) ≡ ks = sym (same_lists _ _ (search (rules, places)) (λ i d o. grind (arith, places))) in
    let e : old_end ≡ rows_kept front + rows_kept old = old_is ∙ rows_until ks from end l m in
    let plain_front = subst (λ (ls : List KeptValue). AllByRecursion IsPlain ls) (take-map faultless_one from ks) (all_take IsPlain (faultless ks) from plain) in
    let plain_old = subst (λ (ls : List KeptValue). AllByRecursion IsPlain ls) (ap (take (end - from)) (drop-map faultless_one from ks) ∙ take-map faultless_one (end - from) (drop from ks))
    (all_take IsPlain (drop from (faultless ks)) (end - from) (all_drop IsPlain (faultless ks) from plain)) in
    ap (λ (i : ℕ). is_shown rows' (splice ks from end new) (shifted i new_end p)) e
    ∙ (ap (λ (i : ℕ). is_shown rows' (splice ks from end new) (shifted (rows_kept front + rows_kept old) i p)) new_is
    ∙ (shown_below front old new back plain_front plain_old plainₙ (omega (arith, e, some)) (omega (arith, new_is, some')) faults alike rows rows' p (omega (arith, e, below)) file
    ∙ ap (λ (ls : List KeptValue). is_shown rows ls p) parts))

-- ---- by the comments up to a section

-- a problem in the lines of the first sections is shown as all comments say, if it is by those of the first sections that are shown
pub upto_alike : (rows : List RowValue) (ks : List KeptValue) (n : ℕ) (p : ProblemValue) → 0 < p.line → p.line ≤ rows_kept (take n ks)
    → shows (disables_file (first_text rows)) (is_silenced (comments_in_sections 0 (take n (shown ks)))) (rows_kept (shown ks)) p ≡ is_shown rows ks p
upto_alike rows ks n p l m =
    same_shown p.rule (disables_file (first_text rows)) (disables_file (first_text rows)) (nat_lt (rows_kept (shown ks)) p.line) (nat_lt (rows_kept (shown ks)) p.line)
    (is_silenced (comments_in_sections 0 (take n (shown ks))) p.rule (p.line - 1)) (is_silenced (comments_in_sections 0 (shown ks)) p.rule (p.line - 1)) refl refl (said_upto ks n p.rule (p.line - 1) (omega (arith, l, m)))
