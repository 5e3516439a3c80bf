-- What comments say of a line: those below it say nothing, and those above it say the same of all lines further down.
use Rattle.std.proofs.Common.{◌≡◌, ℕ, ◌+◌, ◌<◌, ◌≤◌, ◌==◌, Bool, true, false, List, [], ◌∷◌, ◌++◌, length, map, drop, Option, Some, None, refl, ap, sym, subst, ◌∙◌, arith, cond, append-nil}
use Rattle.std.specs.Prelude.{◌&&◌, ◌||◌, not, nat_le, is_some, if◌then◌else◌, codes}
use Rattle.std.specs.List.{AllByRecursion, filter, last_or, list_any, starts_with}
use Rattle.std.proofs.lemmas.Bool.{and_parts, and_from, eq-eqb, eqb-true, false_from_ne_true, le-leb, leb-true, lt-leb, ne_eqb, or_from}
use Rattle.std.proofs.lemmas.List.Elements.{filter-append}
use Rattle.yl_text.specs.Character.{is_blank, is_white, without_end}
use Rattle.yl_text.specs.Finding.{rule_name}
use Rattle.yl_text.specs.declared.finding.RuleId.{RuleId}
use Rattle.yl_lexeme.specs.Lexeme.{PlacedCommentValue}
use Rattle.yl_report.specs.Directive.{disables, disables_line, is_silenced, is_switched_off, own_line, rest_speaks, says, speaks, switches}
use Rattle.yl_report.proofs.Noted.{is_disabled_by}
use Rattle.yl_lint.specs.TextReport.{moved_comment}
use Rattle.yl_edited_lines.specs.Switches.{SpeaksWithin, may_switch, switch_texts}

-- ---- tests of numbers

by_bool : (a b : Bool) → (a ≡ true → b ≡ true) → (b ≡ true → a ≡ true) → a ≡ b
by_bool true b f g = sym (f refl)
by_bool false true f g = g refl
by_bool false false f g = refl

le_moved : (d a line at : ℕ) → at ≡ d + line → nat_le (d + a) at ≡ nat_le a line
le_moved d a line at e =
    by_bool (nat_le (d + a) at) (nat_le a line) (λ h. le-leb a line (omega (arith, leb-true (d + a) at h, e))) (λ h. le-leb (d + a) at (omega (arith, leb-true a line h, e)))

eq_moved : (d a b line at : ℕ) → b ≡ d + a → at ≡ d + line → (b == at) ≡ (a == line)
eq_moved d a b line at f e =
    by_bool (b == at) (a == line) (λ h. eq-eqb a line (omega (arith, eqb-true b at h, e, f))) (λ h. eq-eqb b at (omega (arith, eqb-true a line h, e, f)))

-- ---- the line of a comment that silences one

own_least : (line : ℕ) (o : Option ℕ) → line ≤ (if is_some o then line else line + 1)
own_least line None = omega arith
own_least line (Some b) = omega arith

own_most : (line : ℕ) (o : Option ℕ) → (if is_some o then line else line + 1) ≤ line + 1
own_most line None = omega arith
own_most line (Some b) = omega arith

own_further : (d line : ℕ) (o : Option ℕ) → (if is_some o then d + line else d + line + 1) ≡ d + (if is_some o then line else line + 1)
own_further d line None = omega arith
own_further d line (Some b) = refl

own_moved : (d l line at : ℕ) (o : Option ℕ) → at ≡ d + line → ((if is_some o then d + l else d + l + 1) == at) ≡ ((if is_some o then l else l + 1) == line)
own_moved d l line at None e = eq_moved d (l + 1) (d + l + 1) line at (omega arith) e
own_moved d l line at (Some b) e = eq_moved d l (d + l) line at refl e

nor : (a b : Bool) → b ≡ false → (a && b) ≡ false
nor true b h = h
nor false b h = refl

not_own : (rule : RuleId) (line : ℕ) (c : PlacedCommentValue) → (own_line c == line) ≡ false → disables_line rule line c ≡ false
not_own rule line c h = nor (says (codes "# yamllint disable-line") rule c) (own_line c == line) h

abbrev Says : (PlacedCommentValue → Bool) → Bool → List PlacedCommentValue → Type 0
Says p b cs = AllByRecursion (λ c. p c ≡ b) cs

below_own : (rule : RuleId) (line n : ℕ) (cs : List PlacedCommentValue) → line < n → AllByRecursion (λ c. n ≤ c.line) cs → Says (disables_line rule line) false cs
below_own rule line n [] l h = tt
below_own rule line n (c ∷ cs) l h =
    (not_own rule line c (ne_eqb (own_line c) line (λ e. omega (arith, e, own_least c.line c.behind, l, h.0))), below_own rule line n cs l h.1)

any_front : (p : PlacedCommentValue → Bool) (cs ds : List PlacedCommentValue) → Says p false ds → list_any p (cs ++ ds) ≡ list_any p cs
any_front p [] [] h = refl
any_front p [] (d ∷ ds) h = ap (λ b. b || list_any p ds) h.0 ∙ any_front p [] ds h.1
any_front p (c ∷ cs) ds h = ap (λ b. p c || b) (any_front p cs ds h)

any_back : (p : PlacedCommentValue → Bool) (cs ds : List PlacedCommentValue) → Says p false cs → list_any p (cs ++ ds) ≡ list_any p ds
any_back p [] ds h = refl
any_back p (c ∷ cs) ds h = ap (λ b. b || list_any p (cs ++ ds)) h.0 ∙ any_back p cs ds h.1

any_moved : (rule : RuleId) (d line at : ℕ) (cs : List PlacedCommentValue) → at ≡ d + line → list_any (disables_line rule at) (map (moved_comment d) cs) ≡ list_any (disables_line rule line) cs
any_moved rule d line at [] e = refl
any_moved rule d line at (c ∷ cs) e =
    ap (λ b. (says (codes "# yamllint disable-line") rule c && b) || list_any (disables_line rule at) (map (moved_comment d) cs)) (own_moved d c.line line at c.behind e)
    ∙ ap (λ b. disables_line rule line c || b) (any_moved rule d line at cs e)

-- ---- what a comment's first words say

abbrev begins : List ℕ → List ℕ → Bool
begins = starts_with (λ a b. a == b)

-- what begins with a text begins with it behind which white space is left out, and the other way round
begins_whole : (xs p : List ℕ) → begins (without_end xs) p ≡ true → begins xs p ≡ true
begins_whole xs [] e = refl
begins_whole [] (n ∷ ns) e = cc
begins_whole (x ∷ xs) (n ∷ ns) e = at (is_blank (x ∷ xs)) (begins_whole xs ns) e
  where
    at : (b : Bool) → (begins (without_end xs) ns ≡ true → begins xs ns ≡ true) → begins (if b then [] else x ∷ without_end xs) (n ∷ ns) ≡ true → begins (x ∷ xs) (n ∷ ns) ≡ true
    at true again h = cc
    at false again h = let parts = and_parts (n == x) (begins (without_end xs) ns) h in and_from (n == x) (begins xs ns) parts.0 (again parts.1)

not_blank : (xs p : List ℕ) (c : ℕ) → is_white c ≡ false → begins xs (p ++ c ∷ []) ≡ true → is_blank xs ≡ false
not_blank [] [] c w e = cc
not_blank [] (n ∷ ns) c w e = cc
not_blank (x ∷ xs) [] c w e =
    let same : c ≡ x = eqb-true c x (and_parts (c == x) (begins xs []) e).0 in
    ap (λ b. b && is_blank xs) (sym (ap is_white same) ∙ w)
not_blank (x ∷ xs) (n ∷ ns) c w e = nor (is_white x) (is_blank xs) (not_blank xs ns c w (and_parts (n == x) (begins xs (ns ++ c ∷ [])) e).1)

begins_trimmed : (xs p : List ℕ) (c : ℕ) → is_white c ≡ false → begins xs (p ++ c ∷ []) ≡ true → begins (without_end xs) (p ++ c ∷ []) ≡ true
begins_trimmed [] p c w e = e
begins_trimmed (x ∷ xs) [] c w e =
    let blank = not_blank (x ∷ xs) [] c w e in
    rw blank (and_from (c == x) (begins (without_end xs) []) (and_parts (c == x) (begins xs []) e).0 refl)
begins_trimmed (x ∷ xs) (n ∷ ns) c w e =
    let blank = not_blank (x ∷ xs) (n ∷ ns) c w e in
    let parts = and_parts (n == x) (begins xs (ns ++ c ∷ [])) e in
    rw blank (and_from (n == x) (begins (without_end xs) (ns ++ c ∷ [])) parts.0 (begins_trimmed xs ns c w parts.1))

-- what stands behind the front
begins_behind : (a b t : List ℕ) → begins t (a ++ b) ≡ true → begins (drop (length a) t) b ≡ true
begins_behind [] b t e = e
begins_behind (n ∷ ns) b [] e = cc
begins_behind (n ∷ ns) b (x ∷ xs) e = begins_behind ns b xs (and_parts (n == x) (begins xs (ns ++ b)) e).1

-- words that go on with a hyphen are no words of rules
hyphen_says_nothing : (rest rule : List ℕ) → begins rest (codes "-line") ≡ true → rest_speaks rest rule ≡ false
hyphen_says_nothing [] rule e = cc
hyphen_says_nothing (x ∷ xs) rule e =
    let same : 45 ≡ x = eqb-true 45 x (and_parts (45 == x) (begins xs (codes "line")) e).0 in
    subst (λ y. rest_speaks (y ∷ xs) rule ≡ false) same refl

other_words : (rest : List ℕ) → begins rest (codes "disable-line") ≡ true → begins rest (codes "enable") ≡ false
other_words [] e = refl
other_words (x ∷ xs) e =
    let same : 100 ≡ x = eqb-true 100 x (and_parts (100 == x) (begins xs (codes "isable-line")) e).0 in
    subst (λ y. begins (y ∷ xs) (codes "enable") ≡ false) same refl

begins_line : (c : PlacedCommentValue) → may_switch c ≡ false → begins (without_end c.text) (codes "# yamllint disable-line") ≡ true
begins_line c h = begins_trimmed c.text (codes "# yamllint disable-lin") 101 refl (so (begins c.text (codes "# yamllint disable-line")) h)
  where
    so : (b : Bool) → not b ≡ false → b ≡ true
    so true h = refl
    so false h = sym h

-- it switches the rule somewhere
abbrev switches_it : RuleId → PlacedCommentValue → Bool
switches_it rule c = disables rule c || says (codes "# yamllint enable") rule c

speaks_not : (text words rule : List ℕ) → (begins text words ≡ true → rest_speaks (drop (length words) text) rule ≡ false) → speaks text words rule ≡ false
speaks_not text words rule h = at (begins text words) h
  where
    at : (b : Bool) → (b ≡ true → rest_speaks (drop (length words) text) rule ≡ false) → (if b then rest_speaks (drop (length words) text) rule else false) ≡ false
    at true h = h refl
    at false h = refl

switches_not : (rule : RuleId) (c : PlacedCommentValue) → may_switch c ≡ false → switches_it rule c ≡ false
switches_not rule c h =
    let text = without_end c.text in
    let line = begins_line c h in
    or_from (disables rule c) (says (codes "# yamllint enable") rule c)
    (speaks_not text (codes "# yamllint disable") (rule_name rule) (λ _. hyphen_says_nothing (drop 18 text) (rule_name rule) (begins_behind (codes "# yamllint disable") (codes "-line") text line)))
    (speaks_not text (codes "# yamllint enable") (rule_name rule) (λ e.
    let no = other_words (drop 11 text) (begins_behind (codes "# yamllint ") (codes "disable-line") text line) in
    let yes = begins_behind (codes "# yamllint ") (codes "enable") text e in
    let wrong : true ≡ false = sym yes ∙ no in
    cc))

line_not : (rule : RuleId) (line : ℕ) (c : PlacedCommentValue) → may_switch c ≡ true → disables_line rule line c ≡ false
line_not rule line c h =
    let words = codes "# yamllint disable-line" in
    let other : begins c.text words ≡ false = so (begins c.text words) h in
    let apart : begins (without_end c.text) words ≡ false = false_from_ne_true _ (λ e. let wrong : true ≡ false = sym (begins_whole c.text words e) ∙ other in cc) in
    rw apart refl
  where
    so : (b : Bool) → not b ≡ true → b ≡ false
    so true h = sym h
    so false h = refl

-- ---- the last comment that switches

none_below : (rule : RuleId) (line n : ℕ) (cs : List PlacedCommentValue) → line < n → AllByRecursion (λ c. n ≤ c.line) cs → filter (switches rule line) cs ≡ []
none_below rule line n [] l h = refl
none_below rule line n (c ∷ cs) l h =
    ap (λ b. cond (b && switches_it rule c) (c ∷ filter (switches rule line) cs) (filter (switches rule line) cs)) (lt-leb c.line line (omega (arith, l, h.0))) ∙ none_below rule line n cs l h.1

cond_moved : (d : ℕ) (b : Bool) (c : PlacedCommentValue) (cs : List PlacedCommentValue) → cond b (moved_comment d c ∷ map (moved_comment d) cs) (map (moved_comment d) cs) ≡ map (moved_comment d) (cond b (c ∷ cs) cs)
cond_moved d true c cs = refl
cond_moved d false c cs = refl

switches_moved : (rule : RuleId) (d line at : ℕ) (cs : List PlacedCommentValue) → at ≡ d + line → filter (switches rule at) (map (moved_comment d) cs) ≡ map (moved_comment d) (filter (switches rule line) cs)
switches_moved rule d line at [] e = refl
switches_moved rule d line at (c ∷ cs) e =
    ap (λ (ds : List PlacedCommentValue). cond (switches rule at (moved_comment d c)) (moved_comment d c ∷ ds) ds) (switches_moved rule d line at cs e)
    ∙ (ap (λ b. cond (b && switches_it rule c) (moved_comment d c ∷ map (moved_comment d) (filter (switches rule line) cs)) (map (moved_comment d) (filter (switches rule line) cs))) (le_moved d c.line line at e)
    ∙ cond_moved d (switches rule line c) c (filter (switches rule line) cs))

last_both : (o : Option PlacedCommentValue) (cs ds : List PlacedCommentValue) → last_or o (cs ++ ds) ≡ last_or (last_or o cs) ds
last_both o [] ds = refl
last_both o (c ∷ cs) ds = last_both (Some c) cs ds

last_moved : (rule : RuleId) (d : ℕ) (o p : Option PlacedCommentValue) (cs : List PlacedCommentValue) → is_disabled_by rule o ≡ is_disabled_by rule p → is_disabled_by rule (last_or o (map (moved_comment d) cs)) ≡ is_disabled_by rule (last_or p cs)
last_moved rule d o p [] e = e
last_moved rule d o p (c ∷ cs) e = last_moved rule d (Some (moved_comment d c)) (Some c) cs refl

last_alike : (rule : RuleId) (o p : Option PlacedCommentValue) (cs : List PlacedCommentValue) → is_disabled_by rule o ≡ is_disabled_by rule p → is_disabled_by rule (last_or o cs) ≡ is_disabled_by rule (last_or p cs)
last_alike rule o p [] e = e
last_alike rule o p (c ∷ cs) e = refl

-- ---- comments that have the same texts

-- a comment with this text switches the rule, or disables it
abbrev text_disables : RuleId → List ℕ → Bool
text_disables rule t = speaks (without_end t) (codes "# yamllint disable") (rule_name rule)

abbrev text_switches : RuleId → List ℕ → Bool
text_switches rule t = text_disables rule t || speaks (without_end t) (codes "# yamllint enable") (rule_name rule)

-- whether the rule is off behind comments with these texts, where it was or was not before
abbrev is_off_behind : RuleId → Bool → List (List ℕ) → Bool
is_off_behind rule off [] = off
is_off_behind rule off (t ∷ ts) = is_off_behind rule (cond (text_switches rule t) (text_disables rule t) off) ts

off_with : (rule : RuleId) (o : Option PlacedCommentValue) (c : PlacedCommentValue) (later : List PlacedCommentValue) (ts : List (List ℕ)) (s : Bool)
    → is_disabled_by rule (last_or o later) ≡ is_off_behind rule (is_disabled_by rule o) ts → is_disabled_by rule (last_or (Some c) later) ≡ is_off_behind rule (disables rule c) ts
    → is_disabled_by rule (last_or o (cond s (c ∷ later) later)) ≡ is_off_behind rule (cond s (disables rule c) (is_disabled_by rule o)) ts
off_with rule o c later ts true before here = here
off_with rule o c later ts false before here = before

off_by_texts : (rule : RuleId) (o : Option PlacedCommentValue) (cs : List PlacedCommentValue) → is_disabled_by rule (last_or o (filter (switches_it rule) cs)) ≡ is_off_behind rule (is_disabled_by rule o) (switch_texts cs)
off_by_texts rule o [] = refl
off_by_texts rule o (c ∷ cs) = at (may_switch c) refl (off_by_texts rule o cs) (off_by_texts rule (Some c) cs)
  where
    at : (b : Bool) → may_switch c ≡ b → is_disabled_by rule (last_or o (filter (switches_it rule) cs)) ≡ is_off_behind rule (is_disabled_by rule o) (switch_texts cs)
        → is_disabled_by rule (last_or (Some c) (filter (switches_it rule) cs)) ≡ is_off_behind rule (disables rule c) (switch_texts cs)
        → is_disabled_by rule (last_or o (cond (switches_it rule c) (c ∷ filter (switches_it rule) cs) (filter (switches_it rule) cs)))
        ≡ is_off_behind rule (is_disabled_by rule o) (map (λ (d : PlacedCommentValue). d.text) (cond b (c ∷ filter may_switch cs) (filter may_switch cs)))
    at true e before here = off_with rule o c (filter (switches_it rule) cs) (switch_texts cs) (switches_it rule c) before here
    at false e before here = ap (λ s. is_disabled_by rule (last_or o (cond s (c ∷ filter (switches_it rule) cs) (filter (switches_it rule) cs)))) (switches_not rule c e) ∙ before

texts_moved : (d : ℕ) (cs : List PlacedCommentValue) → switch_texts (map (moved_comment d) cs) ≡ switch_texts cs
texts_moved d [] = refl
texts_moved d (c ∷ cs) = at (may_switch c) (texts_moved d cs)
  where
    at : (b : Bool) → switch_texts (map (moved_comment d) cs) ≡ switch_texts cs
        → map (λ e. e.text) (cond b (moved_comment d c ∷ filter may_switch (map (moved_comment d) cs)) (filter may_switch (map (moved_comment d) cs))) ≡ map (λ e. e.text) (cond b (c ∷ filter may_switch cs) (filter may_switch cs))
    at true same = ap (λ (ts : List (List ℕ)). c.text ∷ ts) same
    at false same = same

-- behind both the same is off
abbrev SameOff : List PlacedCommentValue → List PlacedCommentValue → Type 0
SameOff cs ds = (rule : RuleId) → is_disabled_by rule (last_or None (filter (switches_it rule) cs)) ≡ is_disabled_by rule (last_or None (filter (switches_it rule) ds))

pub same_off : (cs xs ys : List PlacedCommentValue) (d : ℕ) → switch_texts xs ≡ switch_texts ys → SameOff (cs ++ map (moved_comment d) xs) (cs ++ map (moved_comment d) ys)
same_off cs xs ys d same rule = behind xs ∙ (ap (is_off_behind rule (is_disabled_by rule (last_or None (filter (switches_it rule) cs)))) same ∙ sym (behind ys))
  where
    behind : (zs : List PlacedCommentValue) → is_disabled_by rule (last_or None (filter (switches_it rule) (cs ++ map (moved_comment d) zs))) ≡ is_off_behind rule (is_disabled_by rule (last_or None (filter (switches_it rule) cs))) (switch_texts zs)
    behind zs =
        let p = switches_it rule in
        let ms = map (moved_comment d) zs in
        ap (λ (es : List PlacedCommentValue). is_disabled_by rule (last_or None es)) (filter-append p cs ms)
        ∙ (ap (is_disabled_by rule) (last_both None (filter p cs) (filter p ms))
        ∙ (off_by_texts rule (last_or None (filter p cs)) ms ∙ ap (is_off_behind rule (is_disabled_by rule (last_or None (filter p cs)))) (texts_moved d zs)))

-- ---- what is said of a line

-- comments below a line say nothing of it
pub said_above : (cs ds : List PlacedCommentValue) (n : ℕ) (rule : RuleId) (line : ℕ) → AllByRecursion (λ c. n ≤ c.line) ds → line < n → is_silenced (cs ++ ds) rule line ≡ is_silenced cs rule line
said_above cs ds n rule line h l =
    let p = switches rule line in
    let same : filter p (cs ++ ds) ≡ filter p cs = filter-append p cs ds ∙ (ap (λ (es : List PlacedCommentValue). filter p cs ++ es) (none_below rule line n ds l h) ∙ append-nil (filter p cs)) in
    ap (λ (es : List PlacedCommentValue). is_disabled_by rule (last_or None es) || list_any (disables_line rule line) (cs ++ ds)) same
    ∙ ap (λ b. is_switched_off cs rule line || b) (any_front (disables_line rule line) cs ds (below_own rule line n ds l h))

-- it stands in the first lines, and so does the line of which it speaks, if it speaks of one alone
abbrev pub IsHeardAbove : ℕ → PlacedCommentValue → Type 0
IsHeardAbove n c = (c.line < n) × SpeaksWithin n c

all_above : (rule : RuleId) (line n : ℕ) (cs : List PlacedCommentValue) → n ≤ line → AllByRecursion (IsHeardAbove n) cs → filter (switches rule line) cs ≡ filter (switches_it rule) cs
all_above rule line n [] l h = refl
all_above rule line n (c ∷ cs) l h =
    ap (λ b. cond (b && switches_it rule c) (c ∷ filter (switches rule line) cs) (filter (switches rule line) cs)) (le-leb c.line line (omega (arith, l, h.0.0)))
    ∙ ap (λ (ds : List PlacedCommentValue). cond (switches_it rule c) (c ∷ ds) ds) (all_above rule line n cs l h.1)

not_there : (rule : RuleId) (line n : ℕ) (c : PlacedCommentValue) → n ≤ line → SpeaksWithin n c → disables_line rule line c ≡ false
not_there rule line n c l h = at (may_switch c) refl
  where
    at : (b : Bool) → may_switch c ≡ b → disables_line rule line c ≡ false
    at true e = line_not rule line c e
    at false e = not_own rule line c (ne_eqb (own_line c) line (λ same. omega (arith, same, l, h e)))

above_own : (rule : RuleId) (line n : ℕ) (cs : List PlacedCommentValue) → n ≤ line → AllByRecursion (IsHeardAbove n) cs → Says (disables_line rule line) false cs
above_own rule line n [] l h = tt
above_own rule line n (c ∷ cs) l h = (not_there rule line n c l h.0.1, above_own rule line n cs l h.1)

-- by comments above all these lines, and by others that move with the lines
abbrev said : List PlacedCommentValue → List PlacedCommentValue → RuleId → ℕ → Bool
said cs ds rule line = is_disabled_by rule (last_or (last_or None (filter (switches_it rule) cs)) (filter (switches rule line) ds)) || list_any (disables_line rule line) ds

said_below : (cs ds : List PlacedCommentValue) (d at : ℕ) (rule : RuleId) (line : ℕ) → AllByRecursion (IsHeardAbove d) cs → at ≡ d + line → is_silenced (cs ++ map (moved_comment d) ds) rule at ≡ said cs ds rule line
said_below cs ds d at rule line h e =
    let p = switches rule at in
    let es = map (moved_comment d) ds in
    let fs = filter (switches_it rule) cs in
    let gs = filter (switches rule line) ds in
    let same : filter p (cs ++ es) ≡ fs ++ map (moved_comment d) gs =
    filter-append p cs es
    ∙ (ap (λ (xs : List PlacedCommentValue). xs ++ filter p es) (all_above rule at d cs (omega (arith, e)) h) ∙ ap (λ (xs : List PlacedCommentValue). fs ++ xs) (switches_moved rule d line at ds e)) in
    ap (λ (xs : List PlacedCommentValue). is_disabled_by rule (last_or None xs) || list_any (disables_line rule at) (cs ++ es)) same
    ∙ (ap (λ (o : Option PlacedCommentValue). is_disabled_by rule o || list_any (disables_line rule at) (cs ++ es)) (last_both None fs (map (moved_comment d) gs))
    ∙ (ap (λ b. b || list_any (disables_line rule at) (cs ++ es)) (last_moved rule d (last_or None fs) (last_or None fs) gs refl)
    ∙ ap (λ b. is_disabled_by rule (last_or (last_or None fs) gs) || b) (any_back (disables_line rule at) cs es (above_own rule at d cs (omega (arith, e)) h) ∙ any_moved rule d line at ds e)))

-- behind comments that move with the lines, all is as it was, where the same is off behind those above
pub said_alike : (cs es ds : List PlacedCommentValue) (d d' at at' : ℕ) (rule : RuleId) (line : ℕ) → AllByRecursion (IsHeardAbove d) cs → AllByRecursion (IsHeardAbove d') es → SameOff cs es → at ≡ d + line → at' ≡ d' + line
    → is_silenced (cs ++ map (moved_comment d) ds) rule at ≡ is_silenced (es ++ map (moved_comment d') ds) rule at'
said_alike cs es ds d d' at at' rule line h h' same e e' =
    let gs = filter (switches rule line) ds in
    said_below cs ds d at rule line h e
    ∙ (ap (λ b. b || list_any (disables_line rule line) ds) (last_alike rule (last_or None (filter (switches_it rule) cs)) (last_or None (filter (switches_it rule) es)) gs (same rule))
    ∙ sym (said_below es ds d' at' rule line h' e'))

-- comments that moved so far stand there
pub moved_high : (n d : ℕ) (ds : List PlacedCommentValue) → n ≤ d → AllByRecursion (λ c. n ≤ c.line) (map (moved_comment d) ds)
moved_high n d [] l = tt
moved_high n d (c ∷ ds) l = (omega (arith, l), moved_high n d ds l)

-- comments of the lines above are heard above those behind them, and so are others that move
pub heard_further : (n d : ℕ) (cs : List PlacedCommentValue) → n < d → AllByRecursion (λ c. c.line < n) cs → AllByRecursion (IsHeardAbove d) cs
heard_further n d [] l h = tt
heard_further n d (c ∷ cs) l h = ((omega (arith, l, h.0), λ e. omega (arith, l, h.0, own_most c.line c.behind)), heard_further n d cs l h.1)

pub heard_moved : (n rows d : ℕ) (cs : List PlacedCommentValue) → n + rows ≤ d → AllByRecursion (λ c. c.line < rows) cs → AllByRecursion (SpeaksWithin rows) cs → AllByRecursion (IsHeardAbove d) (map (moved_comment n) cs)
heard_moved n rows d [] l h s = tt
heard_moved n rows d (c ∷ cs) l h s =
    ((omega (arith, l, h.0), λ e. omega (arith, l, s.0 e, own_further n c.line c.behind)), heard_moved n rows d cs l h.1 s.1)
