-- What is told of a piece, in two parts, of which the second is told from line 1 on.
use Rattle.std.proofs.Common.{◌≡◌, ◌≤◌, ◌<◌, ◌+◌, ◌-◌, ◌==◌, ℕ, Bool, true, false, List, [], ◌∷◌, ◌++◌, map, drop, refl, sym, ◌∙◌, ap, arith, append-nil, if◌then◌else◌}
use Rattle.std.specs.Prelude.{◌&&◌, codes, not, nat_lt}
use Rattle.std.specs.List.{AllByRecursion, filter, flat_map}
use Rattle.std.specs.Str.{chars}
use Rattle.std.proofs.lemmas.Bool.{ltb-false, ne_eqb, not-true}
use Rattle.std.proofs.lemmas.List.{map-append}
use Rattle.std.proofs.lemmas.List.Elements.{filter-append}
use Rattle.yl_text.specs.declared.finding.RuleId.TheVariants.{Comments, Indentation}
use Rattle.yl_text.specs.Finding.{FindingValue, one_finding}
use Rattle.yl_text.proofs.Every.{all_both, all_filter, all_if, all_then}
use Rattle.yl_lexeme.specs.Lexeme.{PlacedCommentValue}
use Rattle.yl_indentation.specs.declared.fact.Fact.{Fact}
use Rattle.yl_indentation.specs.FactsAlike.{fact_below}
use Rattle.yl_report.proofs.Filtered.{filter_in, in_filter}
use Rattle.yl_report.proofs.Unique.{In}
use Rattle.yl_rules.specs.Addressed.{is_addressed}
use Rattle.yl_rules.specs.Comments.{comment_findings, is_shebang, is_too_near, lacks_space, near_findings, starting_space_in}
use Rattle.yl_rules.specs.LineLength.{hash_count}
use Rattle.yl_rules.specs.declared.comments.CommentsOptions.{CommentsOptions}
use Rattle.yl_text.specs.Character.{starts_by}
use Prim.Native.Char.{code}
use Rattle.yl_config.specs.declared.config.Config.{Config}
use Rattle.yl_config.specs.Config.{options_of}
use Rattle.yl_sections.specs.Kept.{KeptValue, is_on, items_if, shown_comment_findings}
use Rattle.yl_sections.proofs.RowJudging.{findings_of_both}
use Rattle.yl_lint.specs.TextReport.{moved, moved_comment}
use Rattle.yl_lint.proofs.Arranged.{AreSame, in_behind, in_either, in_front}
use Rattle.yl_pieces.specs.Told.{Told}
use Rattle.yl_pieces.specs.Laws.{comment_below, joined, told_below}
use Rattle.yl_pieces.specs.Patched.{below_first, in_first, row_of}
use Rattle.yl_pieces.specs.Within.{IsToldWithin}
use Rattle.yl_piece_reports.specs.Cuts.{IsInPieces, items_in}
use Rattle.yl_piece_reports.specs.Told.{comment_above, fact_above, finding_above, kept_by_told}
use Rattle.yl_piece_reports.proofs.Indented.{when_down}
use Rattle.yl_piece_reports.proofs.Same.{all_from_in, have_same, same_both, same_crossed, same_is, same_map, same_then}

-- ---- lists

module _ {X : Type 0} where
  -- two ways that lead to the same
  pub map_two : (f g h j : X → X) (P : X → Type 0) → ((x : X) → P x → f (g x) ≡ h (j x)) → (xs : List X) → AllByRecursion P xs → map f (map g xs) ≡ map h (map j xs)
  map_two f g h j P each [] a = refl
  map_two f g h j P each (x ∷ xs) a = ap (λ (y : X). y ∷ map f (map g xs)) (each x a.0) ∙ ap (λ (ys : List X). h (j x) ∷ ys) (map_two f g h j P each xs a.1)

  pub map_none : (f : X → X) → ((x : X) → f x ≡ x) → (xs : List X) → map f xs ≡ xs
  map_none f each [] = refl
  map_none f each (x ∷ xs) = ap (λ (y : X). y ∷ map f xs) (each x) ∙ ap (λ (ys : List X). x ∷ ys) (map_none f each xs)

  -- items of two pieces, of which the first has so many rows
  pub of_two : (down : ℕ → X → X) → ((x : X) → down 0 x ≡ x) → (n : ℕ) (xs ys : List X) → map (down 0) xs ++ (map (down (0 + n)) ys ++ []) ≡ xs ++ map (down n) ys
  of_two down none n xs ys =
      let e : 0 + n ≡ n = omega arith in
      ap (λ (zs : List X). zs ++ (map (down (0 + n)) ys ++ [])) (map_none (down 0) none xs)
      ∙ (ap (λ (zs : List X). xs ++ zs) (append-nil (map (down (0 + n)) ys)) ∙ ap (λ (k : ℕ). xs ++ map (down k) ys) e)

  pub if_both : (b : Bool) (f : X → X) (xs ys zs : List X) → xs ++ map f ys ≡ zs → items_if b xs ++ map f (items_if b ys) ≡ items_if b zs
  if_both true f xs ys zs e = e
  if_both false f xs ys zs e = refl

-- ---- what the rule comments finds further down

-- its line counts from 1
abbrev pub IsBelow : FindingValue → Type 0
IsBelow f = 0 < f.line

module _ (o : CommentsOptions) (m : ℕ) where
  -- a comment that is not the first of the text
  space_down : (line column : ℕ) (rest : List ℕ) → 0 < line → lacks_space o (m + line) column rest ≡ lacks_space o line column rest
  space_down line column rest h =
      let e : (m + line == 0) ≡ (line == 0) = ne_eqb (m + line) 0 (λ z. omega (arith, z, h)) ∙ sym (ne_eqb line 0 (λ z. omega (arith, z, h))) in
      ap (λ (b : Bool). o.require_starting_space && starts_by (λ c. not (c == code " ")) rest && not (o.ignore_shebangs && b && column == 0 && is_shebang rest)) e

  starting_down : (line column : ℕ) (cs : List ℕ) → 0 < line → starting_space_in o (m + line) column cs ≡ map (moved m) (starting_space_in o line column cs)
  starting_down line column cs h =
      ap (λ (b : Bool). if b then one_finding Comments (m + line + 1) (column + hash_count cs + 1) (codes "missing starting space in comment") else [])
      (space_down line column (drop (hash_count cs) cs) h)
      ∙ when_down m line (column + hash_count cs + 1) Comments (codes "missing starting space in comment") (lacks_space o line column (drop (hash_count cs) cs))

  one_down : (c : PlacedCommentValue) → 0 < c.line → comment_findings o (comment_below m c) ≡ map (moved m) (comment_findings o c)
  one_down c h =
      let near : near_findings o (comment_below m c) ≡ map (moved m) (near_findings o c) = when_down m c.line _ _ _ (is_too_near o.min_spaces_from_content c.behind c.column) in
      ap (λ (fs : List FindingValue). fs ++ starting_space_in o (m + c.line) c.column (chars c.text)) near
      ∙ (ap (λ (fs : List FindingValue). map (moved m) (near_findings o c) ++ fs) (starting_down c.line c.column (chars c.text) h)
      ∙ sym (map-append (moved m) (near_findings o c) (starting_space_in o c.line c.column (chars c.text))))

  each_down : (cs : List PlacedCommentValue) → AllByRecursion (λ c. 0 < c.line) cs → flat_map (comment_findings o) (map (comment_below m) cs) ≡ map (moved m) (flat_map (comment_findings o) cs)
  each_down [] h = refl
  each_down (c ∷ cs) h =
      ap (λ (fs : List FindingValue). fs ++ flat_map (comment_findings o) (map (comment_below m) cs)) (one_down c h.0)
      ∙ (ap (λ (fs : List FindingValue). map (moved m) (comment_findings o c) ++ fs) (each_down cs h.1)
      ∙ sym (map-append (moved m) (comment_findings o c) (flat_map (comment_findings o) cs)))

one_below : (o : CommentsOptions) (c : PlacedCommentValue) → AllByRecursion IsBelow (comment_findings o c)
one_below o c =
    all_both IsBelow (near_findings o c) (starting_space_in o c.line c.column (chars c.text))
    (all_if IsBelow (is_too_near o.min_spaces_from_content c.behind c.column) _ (omega arith, tt))
    (all_if IsBelow (lacks_space o c.line c.column (drop (hash_count (chars c.text)) (chars c.text))) _ (omega arith, tt))

each_below : (o : CommentsOptions) (cs : List PlacedCommentValue) → AllByRecursion IsBelow (flat_map (comment_findings o) cs)
each_below o [] = tt
each_below o (c ∷ cs) = all_both IsBelow (comment_findings o c) (flat_map (comment_findings o) cs) (one_below o c) (each_below o cs)

module _ (config : Config) where
  pub shown_down : (m : ℕ) (cs : List PlacedCommentValue) → AllByRecursion (λ c. 0 < c.line) cs
      → shown_comment_findings config (map (comment_below m) cs) ≡ map (moved m) (shown_comment_findings config cs)
  shown_down m cs h = by (is_on config Comments)
    where
      by : (b : Bool) → items_if b (flat_map (comment_findings (options_of config).comments) (map (comment_below m) cs)) ≡ map (moved m) (items_if b (flat_map (comment_findings (options_of config).comments) cs))
      by true = each_down (options_of config).comments m cs h
      by false = refl

  pub shown_below : (cs : List PlacedCommentValue) → AllByRecursion IsBelow (shown_comment_findings config cs)
  shown_below cs = by (is_on config Comments)
    where
      by : (b : Bool) → AllByRecursion IsBelow (items_if b (flat_map (comment_findings (options_of config).comments) cs))
      by true = each_below (options_of config).comments cs
      by false = tt

-- ---- comments that may silence

addressed_down : (m : ℕ) (cs : List PlacedCommentValue) → filter is_addressed (map (comment_below m) cs) ≡ map (comment_below m) (filter is_addressed cs)
addressed_down m [] = refl
addressed_down m (c ∷ cs) =
    ap (λ (ds : List PlacedCommentValue). if is_addressed c then comment_below m c ∷ ds else ds) (addressed_down m cs) ∙ by (is_addressed c)
  where
    by : (b : Bool) → (if b then comment_below m c ∷ map (comment_below m) (filter is_addressed cs) else map (comment_below m) (filter is_addressed cs))
        ≡ map (comment_below m) (if b then c ∷ filter is_addressed cs else filter is_addressed cs)
    by true = refl
    by false = refl

-- ---- what is found, cut by lines

none_moved : (f : FindingValue) → moved 0 f ≡ f
none_moved f = let e : 0 + f.line ≡ f.line = omega arith in λ i. record { line = e i; column = f.column; rule = f.rule; message = f.message }

module _ (n : ℕ) (some : 0 < n) where
  abbrev is_here : FindingValue → Bool
  is_here f = nat_lt (row_of f) n

  abbrev is_there : FindingValue → Bool
  is_there f = not (nat_lt (row_of f) n)

  back_again : (f : FindingValue) → is_there f ≡ true → moved n (finding_above n f) ≡ f
  back_again f h =
      let far : n ≤ row_of f = ltb-false (row_of f) n (not-true (nat_lt (row_of f) n) h) in
      let e : n + (f.line - n) ≡ f.line = omega (arith, far, some) in
      λ i. record { line = e i; column = f.column; rule = f.rule; message = f.message }

  all_back_again : (fs : List FindingValue) → AllByRecursion (λ f. is_there f ≡ true) fs → map (moved n) (map (finding_above n) fs) ≡ fs
  all_back_again [] h = refl
  all_back_again (f ∷ fs) h =
      ap (λ (g : FindingValue). g ∷ map (moved n) (map (finding_above n) fs)) (back_again f h.0) ∙ ap (λ (gs : List FindingValue). f ∷ gs) (all_back_again fs h.1)

  passes : (p : FindingValue → Bool) (fs : List FindingValue) → AllByRecursion (λ f. p f ≡ true) (filter p fs)
  passes p fs = all_from_in (λ f. p f ≡ true) (filter p fs) (λ f h. (in_filter p f fs h).1)

  in_part : (f : FindingValue) (fs : List FindingValue) (b : Bool) → is_here f ≡ b → In f fs → In f (filter is_here fs ++ filter is_there fs)
  in_part f fs true e h = in_front f (filter is_here fs) (filter is_there fs) (filter_in is_here f fs h e)
  in_part f fs false e h = in_behind f (filter is_here fs) (filter is_there fs) (filter_in is_there f fs h (ap not e))

  pub parts_same : (fs : List FindingValue) → AreSame (in_first row_of n fs ++ map (moved n) (map (finding_above n) (below_first row_of n fs))) fs
  parts_same fs =
      let here = filter is_here fs in
      let there = filter is_there fs in
      same_then (here ++ map (moved n) (map (finding_above n) there)) (here ++ there) fs
      (same_is (here ++ map (moved n) (map (finding_above n) there)) (here ++ there) (ap (λ (gs : List FindingValue). here ++ gs) (all_back_again there (passes is_there fs))))
      (record {
        there = λ f h. in_either f here there h (λ i. (in_filter is_here f fs i).0) (λ i. (in_filter is_there f fs i).0);
        back = λ f h. in_part f fs (is_here f) refl h;
      })

-- ---- two pieces

-- items in lines from 1 on, told from line 1 on and moved behind the first so many rows, or told where they stand
module _ (n line m : ℕ) (some : 0 < n) (is : m + 1 ≡ line + n) where
  lines_agree : (l : ℕ) → 0 < l → n + (l - 1) ≡ m + l - line
  lines_agree l h = omega (arith, some, is, h)

  finding_agrees : (f : FindingValue) → 0 < f.line → moved n (finding_above 1 f) ≡ finding_above line (moved m f)
  finding_agrees f h = let e : n + (f.line - 1) ≡ m + f.line - line = lines_agree f.line h in λ i. record { line = e i; column = f.column; rule = f.rule; message = f.message }

  fact_agrees : (f : Fact) → 0 < f.line → fact_below n (fact_above 1 f) ≡ fact_above line (fact_below m f)
  fact_agrees f h = let e : n + (f.line - 1) ≡ m + f.line - line = lines_agree f.line h in λ i. record { line = e i; column = f.column; expectation = f.expectation }

  comment_agrees : (c : PlacedCommentValue) → 0 < c.line → moved_comment n (comment_above 1 c) ≡ comment_above line (comment_below m c)
  comment_agrees c h = let e : n + (c.line - 1) ≡ m + c.line - line = lines_agree c.line h in λ i. record { line = e i; column = c.column; text = c.text; behind = c.behind }

  module _ (config : Config) (first k : ℕ) (t u : Told) (in_events : List FindingValue) (within : IsToldWithin 1 k u) where
    abbrev all : Told
    all = joined t (told_below m u)

    abbrev whole : KeptValue
    whole = kept_by_told config first (n + k) line all in_events

    abbrev one : KeptValue
    one = kept_by_told config first n line t (in_first row_of n in_events)

    abbrev two : KeptValue
    two = kept_by_told config 0 k 1 u (map (finding_above n) (below_first row_of n in_events))

    comments_low : AllByRecursion (λ (c : PlacedCommentValue). 0 < c.line) u.comments
    comments_low = all_then (λ (c : PlacedCommentValue). (1 ≤ c.line) × (c.line < 1 + k)) (λ (c : PlacedCommentValue). 0 < c.line) u.comments (λ c h. omega (arith, h.0)) within.comments

    facts_low : AllByRecursion (λ (f : Fact). 0 < f.line) u.facts
    facts_low = all_then (λ (f : Fact). (1 ≤ f.line) × (f.line < 1 + k)) (λ (f : Fact). 0 < f.line) u.facts (λ f h. omega (arith, h.0)) within.facts

    found_low : AllByRecursion IsBelow u.found
    found_low = all_then (λ (f : FindingValue). (1 < f.line) × (f.line ≤ 1 + k)) IsBelow u.found (λ f h. omega (arith, h.0)) within.found

    -- the facts
    fact_none : (f : Fact) → fact_below 0 f ≡ f
    fact_none f = let e : 0 + f.line ≡ f.line = omega arith in λ i. record { line = e i; column = f.column; expectation = f.expectation }

    facts_both : map (fact_above line) t.facts ++ map (fact_below n) (map (fact_above 1) u.facts) ≡ map (fact_above line) all.facts
    facts_both =
        ap (λ (fs : List Fact). map (fact_above line) t.facts ++ fs) (map_two (fact_below n) (fact_above 1) (fact_above line) (fact_below m) (λ f. 0 < f.line) fact_agrees u.facts facts_low)
        ∙ sym (map-append (fact_above line) t.facts (map (fact_below m) u.facts))

    facts_cut : items_in fact_below (λ p. p.facts) 0 (one ∷ (two ∷ [])) ≡ whole.facts
    facts_cut = of_two fact_below fact_none n one.facts two.facts ∙ if_both (is_on config Indentation) (fact_below n) _ _ _ facts_both

    -- the comments
    comment_none : (c : PlacedCommentValue) → moved_comment 0 c ≡ c
    comment_none c = let e : 0 + c.line ≡ c.line = omega arith in λ i. record { line = e i; column = c.column; text = c.text; behind = c.behind }

    abbrev cs : List PlacedCommentValue
    cs = filter is_addressed t.comments

    abbrev ds : List PlacedCommentValue
    ds = filter is_addressed u.comments

    comments_cut : items_in moved_comment (λ p. p.comments) 0 (one ∷ (two ∷ [])) ≡ whole.comments
    comments_cut =
        of_two moved_comment comment_none n one.comments two.comments
        ∙ (ap (λ (es : List PlacedCommentValue). map (comment_above line) cs ++ es)
        (map_two (moved_comment n) (comment_above 1) (comment_above line) (comment_below m) (λ c. 0 < c.line) comment_agrees ds (all_filter (λ (c : PlacedCommentValue). 0 < c.line) is_addressed u.comments comments_low))
        ∙ (sym (map-append (comment_above line) cs (map (comment_below m) ds))
        ∙ ap (map (comment_above line)) (ap (λ (es : List PlacedCommentValue). cs ++ es) (sym (addressed_down m u.comments)) ∙ sym (filter-append is_addressed t.comments (map (comment_below m) u.comments)))))

    -- what is found
    abbrev found_here : List FindingValue
    found_here = t.found ++ shown_comment_findings config t.comments

    abbrev found_there : List FindingValue
    found_there = u.found ++ shown_comment_findings config u.comments

    abbrev lower : List FindingValue
    lower = map (moved m) u.found ++ map (moved m) (shown_comment_findings config u.comments)

    there_moved : map (moved n) (map (finding_above 1) found_there) ≡ map (finding_above line) lower
    there_moved =
        map_two (moved n) (finding_above 1) (finding_above line) (moved m) IsBelow finding_agrees found_there
        (all_both IsBelow u.found (shown_comment_findings config u.comments) found_low (shown_below config u.comments))
        ∙ ap (map (finding_above line)) (map-append (moved m) u.found (shown_comment_findings config u.comments))

    comments_found : shown_comment_findings config t.comments ++ map (moved m) (shown_comment_findings config u.comments) ≡ shown_comment_findings config all.comments
    comments_found =
        ap (λ (fs : List FindingValue). shown_comment_findings config t.comments ++ fs) (sym (shown_down config m u.comments comments_low))
        ∙ sym (findings_of_both config t.comments (map (comment_below m) u.comments))

    abbrev front : List FindingValue
    front = map (finding_above line) found_here

    abbrev behind : List FindingValue
    behind = map (moved n) (map (finding_above 1) found_there)

    abbrev tree : List FindingValue
    tree = in_first row_of n in_events

    abbrev tree_behind : List FindingValue
    tree_behind = map (moved n) (map (finding_above n) (below_first row_of n in_events))

    told_same : AreSame (front ++ behind) (map (finding_above line) (all.found ++ shown_comment_findings config all.comments))
    told_same =
        same_then (front ++ behind) (map (finding_above line) (found_here ++ lower)) (map (finding_above line) (all.found ++ shown_comment_findings config all.comments))
        (same_is (front ++ behind) (map (finding_above line) (found_here ++ lower))
        (ap (λ (fs : List FindingValue). front ++ fs) there_moved ∙ sym (map-append (finding_above line) found_here lower)))
        (same_map (finding_above line) (found_here ++ lower) (all.found ++ shown_comment_findings config all.comments)
        (same_then (found_here ++ lower) (all.found ++ (shown_comment_findings config t.comments ++ map (moved m) (shown_comment_findings config u.comments))) (all.found ++ shown_comment_findings config all.comments)
        (same_crossed t.found (shown_comment_findings config t.comments) (map (moved m) u.found) (map (moved m) (shown_comment_findings config u.comments)))
        (same_is _ _ (ap (λ (fs : List FindingValue). all.found ++ fs) comments_found))))

    found_cut : AreSame (items_in moved (λ p. p.found) 0 (one ∷ (two ∷ []))) whole.found
    found_cut =
        let told = map (finding_above line) (all.found ++ shown_comment_findings config all.comments) in
        same_then (items_in moved (λ p. p.found) 0 (one ∷ (two ∷ []))) ((front ++ tree) ++ (behind ++ tree_behind)) (told ++ in_events)
        (same_is _ _ (of_two moved none_moved n one.found two.found ∙ ap (λ (fs : List FindingValue). (front ++ tree) ++ fs) (map-append (moved n) (map (finding_above 1) found_there) (map (finding_above n) (below_first row_of n in_events)))))
        (same_then ((front ++ tree) ++ (behind ++ tree_behind)) ((front ++ behind) ++ (tree ++ tree_behind)) (told ++ in_events)
        (same_crossed front tree behind tree_behind)
        (same_both (front ++ behind) (tree ++ tree_behind) told in_events told_same (parts_same n some in_events)))

    pub two_pieces : IsInPieces whole (one ∷ (two ∷ []))
    two_pieces = record {
      whole = record { fault = refl; hidden = refl; parse_fault = refl };
      parts = (record { fault = refl; hidden = refl; parse_fault = refl }, (record { fault = refl; hidden = refl; parse_fault = refl }, tt));
      first = refl;
      rows = omega arith;
      found = have_same (items_in moved (λ p. p.found) 0 (one ∷ (two ∷ []))) whole.found found_cut;
      facts = facts_cut;
      comments = comments_cut;
    }
