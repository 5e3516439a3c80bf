-- What is kept of a section without a fault, by what is told of it in three parts.
use Rattle.std.proofs.Common.{◌≡◌, ◌≤◌, ◌<◌, ◌+◌, ◌-◌, ℕ, Bool, true, false, List, [], ◌∷◌, ◌++◌, map, length, None, refl, sym, ◌∙◌, ap, arith, if◌then◌else◌}
use Rattle.std.specs.List.{AllByRecursion, filter}
use Rattle.std.proofs.lemmas.List.{map-append}
use Rattle.std.proofs.lemmas.List.Elements.{filter-append}
use Rattle.yl_text.specs.declared.finding.RuleId.TheVariants.{Indentation}
use Rattle.yl_text.specs.Finding.{FindingValue}
use Rattle.yl_text.proofs.Every.{all_front, all_map, all_then}
use Rattle.yl_lexeme.specs.Lexeme.{PlacedCommentValue}
use Rattle.yl_indentation.specs.declared.fact.Fact.{Fact}
use Rattle.yl_indentation.specs.FactsAlike.{fact_below}
use Rattle.yl_rules.specs.Addressed.{is_addressed}
use Rattle.yl_config.specs.declared.config.Config.{Config}
use Rattle.yl_record.specs.Records.{RecordValue}
use Rattle.yl_sections.specs.Judge.{kept_of_section}
use Rattle.yl_sections.specs.Kept.{KeptValue, is_on, items_if, shown_comment_findings}
use Rattle.yl_sections.proofs.RowJudging.{findings_of_both}
use Rattle.yl_lint.specs.TextReport.{moved}
use Rattle.yl_lint.proofs.Arranged.{AreSame}
use Rattle.yl_pieces.specs.State.{DocumentState, start_state}
use Rattle.yl_pieces.specs.Told.{Told, told}
use Rattle.yl_pieces.specs.Laws.{comment_below, joined, told_below}
use Rattle.yl_pieces.specs.Edit.{after_front, told_in_parts}
use Rattle.yl_pieces.specs.Within.{IsAmong}
use Rattle.yl_pieces.proofs.Within.{told_is_within}
use Rattle.yl_piece_reports.specs.Plain.{IsWithin}
use Rattle.yl_piece_reports.specs.Told.{comment_above, fact_above, finding_above, found_in_events, kept_by_told}
use Rattle.yl_piece_reports.proofs.PieceCut.{section_is_piece}
use Rattle.yl_piece_reports.proofs.PiecesWithin.{pieces_stand_within}
use Rattle.yl_piece_reports.proofs.Same.{same_both, same_crossed, same_is, same_then}
use Rattle.yl_piece_reports.proofs.TwoPieces.{map_none, shown_down}
use Rattle.yl_section_pieces.proofs.Replaced.{AreApart}

-- ---- lists

all_of_map : {X Y : Type 0} (P : Y → Type 0) (f : X → Y) (xs : List X) → AllByRecursion P (map f xs) → AllByRecursion (λ (x : X). P (f x)) xs
all_of_map P f [] h = tt
all_of_map P f (x ∷ xs) h = (h.0, all_of_map P f xs h.1)

pub all_items_if : {X : Type 0} (P : X → Type 0) (b : Bool) (xs : List X) → AllByRecursion P xs → AllByRecursion P (items_if b xs)
all_items_if P true xs h = h
all_items_if P false xs h = tt

parted_if : {X : Type 0} (b : Bool) (f g : X → X) (xs ys zs : List X) → items_if b (xs ++ (map f ys ++ map g zs))
    ≡ items_if b xs ++ (map f (items_if b ys) ++ map g (items_if b zs))
parted_if true f g xs ys zs = refl
parted_if false f g xs ys zs = refl

-- items in the first rows, those in the rows that come next, told from line 1 on, and those below
module _ {X : Type 0} (row : X → ℕ) (down : ℕ → X → X) (lies : (n : ℕ) (x : X) → 1 ≤ row x → row (down n x) ≡ n + row x) (n old : ℕ)
    (some : 0 < n) where
  pub told_apart : (xs ys zs : List X) → AllByRecursion (λ (x : X). row x < n) xs → AllByRecursion (λ (x : X). IsAmong 1 old (row x)) ys
      → AllByRecursion (λ (x : X). 1 ≤ row x) zs
      → AreApart row n old xs (map (down (n - 1)) ys) (map (down (n + old - 1)) zs)
  told_apart xs ys zs h g k = record {
    above = h;
    between = all_map (λ (x : X). (n ≤ row x) × (row x < n + old)) (λ (x : X). IsAmong 1 old (row x)) (down (n - 1)) ys second g;
    below = all_map (λ (x : X). n + old ≤ row x) (λ (x : X). 1 ≤ row x) (down (n + old - 1)) zs third k;
  }
    where
      second : (x : X) → IsAmong 1 old (row x) → (n ≤ row (down (n - 1) x)) × (row (down (n - 1) x) < n + old)
      second x w = let at = lies (n - 1) x w.0 in (omega (arith, some, at, w.0), omega (arith, some, at, w.1))

      third : (x : X) → 1 ≤ row x → n + old ≤ row (down (n + old - 1) x)
      third x w = let at = lies (n + old - 1) x w in omega (arith, some, at, w)

-- ---- no lines further up

finding_none : (f : FindingValue) → finding_above 0 f ≡ f
finding_none f = let e : f.line - 0 ≡ f.line = omega arith in λ i. record { line = e i; column = f.column; rule = f.rule; message = f.message }

fact_none : (f : Fact) → fact_above 0 f ≡ f
fact_none f = let e : f.line - 0 ≡ f.line = omega arith in λ i. record { line = e i; column = f.column; expectation = f.expectation }

comment_none : (c : PlacedCommentValue) → comment_above 0 c ≡ c
comment_none c = let e : c.line - 0 ≡ c.line = omega arith in λ i. record { line = e i; column = c.column; text = c.text; behind = c.behind }

-- ---- comments that may silence

addressed_down : (m : ℕ) (cs : List PlacedCommentValue)
    → filter is_addressed (map (comment_below m) cs) ≡ map (comment_below m) (filter is_addressed cs)
addressed_down m [] = refl
addressed_down m (c ∷ cs) =
    ap (λ (ds : List PlacedCommentValue). if is_addressed c then comment_below m c ∷ ds else ds) (addressed_down m cs) ∙ by (is_addressed c)
  where
    by : (b : Bool) → (if b then comment_below m c ∷ map (comment_below m) (filter is_addressed cs) else map (comment_below m) (filter is_addressed cs))
        ≡ map (comment_below m) (if b then c ∷ filter is_addressed cs else filter is_addressed cs)
    by true = refl
    by false = refl

-- ---- what is found in lexemes and comments

module _ (config : Config) where
  abbrev pub found_of : Told → List FindingValue
  found_of t = t.found ++ shown_comment_findings config t.comments

  -- the comments are below line 0
  abbrev IsLow : Told → Type 0
  IsLow t = AllByRecursion (λ (c : PlacedCommentValue). 0 < c.line) t.comments

  pub told_low : (s : DocumentState) (rs : List RecordValue) → IsLow (told config s 1 rs)
  told_low s rs =
      all_then (λ (c : PlacedCommentValue). IsAmong 1 (length rs) c.line) (λ (c : PlacedCommentValue). 0 < c.line) (told config s 1 rs).comments
      (λ c h. omega (arith, h.0)) (told_is_within config s 1 rs).comments

  found_down : (m : ℕ) (t : Told) → IsLow t → found_of (told_below m t) ≡ map (moved m) (found_of t)
  found_down m t h =
      ap (λ (fs : List FindingValue). map (moved m) t.found ++ fs) (shown_down config m t.comments h) ∙ sym
      (map-append (moved m) t.found (shown_comment_findings config t.comments))

  found_joined : (t u : Told) → AreSame (found_of (joined t u)) (found_of t ++ found_of u)
  found_joined t u =
      let ts = shown_comment_findings config t.comments in
      let us = shown_comment_findings config u.comments in
      same_then (found_of (joined t u)) ((t.found ++ u.found) ++ (ts ++ us)) (found_of t ++ found_of u)
      (same_is (found_of (joined t u)) ((t.found ++ u.found) ++ (ts ++ us))
      (ap (λ (fs : List FindingValue). (t.found ++ u.found) ++ fs) (findings_of_both config t.comments u.comments)))
      (same_crossed t.found u.found ts us)

  found_parted : (a b : ℕ) (t u v : Told) → IsLow u → IsLow v
      → AreSame (found_of (joined t (joined (told_below a u) (told_below b v))))
      (found_of t ++ (map (moved a) (found_of u) ++ map (moved b) (found_of v)))
  found_parted a b t u v hu hv =
      let below = joined (told_below a u) (told_below b v) in
      let parts = map (moved a) (found_of u) ++ map (moved b) (found_of v) in
      same_then (found_of (joined t below)) (found_of t ++ found_of below) (found_of t ++ parts)
      (found_joined t below)
      (same_both (found_of t) (found_of below) (found_of t) parts
      (same_is (found_of t) (found_of t) refl)
      (same_then (found_of below) (found_of (told_below a u) ++ found_of (told_below b v)) parts
      (found_joined (told_below a u) (told_below b v))
      (same_is (found_of (told_below a u) ++ found_of (told_below b v)) parts (λ i. found_down a u hu i ++ found_down b v hv i))))

  -- it stands in the rows
  pub found_stands : (s : DocumentState) (line : ℕ) (rs : List RecordValue)
      → AllByRecursion (λ (f : FindingValue). (line < f.line) × (f.line ≤ line + length rs)) (found_of (told config s line rs))
  found_stands s line rs =
      let fs = found_of (told config s line rs) in
      all_then (λ (f : FindingValue). IsWithin (length rs) (finding_above line f))
      (λ (f : FindingValue). (line < f.line) × (f.line ≤ line + length rs)) fs up
      (all_of_map (IsWithin (length rs)) (finding_above line) fs
      (all_front (IsWithin (length rs)) (map (finding_above line) fs) []
      (pieces_stand_within.piece config (record { first = 0; line = line; state = s }) rs [] tt).found))
    where
      up : (f : FindingValue) → IsWithin (length rs) (finding_above line f) → (line < f.line) × (f.line ≤ line + length rs)
      up f w = (omega (arith, w.0), omega (arith, w.1))

-- ---- a section

module _ (config : Config) (after : DocumentState) (front rows rest : List RecordValue)
    (is_told : told config start_state 0 (front ++ (rows ++ rest)) ≡ told_in_parts config after front rows rest)
    (none : (kept_of_section config (front ++ (rows ++ rest))).fault ≡ None) where
  abbrev all : List RecordValue
  all = front ++ (rows ++ rest)

  abbrev a : ℕ
  a = length front - 1

  abbrev b : ℕ
  b = length front + length rows - 1

  abbrev pub told_above : Told
  told_above = told config start_state 0 front

  abbrev pub told_here : Told
  told_here = told config (after_front front) 1 rows

  abbrev pub told_rest : Told
  told_rest = told config after 1 rest

  abbrev parts : Told
  parts = told_in_parts config after front rows rest

  abbrev in_events : List FindingValue
  in_events = found_in_events config all

  by_parts : kept_of_section config all ≡ kept_by_told config (kept_of_section config all).first (length all) 0 parts in_events
  by_parts =
      section_is_piece config all none ∙ ap (λ (t : Told). kept_by_told config (kept_of_section config all).first (length all) 0 t in_events) is_told

  abbrev pub found_parts : List FindingValue
  found_parts = found_of config told_above ++ (map (moved a) (found_of config told_here) ++ map (moved b) (found_of config told_rest))

  pub found_same : AreSame (kept_of_section config all).found (found_parts ++ in_events)
  found_same =
      same_then (kept_of_section config all).found (found_of config parts ++ in_events) (found_parts ++ in_events)
      (same_is (kept_of_section config all).found (found_of config parts ++ in_events)
      (ap (λ (k : KeptValue). k.found) by_parts ∙ ap (λ (fs : List FindingValue). fs ++ in_events)
      (map_none (finding_above 0) finding_none (found_of config parts))))
      (same_both (found_of config parts) in_events found_parts in_events
      (found_parted config a b told_above told_here told_rest (told_low config (after_front front) rows) (told_low config after rest))
      (same_is in_events in_events refl))

  abbrev on : Bool
  on = is_on config Indentation

  pub facts_same : (kept_of_section config all).facts
      ≡ items_if on told_above.facts ++ (map (fact_below a) (items_if on told_here.facts) ++ map (fact_below b) (items_if on told_rest.facts))
  facts_same =
      ap (λ (k : KeptValue). k.facts) by_parts
      ∙ (ap (λ (fs : List Fact). items_if on fs) (map_none (fact_above 0) fact_none parts.facts)
      ∙ parted_if on (fact_below a) (fact_below b) told_above.facts told_here.facts told_rest.facts)

  abbrev addressed : Told → List PlacedCommentValue
  addressed t = filter is_addressed t.comments

  pub comments_same : (kept_of_section config all).comments
      ≡ addressed told_above ++ (map (comment_below a) (addressed told_here) ++ map (comment_below b) (addressed told_rest))
  comments_same =
      let here = map (comment_below a) told_here.comments in
      let below = map (comment_below b) told_rest.comments in
      ap (λ (k : KeptValue). k.comments) by_parts
      ∙ (map_none (comment_above 0) comment_none (filter is_addressed parts.comments)
      ∙ (filter-append is_addressed told_above.comments (here ++ below)
      ∙ ap (λ (cs : List PlacedCommentValue). addressed told_above ++ cs)
      (filter-append is_addressed here below ∙ (λ i. addressed_down a told_here.comments i ++ addressed_down b told_rest.comments i))))
