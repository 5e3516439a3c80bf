-- The lexemes of a line in those of its document.
use Rattle.std.proofs.Common.{Result, Ok, Err, ◌≡◌, ◌<◌, ◌+◌, ℕ, zero, suc, cond, List, [], ◌∷◌, ◌++◌, Option, Some, None, length, map, take, drop, slice_get, refl, sym, ◌∙◌, ap, eq-eqb, arith, inr}
use Rattle.std.specs.Prelude.{slice_index, IfOk, IfSome, OnOk}
use Rattle.std.specs.List.{AllByRecursion}
use Rattle.std.proofs.lemmas.Bool.{ne_eqb}
use Rattle.std.proofs.lemmas.List.{length-map, map-append, take-map}
use Rattle.std.proofs.Math.Seq.{take-append_seam, drop-append_seam}
use Rattle.yl_lexeme.specs.Lexeme.{LexemeValue}
use Rattle.yl_marks.specs.declared.token.Token.{Token}
use Rattle.yl_marks.specs.declared.facts.KeyFacts.{KeyFacts}
use Rattle.yl_marks.specs.declared.symbol.KeyedToken.{KeyedToken}
use Rattle.yl_marks.specs.declared.symbol.Symbol.{Symbol}
use Rattle.yl_marks.specs.declared.symbol.Symbol.TheVariants.{OpenSequence, OpenMapping, BeginKey, Close, One}
use Rattle.yl_marks.specs.Keys.{token_of}
use Rattle.yl_marks.specs.ByLine.{by_line, keyed_tokens_of_line}
use Rattle.yl_marks.specs.FactsByLine.{KeyMarkerValue, facts_ahead, facts_of_line, next_ahead}
use Rattle.yl_marks.specs.Marks.{marking}
use Rattle.yl_marks.proofs.Runs.{first_run, run_len}
use Rattle.yl_events.specs.Named.{IsNamed, SymbolsName}
use Rattle.yl_events.specs.Seen.{HasLine}
use Rattle.yl_events.proofs.Counts.{line_pieces_count}
use Rattle.yl_indentation.specs.LineFacts as facts
use Rattle.yl_indentation.specs.LineFacts.{AreIndented, BeginElsewhere, NameIndices}
use Rattle.yl_sections.specs.Judging.{BeginIn}

-- ---- lists

pub get_after : {X : Type 0} (xs ys : List X) (i : ℕ) → slice_get (xs ++ ys) (length xs + i) ≡ slice_get ys i
get_after [] ys i = ap (λ n. slice_get ys n) {x = 0 + i} {y = i} (omega arith)
get_after (x ∷ xs) ys i = ap (λ n. slice_get (x ∷ (xs ++ ys)) n) {x = suc (length xs) + i} {y = suc (length xs + i)} (omega arith) ∙ get_after xs ys i

pub get_before : {X : Type 0} (xs ys : List X) (i : ℕ) → i < length xs → slice_get (xs ++ ys) i ≡ slice_get xs i
get_before [] ys i h = absurd (omega (arith, h))
get_before (x ∷ xs) ys zero h = refl
get_before (x ∷ xs) ys (suc i) h = get_before xs ys i (omega (arith, h))

-- ---- a line

run_all : (at : ℕ) (line left : List LexemeValue) → BeginIn at line → BeginElsewhere at (map token_of left) → run_len at (map token_of (line ++ left)) ≡ length line
run_all at [] [] h away = refl
run_all at [] (y ∷ ys) h away = ap (λ b. cond b (suc (run_len at (map token_of ys))) 0) (ne_eqb y.start.line at away)
run_all at (x ∷ xs) left h away =
    ap (λ b. cond b (suc (run_len at (map token_of (xs ++ left)))) 0) (eq-eqb x.start.line at h.0) ∙ ap suc (run_all at xs left h.1 away)

pub line_cut : (at : ℕ) (line left : List LexemeValue) → 0 < length line → BeginIn at line → BeginElsewhere at (map token_of left)
    → by_line (map token_of (line ++ left)) ≡ map token_of line ∷ by_line (map token_of left)
line_cut at [] left some h away = absurd (omega (arith, some))
line_cut at (x ∷ xs) left some h away =
    let line = x ∷ xs in
    let ts = map token_of (line ++ left) in
    let long : length (map token_of line) ≡ length line = length-map line token_of in
    let run : length line ≡ run_len x.start.line ts = sym (run_all at line left h away) ∙ ap (λ n. run_len n ts) (sym h.0) in
    let parts : ts ≡ map token_of line ++ map token_of left = map-append token_of line left in
    first_run ts (token_of x) (length line) refl run
    ∙ (ap (λ n. take n ts ∷ by_line (drop n ts)) (sym long)
    ∙ (ap (λ (us : List Token). take (length (map token_of line)) us ∷ by_line (drop (length (map token_of line)) us)) parts
    ∙ (ap (λ (us : List Token). us ∷ by_line (drop (length (map token_of line)) (map token_of line ++ map token_of left))) (take-append_seam (map token_of line) (map token_of left))
    ∙ ap (λ (us : List Token). map token_of line ∷ by_line us) (drop-append_seam (map token_of line) (map token_of left)))))

all_here : (at : ℕ) (line : List LexemeValue) → BeginIn at line → AllByRecursion (λ (x : Token). x.start.line ≡ at) (map token_of line)
all_here at [] h = tt
all_here at (x ∷ xs) h = (h.0, all_here at xs h.1)

pub indented : (ns : List ℕ) (spaces : ℕ) (at : ℕ) (line : List LexemeValue) → slice_index ns at ≡ spaces → BeginIn at line → AreIndented ns spaces (map token_of line)
indented ns spaces at [] e h = tt
indented ns spaces at (x ∷ xs) e h = (ap (slice_index ns) h.0 ∙ e, indented ns spaces at xs e h.1)

module _ (xs front line left : List LexemeValue) (first : ℕ) (whole : xs ≡ front ++ (line ++ left)) (read : length front ≡ first) where
  pub has_line : HasLine xs first line
  has_line i h =
      ap (λ (ys : List LexemeValue). slice_get ys (first + i)) whole
      ∙ (ap (λ n. slice_get (front ++ (line ++ left)) (n + i)) (sym read) ∙ (get_after front (line ++ left) i ∙ get_before line left i h))

  pub is_line : (at : ℕ) → BeginIn at line → BeginElsewhere at (map token_of left) → facts.IsLine (map token_of xs) first (map token_of line)
  is_line at h away = record {
    before = map token_of front;
    rest = map token_of left;
    line = at;
    parts = ap (λ (ys : List LexemeValue). map token_of ys) whole ∙ (map-append token_of front (line ++ left) ∙ ap (λ (ts : List Token). map token_of front ++ ts) (map-append token_of line left));
    count = length-map front token_of ∙ read;
    here = all_here at line h;
    elsewhere = away;
  }

-- ---- names

pub more_named : (Is Are : ℕ → Type 0) → ((i : ℕ) → Is i → Are i) → (ws : List Symbol) → SymbolsName Is ws → SymbolsName Are ws
more_named Is Are f [] h = tt
more_named Is Are f (OpenSequence i ∷ ws) h = (f i h.0, more_named Is Are f ws h.1)
more_named Is Are f (OpenMapping i ∷ ws) h = (f i h.0, more_named Is Are f ws h.1)
more_named Is Are f (BeginKey i ∷ ws) h = (f i h.0, more_named Is Are f ws h.1)
more_named Is Are f (Close ∷ ws) h = (tt, more_named Is Are f ws h.1)
more_named Is Are f (One kind i ∷ ws) h = (f i h.0, more_named Is Are f ws h.1)

pub named_indices : (Is Are : ℕ → Type 0) → ((i : ℕ) → Is i → Are i) → (ws : List Symbol) → SymbolsName Is ws → NameIndices Are ws
named_indices Is Are f [] h = tt
named_indices Is Are f (OpenSequence i ∷ ws) h = (f i h.0, named_indices Is Are f ws h.1)
named_indices Is Are f (OpenMapping i ∷ ws) h = (f i h.0, named_indices Is Are f ws h.1)
named_indices Is Are f (BeginKey i ∷ ws) h = named_indices Is Are f ws h.1
named_indices Is Are f (Close ∷ ws) h = named_indices Is Are f ws h.1
named_indices Is Are f (One kind i ∷ ws) h = (f i h.0, named_indices Is Are f ws h.1)

pub self_named : (first count : ℕ) (w : Option ℕ) → IfSome w (IsNamed first count w)
self_named first count None = tt
self_named first count (Some i) = inr refl

-- ---- keys

ahead_long : (ahead : KeyFacts) (all : List KeyedToken) (i : ℕ) (ps : List KeyedToken) → length (facts_ahead ahead all i ps) ≡ length ps
ahead_long ahead all i [] = refl
ahead_long ahead all i (p ∷ ps) = ap suc (ahead_long (next_ahead ahead (marking all i p)) all (suc i) ps)

pub keys_long : (m : KeyMarkerValue) (ts : List Token) → length (facts_of_line m ts) ≡ length ts
keys_long m ts =
    let all = keyed_tokens_of_line m.marks ts in
    ahead_long m.ahead all m.marks.count all ∙ line_pieces_count m.marks.count m.marks.depth m.marks.latest [] ts

-- ---- a front of a line

pub front_mapped : {T : Type 0} (f : T → LexemeValue) (ys : List T) (n : ℕ) (zs : List T) → zs ≡ take n ys → map f zs ≡ take n (map f ys)
front_mapped f ys n zs e = ap (map f) e ∙ sym (take-map f n ys)

-- ---- results

pub on_ok : {T E : Type 0} (r : Result T E) {P Q : Type 0} → (P → Q) → OnOk r P → OnOk r Q
on_ok (Ok v) f h = f h
on_ok (Err e) f h = h

pub if_ok : {T E : Type 0} (r : Result T E) {P Q : T → Type 0} → ((v : T) → P v → Q v) → IfOk r P → IfOk r Q
if_ok (Ok v) f h = f v h
if_ok (Err e) f h = h
