-- The lexemes of rows, one of which ends in a value that is typed anew.
use Rattle.std.proofs.Common.{◌≡◌, ◌<◌, ◌+◌, ℕ, zero, suc, Bool, true, false, List, [], ◌∷◌, ◌++◌, length, map, Option, Some, None, refl, ap, sym, ◌∙◌, arith, append_assoc, cond}
use Rattle.std.proofs.lemmas.List.{map-append}
use Rattle.std.specs.Prelude.{slice_get}
use Rattle.yl_text.specs.Finding.{FindingValue}
use Rattle.yl_lexeme.specs.declared.lexeme.Kind.{Kind}
use Rattle.yl_lexeme.specs.Lexeme.{LexemeValue}
use Rattle.yl_marks.specs.declared.token.Token.{Token}
use Rattle.yl_marks.specs.Keys.{lexeme_at_line, token_of}
use Rattle.yl_lexeme_rules.specs.declared.options.LexemeOptions.{LexemeOptions}
use Rattle.yl_lexeme_rules.specs.declared.quoted_strings.QuotedStringsOptions.{QuotedStringsOptions}
use Rattle.yl_lexeme_rules.specs.declared.truthy.TruthyOptions.{TruthyOptions}
use Rattle.yl_lexeme_rules.specs.QuotedStrings.{quoted_strings}
use Rattle.yl_lexeme_rules.specs.Spans.{span_of}
use Rattle.yl_lexeme_rules.specs.Truthy.{truthy}
use Rattle.yl_events.specs.Event.{start_of}
use Rattle.yl_record.specs.Records.{RecordValue}
use Rattle.yl_sections.specs.Sections.{lexemes_from, lexemes_of}
use Rattle.yl_retyped.specs.Retyped.{IsQuiet, no_key}
use Rattle.yl_retyped.proofs.Typed.{AreBelow, IsRetyped}
use Rattle.yl_retyped.specs.Rows.{IsValueRetyped}
use Rattle.yl_retyped.proofs.Symbols.{DifferAt}

-- ---- the lexemes before a row's last two, and behind them

pub from_front : (line : ℕ) (us bs : List RecordValue) → lexemes_from line (us ++ bs) ≡ lexemes_from line us ++ lexemes_from (line + length us) bs
from_front line [] bs = let e : line ≡ line + 0 = omega arith in ap (λ n. lexemes_from n bs) e
from_front line (a ∷ us) bs =
    let e : line + 1 + length us ≡ line + length (a ∷ us) = omega arith in
    ap (λ (xs : List LexemeValue). map (lexeme_at_line line) a.entry.lexemes ++ xs) (from_front (line + 1) us bs ∙ ap (λ n. lexemes_from (line + 1) us ++ lexemes_from n bs) e)
    ∙ sym (append_assoc (map (lexeme_at_line line) a.entry.lexemes) (lexemes_from (line + 1) us) (lexemes_from (line + length (a ∷ us)) bs))

abbrev pub line_of : List RecordValue → ℕ
line_of us = 0 + length us

-- all before these two
abbrev pub before_them : List RecordValue → List LexemeValue → List LexemeValue
before_them us front = lexemes_from 0 us ++ map (lexeme_at_line (line_of us)) front

-- all behind the row
abbrev pub behind_them : List RecordValue → List RecordValue → List LexemeValue
behind_them us bs = lexemes_from (line_of us + 1) bs

pub split : (us bs : List RecordValue) (r : RecordValue) (front : List LexemeValue) (p x : LexemeValue) → r.entry.lexemes ≡ front ++ p ∷ x ∷ []
    → lexemes_of (us ++ r ∷ bs) ≡ before_them us front ++ lexeme_at_line (line_of us) p ∷ lexeme_at_line (line_of us) x ∷ behind_them us bs
split us bs r front p x e =
    let at : LexemeValue → LexemeValue = lexeme_at_line (line_of us) in
    from_front 0 us (r ∷ bs)
    ∙ (ap (λ (ls : List LexemeValue). lexemes_from 0 us ++ (map at ls ++ behind_them us bs)) e
    ∙ (ap (λ (ls : List LexemeValue). lexemes_from 0 us ++ (ls ++ behind_them us bs)) (map-append at front (p ∷ x ∷ []))
    ∙ (ap (λ (ls : List LexemeValue). lexemes_from 0 us ++ ls) (append_assoc (map at front) (at p ∷ at x ∷ []) (behind_them us bs))
    ∙ sym (append_assoc (lexemes_from 0 us) (map at front) (at p ∷ at x ∷ behind_them us bs)))))

-- ---- what stands below

below_append : (line : ℕ) (xs ys : List LexemeValue) → AreBelow line xs → AreBelow line ys → AreBelow line (xs ++ ys)
below_append line [] ys h k = k
below_append line (x ∷ xs) ys h k = (h.0, below_append line xs ys h.1 k)

below_row : (line m : ℕ) (ls : List LexemeValue) → line < m → AreBelow line (map (lexeme_at_line m) ls)
below_row line m [] h = tt
below_row line m (x ∷ ls) h = (h, below_row line m ls h)

pub below_rows : (line m : ℕ) (bs : List RecordValue) → line < m → AreBelow line (lexemes_from m bs)
below_rows line m [] h = tt
below_rows line m (b ∷ bs) h =
    below_append line (map (lexeme_at_line m) b.entry.lexemes) (lexemes_from (m + 1) bs) (below_row line m b.entry.lexemes h) (below_rows line (m + 1) bs (omega (arith, h)))

-- ---- the value

same_token : (line : ℕ) (k l : Kind) (c d m n : ℕ) → k ≡ l → c ≡ d → m ≡ n
    → (let s : Token = record { kind = k; start = record { line = line; col = c }; end_line = line + m } in
    let t : Token = record { kind = l; start = record { line = line; col = d }; end_line = line + n } in s ≡ t)
same_token line k l c d m n a b e = rw (a, b, e) refl

pub retyped_token : (line : ℕ) (p x y : LexemeValue) → IsValueRetyped p x y → token_of (lexeme_at_line line y) ≡ token_of (lexeme_at_line line x)
retyped_token line p x y v = same_token line y.kind x.kind y.start.col x.start.col y.end.line x.end.line v.kind (ap (λ s. s.col) v.start) (v.new_ends ∙ sym v.ends)

pub retyped_at : (us bs : List RecordValue) (p x y : LexemeValue) → IsValueRetyped p x y
    → (let at : LexemeValue → LexemeValue = lexeme_at_line (line_of us) in IsRetyped (at p) (at x) (at y) (behind_them us bs))
retyped_at us bs p x y v = record {
  before = v.before;
  beside = (let e : p.end.line ≡ 0 = v.beside in omega (arith, e));
  scalar = v.scalar;
  ends = (let e : x.end.line ≡ 0 = v.ends in omega (arith, e));
  token = retyped_token (line_of us) p x y v;
  last = below_rows (line_of us) (line_of us + 1) bs (omega arith);
}

-- ---- the rules on values find nothing at it in any line

none_if : (b : Bool) (f g : FindingValue) → cond b (f ∷ []) [] ≡ [] → cond b (g ∷ []) [] ≡ []
none_if true f g h = absurd (cc)
none_if false f g h = refl

front_none : (xs ys : List FindingValue) → xs ++ ys ≡ [] → xs ≡ []
front_none [] ys h = refl
front_none (x ∷ xs) ys h = absurd (cc)

back_none : (xs ys : List FindingValue) → xs ++ ys ≡ [] → ys ≡ []
back_none [] ys h = h
back_none (x ∷ xs) ys h = absurd (cc)

no_findings : (xs ys : List FindingValue) → xs ≡ [] → ys ≡ [] → xs ++ ys ≡ []
no_findings xs ys h k = rw (h, k) refl

truthy_none : (o : Option TruthyOptions) (line : ℕ) (x : LexemeValue) → truthy false o (span_of (lexeme_at_line 0 x)) x.value no_key ≡ [] → truthy false o (span_of (lexeme_at_line line x)) x.value no_key ≡ []
truthy_none None line x h = refl
truthy_none (Some o) line x h = none_if _ _ _ h

quoted_none : (o : Option QuotedStringsOptions) (line : ℕ) (x : LexemeValue) → quoted_strings o (span_of (lexeme_at_line 0 x)) x.value no_key ≡ [] → quoted_strings o (span_of (lexeme_at_line line x)) x.value no_key ≡ []
quoted_none None line x h = refl
quoted_none (Some o) line x h = none_if _ _ _ h

pub quiet_at : (o : LexemeOptions) (line : ℕ) (x : LexemeValue) → IsQuiet o (lexeme_at_line 0 x) → IsQuiet o (lexeme_at_line line x)
quiet_at o line x h =
    let at = span_of (lexeme_at_line 0 x) in
    no_findings _ _ (truthy_none o.truthy line x (front_none (truthy false o.truthy at x.value no_key) (quoted_strings o.quoted_strings at x.value no_key) h))
    (quoted_none o.quoted_strings line x (back_none (truthy false o.truthy at x.value no_key) (quoted_strings o.quoted_strings at x.value no_key) h))

-- ---- lists that differ in one lexeme

pub tokens_same : (pre : List LexemeValue) (p x y : LexemeValue) (post : List LexemeValue) → token_of y ≡ token_of x
    → map token_of (pre ++ p ∷ x ∷ post) ≡ map token_of (pre ++ p ∷ y ∷ post)
tokens_same [] p x y post h = ap (λ (t : Token). token_of p ∷ t ∷ map token_of post) (sym h)
tokens_same (a ∷ pre) p x y post h = ap (λ (ts : List Token). token_of a ∷ ts) (tokens_same pre p x y post h)

others_same : (pre : List LexemeValue) (p x y : LexemeValue) (post : List LexemeValue) (i : ℕ) → (i ≡ suc (length pre) → ⊥)
    → slice_get (pre ++ p ∷ x ∷ post) i ≡ slice_get (pre ++ p ∷ y ∷ post) i
others_same [] p x y post zero h = refl
others_same [] p x y post (suc zero) h = absurd (h refl)
others_same [] p x y post (suc (suc i)) h = refl
others_same (a ∷ pre) p x y post zero h = refl
others_same (a ∷ pre) p x y post (suc i) h = others_same pre p x y post i (λ e. h (ap suc e))

at_it : (pre : List LexemeValue) (p x : LexemeValue) (post : List LexemeValue) → slice_get (pre ++ p ∷ x ∷ post) (suc (length pre)) ≡ Some x
at_it [] p x post = refl
at_it (a ∷ pre) p x post = at_it pre p x post

pub differ_at : (pre : List LexemeValue) (p x y : LexemeValue) (post : List LexemeValue) → token_of y ≡ token_of x
    → DifferAt (suc (length pre)) (pre ++ p ∷ x ∷ post) (pre ++ p ∷ y ∷ post)
differ_at pre p x y post h = record {
  others = others_same pre p x y post;
  start = ap start_of (at_it pre p x post) ∙ (ap (λ (t : Token). t.start) (sym h) ∙ sym (ap start_of (at_it pre p y post)));
}
