use Rattle.std.proofs.Common.{◌≡◌, ◌-◌, ◌++◌, ℕ, List, length, take, min, refl, sym, ◌∙◌, ap, subst, append_assoc, rules}
use Rattle.std.proofs.lemmas.Slice.{pushed}
use Rattle.std.specs.Str.{IsUtf8}
use Rattle.yl_text.specs.Lines.{break_bytes}
use Rattle.yl_text.proofs.Columns.{row_utf8, take_parts}
use Rattle.yl_text.proofs.places.put_front.Goals as goal

pub returns-clause-utf8 : goal.returns-clause-utf8
returns-clause-utf8 g c = row_utf8 c.args.row.now.text c.args.row.now.end (subst IsUtf8 c.as_str.ensures c.as_str.utf8)

both_put : (old new last text xs es bs : List ℕ) (n m s : ℕ) → new ≡ old ++ take m text → last ≡ new ++ take s bs → text ≡ xs → bs ≡ es → m ≡ min n (length text) → s ≡ n - length text → last ≡ old ++ take n (xs ++ es)
both_put old new last text xs es bs n m s a b t u e f =
    let front : new ≡ old ++ take (min n (length xs)) xs = rw (a, e, t) refl in
    let back : last ≡ new ++ take (n - length xs) es = rw (b, f, t, u) refl in
    back ∙ ap (λ (l : List ℕ). l ++ take (n - length xs) es) front ∙ append_assoc old (take (min n (length xs)) xs) (take (n - length xs) es) ∙ ap (λ (l : List ℕ). old ++ l) (sym (take_parts xs es n))

pub returns-clause-items : goal.returns-clause-items
returns-clause-items g c =
    let first : c.extend_from_slice.new.self.items ≡ c.args.piece.now.items ++ take c.min.result c.as_bytes-text.result.now = pushed (take c.min.result c.as_bytes-text.result.now) refl c.unwrap.ensures c.extend_from_slice.ensures.items in
    let last : c.extend_from_slice-2.new.self.items ≡ c.extend_from_slice.new.self.items ++ take c.saturating_sub.result c.as_bytes.result.now = pushed (take c.saturating_sub.result c.as_bytes.result.now) refl c.unwrap-2.ensures c.extend_from_slice-2.ensures.items in
    let es : c.as_bytes.result.now ≡ break_bytes c.args.row.now.end = c.as_bytes.ensures ∙ ap break_bytes c.end.ensures in
    both_put c.args.piece.now.items c.extend_from_slice.new.self.items c.extend_from_slice-2.new.self.items c.as_bytes-text.result.now c.args.row.now.text (break_bytes c.args.row.now.end) c.as_bytes.result.now c.args.count c.min.result c.saturating_sub.result
    first last (c.as_bytes-text.ensures.value ∙ c.as_str.ensures) es (search rules) (search rules)
