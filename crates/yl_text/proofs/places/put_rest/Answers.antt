use Rattle.std.proofs.Common.{◌≡◌, ◌-◌, ◌++◌, ℕ, List, length, take, drop, min, refl, sym, ◌∙◌, ap, subst, append_assoc, rules}
use Rattle.std.proofs.lemmas.List.{take_rest}
use Rattle.std.proofs.lemmas.Slice.{pushed}
use Rattle.std.specs.Str.{IsUtf8}
use Rattle.yl_text.specs.Lines.{break_bytes}
use Rattle.yl_text.proofs.Columns.{row_utf8, drop_parts}
use Rattle.yl_text.proofs.places.put_rest.Goals as goal

pub returns-clause-utf8 : goal.returns-clause-utf8
returns-clause-utf8 g c = row_utf8 c.args.row.now.text c.args.row.now.end (subst IsUtf8 c.as_str.ensures c.as_str.utf8)

both_put : (old new last text xs es bs : List ℕ) (n m s : ℕ) → new ≡ old ++ drop m text → last ≡ new ++ drop s bs → text ≡ xs → bs ≡ es → m ≡ min n (length text) → s ≡ n - length text → last ≡ old ++ drop n (xs ++ es)
both_put old new last text xs es bs n m s a b t u e f =
    let front : new ≡ old ++ drop (min n (length xs)) xs = rw (a, e, t) refl in
    let back : last ≡ new ++ drop (n - length xs) es = rw (b, f, t, u) refl in
    back ∙ ap (λ (l : List ℕ). l ++ drop (n - length xs) es) front ∙ append_assoc old (drop (min n (length xs)) xs) (drop (n - length xs) es) ∙ ap (λ (l : List ℕ). old ++ l) (sym (drop_parts xs es n))

pub returns-clause-items : goal.returns-clause-items
returns-clause-items g c =
    let text = c.as_bytes-text.result.now in
    let first : c.extend_from_slice.new.self.items ≡ c.args.piece.now.items ++ take (length text - c.min.result) (drop c.min.result text) = pushed (take (length text - c.min.result) (drop c.min.result text)) refl c.unwrap.ensures c.extend_from_slice.ensures.items in
    let bs = c.as_bytes.result.now in
    let last : c.extend_from_slice-2.new.self.items ≡ c.extend_from_slice.new.self.items ++ take (length bs - c.saturating_sub.result) (drop c.saturating_sub.result bs) = pushed (take (length bs - c.saturating_sub.result) (drop c.saturating_sub.result bs)) refl c.unwrap-2.ensures c.extend_from_slice-2.ensures.items in
    let es : c.as_bytes.result.now ≡ break_bytes c.args.row.now.end = c.as_bytes.ensures ∙ ap break_bytes c.end.ensures in
    both_put c.args.piece.now.items c.extend_from_slice.new.self.items c.extend_from_slice-2.new.self.items c.as_bytes-text.result.now c.args.row.now.text (break_bytes c.args.row.now.end) c.as_bytes.result.now c.args.count c.min.result c.saturating_sub.result
    (first ∙ ap (λ (u : List ℕ). c.args.piece.now.items ++ u) (take_rest text c.min.result)) (last ∙ ap (λ (u : List ℕ). c.extend_from_slice.new.self.items ++ u) (take_rest bs c.saturating_sub.result)) (c.as_bytes-text.ensures.value ∙ c.as_str.ensures) es (search rules) (search rules)
