use Rattle.std.proofs.Common.{List, [], ◌∷◌, ◌++◌, ◌≡◌, ◌+◌, ◌≤◌, ◌<◌, ℕ, length, take, get_or, arith, ◌∙◌, ap, sym, length-append}
use Rattle.std.proofs.lemmas.List.{take_more, append-nil}
use Rattle.std.proofs.lemmas.List.Concat.{flat_map-append}
use Rattle.std.proofs.lemmas.List.Folds.{length-flat_map-take}
use Rattle.yl_text.specs.Lines.{RowValue, row_bytes, break_bytes, text_of}
use Rattle.yl_text.proofs.plain_store.bytes_of.Goals as goal

-- one more row
more : (ps : List RowValue) (i n sum : ℕ) (p : RowValue) → i < length ps → p ≡ get_or ps i p → n ≡ length p.text + length (break_bytes p.end) → sum ≡ length (text_of (take i ps)) → (sum + n ≡ length (text_of (take (i + 1) ps))) × (sum + n ≤ length (text_of ps))
more ps i n sum p l is size at =
    let one : length (row_bytes p) ≡ n = length-append p.text (break_bytes p.end) ∙ sym size in
    let item : length (row_bytes (get_or ps i p)) ≡ n = ap (λ (q : RowValue). length (row_bytes q)) (sym is) ∙ one in
    let longer = ap (λ (l : List RowValue). length (text_of l)) (take_more ps i p l) ∙ ap length (flat_map-append row_bytes (take i ps) (get_or ps i p ∷ [])) ∙ ap (λ (u : List ℕ). length (text_of (take i ps) ++ u)) (append-nil (row_bytes (get_or ps i p))) ∙ length-append (text_of (take i ps)) (row_bytes (get_or ps i p)) in
    (omega (arith, longer, item, at), omega (arith, length-flat_map-take row_bytes ps i p l, item, at))

pub overflow_add-sum : goal.overflow_add-sum
overflow_add-sum g c =
    let h = more c.args.rows.now c.loop-row.row-index c.bytes.result c.loop-row.sum c.row-item.result c.loop-row-test.true c.row-item.is c.bytes.ensures c.loop-row.invariant in
    record { fits = omega (arith, h.1) }

pub loop-row-preserved : goal.loop-row-preserved
loop-row-preserved g c =
    let h = more c.args.rows.now c.loop-row.row-index c.bytes.result c.loop-row.sum c.row-item.result c.loop-row-test.true c.row-item.is c.bytes.ensures c.loop-row.invariant in
    h.0
